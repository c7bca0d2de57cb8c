-- The bytes that Grants may bring, as a judge keeps them for each link.
use Rattle.std.specs.Global.{Vec}
use Rattle.std.specs.Prelude.{ℕ, suc, Bool, true, false, ◌∷◌, ◌+◌, ◌*◌, ◌<◌, ◌≡◌, ◌||◌, if◌then◌else◌, List, length}
use Rattle.std.specs.Prelude.{Option, Some, None, slice_get}
use Rattle.tl_beat.specs.declared.beat.Beat.{Beat}
use Rattle.tl_beat.specs.declared.beat.Beat.TheVariants as beat
use Rattle.tl_beat.specs.declared.beat.BeatD.{BeatD}
use Rattle.tl_beat.specs.declared.channel.Channel.TheVariants as channel
use Rattle.tl_beat.specs.declared.opcode.OpD.{OpD}
use Rattle.tl_beat.specs.declared.opcode.OpD.TheVariants as d
use Rattle.tl_burst.specs.statement.Messages.{unfinished}
use Rattle.tl_bytes.specs.code.Tellings.{left_as}
use Rattle.tl_bytes.specs.declared.telling.Told.{Told}
use Rattle.tl_bytes.specs.statement.Bytes.{told_as}
use Rattle.tl_bytes.specs.statement.Known.{tellings_at}
use Rattle.tl_rules.specs.declared.past.Request.{Request}
use Rattle.tl_rules.specs.statement.OpenMessages.{open_request}
use Rattle.tl_commits.specs.declared.granting.GrantBytes.{GrantBytes}
use Rattle.tl_commits.specs.statement.Completeness.{Completeness}
use Rattle.tl_commits.specs.statement.Copies.{link_beats}
use Rattle.tl_commits.specs.statement.Events.{Events}
use Rattle.tl_commits.specs.statement.True.{before_last_seen, is_true_seen, may_grant_seen}

-- ---- beats of GrantData

abbrev pub is_grant_data : OpD → Bool
is_grant_data d.GrantData = true
is_grant_data _ = false

-- the beat is of a GrantData
abbrev pub grants : {w : ℕ} → Beat w → Bool
grants (beat.D x) = is_grant_data x.opcode
grants _ = false

-- this is the beat, if it is of a GrantData
abbrev pub IsGranter : {w : ℕ} → Option (BeatD w) → Beat w → Type 0
IsGranter None x = grants x ≡ false
IsGranter (Some y) x = (x ≡ beat.D y) × (y.opcode ≡ d.GrantData)

-- M2 of a beat: if it is of a GrantData, its bytes may be granted
abbrev pub grants_truly : {w : ℕ} → Completeness → ℕ → ℕ → Beat w → Events w → Bool
grants_truly complete n link (beat.D x) e =
    if is_grant_data x.opcode then is_true_seen complete d.GrantData n link x e else true
grants_truly complete n link _ e = true

-- ---- the bytes that one may bring

-- one of these possible values is v, or any; any value is possible if none are kept
abbrev pub told_or_any : Option (Vec Told) → ℕ → ℕ → Bool
told_or_any None place v = true
told_or_any (Some told) place v = told_as v (tellings_at place told.items)

-- the byte v is kept as one that may be granted
abbrev pub may_bring : GrantBytes → ℕ → ℕ → Bool
may_bring g place v = told_or_any g.told place v || left_as place v g.writes.items

-- these are the bytes that a Grant of the block may bring that begins after e
abbrev pub KnowsGrant : {w : ℕ} → GrantBytes → Completeness → ℕ → ℕ → Events w → Type 0
KnowsGrant g complete n block e = (place v : ℕ) → place < 64
    → may_bring g place v ≡ may_grant_seen complete n e (64 * block + place) v

-- these are the bytes that the GrantData may bring whose beat x comes after e on a link
abbrev pub KnowsGrantOf : {w : ℕ} → GrantBytes → Completeness → ℕ → ℕ → BeatD w → Events w → Type 0
KnowsGrantOf g complete n link x e = (asked : Request) → x.opcode ≡ d.GrantData
    → open_request x.source (link_beats link e) ≡ Some asked
    → KnowsGrant g complete n asked.block
    (before_last_seen link (length (unfinished channel.D (link_beats link e))) e)

-- the same for a beat of any message
abbrev pub KnowsGrantBy : {w : ℕ} → GrantBytes → Completeness → ℕ → ℕ → Beat w → Events w → Type 0
KnowsGrantBy {w} g complete n link x e = (y : BeatD w) → x ≡ beat.D y → KnowsGrantOf g complete n link y e

-- these are the bytes that the unfinished GrantData of a link may bring, if there is one
abbrev pub KnowsUnfinished : {w : ℕ} → GrantBytes → Completeness → ℕ → ℕ → Events w → Type 0
KnowsUnfinished {w} g complete n link e = (y : BeatD w) (older : List (Beat w)) (asked : Request)
    → unfinished channel.D (link_beats link e) ≡ beat.D y ∷ older → y.opcode ≡ d.GrantData
    → open_request y.source (link_beats link e) ≡ Some asked
    → KnowsGrant g complete n asked.block (before_last_seen link (suc (length older)) e)

-- ---- all links

-- they are kept for each of n links
pub record KnowsGrants {w : ℕ} (grants : List GrantBytes) (complete : Completeness) (n : ℕ) (e : Events w) : Type 0 where
  pub count_is : length grants ≡ n
  pub are : (link : ℕ) (g : GrantBytes) → slice_get grants link ≡ Some g → KnowsUnfinished g complete n link e

-- and for the GrantData of a beat that comes after e on a link
abbrev pub AreMet : {w : ℕ} → List GrantBytes → Completeness → ℕ → ℕ → Beat w → Events w → Type 0
AreMet grants complete n link x e = (g : GrantBytes) → slice_get grants link ≡ Some g
    → KnowsGrantBy g complete n link x e
