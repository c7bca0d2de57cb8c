-- The state of links, if no beat broke a rule of its link.
use Rattle.std.specs.Box.{box_value}
use Rattle.std.specs.Prelude.{ℕ, true, false, not, [], ◌∷◌, ◌≡◌, ◌==◌, ◌&&◌, if◌then◌else◌, List, length, slice_get, Option, Some, None, ⊤}
use Rattle.std.specs.Prelude.{option_map}
use Rattle.tl_beat.specs.declared.beat.Beat.{Beat}
use Rattle.tl_beat.specs.declared.beat.Beat.TheVariants as beat
use Rattle.tl_beat.specs.declared.beat.BeatA.{BeatA}
use Rattle.tl_beat.specs.declared.beat.BeatC.{BeatC}
use Rattle.tl_beat.specs.declared.beat.BeatD.{BeatD}
use Rattle.tl_beat.specs.declared.beat.Link.{Link}
use Rattle.tl_beat.specs.declared.channel.Channel.TheVariants as channel
use Rattle.tl_burst.specs.statement.Messages.{History, unfinished}
use Rattle.tl_params.specs.declared.level.Level.{Level}
use Rattle.tl_params.specs.declared.liberties.Liberties.{Liberties}
use Rattle.tl_params.specs.declared.key.Key.TheVariants.{GrantAckOf, ReleaseOf, ReleaseSource, RequestSource}
use Rattle.tl_rules.specs.laws.Typed.{AreTyped}
use Rattle.tl_rules.specs.statement.History.{asks_for, begins, block_at, is_grant, is_release, releases}
unfoldable use Rattle.tl_rules.specs.statement.History.{grant_sink, pending, release_of, request_of}
use Rattle.tl_rules.specs.statement.Conformance.{Trace, on_link}
use Rattle.tl_rules.specs.statement.Liberties.{broken_on_link_under}
unfoldable use Rattle.tl_bytes.specs.statement.Early.{reported_since}
use Rattle.tl_bytes.specs.statement.Free.{all_liberties}
use Rattle.tl_memory.specs.code.Early.{asking_of, is_doubtful, is_unacknowledged}
use Rattle.tl_memory.specs.declared.early.Granting.{Granting}
use Rattle.tl_memory.specs.declared.early.Releasing.{Releasing}
use Rattle.tl_memory.specs.declared.link.LinkMessages.{LinkMessages}
use Rattle.tl_memory.specs.declared.link.LinkState.{LinkState}
use Rattle.tl_memory.specs.declared.links.Links.{Links}
use Rattle.tl_memory.specs.statement.Expecting.{KnowsExpected}
use Rattle.tl_memory.specs.statement.Known.{KnowsMessage}

-- the beat breaks no rule of its link after t; the links have these liberties
abbrev pub KeepsRules : {w : ℕ} → Liberties → List Level → Link × Beat w → Trace w → Type 0
KeepsRules l levels x t = broken_on_link_under l levels x t ≡ None

-- no beat of the trace breaks a rule of its link after the beats before it
abbrev pub KeepRules : {w : ℕ} → Liberties → List Level → Trace w → Type 0
KeepRules l levels [] = ⊤
KeepRules l levels (x ∷ t) = KeepsRules l levels x t × KeepRules l levels t

-- the beat breaks no rule of its link under all liberties
abbrev pub IsLegal : {w : ℕ} → List Level → Link × Beat w → Trace w → Type 0
IsLegal levels x t = KeepsRules all_liberties levels x t

-- no beat of the trace breaks a rule of its link under these
abbrev pub AreLegal : {w : ℕ} → List Level → Trace w → Type 0
AreLegal levels t = KeepRules all_liberties levels t

-- this is the unfinished Release on channel C, which has these beats, and whether its ReleaseAck came
pub record IsReleasing {w : ℕ} (releasing : Releasing) (y : BeatC w) (t : History w) : Type 0 where
  pub source_is : releasing.source ≡ y.source
  pub block_is : releasing.block ≡ block_at y.address
  pub of_block : releases releasing.block (release_of y.source t) ≡ true
  pub waits_is : pending (ReleaseOf releasing.block) t ≡ not releasing.answered
  pub pends : releasing.answered ≡ false → pending (ReleaseSource y.source) t ≡ true

-- this is the unfinished Release on channel C, if there is one
abbrev pub KnowsReleasing : {w : ℕ} → Option Releasing → History w → Type 0
KnowsReleasing {w} None t = (y : BeatC w) (older : List (Beat w)) → unfinished channel.C t ≡ beat.C y ∷ older
    → is_release y.opcode ≡ false
KnowsReleasing {w} (Some releasing) t = (y : BeatC w) × (older : List (Beat w))
    × (unfinished channel.C t ≡ beat.C y ∷ older) × (is_release y.opcode ≡ true) × IsReleasing releasing y t

-- the request of the last Grant with this sink that began in t
unfoldable pub granted_request : {w : ℕ} → ℕ → History w → Option (BeatA w)
granted_request sink [] = None
granted_request sink (beat.D x ∷ t) =
    if begins (beat.D x) t && (is_grant x.opcode && (x.sink == sink)) then request_of x.source t
    else granted_request sink t
granted_request sink (_ ∷ t) = granted_request sink t

-- This is the unfinished Grant of a block on channel D, which has these beats, whether its GrantAck came, and whether a
-- report of the block came since.
pub record IsGranting {w : ℕ} (granting : Granting) (y : BeatD w) (t : History w) : Type 0 where
  pub sink_is : granting.sink ≡ y.sink
  pub asked : pending (RequestSource y.source) t ≡ true
  pub of_block : asks_for granting.block (request_of y.source t) ≡ true
  pub last_is : grant_sink granting.block t ≡ Some y.sink
  pub given : asks_for granting.block (granted_request y.sink t) ≡ true
  pub waits_is : pending (GrantAckOf granting.block) t ≡ is_unacknowledged granting.doubt
  pub reported_is : is_unacknowledged granting.doubt ≡ false
      → reported_since granting.block y.sink t ≡ is_doubtful granting.doubt

-- this is the unfinished Grant on channel D, if there is one
abbrev pub KnowsGranting : {w : ℕ} → Option Granting → History w → Type 0
KnowsGranting {w} None t = (y : BeatD w) (older : List (Beat w)) → unfinished channel.D t ≡ beat.D y ∷ older
    → is_grant y.opcode ≡ false
KnowsGranting {w} (Some granting) t = (y : BeatD w) × (older : List (Beat w))
    × (unfinished channel.D t ≡ beat.D y ∷ older) × (is_grant y.opcode ≡ true) × IsGranting granting y t

-- These are the unfinished messages on channels A, C and D of a link. The beats of the request have the mask and the
-- lanes of their type.
pub record KnowsMessages {w : ℕ} (m : LinkMessages) (t : History w) : Type 0 where
  pub asking_is : m.asking ≡ asking_of (unfinished channel.A t)
  pub releasing_is : KnowsReleasing m.releasing t
  pub granting_is : KnowsGranting m.granting t
  pub a_is : KnowsMessage m.a (unfinished channel.A t)
  pub c_is : KnowsMessage m.c (unfinished channel.C t)
  pub d_is : KnowsMessage m.d (unfinished channel.D t)
  pub typed : AreTyped (unfinished channel.A t)

-- the state of a link
pub record KnowsLink {w : ℕ} (s : LinkState) (n link : ℕ) (t : Trace w) : Type 0 where
  pub messages_are : KnowsMessages s.messages (on_link link t)
  pub expected_is : KnowsExpected (option_map box_value s.expected) n link t

-- the states of the first n links, and there are no others
pub record KnowsLinks {w : ℕ} (l : Links) (n : ℕ) (t : Trace w) : Type 0 where
  pub count_is : length l.states.items ≡ n
  pub states_are : (link : ℕ) (s : LinkState) → slice_get l.states.items link ≡ Some s → KnowsLink s n link t
