-- The state of a link says the same as its history.
use Rattle.std.specs.Prelude.{ℕ, Bool, true, false, not, ◌==◌, ◌≡◌, ◌&&◌}
use Rattle.std.specs.Prelude.{if◌then◌else◌, List, Option, Some, None, is_some}
use Rattle.std.specs.Prelude.{option_map, [], ◌∷◌, ◌<◌, ◌^◌, ⊤}
use Rattle.std.specs.List.{find, list_any}
use Rattle.tl_beat.specs.declared.beat.Beat.{Beat}
use Rattle.tl_beat.specs.declared.beat.Beat.TheVariants as beat
use Rattle.tl_beat.specs.declared.beat.BeatC.{BeatC}
use Rattle.tl_beat.specs.declared.channel.Channel.TheVariants as channel
use Rattle.tl_beat.specs.declared.control.Control.{Control}
use Rattle.tl_beat.specs.statement.Control.{control_of}
use Rattle.tl_burst.specs.statement.Messages.{History}
use Rattle.tl_cover.specs.code.Open.{KnowsOpen}
use Rattle.tl_cover.specs.declared.acknowledged.Awaited.{Awaited}
use Rattle.tl_cover.specs.declared.asked.Asked.{Asked}
use Rattle.tl_cover.specs.declared.past.LinkPast.{LinkPast}
use Rattle.tl_cover.specs.declared.scene.ProbeAt.{ProbeAt}
use Rattle.tl_cover.specs.declared.under_way.UnderWay.{UnderWay}
use Rattle.tl_cover.specs.statement.Scene.{cap_param, newest, under_way}
use Rattle.tl_monitor.specs.statement.Count.{at}
use Rattle.tl_params.specs.declared.key.Key.TheVariants.{AcquireOf, ReleaseOf, GrantSink, GrantAckOf}
use Rattle.tl_rules.specs.code.Open.{request_fields}
use Rattle.tl_rules.specs.declared.past.Request.{Request}
use Rattle.tl_rules.specs.statement.History.{block_at, grant_sink, is_release, is_sink, pending, release_of}
use Rattle.tl_rules.specs.statement.History.{request_of}

-- ---- lists of pending keys

-- the block is among these
abbrev pub has : ℕ → List ℕ → Bool
has k blocks = list_any (λ b. b == k) blocks

-- the block is this one
abbrev pub is_of : ℕ → Option ℕ → Bool
is_of k None = false
is_of k (Some b) = b == k

-- pending after what is opened and what is closed
abbrev pub turned : Bool → Bool → Bool → Bool
turned opened closed before = if opened then true else if closed then false else before

-- the pending Probe of the block
abbrev pub found : ℕ → List Asked → Option ProbeAt
found k all = option_map (λ a. a.probe) (find (λ a. a.block == k) all)

-- each block of the list is there once
abbrev pub AreApart : List Asked → Type 0
AreApart [] = ⊤
AreApart (a ∷ all) = (a.block < 2 ^ 26) × (found a.block all ≡ None) × AreApart all

-- the pending Probe of a message's block, if it has one
abbrev pub asked_in : LinkPast → Option ℕ → Option ProbeAt
asked_in p None = None
asked_in p (Some k) = found k p.probes.items

-- the same with one more beat, in this line, that begins and ends Probes of these blocks
abbrev pub asked_next : {w : ℕ} → Beat w → ℕ → Bool → Bool → Option ProbeAt → Option ProbeAt
asked_next x line opened closed before =
    if opened then Some (record { param = cap_param x; line = line }) else if closed then None else before

-- the GrantAck of the block is pending, with this sink or with any
abbrev pub awaits : ℕ → ℕ → List Awaited → Bool
awaits k s all = list_any (λ a. (a.block == k) && (a.sink == s)) all

abbrev pub awaits_any : ℕ → List Awaited → Bool
awaits_any k all = list_any (λ a. a.block == k) all

-- the same with one more beat, which grants this block, if it is of a Grant
abbrev pub awaited_next : {w : ℕ} → Bool → Bool → Beat w → Option ℕ → ℕ → ℕ → Bool → Bool
awaited_next first last (beat.D x) block k s before = if first && is_of k block then x.sink == s else before
awaited_next first last (beat.E x) block k s before = if last then before && not (x.sink == s) else before
awaited_next first last _ block k s before = before

-- ---- tables by source, with one more beat

abbrev pub request_next : {w : ℕ} → Bool → Beat w → ℕ → Option Request → Option Request
request_next first (beat.A x) s before = if first && (x.source == s) then request_fields (Some x) else before
request_next first _ s before = before

abbrev pub released_next : {w : ℕ} → Bool → Beat w → ℕ → Option ℕ → Option ℕ
released_next first (beat.C x) s before =
    if first && (is_release x.opcode && (x.source == s)) then Some (block_at x.address) else before
released_next first _ s before = before

abbrev pub block_released : {w : ℕ} → Option (BeatC w) → Option ℕ
block_released None = None
block_released (Some x) = Some (block_at x.address)

-- ---- messages under way

abbrev pub left : {w : ℕ} → Bool → Beat w → Option Control
left last x = if last then None else Some (control_of x)

abbrev pub no_messages : UnderWay
no_messages = record { a = None; c = None; d = None }

abbrev pub under_way_next : {w : ℕ} → Bool → Beat w → UnderWay → UnderWay
under_way_next last (beat.A x) u = record { a = left last (beat.A x); c = u.c; d = u.d }
under_way_next last (beat.C x) u = record { a = u.a; c = left last (beat.C x); d = u.d }
under_way_next last (beat.D x) u = record { a = u.a; c = u.c; d = left last (beat.D x) }
under_way_next last _ u = u

abbrev pub is_full : UnderWay → Bool
is_full u = is_some u.a && (is_some u.c && is_some u.d)

pub record KnowsUnderWay {w : ℕ} (u : UnderWay) (h : History w) : Type 0 where
  pub a_is : u.a ≡ under_way channel.A h
  pub c_is : u.c ≡ under_way channel.C h
  pub d_is : u.d ≡ under_way channel.D h

-- ---- the whole

pub record KnowsPast {w : ℕ} (p : LinkPast) (h : History w) : Type 0 where
  pub requests_are : (s : ℕ) → at p.requests s ≡ request_fields (request_of s h)
  pub released_are : (s : ℕ) → at p.released s ≡ block_released (release_of s h)
  pub acquires_are : (k : ℕ) → has k p.acquires.items ≡ pending (AcquireOf k) h
  pub releases_are : (k : ℕ) → has k p.releases.items ≡ pending (ReleaseOf k) h
  pub awaited_are : (k s : ℕ) → awaits k s p.awaited.items ≡ (pending (GrantAckOf k) h && is_sink s (grant_sink k h))
  pub sinks_are : (s : ℕ) → is_some (at p.sinks s) ≡ pending (GrantSink s) h
  pub open_is : KnowsOpen p.open h
  pub newest_is : p.newest ≡ newest h
  pub under_way_is : KnowsUnderWay p.under_way h
