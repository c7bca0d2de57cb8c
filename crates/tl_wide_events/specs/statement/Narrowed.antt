-- The meaning of a wide trace with commits: the events that its events become.
use Rattle.std.specs.Prelude.{ℕ, false, List, [], ◌∷◌, map, None, refl}
use Rattle.tl_beat.specs.declared.beat.Beat.{Beat}
use Rattle.tl_beat.specs.declared.beat.Link.{Link}
use Rattle.tl_beat.specs.declared.opcode.OpB.TheVariants.{ProbeBlock}
use Rattle.tl_events.specs.declared.commit.Commit.{Commit}
use Rattle.tl_events.specs.declared.commit.Commit.TheVariants as commit
use Rattle.tl_events.specs.declared.commit.Event.{Event}
use Rattle.tl_events.specs.declared.commit.Event.TheVariants as event
use Rattle.tl_wide.specs.declared.beat.WideBeat.{WideBeat}
use Rattle.tl_wide.specs.declared.beat.WideBeat.TheVariants.{B}
use Rattle.tl_wide.specs.statement.Naming.{WideTrace, narrow_address}
use Rattle.tl_wide.specs.statement.Narrowed.{beats_of}
use Rattle.tl_wide.specs.statement.Width.{part_width}
use Rattle.tl_wide_events.specs.declared.commit.WideCommit.{WideCommit}
use Rattle.tl_wide_events.specs.declared.commit.WideCommit.TheVariants as wide
use Rattle.tl_wide_events.specs.declared.commit.WideEvent.{WideEvent}
use Rattle.tl_wide_events.specs.declared.commit.WideEvent.TheVariants as wide_event

-- wide beats and commits with their links, the newest first
abbrev pub WideEvents : ℕ → Type 0
WideEvents w = List (Link × WideEvent w)

-- ---- names

-- the address of the first byte that a commit stores or loads
abbrev pub address_of : WideCommit → ℕ
address_of (wide.Store piece value) = piece.address
address_of (wide.Load piece value) = piece.address
address_of (wide.Begin piece) = piece.address

-- The beat whose names are those of an event. A commit names its block alone, as a ProbeBlock of it with source 0, which
-- is the first source of each link.
abbrev pub named_as : {w : ℕ} → WideEvent w → WideBeat w
named_as (wide_event.Beat x) = x
named_as (wide_event.Commit x) = B (record {
  opcode = ProbeBlock;
  param = 0;
  size = 6;
  source = 0;
  address = address_of x;
  mask = 0;
  lanes = None;
  corrupt = false;
  carries = refl;
})

-- the beats whose names are those of a trace
abbrev pub names_of : {w : ℕ} → WideEvents w → WideTrace w
names_of t = map (λ x. (x.0, named_as x.1)) t

-- ---- events

-- the same commit at another address
abbrev pub commit_at : WideCommit → ℕ → Commit
commit_at (wide.Store piece value) address = commit.Store (record { size = piece.size; address = address }) value
commit_at (wide.Load piece value) address = commit.Load (record { size = piece.size; address = address }) value
commit_at (wide.Begin piece) address = commit.Begin (record { size = piece.size; address = address })

-- beats as events
abbrev pub as_events : {w : ℕ} → List (Beat w) → List (Event w)
as_events beats = map (λ x. event.Beat x) beats

-- The events that an event becomes, the newest of a trace with these names: a beat its parts, a commit the commit at the
-- number of its block.
abbrev pub events_of : {w : ℕ} → Link → WideEvent w → WideTrace w → List (Event (part_width w))
events_of link (wide_event.Beat x) names = as_events (beats_of link x names)
events_of link (wide_event.Commit x) names = event.Commit (commit_at x (narrow_address names (address_of x))) ∷ []

-- the events of e, and these of a link after them, the oldest of them first
unfoldable pub with_events : {w : ℕ} → Link → List (Event w) → List (Link × Event w) → List (Link × Event w)
with_events link [] e = e
with_events link (x ∷ events) e = with_events link events ((link, x) ∷ e)

-- the trace that a wide trace becomes, the newest event first
unfoldable pub narrowed : {w : ℕ} → WideEvents w → List (Link × Event (part_width w))
narrowed [] = []
narrowed (x ∷ t) = with_events x.0 (events_of x.0 x.1 (names_of (x ∷ t))) (narrowed t)
