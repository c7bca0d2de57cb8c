-- Traces with the commits of cores: the beats of all links of a manager, and the stores and loads, in one order.
use Rattle.std.specs.Prelude.{ℕ, Bool, false, not, [], ◌∷◌, ◌==◌, ◌&&◌, ◌||◌, List}
use Rattle.tl_beat.specs.declared.beat.Link.{Link}
use Rattle.tl_rules.specs.statement.Conformance.{Trace}
use Rattle.tl_events.specs.declared.commit.Commit.TheVariants as commit
use Rattle.tl_events.specs.declared.commit.Event.{Event}
use Rattle.tl_events.specs.declared.commit.Event.TheVariants as event
use Rattle.tl_events.specs.declared.commit.Piece.{Piece}

-- beats and commits with their links, the newest first
abbrev pub Events : ℕ → Type 0
Events w = List (Link × Event w)

-- the beats of a trace with one more event
abbrev pub beats_with : {w : ℕ} → Link → Event w → Trace w → Trace w
beats_with link (event.Beat x) t = (link, x) ∷ t
beats_with link (event.Commit x) t = t

-- the beats of a trace with commits
unfoldable pub beats_of : {w : ℕ} → Events w → Trace w
beats_of [] = []
beats_of (x ∷ e) = beats_with x.0 x.1 (beats_of e)

-- ---- loads that take time

-- the pieces are the same
abbrev pub same_piece : Piece → Piece → Bool
same_piece p q = (p.size == q.size) && (p.address == q.address)

-- the event begins a load of this piece on the link
abbrev pub begins_load : {w : ℕ} → ℕ → Piece → Link × Event w → Bool
begins_load link piece (from, event.Commit (commit.Begin begun)) = (from.0 == link) && same_piece begun piece
begins_load link piece _ = false

-- the event is a load of this piece on the link
abbrev pub is_load : {w : ℕ} → ℕ → Piece → Link × Event w → Bool
is_load link piece (from, event.Commit (commit.Load loaded value)) = (from.0 == link) && same_piece loaded piece
is_load link piece _ = false

-- a load of this piece on the link has begun, and isn't in the trace yet
unfoldable pub is_loading : {w : ℕ} → ℕ → Piece → Events w → Bool
is_loading link piece [] = false
is_loading link piece (x ∷ e) = begins_load link piece x || (not (is_load link piece x) && is_loading link piece e)

-- the test passes at a moment since the last load of this piece on the link began
unfoldable pub since_begun : {w : ℕ} → (Events w → Bool) → ℕ → Piece → Events w → Bool
since_begun test link piece [] = false
since_begun test link piece (x ∷ e) =
    test (x ∷ e) || (not (begins_load link piece x) && since_begun test link piece e)

-- The test passes now, or at a moment since the load of this piece began, if the trace says when.
abbrev pub at_some : {w : ℕ} → (Events w → Bool) → ℕ → Piece → Events w → Bool
at_some test link piece e = test e || (is_loading link piece e && since_begun test link piece e)
