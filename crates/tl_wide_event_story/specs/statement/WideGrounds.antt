-- The grounds for the breach of a rule by an event of a wide trace: those for one of the events that it becomes, with
-- the lines and the addresses of the wide trace.
use Rattle.std.specs.Prelude.{◌≡◌, ◌++◌, ◌+◌, ℕ, List, [], ◌∷◌, length, slice_get, ⊤}
use Rattle.tl_beat.specs.declared.beat.Link.{Link}
use Rattle.tl_commit_lines.specs.statement.MarkedHeader.{MarkedLinks, complete_of, levels_of}
use Rattle.tl_commit_story.specs.statement.Grounds.{memory_grounds, no_cache_words}
use Rattle.tl_commits.specs.statement.Events.{Events, beats_of}
use Rattle.tl_events.specs.declared.commit.Event.{Event}
use Rattle.tl_events.specs.declared.commit.Event.TheVariants as event
use Rattle.tl_evidence.specs.statement.Convicted.{IsConvicted}
use Rattle.tl_evidence.specs.statement.CopyLines.{copy_lines}
use Rattle.tl_lines.specs.declared.fault.Fault.{Fault}
use Rattle.tl_lines.specs.declared.fault.Fault.TheVariants.{Rule as Breaks, MemoryRule as BreaksTogether, CommitRule}
use Rattle.tl_params.specs.declared.liberties.Liberties.{Liberties}
use Rattle.tl_params.specs.declared.rule.Rule.{Rule}
use Rattle.tl_wide.specs.declared.beat.WideBeat.{WideBeat}
use Rattle.tl_wide.specs.declared.beat.WideBeat.TheVariants as wide
use Rattle.tl_wide.specs.statement.Naming.{WideTrace}
use Rattle.tl_wide.specs.statement.Narrowed.{asked_address}
use Rattle.tl_wide.specs.statement.Width.{part_width}
use Rattle.tl_wide_events.specs.declared.commit.WideEvent.{WideEvent}
use Rattle.tl_wide_events.specs.declared.commit.WideEvent.TheVariants as wide_event
use Rattle.tl_wide_events.specs.statement.Narrowed.{WideEvents, address_of, events_of, names_of, narrowed, with_events}
use Rattle.tl_wide_events.specs.statement.WideEventLine.{SpellsWideEvent}
use Rattle.tl_wide_story.specs.statement.WideNaming as naming
use Rattle.tl_witness.specs.statement.Naming.{Naming}

-- ---- the lines before the one at fault

-- the lines are those of these events, the newest of which is the last line
unfoldable pub AreWideSpelled : {w : ℕ} → WideEvents w → List (List ℕ) → Type 0
AreWideSpelled [] lines = lines ≡ []
AreWideSpelled (x ∷ t) lines =
    (before : List (List ℕ)) × (line : List ℕ) × (lines ≡ before ++ line ∷ []) × SpellsWideEvent line x.0 x.1
    × AreWideSpelled t before

-- ---- names

-- a number for each of these, from n on
unfoldable pub numbers_from : {A : Type 0} → ℕ → List A → List ℕ
numbers_from n [] = []
numbers_from n (x ∷ more) = n ∷ numbers_from (n + 1) more

-- the numbers of all of these but the first, which has the number n
abbrev pub later_numbers : {A : Type 0} → ℕ → List A → List ℕ
later_numbers n [] = []
later_numbers n (x ∷ more) = numbers_from (n + 1) more

-- The numbers of the lines, in the trace that a wide trace becomes, that have no line of their own in the wide trace:
-- those of all parts of a wide beat but the first. The header is line 1 of both.
unfoldable pub later_parts : {w : ℕ} → WideEvents w → List ℕ
later_parts [] = []
later_parts (x ∷ t) =
    later_parts t ++ later_numbers (length (narrowed t) + 2) (events_of x.0 x.1 (names_of (x ∷ t)))

-- the address that a wide beat after these has: its own, or that of the request that it answers
abbrev pub beat_address : {w : ℕ} → Link → WideBeat w → WideTrace w → ℕ
beat_address link (wide.A x) t = x.address
beat_address link (wide.B x) t = x.address
beat_address link (wide.C x) t = x.address
beat_address link (wide.D x) t = asked_address link x.source t
beat_address link (wide.E x) t = 0

-- the same of an event
abbrev pub event_address : {w : ℕ} → Link → WideEvent w → WideEvents w → ℕ
event_address link (wide_event.Beat x) t = beat_address link x (names_of t)
event_address link (wide_event.Commit x) t = address_of x

-- The names for an event of a link after those of t, of which `first` are the parts before the one at fault: lines as
-- the wide trace has them, and addresses in the block of the event's.
abbrev pub names_for : {w : ℕ} {A : Type 0} → Link → WideEvent w → WideEvents w → ℕ → List A → Naming
names_for link x t number first =
    naming.names_of (later_parts t ++ later_numbers number first) (event_address link x t)

-- ---- one of the events that it becomes

-- a beat breaks the rule of its link by itself, or by a reason whose claim is true of the beats before it; a commit is
-- on a link without a cache
abbrev pub AreLinkGrounds : {p : ℕ} → Rule → Liberties → MarkedLinks → Link → Event p → Events p → List ℕ → Type 0
AreLinkGrounds rule may links link (event.Beat x) e grounds =
    IsConvicted may (slice_get (levels_of links) link.0) link rule x (beats_of e)
AreLinkGrounds rule may links link (event.Commit x) e grounds =
    grounds ≡ no_cache_words (slice_get (levels_of links) link.0)

-- These are the grounds for the fault of an event after those of e, with these names. Of a rule of stores and loads
-- they end with the values of bytes.
abbrev pub AreGrounds : {p : ℕ} → Naming → Fault → Liberties → MarkedLinks → Link → Event p → Events p → List ℕ → Type 0
AreGrounds names (Breaks rule) may links link x e grounds = AreLinkGrounds rule may links link x e grounds
AreGrounds names (CommitRule rule) may links link x e grounds = (held : List ℕ)
    × (grounds ≡ held ++ copy_lines names rule (complete_of links) (length (levels_of links)) link.0 x e)
AreGrounds names (BreaksTogether rule) may links link x e grounds =
    grounds ≡ memory_grounds names rule (complete_of links) (length (levels_of links)) link x e
AreGrounds names _ may links link x e grounds = ⊤

-- Of the events that an event becomes, `part` is the one for whose fault these are the grounds, after those of e and
-- the ones in `first`.
pub record HasPart {w p : ℕ} (found : Fault) (may : Liberties) (links : MarkedLinks) (t : WideEvents w) (link : Link)
    (x : WideEvent w) (becomes : List (Event p)) (e : Events p) (grounds : List ℕ) : Type 0 where
  pub first : List (Event p)
  pub part : Event p
  pub left : List (Event p)
  pub parts_are : becomes ≡ first ++ part ∷ left
  pub are : AreGrounds (names_for link x t (length e + 2) first) found may links link part (with_events link first e)
      grounds

-- the grounds for the fault of an event after those of t
abbrev pub AreWideGrounds : {w : ℕ} → Fault → Liberties → MarkedLinks → WideEvents w → Link → WideEvent w → List ℕ
    → Type 0
AreWideGrounds {w} found may links t link x grounds =
    HasPart {p = part_width w} found may links t link x (events_of link x (names_of ((link, x) ∷ t))) (narrowed t)
    grounds
