-- What a covering of a wide trace answers of a beat, and of a line.
use Rattle.std.specs.Prelude.{◌≡◌, ◌⊎◌, ◌+◌, ℕ, false, true, List, [], ◌∷◌, map, Option, Some, None}
use Rattle.tl_beat.specs.declared.beat.Beat.{Beat}
use Rattle.tl_beat.specs.declared.beat.Link.{Link}
use Rattle.tl_beat.specs.declared.fault.LineFault.{LineFault}
use Rattle.tl_cover.specs.declared.covering.Covering.{Covering}
use Rattle.tl_cover.specs.statement.Covers.{Covers, cells_in, rows_in}
use Rattle.tl_lines.specs.declared.fault.Fault.{Fault}
use Rattle.tl_lines.specs.declared.fault.Fault.TheVariants.{Beyond, Line}
use Rattle.tl_params.specs.declared.level.Level.{Level}
use Rattle.tl_params.specs.declared.liberties.Liberties.{Liberties}
use Rattle.tl_rules.specs.statement.Conformance.{Trace}
use Rattle.tl_tried.specs.code.Following.{found_in}
use Rattle.tl_tried.specs.code.WideRows.{first_in, followed}
use Rattle.tl_tried.specs.declared.wide_covering.WideCovering.{WideCovering}
use Rattle.tl_tried.specs.statement.Covered.{Found, found_of}
use Rattle.tl_tried.specs.statement.Sums.{with_each}
use Rattle.tl_wide.specs.declared.beat.WideBeat.{WideBeat}
use Rattle.tl_wide.specs.declared.parts.Parts.{Parts}
use Rattle.tl_wide.specs.statement.Line.{WideSpells, wide_line_fault}
use Rattle.tl_wide.specs.statement.Naming.{WideTrace, is_beyond}
use Rattle.tl_wide.specs.statement.Narrowed.{beats_of}
use Rattle.tl_wide.specs.statement.Narrowing.{Follows}
use Rattle.tl_wide.specs.statement.Pieces.{left_of}
use Rattle.tl_wide.specs.statement.Width.{part_width}
use Rattle.tl_wide_events.specs.declared.commit.WideCommit.{WideCommit}
use Rattle.tl_wide_events.specs.declared.commit.WideEvent.{WideEvent}
use Rattle.tl_wide_events.specs.declared.commit.WideEvent.TheVariants as event
use Rattle.tl_wide_events.specs.declared.commit.WideEvent.TheVariants.{Commit as OfCommit}
use Rattle.tl_wide_events.specs.statement.Narrowed.{named_as}
use Rattle.tl_wide_events.specs.statement.WideEventLine.{SpellsWideEvent, wide_event_fault}
use Rattle.tl_wide_lines.specs.statement.PartFaults.{part_fault, parts_taken}

-- the situations and the counts of a wide trace
abbrev pub wide_found_in : {p : ℕ} → WideCovering p → Found
wide_found_in c = (c.rows.items, cells_in c.covering)

-- a covering covers these beats; after a fault its situations and counts are still those of them
abbrev pub CoversStill : {p : ℕ} → Covering p → List Level → Liberties → Trace p → Option Fault → Type 0
CoversStill c levels may t None = Covers c levels may t false
CoversStill c levels may t (Some fault) = found_in c ≡ found_of may levels t

-- what a covering answers of these parts of a beat, and what it has taken of them
abbrev pub TakesParts : {p : ℕ} → Covering p → Covering p → Link → List (Beat p) → Option Fault → Type 0
TakesParts {p} old new link parts answer =
    (levels : List Level) (may : Liberties) (t : Trace p) → Covers old levels may t false
    → (part_fault false levels may link parts t ≡ answer)
    × CoversStill new levels may (parts_taken false levels may link parts t) answer

-- the parts that are left of these have the same fault, after the parts that were taken
abbrev pub PartsLeft : {p : ℕ} → Covering p → Covering p → Link → List (Beat p) → List (Beat p) → Type 0
PartsLeft {p} old now link parts left =
    (levels : List Level) (may : Liberties) (t : Trace p) → Covers old levels may t false
    → (u : Trace p) × Covers now levels may u false
    × (part_fault false levels may link parts t ≡ part_fault false levels may link left u)
    × (parts_taken false levels may link parts t ≡ parts_taken false levels may link left u)

-- the rows follow those of the covering, after the wide beat of the next line
pub record RowsFollow {p : ℕ} (old new : WideCovering p) : Type 0 where
  pub line_is : new.line ≡ old.line + 1
  pub rows_are : new.rows.items
      ≡ with_each (followed new.line) (first_in new.line) old.rows.items (rows_in new.covering)

-- what it answers of a wide beat: what it answers of its parts, or its names are too many
abbrev pub TakesWideBeat : {w p : ℕ} → WideCovering p → WideCovering p → Link → WideBeat w → Option Fault → Type 0
TakesWideBeat {w} {p} old new link x answer =
    ((parts : Parts) × TakesParts old.covering new.covering link (left_of {p = p} x parts) answer × RowsFollow old new
    × ((t : WideTrace w) → Follows old.narrower t → (is_beyond link ((link, x) ∷ t) ≡ false)
    × (left_of {p = part_width w} x parts ≡ beats_of link x ((link, x) ∷ t)) × Follows new.narrower ((link, x) ∷ t)))
    ⊎ ((answer ≡ Some Beyond) × (wide_found_in new ≡ wide_found_in old)
    × ((t : WideTrace w) → Follows old.narrower t → is_beyond link ((link, x) ∷ t) ≡ true))

-- what it answers of a line: the line spells no wide beat, or one of which it answers
abbrev pub TakesWideLine : {p : ℕ} → ℕ → WideCovering p → WideCovering p → List ℕ → Option Fault → Type 0
TakesWideLine w old new line answer =
    ((of_line : LineFault) × (wide_line_fault w line ≡ Some of_line) × (answer ≡ Some (Line of_line))
    × (wide_found_in new ≡ wide_found_in old))
    ⊎ ((link : Link) × (x : WideBeat w) × WideSpells line link x × TakesWideBeat old new link x answer)

-- what it answers of a commit: nothing but its line and the number of its block changes, or its names are too many
abbrev pub TakesWideCommit : {p : ℕ} → WideCovering p → WideCovering p → Link → WideCommit → Option Fault → Type 0
TakesWideCommit old new link x answer =
    ((answer ≡ None) × (new.covering ≡ old.covering) × RowsFollow old new
    × ((w : ℕ) (t : WideTrace w) → Follows old.narrower t
    → (is_beyond link ((link, named_as (OfCommit x)) ∷ t) ≡ false) × Follows new.narrower ((link, named_as (OfCommit x)) ∷ t)))
    ⊎ ((answer ≡ Some Beyond) × (wide_found_in new ≡ wide_found_in old)
    × ((w : ℕ) (t : WideTrace w) → Follows old.narrower t
    → is_beyond link ((link, named_as (OfCommit x)) ∷ t) ≡ true))

-- what it answers of an event of a wide trace
abbrev pub TakesWideEvent : {w p : ℕ} → WideCovering p → WideCovering p → Link → WideEvent w → Option Fault → Type 0
TakesWideEvent old new link (event.Beat x) answer = TakesWideBeat old new link x answer
TakesWideEvent old new link (event.Commit x) answer = TakesWideCommit old new link x answer

-- what it answers of a line: the line spells no event, or one of which it answers
abbrev pub TakesEventLine : {p : ℕ} → ℕ → WideCovering p → WideCovering p → List ℕ → Option Fault → Type 0
TakesEventLine w old new line answer =
    ((of_line : LineFault) × (wide_event_fault w line ≡ Some of_line) × (answer ≡ Some (Line of_line))
    × (wide_found_in new ≡ wide_found_in old))
    ⊎ ((link : Link) × (x : WideEvent w) × SpellsWideEvent line link x × TakesWideEvent old new link x answer)

-- a covering of these links that has seen no beat, of whatever width
pub record CoversNone {p : ℕ} (levels : List Level) (may : Liberties) (c : WideCovering p) : Type 0 where
  pub follows : (w : ℕ) → Follows {w = w} c.narrower []
  pub covers : Covers c.covering levels may [] false
  pub rows_are : c.rows.items ≡ map (first_in 1) (rows_in c.covering)
  pub line_is : c.line ≡ 1
