-- What a judge of wide beats answers of a beat, and of a line.
use Rattle.std.specs.Prelude.{◌≡◌, ◌⊎◌, ◌∷◌, ℕ, Bool, true, false, List, [], Option, Some, None}
use Rattle.tl_beat.specs.declared.beat.Beat.{Beat}
use Rattle.tl_beat.specs.declared.beat.Link.{Link}
use Rattle.tl_beat.specs.declared.fault.LineFault.{LineFault}
use Rattle.tl_lines.specs.code.TraceJudging.{KnowsBeats}
use Rattle.tl_lines.specs.declared.fault.Fault.{Fault}
use Rattle.tl_lines.specs.declared.fault.Fault.TheVariants.{Beyond, Line}
use Rattle.tl_lines.specs.declared.trace_judge.TraceJudge.{TraceJudge}
use Rattle.tl_params.specs.declared.level.Level.{Level}
use Rattle.tl_params.specs.declared.liberties.Liberties.{Liberties}
use Rattle.tl_rules.specs.statement.Conformance.{Trace}
use Rattle.tl_wide.specs.declared.beat.WideBeat.{WideBeat}
use Rattle.tl_wide.specs.declared.narrow.Narrower.{Narrower}
use Rattle.tl_wide.specs.declared.parts.Parts.{Parts}
use Rattle.tl_wide.specs.statement.Line.{WideSpells, wide_line_fault}
use Rattle.tl_wide.specs.statement.Naming.{WideTrace, is_beyond}
use Rattle.tl_wide.specs.statement.Narrowed.{beats_of}
use Rattle.tl_wide.specs.statement.Narrowing.{Follows}
use Rattle.tl_wide.specs.statement.Pieces.{left_of}
use Rattle.tl_wide.specs.statement.Width.{part_width}
use Rattle.tl_wide_lines.specs.statement.PartFaults.{part_fault, parts_taken}
use Rattle.tl_wide_lines.specs.declared.judge.WideJudge.{WideJudge}

-- what a judge answers of these parts of a beat, and what it has taken of them
abbrev pub JudgesParts : {p : ℕ} → TraceJudge p → TraceJudge p → Link → List (Beat p) → Option Fault → Type 0
JudgesParts {p} old new link parts answer =
    (together : Bool) (levels : List Level) (may : Liberties) (t : Trace p) → KnowsBeats together old levels may t
    → (part_fault together levels may link parts t ≡ answer)
    × KnowsBeats together new levels may (parts_taken together levels may link parts t)

-- the parts that are left of these have the same fault, after the parts that were taken
abbrev pub PartsLeft : {p : ℕ} → TraceJudge p → TraceJudge p → Link → List (Beat p) → List (Beat p) → Type 0
PartsLeft {p} old now link parts left =
    (together : Bool) (levels : List Level) (may : Liberties) (t : Trace p) → KnowsBeats together old levels may t
    → (u : Trace p) × KnowsBeats together now levels may u
    × (part_fault together levels may link parts t ≡ part_fault together levels may link left u)
    × (parts_taken together levels may link parts t ≡ parts_taken together levels may link left u)

-- what a judge answers of a wide beat: what it answers of its parts, or its names are too many
abbrev pub JudgesWideBeat : {w p : ℕ} → WideJudge p → WideJudge p → Link → WideBeat w → Option Fault → Type 0
JudgesWideBeat {w} {p} old new link x answer =
    ((parts : Parts) × JudgesParts old.judge new.judge link (left_of {p = p} x parts) answer
    × ((t : WideTrace w) → Follows old.narrower t → (is_beyond link ((link, x) ∷ t) ≡ false)
    × (left_of {p = part_width w} x parts ≡ beats_of link x ((link, x) ∷ t)) × Follows new.narrower ((link, x) ∷ t)))
    ⊎ ((answer ≡ Some Beyond) × (new.judge ≡ old.judge)
    × ((t : WideTrace w) → Follows old.narrower t → (is_beyond link ((link, x) ∷ t) ≡ true) × Follows new.narrower t))

-- this part, if its names aren't too many
abbrev pub part_named : {p : ℕ} → Bool → Beat p → Option (Beat p)
part_named false x = None
part_named true x = Some x

-- what the next wide beat becomes: one part, or its names are too many
abbrev pub NarrowsToOne : {w : ℕ} → Narrower → Narrower → Link → WideBeat w → Option (Beat w) → Type 0
NarrowsToOne {w} old new link x None =
    (t : WideTrace w) → Follows old t → (is_beyond link ((link, x) ∷ t) ≡ true) × Follows new t
NarrowsToOne {w} old new link x (Some part) =
    (parts : Parts) × (left_of {p = w} x parts ≡ part ∷ [])
    × ((t : WideTrace w) → Follows old t → (is_beyond link ((link, x) ∷ t) ≡ false)
    × (left_of {p = part_width w} x parts ≡ beats_of link x ((link, x) ∷ t)) × Follows new ((link, x) ∷ t))

-- what it answers of a line: the line spells no wide beat, or one of which it answers
abbrev pub JudgesWideLine : {p : ℕ} → ℕ → WideJudge p → WideJudge p → List ℕ → Option Fault → Type 0
JudgesWideLine w old new line answer =
    ((of_line : LineFault) × (wide_line_fault w line ≡ Some of_line) × (answer ≡ Some (Line of_line)))
    ⊎ ((link : Link) × (x : WideBeat w) × WideSpells line link x × JudgesWideBeat old new link x answer)

-- a judge of these links that has seen no beat, of whatever width
abbrev pub KnowsNone : {p : ℕ} → Bool → List Level → Liberties → WideJudge p → Type 0
KnowsNone together levels may judge =
    ((w : ℕ) → Follows {w = w} judge.narrower []) × KnowsBeats together judge.judge levels may []
