-- What is known while the situations of a trace are counted, line by line.
use Rattle.std.specs.Prelude.{◌≡◌, ℕ, ◌+◌, false, List, [], ◌∷◌, ◌++◌, length, Option, Some, None}
use Rattle.tl_beat.specs.declared.beat.Beat.{Beat}
use Rattle.tl_beat.specs.declared.beat.Link.{Link}
use Rattle.tl_beat.specs.statement.Line.{Spells}
use Rattle.tl_cover.specs.declared.covering.Covering.{Covering}
use Rattle.tl_cover.specs.statement.Covers.{Covers, cells_in, rows_in}
use Rattle.tl_lines.specs.statement.JudgedSo.{said_by}
use Rattle.tl_lines.specs.declared.fault.Fault.{Fault}
use Rattle.tl_lines.specs.declared.status.Status.{Status}
use Rattle.tl_lines.specs.statement.Judged.{IsAtFault, JudgedAfter}
use Rattle.tl_lines.specs.statement.JudgedLinks.{JudgedLinks, faults_by}
use Rattle.tl_lines.specs.statement.LinksHeader.{NamesAllowed}
use Rattle.tl_params.specs.declared.level.Level.{Level}
use Rattle.tl_params.specs.declared.liberties.Liberties.{Liberties}
use Rattle.tl_params.specs.declared.width.Width.{Width}
use Rattle.tl_rules.specs.statement.Conformance.{Trace}
use Rattle.tl_tried.specs.declared.cover_lines.CoverLines.{CoverLines}
use Rattle.tl_tried.specs.declared.cover_lines.Following.{Following}
use Rattle.tl_tried.specs.declared.cover_lines.Following.TheVariants.{Waiting, Four, Eight, Sixteen}
use Rattle.tl_tried.specs.statement.Covered.{AreCovered, CoveredAfter, Found, found_of}

-- the situations and the counts of a covering
abbrev pub found_in : {w : ℕ} → Covering w → Found
found_in c = (rows_in c, cells_in c)

-- a beat was taken, or it is at fault, and the situations are those before it
abbrev pub TakesBeat : {w : ℕ} → Covering w → Covering w → Link → Beat w → Option Fault → Type 0
TakesBeat {w} old new link beat None =
    (levels : List Level) (may : Liberties) (t : Trace w) → Covers old levels may t false
    → (faults_by false w levels may (link, beat) t ≡ None) × Covers new levels may ((link, beat) ∷ t) false
TakesBeat {w} old new link beat (Some fault) =
    (levels : List Level) (may : Liberties) (t : Trace w) → Covers old levels may t false
    → (faults_by false w levels may (link, beat) t ≡ Some fault) × (found_in new ≡ found_of may levels t)

-- the next line spells a beat that isn't at fault, and that was taken; or it is at fault, and the situations are those
-- before it
abbrev pub ReadsLine : {w : ℕ} → Covering w → Covering w → List ℕ → Option Fault → Type 0
ReadsLine {w} old new line None =
    (levels : List Level) (may : Liberties) (t : Trace w) → Covers old levels may t false
    → (link : Link) × (beat : Beat w) × Spells line link beat
    × (faults_by false w levels may (link, beat) t ≡ None) × Covers new levels may ((link, beat) ∷ t) false
ReadsLine {w} old new line (Some fault) =
    (levels : List Level) (may : Liberties) (t : Trace w) → Covers old levels may t false
    → IsAtFault (faults_by false) levels may t line fault × (found_in new ≡ found_of may levels t)

-- These lines, a header and beats that aren't at fault, are judged with this text so far, and covered so that what
-- follows is covered after it; their beats are known.
pub record KnowsTrace {w : ℕ} (allow : Liberties) (c : Covering w) (lines : List (List ℕ)) (text : List ℕ) : Type 0
  where
    pub levels : List Level
    pub may : Liberties
    pub trace : Trace w
    pub known : Covers c levels may trace false
    pub counted : length lines ≡ length trace + 1
    pub before : (more : List (List ℕ)) (rest : List ℕ) (status : Status)
        → JudgedAfter (faults_by false) (said_by false) levels may trace more rest status
        → JudgedLinks false allow (lines ++ more) (text ++ rest) status
    pub covers : (more : List (List ℕ)) (found : Found) → CoveredAfter levels may trace more found
        → AreCovered allow (lines ++ more) found

abbrev pub KnowsFollowing : Liberties → Following → List (List ℕ) → List ℕ → Type 0
KnowsFollowing allow (Waiting alloc) lines text = (lines ≡ []) × (text ≡ [])
KnowsFollowing allow (Four c) lines text = KnowsTrace allow c lines text
KnowsFollowing allow (Eight c) lines text = KnowsTrace allow c lines text
KnowsFollowing allow (Sixteen c) lines text = KnowsTrace allow c lines text

abbrev pub KnowsLines : CoverLines → List (List ℕ) → List ℕ → Type 0
KnowsLines h lines text = KnowsFollowing h.allow h.following lines text

-- the situations and the counts, if a header was read
abbrev pub found_by : Following → Found
found_by (Waiting alloc) = ([], [])
found_by (Four c) = found_in c
found_by (Eight c) = found_in c
found_by (Sixteen c) = found_in c

abbrev pub found_of_lines : CoverLines → Found
found_of_lines h = found_by h.following

-- they are those of these lines
abbrev pub EndsLines : CoverLines → List (List ℕ) → Type 0
EndsLines h lines = AreCovered h.allow lines (found_of_lines h)

-- what the first line begins: a covering that knows the header, or none if it is no header
abbrev pub Begins : Liberties → List ℕ → Option Following → Type 0
Begins allow line None = (width : Width) (may : Liberties) (levels : List Level)
    → ¬ NamesAllowed allow line width may levels
Begins allow line (Some following) = KnowsFollowing allow following (line ∷ []) []
