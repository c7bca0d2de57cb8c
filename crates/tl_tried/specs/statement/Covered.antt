-- The situations of a recorded trace of beats of at most 16 bytes.
use Rattle.std.specs.Prelude.{◌≡◌, ◌⊎◌, ℕ, false, List, [], ◌∷◌, length, Option, None}
use Rattle.tl_beat.specs.declared.beat.Beat.{Beat}
use Rattle.tl_beat.specs.declared.beat.Link.{Link}
use Rattle.tl_beat.specs.statement.Line.{Spells}
use Rattle.tl_cover.specs.declared.row.Row.{Row}
use Rattle.tl_cover.specs.statement.Covered.{cells, covered}
use Rattle.tl_lines.specs.declared.fault.Fault.{Fault}
use Rattle.tl_lines.specs.statement.Judged.{IsAtFault}
use Rattle.tl_lines.specs.statement.JudgedLinks.{faults_by}
use Rattle.tl_lines.specs.statement.LinksHeader.{NamesAllowed}
use Rattle.tl_lines.specs.statement.Width.{bytes_of}
use Rattle.tl_params.specs.declared.level.Level.{Level}
use Rattle.tl_params.specs.declared.liberties.Liberties.{Liberties}
use Rattle.tl_params.specs.declared.width.Width.{Width}
use Rattle.tl_rules.specs.statement.Conformance.{Trace}

-- the situations of a trace, and the counts of all bins on all links
abbrev pub Found : Type 0
Found = List Row × List (Option ℕ)

-- those of the beats of t
abbrev pub found_of : {w : ℕ} → Liberties → List Level → Trace w → Found
found_of may levels t = (covered may (length levels) t, cells may levels t)

-- The situations and counts of these lines after a header and the beats of t: those of all beats up to the first line at fault.
unfoldable pub CoveredAfter : {w : ℕ} → List Level → Liberties → Trace w → List (List ℕ) → Found → Type 0
CoveredAfter levels may t [] found = found ≡ found_of may levels t
CoveredAfter {w} levels may t (line ∷ lines) found =
    ((link : Link) × (beat : Beat w) × Spells line link beat × (faults_by false w levels may (link, beat) t ≡ None)
    × CoveredAfter levels may ((link, beat) ∷ t) lines found)
    ⊎ ((fault : Fault) × IsAtFault (faults_by false) levels may t line fault × (found ≡ found_of may levels t))

-- The situations and counts of the lines of a whole trace, on links with the liberties that its header names and those that are
-- allowed. There are none if the first line is no header or is missing.
unfoldable pub AreCovered : Liberties → List (List ℕ) → Found → Type 0
AreCovered allow [] found = found ≡ ([], [])
AreCovered allow (line ∷ lines) found =
    ((width : Width) × (may : Liberties) × (levels : List Level) × NamesAllowed allow line width may levels
    × CoveredAfter {w = bytes_of width} levels may [] lines found)
    ⊎ (((width : Width) (may : Liberties) (levels : List Level) → ¬ NamesAllowed allow line width may levels)
    × (found ≡ ([], [])))
