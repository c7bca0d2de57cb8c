-- The single liberties that would allow the first beat at fault of a trace.
use Rattle.std.specs.Prelude.{◌≡◌, ◌⊎◌, ◌++◌, ℕ, List, [], ◌∷◌, codes, Option, Some, None}
use Rattle.std.specs.Io.KnownBytes.{Consumes, IsAtEnd}
use Rattle.tl_allowed.specs.statement.Allowed.{allowance_text, allowed_under}
use Rattle.tl_beat.specs.declared.beat.Beat.{Beat}
use Rattle.tl_beat.specs.declared.beat.Link.{Link}
use Rattle.tl_beat.specs.declared.fault.LineFault.{LineFault}
use Rattle.tl_beat.specs.statement.Line.{Spells, line_fault}
use Rattle.tl_lines.specs.statement.Lines.{lines_of}
use Rattle.tl_lines.specs.statement.LinksHeader.{NamesAllowed}
use Rattle.tl_lines.specs.statement.Width.{bytes_of}
use Rattle.tl_params.specs.declared.level.Level.{Level}
use Rattle.tl_params.specs.declared.liberties.Liberties.{Liberties}
use Rattle.tl_params.specs.declared.liberties.Liberty.{Liberty}
use Rattle.tl_params.specs.declared.rule.Rule.{Rule}
use Rattle.tl_params.specs.declared.width.Width.{Width}
use Rattle.tl_rules.specs.statement.Conformance.{Trace}
use Rattle.tl_rules.specs.statement.Liberties.{broken_on_link_under}

-- These are the liberties of which each alone would allow the beat of the first of these lines at fault, after the
-- beats of t. There are none if no line is at fault, or the first at fault spells no beat.
unfoldable pub AllowedAfter : {w : ℕ} → List Level → Liberties → Trace w → List (List ℕ) → List Liberty → Type 0
AllowedAfter levels may t [] allowing = allowing ≡ []
AllowedAfter {w} levels may t (line ∷ lines) allowing =
    ((link : Link) × (beat : Beat w) × Spells line link beat × (broken_on_link_under may levels (link, beat) t ≡ None)
    × AllowedAfter levels may ((link, beat) ∷ t) lines allowing)
    ⊎ ((link : Link) × (beat : Beat w) × (rule : Rule) × Spells line link beat
    × (broken_on_link_under may levels (link, beat) t ≡ Some rule)
    × (allowing ≡ allowed_under may levels (link, beat) t))
    ⊎ ((fault : LineFault) × (line_fault w line ≡ Some fault) × (allowing ≡ []))

-- the same for a whole trace, on links with the liberties that its header names and those that are allowed; none if the
-- first line is no header or is missing
unfoldable pub Allowed : Liberties → List (List ℕ) → List Liberty → Type 0
Allowed allow [] allowing = allowing ≡ []
Allowed allow (line ∷ lines) allowing =
    ((width : Width) × (may : Liberties) × (levels : List Level) × NamesAllowed allow line width may levels
    × AllowedAfter {w = bytes_of width} levels may [] lines allowing)
    ⊎ (((width : Width) (may : Liberties) (levels : List Level) → ¬ NamesAllowed allow line width may levels)
    × (allowing ≡ []))

-- the liberties are the same for every continuation of the input, or it was read to its end
abbrev pub IsSettled : Liberties → Option (List ℕ) → List ℕ → List Liberty → Type 0
IsSettled allow left read allowing =
    ((more : List ℕ) → Allowed allow (lines_of (read ++ more)) allowing) ⊎ IsAtEnd left

-- these liberties were found for the input that was read, to its first line at fault or to its end
abbrev pub FindsAllowed : Liberties → Option (List ℕ) → Option (List ℕ) → List Liberty → Type 0
FindsAllowed allow had left allowing =
    (read : List ℕ) × Consumes had left read × Allowed allow (lines_of read) allowing
    × IsSettled allow left read allowing

-- the line that names these liberties, indented; nothing if there are none
abbrev pub allowed_line : List Liberty → List ℕ
allowed_line [] = []
allowed_line (one ∷ more) = codes " " ++ (allowance_text (one ∷ more) ++ codes "\n")
