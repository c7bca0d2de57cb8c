-- A trace with another header is judged as before, and no other header is that of a wide trace with commits.
use Rattle.std.proofs.Common.{◌≡◌, ◌∙◌, ℕ, Bool, true, false, List, ◌∷◌, ◌++◌, ap, arith, sym, inl, inr, refl}
use Rattle.tl_commit_lines.proofs.AsBefore.{fifth-header-without, has_sign, links-with, links-without}
use Rattle.tl_commit_lines.specs.statement.JudgedEvents.{JudgedCommits}
use Rattle.tl_commit_lines.specs.statement.MarkedHeader.{MarkedLinks, SpellsMarked}
use Rattle.tl_lines.specs.declared.status.Status.{Status}
use Rattle.tl_lines.specs.statement.LinksHeader.{NamesLinks, fourth_front}
use Rattle.tl_params.specs.declared.level.Level.{Level}
use Rattle.tl_params.specs.declared.liberties.Liberties.{Liberties}
use Rattle.tl_params.specs.declared.width.Width.{Width}
use Rattle.tl_params.specs.declared.width.Width.TheVariants as narrow
use Rattle.tl_wide.specs.declared.width.WideWidth.{WideWidth}
use Rattle.tl_wide.specs.declared.width.WideWidth.TheVariants.{Four, Eight, Sixteen, ThirtyTwo, SixtyFour}
use Rattle.tl_wide_lines.specs.statement.WideHeader.{SpellsFifth, fifth_front}
use Rattle.tl_wide_event_lines.proofs.WideMarkedHeaders.{none_for}
use Rattle.tl_wide_event_lines.specs.statement.JudgedWideEvents.{JudgedAny}
use Rattle.tl_wide_event_lines.specs.statement.WideMarkedHeader.{SpellsWideMarked}

pub as-before : (together : Bool) (allow : Liberties) (line : List ℕ) (lines : List (List ℕ)) (text : List ℕ)
    (status : Status)
    → ((width : WideWidth) (own : Liberties) (links : MarkedLinks) → ¬ SpellsWideMarked line width own links)
    → JudgedAny together allow (line ∷ lines) text status → JudgedCommits together allow (line ∷ lines) text status
as-before together allow line lines text status none (inr (unnamed, judged)) = judged
as-before together allow line lines text status none (inl (width, may, links, named, judged)) =
    absurd (none_for allow line none width may links named)

-- a header of a wide trace with commits has a plus
header-with : (line : List ℕ) (width : WideWidth) (may : Liberties) (links : MarkedLinks)
    → SpellsWideMarked line width may links → has_sign line ≡ true
header-with line width may links (rest, is, h) = rw is (links-with (fifth_front width) rest may links h)

pub links-apart : (line : List ℕ) (width : Width) (other : WideWidth) (may own : Liberties) (levels : List Level)
    (links : MarkedLinks) → NamesLinks line width may levels → ¬ SpellsWideMarked line other own links
links-apart line width other may own levels links named h =
    let both : false ≡ true = sym (links-without line width may levels named) ∙ header-with line other own links h in
    absurd cc

pub wide-apart : (line : List ℕ) (width other : WideWidth) (may own : Liberties) (levels : List Level)
    (links : MarkedLinks) → SpellsFifth line width may levels → ¬ SpellsWideMarked line other own links
wide-apart line width other may own levels links named h =
    let both : false ≡ true = sym (fifth-header-without line width may levels named)
    ∙ header-with line other own links h in
    absurd cc

-- ---- the versions have digits of their own

-- the ninth of some bytes, or 0
abbrev ninth : List ℕ → ℕ
ninth (a ∷ b ∷ c ∷ d ∷ e ∷ f ∷ g ∷ h ∷ i ∷ bytes) = i
ninth bytes = 0

fourth-ninth : (width : Width) (rest : List ℕ) → ninth (fourth_front width ++ rest) ≡ 52
fourth-ninth narrow.Four rest = refl
fourth-ninth narrow.Eight rest = refl
fourth-ninth narrow.Sixteen rest = refl

fifth-ninth : (width : WideWidth) (rest : List ℕ) → ninth (fifth_front width ++ rest) ≡ 53
fifth-ninth Four rest = refl
fifth-ninth Eight rest = refl
fifth-ninth Sixteen rest = refl
fifth-ninth ThirtyTwo rest = refl
fifth-ninth SixtyFour rest = refl

pub marked-apart : (line : List ℕ) (width : Width) (other : WideWidth) (may own : Liberties)
    (links others : MarkedLinks) → SpellsMarked line width may links → ¬ SpellsWideMarked line other own others
marked-apart line width other may own links others (left, is, h) (right, also, i) =
    absurd (omega (arith, ap ninth is ∙ fourth-ninth width left, ap ninth also ∙ fifth-ninth other right))
