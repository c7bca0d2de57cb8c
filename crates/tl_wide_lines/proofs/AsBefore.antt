-- A trace with a header of another version is judged as before.
use Rattle.std.proofs.Common.{ℕ, Bool, List, ◌∷◌, inl, inr}
use Rattle.tl_lines.specs.declared.status.Status.{Status}
use Rattle.tl_lines.specs.statement.JudgedLinks.{JudgedLinks}
use Rattle.tl_lines.specs.statement.LinksHeader.{NamesLinks}
use Rattle.tl_params.specs.declared.level.Level.{Level}
use Rattle.tl_params.specs.declared.liberties.Liberties.{Liberties}
use Rattle.tl_params.specs.declared.width.Width.{Width}
use Rattle.tl_wide_lines.proofs.WideHeaders.{versions_apart}
use Rattle.tl_wide_lines.specs.statement.JudgedTrace.{JudgedTrace}

pub as-before : (together : Bool) (allow : Liberties) (line : List ℕ) (lines : List (List ℕ)) (text : List ℕ)
    (status : Status) (width : Width) (own : Liberties) (levels : List Level) → NamesLinks line width own levels
    → JudgedTrace together allow (line ∷ lines) text status → JudgedLinks together allow (line ∷ lines) text status
as-before together allow line lines text status width own levels named (inr (none, judged)) = judged
as-before together allow line lines text status width own levels named
    (inl (wide, may, others, (of, h, same), judged)) =
    absurd (versions_apart line width wide own of levels others named h)
