use Rattle.std.proofs.Common.{◌≡◌, ◌++◌, ℕ, List, length}
use Rattle.std.specs.Prelude.{⊤}
use Rattle.tl_lines.specs.declared.status.Status.TheVariants.{Clean}
use Rattle.tl_lines.specs.code.Progress.{Feeds}
use Rattle.tl_reasons.proofs.Replaying.{Knows}
use Rattle.tl_reasons.proofs.reread.read_piece.Given as goal

abbrev pub invariant-loop-line : goal.invariant-loop-line
invariant-loop-line g l = (taken : List ℕ) × (taken ++ l.rest ≡ l.fn.piece)
    × Feeds (Knows g.row.W) (λ _ _ _. ⊤) l.fn.lines l.lines taken l.fn.out.items l.out.items Clean

abbrev pub decreases-loop-line : goal.decreases-loop-line
decreases-loop-line g l = length l.rest
