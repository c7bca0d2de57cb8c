-- What a beat changes of what is gathered for a chart, and of what is held.
use Rattle.std.proofs.Common.{◌≡◌, ℕ, true, false, ◌∷◌, refl}
use Rattle.std.specs.Prelude.{Option, Some, None}
use Rattle.tl_beat.specs.declared.beat.Beat.{Beat}
use Rattle.tl_beat.specs.declared.beat.Link.{Link}
use Rattle.tl_params.specs.declared.perm.Perm.{Perm}
use Rattle.tl_rules.specs.statement.Conformance.{Trace, same_perm}
use Rattle.tl_chart.specs.code.Moment.{change_of}
use Rattle.tl_chart.specs.statement.Drawn.{Holding, holds}

-- what is held is another permission than before, or it isn't
module _ {w : ℕ} (held : Holding w) (link : Link) (x : Beat w) (t : Trace w) (block : Option ℕ) (before now : Perm)
    (was : before ≡ holds held block link t) (is : now ≡ holds held block link ((link, x) ∷ t)) where
  pub same_change : same_perm before now ≡ true → None ≡ change_of held block (link, x) t
  same_change same = rw (← was, ← is, same) refl

  pub other_change : same_perm before now ≡ false → Some now ≡ change_of held block (link, x) t
  other_change other = rw (← was, ← is, other) refl
