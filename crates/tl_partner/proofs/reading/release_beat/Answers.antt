use Rattle.std.proofs.Common.{refl, ap, ◌∙◌}
use Rattle.tl_beat.specs.declared.beat.Beat.TheVariants.{C}
use Rattle.tl_burst.proofs.Same.{same_c}
use Rattle.tl_params.specs.statement.Param.{prune_code}
use Rattle.tl_partner.proofs.reading.release_beat.Goals as goal

pub returns : goal.returns
returns g c = ap (λ z. C z) (same_c _ _ refl (c.param.ensures.value ∙ ap prune_code c.prune_from.ensures) refl refl refl
    refl refl)
