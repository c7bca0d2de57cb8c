use Rattle.std.proofs.Common.{rules, refl}
use Rattle.std.specs.Prelude.{nat_lt}
use Rattle.tl_pictures.specs.statement.Codes.{are_levels}
use Rattle.tl_pictures.proofs.Each.{where_each}
use Rattle.tl_pictures.proofs.codes.are_levels.Goals as goal

pub returns : goal.returns
returns c = where_each (λ code. nat_lt code 3) are_levels refl (λ _ _. refl) c.all.result c.args.codes.now
    (search rules)
