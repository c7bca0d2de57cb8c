use Rattle.std.proofs.Common.{rules, refl}
use Rattle.std.specs.Prelude.{nat_lt}
use Rattle.tl_pictures.specs.statement.Codes.{are_flags}
use Rattle.tl_pictures.proofs.Each.{where_each}
use Rattle.tl_pictures.proofs.codes.are_flags.Goals as goal

pub returns : goal.returns
returns c = where_each (λ code. nat_lt code 2) are_flags refl (λ _ _. refl) c.all.result c.args.codes.now
    (search rules)
