use Rattle.std.proofs.Common.{◌∙◌, ap, ◌&&◌, ◌-◌, ◌%◌}
use Rattle.std.specs.Prelude.{nat_le, nat_lt}
use Rattle.tl_burst.specs.statement.Burst.{bit}
use Rattle.tl_memory.proofs.values.Reached.{any-reach}
use Rattle.tl_memory.proofs.early.any_write.Goals as goal

pub returns-clause-written : goal.returns-clause-written
returns-clause-written c = λ small p lt.
    let a = c.args.asking.now in
    ap (λ m. nat_le (a.address % 64) p && (nat_lt (p - a.address % 64) 64 && bit m (p - a.address % 64)))
    (c.mask_of.ensures small) ∙ any-reach a.address a.size p small lt
