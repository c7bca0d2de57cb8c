use Rattle.std.proofs.Common.{length, refl}
use Rattle.tl_together.proofs.judge.Judge.told_at.Goals as goal

pub returns-clause-told : goal.returns-clause-told
returns-clause-told g c = λ levels may t k small.
    c.told_at.ensures.told (length levels) t (k.open_knows refl).memory_is small
