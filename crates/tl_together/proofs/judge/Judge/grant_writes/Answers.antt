use Rattle.std.proofs.Common.{length, refl}
use Rattle.std.proofs.lemmas.Result.{IfOk-weaker}
use Rattle.tl_together.proofs.judge.Judge.grant_writes.Goals as goal

pub returns : goal.returns
returns g c = IfOk-weaker c.grant_writes.result _ _
    (λ writes h levels may t k. h (length levels) t (k.open_knows refl).memory_is) c.grant_writes.ensures
