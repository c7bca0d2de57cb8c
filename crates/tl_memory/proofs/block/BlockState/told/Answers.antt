use Rattle.std.{proofs.Common.◌∙◌, proofs.lemmas.Result.IfOk-weaker, specs.Prelude.None}
use Rattle.tl_bytes.specs.statement.Bytes.{pending_accesses}
use Rattle.tl_memory.proofs.{states.Elsewhere.outrun-stays, states.Keeping.keeps-all, states.States.gone-here}
use Rattle.tl_memory.proofs.{states.States.gone-inside}
use Rattle.tl_memory.proofs.block.BlockState.told.Goals as goal

pub returns : goal.returns
returns g c = IfOk-weaker c.with_bytes.result _ _ (λ next h n block x t k tells stay leaves now carried.
    let same = stay ∙ keeps-all (pending_accesses t) in
    h n block x t k (rw c.in_ok-bytes.ensures.ok (c.in_ok-told.ensures g.row.W n block x t tells now carried)) (gone-here block None x t same)
    (gone-inside None x t same k.accesses_are.inside)
    (outrun-stays block c.args.self.now.outrun x t leaves k.outrun_are))
    c.with_bytes.ensures
