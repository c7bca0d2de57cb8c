use Rattle.std.{proofs.Common.◌∙◌, proofs.lemmas.Result.IfOk-weaker, specs.Prelude.filter}
use Rattle.tl_bytes.specs.statement.Bytes.{pending_accesses}
use Rattle.tl_memory.specs.statement.Known.{is_to}
use Rattle.tl_memory.proofs.{states.Elsewhere.bytes-kept, states.Elsewhere.outrun-stays, states.Keeping.keeps-all}
use Rattle.tl_memory.proofs.block.BlockState.passed.Goals as goal

pub returns : goal.returns
returns g c = IfOk-weaker c.with_bytes.result _ _ (λ next h n block x t k elsewhere. h n block x t k
    (bytes-kept n block c.args.self.now.bytes x t k.bytes_are elsewhere.quiet elsewhere.keeps elsewhere.unsettled)
    (elsewhere.pending_stay ∙ keeps-all (filter (is_to block) (pending_accesses t))) elsewhere.inside
    (outrun-stays block c.args.self.now.outrun x t elsewhere.outrun k.outrun_are))
    c.with_bytes.ensures
