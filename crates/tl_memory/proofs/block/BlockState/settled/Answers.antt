use Rattle.std.proofs.Common.{◌∙◌, refl}
use Rattle.std.{proofs.lemmas.Result.IfOk-weaker, specs.Prelude.None}
use Rattle.tl_bytes.specs.statement.Bytes.{pending_accesses}
use Rattle.tl_memory.proofs.{states.Keeping.keeps-all, states.Settling.is-settling, states.Settling.settled-outrun}
use Rattle.tl_memory.proofs.{states.States.gone-here, states.States.gone-inside}
use Rattle.tl_memory.proofs.block.BlockState.settled.Goals as goal

pub returns : goal.returns
returns g c = IfOk-weaker c.with_bytes.result _ _ (λ next h n block x t k s now.
    let same = s.pending_stay ∙ keeps-all (pending_accesses t) in
    h n block x t k
    (rw c.in_ok-bytes.ensures.ok (c.in_ok-after.ensures.settled g.row.W n block x t k.bytes_are s.quiet s.answers_none refl now
    (is-settling c.args.access.now block x t s)))
    (gone-here block None x t same) (gone-inside None x t same k.accesses_are.inside)
    (rw (c.in_ok-outrun.ensures, c.in_ok-append_outrun_but.ensures, c.as_slice.ensures.value, c.new-outrun.ensures.items)
    (settled-outrun c.args.access.now c.args.self.now.outrun block x t s k.outrun_are)))
    c.with_bytes.ensures
