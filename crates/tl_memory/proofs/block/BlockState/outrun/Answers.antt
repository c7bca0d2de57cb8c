use Rattle.std.{proofs.lemmas.Result.IfOk-weaker, specs.Prelude.Some}
use Rattle.tl_beat.specs.declared.beat.Beat.{Beat}
use Rattle.tl_memory.proofs.states.Settling.{asked-source, outrun-bytes, outrun-known, outrun-pending}
use Rattle.tl_memory.proofs.states.States.{gone-here, gone-inside}
use Rattle.tl_memory.proofs.block.BlockState.outrun.Goals as goal

pub returns : goal.returns
returns g c = IfOk-weaker c.with_bytes.result _ _ (λ next h n block y asked t k is outrun asks here last.
    let link = c.args.link in
    let asking = c.args.asking.now in
    let source = asked-source link y asked asking t is outrun asks in
    let gone = outrun-pending link y t outrun in
    h n block (link, Beat.D y) t k
    (outrun-bytes c.args.self.now n block link y asked t k is outrun)
    (rw source (gone-here block (Some (link, y.source)) (link, Beat.D y) t gone))
    (gone-inside (Some (link, y.source)) (link, Beat.D y) t gone k.accesses_are.inside)
    (rw (c.in_ok-outrun.ensures, c.in_ok-append_outrun_but.ensures, c.as_slice.ensures.value, c.in_ok-push.ensures.items, c.new-outrun.ensures.items)
    (outrun-known c.new.result c.args.self.now.outrun asking c.args.answered block link y asked t is outrun asks
    here last c.new.ensures.link c.new.ensures.source c.new.ensures.answered c.new.ensures.written c.new.ensures.any
    k.outrun_are)))
    c.with_bytes.ensures
