use Rattle.std.{proofs.lemmas.Result.IfOk-weaker, specs.Prelude.Some}
use Rattle.tl_beat.specs.declared.beat.Beat.{Beat}
use Rattle.tl_memory.proofs.states.Elsewhere.{outrun-stays}
use Rattle.tl_memory.proofs.states.States.{gone-here, gone-inside, pending-answered}
use Rattle.tl_memory.proofs.block.BlockState.answered.Goals as goal

pub returns : goal.returns
returns g c = IfOk-weaker c.with_bytes.result _ _ (λ next h n block t k quiet over to unsettled leaves message room now.
    let link = c.args.link in
    let y = c.args.y.now in
    let gone = pending-answered link y t over in
    h n block (link, Beat.D y) t k (c.in_ok-bytes.ensures n block t k quiet over to unsettled message room now)
    (gone-here block (Some (link, y.source)) (link, Beat.D y) t gone)
    (gone-inside (Some (link, y.source)) (link, Beat.D y) t gone k.accesses_are.inside)
    (outrun-stays block c.args.self.now.outrun (link, Beat.D y) t leaves k.outrun_are)) c.with_bytes.ensures
