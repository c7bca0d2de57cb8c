use Rattle.std.proofs.Common.{arith}
use Rattle.tl_memory.proofs.states.Keeping.{done-all, done-more, done-none}
use Rattle.tl_times.specs.code.Timing.{IsNoted}
use Rattle.tl_times.proofs.times.note_each.Goals as goal

pub loop-n-init : goal.loop-n-init
loop-n-init c = done-none (IsNoted c.args.number.now c.args.time.now) c.args.pieces.now.items

pub loop-n-preserved : goal.loop-n-preserved
loop-n-preserved c = done-more (IsNoted c.args.number.now c.args.time.now) c.loop-n.n c.args.pieces.now.items c.loop-n.pieces.items
    c.index_mut.result.now c.note.new.self c.loop-n.invariant (omega (arith, c.loop-n-test.true, c.len-n-end.ensures))
    c.index_mut.ensures.value c.in_ok-note.ensures

pub returns : goal.returns
returns c = done-all (IsNoted c.args.number.now c.args.time.now) c.loop-n.n c.args.pieces.now.items c.loop-n.pieces.items
    c.loop-n.invariant (omega (arith, c.loop-n-test.false, c.len-n-end.ensures))
