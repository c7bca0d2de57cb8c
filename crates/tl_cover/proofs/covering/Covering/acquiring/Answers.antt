use Rattle.std.proofs.Common.{◌≡◌, ◌<◌, ℕ, arith, ap, ◌∙◌, length}
use Rattle.tl_monitor.specs.statement.Count.{count_below}
use Rattle.tl_cover.specs.statement.Scene.{acquires_beside}
use Rattle.tl_cover.proofs.Counted.{count_next, count_none, few_next}
use Rattle.tl_cover.proofs.covering.Covering.acquiring.Goals as goal

pub loop-m-init : goal.loop-m-init
loop-m-init g c = record {
  few = omega arith;
  counted = λ levels b t closed covers. count_none (acquires_beside c.args.link.0 c.args.block t);
}

pub loop-m-preserved : goal.loop-m-preserved
loop-m-preserved g c = record {
  few = few_next c.loop-m.number c.loop-m.m c.from-number.result c.is_acquiring.result c.loop-m.invariant.few
      c.from-number.ensures;
  counted = λ levels b t closed covers.
      let within : c.loop-m.m < length levels = omega (arith, c.loop-m-test.true, covers.follows.count_is) in
      count_next (acquires_beside c.args.link.0 c.args.block t) c.loop-m.number c.loop-m.m
      c.from-number.result c.is_acquiring.result (c.loop-m.invariant.counted levels b t closed covers)
      c.from-number.ensures (c.is_acquiring.ensures levels b t closed covers within);
}

pub returns : goal.returns
returns g c = λ levels b t closed covers.
    let all : c.loop-m.m ≡ length levels =
    omega (arith, c.loop-m-test.false, c.loop-m.auto.m-end, covers.follows.count_is) in
    c.loop-m.invariant.counted levels b t closed covers
    ∙ ap (λ (n : ℕ). count_below n (acquires_beside c.args.link.0 c.args.block t)) all
