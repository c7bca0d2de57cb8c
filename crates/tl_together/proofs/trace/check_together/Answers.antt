use Rattle.std.proofs.Common.{◌∙◌, arith, false}
use Rattle.tl_params.specs.statement.Liberties.{liberties_of}
use Rattle.tl_together.proofs.Tracing.{fault-answered, fault-goes_on, fault-none, known-goes_on}
use Rattle.tl_together.proofs.trace.check_together.Goals as goal

pub loop-i-preserved : goal.loop-i-preserved
loop-i-preserved g c = record {
  counted = c.loop-i.invariant.counted;
  known = known-goes_on c.push.new.self c.args.levels.now (liberties_of c.args.profile) c.args.trace.now c.loop-i.i
      c.index-trace-i.result c.loop-i-test.true c.index-trace-i.is
      (c.in-Ok-push.ensures.knows c.args.levels.now (liberties_of c.args.profile) _ false c.loop-i.invariant.known);
  same = c.loop-i.invariant.same
      ∙ fault-goes_on c.args.levels.now (liberties_of c.args.profile) c.args.trace.now c.loop-i.i c.index-trace-i.result
      c.loop-i-test.true c.index-trace-i.is
      (c.in-Ok-push.ensures.answer c.args.levels.now (liberties_of c.args.profile) _ false c.loop-i.invariant.known);
}

pub returns : goal.returns
returns g c = (
  c.loop-i.invariant.counted,
  c.loop-i.invariant.same ∙ fault-none c.args.levels.now (liberties_of c.args.profile)
      c.args.trace.now _ c.loop-i.i (omega arith),
)

pub returns-in-Err-push : goal.returns-in-Err-push
returns-in-Err-push g c =
    rw c.fault_at.ensures
    (fault-answered c.args.levels.now (liberties_of c.args.profile) c.args.trace.now c.loop-i.i c.index-trace-i.result
    c.in-Err-push.fault c.loop-i.invariant.counted c.loop-i-test.true c.index-trace-i.is
    c.loop-i.invariant.same (c.in-Err-push.ensures.answer c.args.levels.now (liberties_of c.args.profile) _ false
    c.loop-i.invariant.known))
