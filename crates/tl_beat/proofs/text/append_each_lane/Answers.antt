use Rattle.std.proofs.Common.{arith, ◌∙◌, sym}
use Rattle.tl_beat.proofs.Written.{append_lane, lanes-none}
use Rattle.tl_beat.proofs.text.append_each_lane.Goals as goal

pub loop-i-preserved : goal.loop-i-preserved
loop-i-preserved g c = record {
  text = rw (c.append_digits.ensures.text, c.from.ensures) (append_lane c.loop-i.text.items _ c.args.lanes.now g.row.W
      c.loop-i.i c.loop-i-test.true c.told-lanes c.loop-i.invariant.text);
  len = omega arith;
}

pub returns-clause-text : goal.returns-clause-text
returns-clause-text g c = sym (lanes-none c.loop-i.text.items c.args.lanes.now _ (omega arith))
    ∙ c.loop-i.invariant.text
