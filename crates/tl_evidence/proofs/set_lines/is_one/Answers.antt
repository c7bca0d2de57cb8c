use Rattle.std.proofs.Common.{◌∙◌, sym}
use Rattle.tl_evidence.proofs.Setting.{one-here, one-none, one-not}
use Rattle.tl_evidence.proofs.set_lines.is_one.Goals as goal

pub returns-then-is_at : goal.returns-then-is_at
returns-then-is_at c = sym (c.is_at.ensures c.if-is_at.true)

pub returns-then-is_same : goal.returns-then-is_same
returns-then-is_same c =
    sym (one-here c.args.told.telling c.args.told.place c.args.before.now c.loop-one.one-index _ c.loop-one-test.true
    (sym c.is_same.ensures ∙ c.if-is_same.true)) ∙ c.loop-one.invariant

pub loop-one-preserved : goal.loop-one-preserved
loop-one-preserved c =
    sym (one-not c.args.told.telling c.args.told.place c.args.before.now c.loop-one.one-index _ c.loop-one-test.true
    (sym c.is_same.ensures ∙ c.if-is_same.false)) ∙ c.loop-one.invariant

pub returns : goal.returns
returns c =
    sym (one-none c.args.told.telling c.args.told.place c.args.before.now c.loop-one.one-index c.loop-one-test.false)
    ∙ c.loop-one.invariant
