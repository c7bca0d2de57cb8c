use Rattle.std.proofs.Common.{sym, ◌∙◌}
use Rattle.tl_memory.specs.code.Early.{is_outrun_of}
use Rattle.tl_memory.proofs.{states.Keeping.found-none, values.Reached.outrun-here, values.Reached.outrun-later}
use Rattle.tl_memory.proofs.early.find_outrun.Goals as goal

pub returns-then-is_of : goal.returns-then-is_of
returns-then-is_of c =
    outrun-here c.args.link.0 c.args.source c.loop-access.access-index c.args.accesses.now _ c.loop-access-test.true
    (sym c.is_of.ensures ∙ c.if-is_of.true)
    ∙ c.loop-access.invariant

pub loop-access-preserved : goal.loop-access-preserved
loop-access-preserved c =
    outrun-later c.args.link.0 c.args.source c.loop-access.access-index c.args.accesses.now _ c.loop-access-test.true
    (sym c.is_of.ensures ∙ c.if-is_of.false)
    ∙ c.loop-access.invariant

pub returns : goal.returns
returns c =
    found-none (is_outrun_of c.args.link.0 c.args.source) c.loop-access.access-index c.args.accesses.now
    c.loop-access-test.false
    ∙ c.loop-access.invariant
