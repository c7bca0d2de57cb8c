use Rattle.std.proofs.Common.{sym, ◌∙◌}
use Rattle.tl_memory.specs.code.Writers.{is_named}
use Rattle.tl_memory.proofs.states.Keeping.{found-here, found-later, found-none}
use Rattle.tl_memory.proofs.accesses.find.Goals as goal

pub returns-then-is_of : goal.returns-then-is_of
returns-then-is_of g c =
    found-here (is_named c.args.link.0 c.args.source) c.loop-access.access-index c.args.accesses.now
    c.access-item.result c.access-item.is c.loop-access-test.true (sym c.is_of.ensures ∙ c.if-is_of.true)
    ∙ c.loop-access.invariant

pub loop-access-preserved : goal.loop-access-preserved
loop-access-preserved g c =
    found-later (is_named c.args.link.0 c.args.source) c.loop-access.access-index c.args.accesses.now
    c.access-item.result c.access-item.is c.loop-access-test.true (sym c.is_of.ensures ∙ c.if-is_of.false)
    ∙ c.loop-access.invariant

pub returns : goal.returns
returns g c =
    found-none (is_named c.args.link.0 c.args.source) c.loop-access.access-index c.args.accesses.now
    c.loop-access-test.false
    ∙ c.loop-access.invariant
