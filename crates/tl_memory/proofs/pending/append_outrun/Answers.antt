use Rattle.std.proofs.Common.{true, sym, ap, ◌∙◌, ◌++◌, append-nil}
use Rattle.std.proofs.lemmas.List.{take_all}
use Rattle.tl_memory.specs.code.Writers.{writes_outrun}
use Rattle.tl_memory.proofs.{values.Reached.outrun-written, values.Writing.none_yet}
use Rattle.tl_memory.proofs.pending.append_outrun.Goals as goal

pub loop-access-init : goal.loop-access-init
loop-access-init c = sym (append-nil c.args.writes.now.items)
    ∙ ap (λ l. c.args.writes.now.items ++ l) (none_yet (λ x. true) (λ x. x.write) c.args.outrun.now)

pub loop-access-preserved : goal.loop-access-preserved
loop-access-preserved c = outrun-written c.args.writes.now.items c.loop-access.writes.items c.push.new.self.items
    c.loop-access.access-index c.args.outrun.now _ c.loop-access-test.true c.in_ok-push.ensures.items
    c.loop-access.invariant

pub returns : goal.returns
returns c = c.loop-access.invariant
    ∙ ap (λ l. c.args.writes.now.items ++ writes_outrun l) (take_all c.loop-access.access-index c.args.outrun.now
    c.loop-access-test.false)
