use Rattle.std.proofs.Common.{sym, ◌∙◌, ap, ◌≡◌, true, false}
use Rattle.tl_rules.specs.statement.History.{is_release}
use Rattle.tl_manager.proofs.calls.Events.{memory_with}
use Rattle.tl_manager.proofs.blocks.Taking.{block_state-written, block_state-released, is_report, done-ack}
use Rattle.tl_manager.proofs.manager.block_state.BlockState.take.Goals as goal

pub returns-then-is_release-clause-done : goal.returns-then-is_release-clause-done
returns-then-is_release-clause-done g c = λ config x e is block_state.
    let written = block_state-written g.D.Directory.perm_of config c.args.self.now c.record.new.self c.args.link x
    c.args.message.now e c.record.ensures.rest.0 c.record.ensures.rest.1
    (rw (c.block_at-block.ensures, c.reported.ensures) at c.record.ensures.here)
    (rw c.block_at-block.ensures at c.record.ensures.others)
    (rw c.record.ensures.rest.2 (rw (c.carries_data-carries.ensures, c.block_at-block.ensures) at
    (c.write_if.ensures.bytes e.memory block_state.bytes))) is block_state in
    let release : is_release x.opcode ≡ true =
    ap is_release (sym is.opcode) ∙ sym c.is_release.ensures ∙ c.if-is_release.true in
    rw c.release_ack.ensures (block_state-released g.D.Directory.perm_of config c.record.new.self c.args.link x
    c.args.message.now e is release written)

pub returns-else-is_release-clause-done : goal.returns-else-is_release-clause-done
returns-else-is_release-clause-done g c = λ config x e is block_state.
    let written = block_state-written g.D.Directory.perm_of config c.args.self.now c.record.new.self c.args.link x
    c.args.message.now e c.record.ensures.rest.0 c.record.ensures.rest.1
    (rw (c.block_at-block.ensures, c.reported.ensures) at c.record.ensures.here)
    (rw c.block_at-block.ensures at c.record.ensures.others)
    (rw c.record.ensures.rest.2 (rw (c.carries_data-carries.ensures, c.block_at-block.ensures) at
    (c.write_if.ensures.bytes e.memory block_state.bytes))) is block_state in
    let other : is_release c.args.message.now.opcode ≡ false = sym c.is_release.ensures ∙ c.if-is_release.false in
    let report = is_report config c.args.link c.block_at-block.result x c.args.message.now e c.block_at-block.ensures
    other is in
    done-ack g.D.Directory.perm_of config _ _ c.args.link c.block_at-block.result x c.args.message.now e other is report
    (c.settle.ensures.done config x e (memory_with c.args.link x e) report written)
