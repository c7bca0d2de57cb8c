use Rattle.std.proofs.Common.{◌∙◌, ap, ◌≡◌, ◌==◌}
use Rattle.tl_manager.{specs.statement.Holders.is_unheld, specs.declared.manager.tracker.Trackers.Trackers}
use Rattle.tl_manager.{proofs.blocks.Granting.block_state-granted, proofs.blocks.Recording.unheld-word}
use Rattle.tl_rules.specs.statement.History.{block_at}
use Rattle.tl_manager.proofs.manager.block_state.BlockState.grant.Goals as goal

pub returns-clause-done : goal.returns-clause-done
returns-clause-done g c = λ config t memory at block_state.
    let unheld : (c.holders-unheld.result == 0) ≡ is_unheld config (block_at c.args.request.now.address) t =
    unheld-word config (block_at c.args.request.now.address) c.holders-unheld.result
    (g.D.Directory.perm_of c.args.self.now.directory (block_at c.args.request.now.address)) t at.sound
    (rw c.block_at-block.ensures at c.holders-unheld.ensures.bits)
    (block_state.records (block_at c.args.request.now.address)) in
    rw c.grant.ensures (block_state-granted g.D.Directory.perm_of config c.args.self.now _ c.args.number c.args.link
    c.args.request.now c.get-held.result
    (c.holders-unheld.result == 0) c.cap_granted-cap.result c.bytes_if-bytes.result t memory
    c.requires.acquires c.record.ensures.rest.0 c.record.ensures.rest.2
    (c.set.ensures.count ∙ ap (λ (s : Trackers _). s.count) c.record.ensures.rest.1)
    (rw (c.record.ensures.rest.1, c.block_at-block.ensures) at c.set.ensures.trackers)
    (rw c.block_at-block.ensures at c.get-held.ensures) unheld c.cap_granted-cap.ensures
    (rw (c.block_at-block.ensures, c.is_granted_data-carries.ensures) at
    (c.bytes_if-bytes.ensures memory block_state.bytes))
    (rw (c.block_at-block.ensures, c.right.ensures) at c.record.ensures.here)
    (rw c.block_at-block.ensures at c.record.ensures.others) at block_state)
