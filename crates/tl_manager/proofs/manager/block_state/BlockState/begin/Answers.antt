use Rattle.std.{proofs.Common.refl, proofs.lemmas.Bool.eq-eqb, proofs.lemmas.Bool.ne_eqb}
use Rattle.tl_manager.specs.code.Tracked.{service_with}
use Rattle.tl_rules.specs.statement.History.{block_at}
use Rattle.tl_manager.proofs.blocks.Beginning.{probed-word, done-unprobed, done-probed, block_state-probed}
use Rattle.tl_manager.proofs.manager.block_state.BlockState.begin.Goals as goal

pub returns-then-missing-eq0-clause-done : goal.returns-then-missing-eq0-clause-done
returns-then-missing-eq0-clause-done g c = λ config t memory few at block_state.
    let word = probed-word config c.args.number c.args.link c.args.request.now c.in-Some.cap c.probed-missing.result
    (g.D.Directory.perm_of c.args.self.now.directory (block_at c.args.request.now.address)) t at.sound
    c.probed-missing.ensures (block_state.records (block_at c.args.request.now.address)) in
    done-unprobed g.D.Directory.perm_of config _ _ (service_with c.args.number c.args.link c.args.request.now) _
    c.in-Some.cap c.probed-missing.result t memory
    c.in-Some.ensures word (eq-eqb _ _ c.if-missing-eq0.true)
    (c.answer-then-missing-eq0.ensures.done config t memory at block_state)

pub returns-clause-done : goal.returns-clause-done
returns-clause-done g c = λ config t memory few at block_state.
    let word = probed-word config c.args.number c.args.link c.args.request.now c.in-Some.cap c.probed-missing.result
    (g.D.Directory.perm_of c.args.self.now.directory (block_at c.args.request.now.address)) t at.sound
    c.probed-missing.ensures (block_state.records (block_at c.args.request.now.address)) in
    done-probed g.D.Directory.perm_of config _ _ (service_with c.args.number c.args.link c.args.request.now) _
    c.in-Some.cap t memory c.in-Some.ensures
    (rw c.block_at.ensures (block_state-probed g.D.Directory.perm_of config c.args.self.now _ c.args.number c.args.link
    c.args.request.now c.in-Some.cap
    c.probed-missing.result t memory refl refl refl c.set.ensures.count c.set.ensures.trackers few word
    (ne_eqb _ _ c.if-missing-eq0.false) at block_state))
