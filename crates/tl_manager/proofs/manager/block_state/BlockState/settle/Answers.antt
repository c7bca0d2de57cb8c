use Rattle.std.proofs.Common.{refl, sym, ◌∙◌}
use Rattle.std.proofs.lemmas.Bool.{eq-eqb, ne_eqb}
use Rattle.tl_manager.specs.code.Trackers.{tracker_at}
use Rattle.tl_manager.proofs.blocks.Reporting.{unserved-block, report-served, granted-at, probing-at, missing-reported}
use Rattle.tl_manager.proofs.blocks.Reporting.{missing-word, ready-settled, block_state-reported, done-settled}
use Rattle.tl_manager.proofs.blocks.Reporting.{done-waiting}
use Rattle.tl_manager.proofs.manager.block_state.BlockState.settle.Goals as goal

pub returns-in_default-clause-done : goal.returns-in_default-clause-done
returns-in_default-clause-done g c = λ config x e memory is block_state.
    absurd (report-served config c.args.link c.args.block x e is
    (unserved-block c.args.block (tracker_at c.args.self.now.trackers) e.trace is.taken.before.trackers_apart
    block_state.tracked (c.in_default.ensures.none refl)))

pub returns-in-Granted-clause-done : goal.returns-in-Granted-clause-done
returns-in-Granted-clause-done g c = λ config x e memory is block_state.
    absurd (granted-at config c.in-Some.number c.in-Granted.link c.args.link c.args.block c.in-Granted.block x e
    (tracker_at c.args.self.now.trackers c.in-Some.number) c.in-Granted.ensures (block_state.tracked c.in-Some.number)
    c.in-Some.ensures.found.1 is)

pub returns-then-missing-eq0-clause-done : goal.returns-then-missing-eq0-clause-done
returns-then-missing-eq0-clause-done g c = λ config x e memory is block_state.
    let p = probing-at c.in-Some.number c.args.block c.in-Probing.asking c.in-Probing.request c.in-Probing.missing
    (tracker_at c.args.self.now.trackers c.in-Some.number) e.trace c.in-Probing.ensures
    (block_state.tracked c.in-Some.number) c.in-Some.ensures.found.1 in
    let serves = rw p.1 at p.0.serves in
    let bits = missing-reported config c.args.link c.args.block x e c.in-Probing.missing c.without-missing.result is
    (rw p.1 at p.0.bits) c.without-missing.ensures in
    let all = sym (missing-word config c.args.link c.args.block x e c.without-missing.result is bits) ∙ eq-eqb _ _
    c.if-missing-eq0.true in
    done-settled g.D.Directory.perm_of config _ _ c.in-Some.number c.in-Probing.asking c.args.link c.in-Probing.request
    c.args.block x e memory is serves all
    (c.answer.ensures.done config _ memory (ready-settled config c.in-Some.number c.in-Probing.asking c.args.link
    c.in-Probing.request c.args.block x e is p.1 serves all)
    (block_state-reported g.D.Directory.perm_of config c.args.self.now c.in-Some.number c.in-Probing.asking c.args.link
    c.in-Probing.request c.args.block x e memory is serves block_state))

pub returns-clause-done : goal.returns-clause-done
returns-clause-done g c = λ config x e memory is block_state.
    let p = probing-at c.in-Some.number c.args.block c.in-Probing.asking c.in-Probing.request c.in-Probing.missing
    (tracker_at c.args.self.now.trackers c.in-Some.number) e.trace c.in-Probing.ensures
    (block_state.tracked c.in-Some.number) c.in-Some.ensures.found.1 in
    let serves = rw p.1 at p.0.serves in
    let bits = missing-reported config c.args.link c.args.block x e c.in-Probing.missing c.without-missing.result is
    (rw p.1 at p.0.bits) c.without-missing.ensures in
    let more = sym (missing-word config c.args.link c.args.block x e c.without-missing.result is bits) ∙ ne_eqb _ _
    c.if-missing-eq0.false in
    done-waiting g.D.Directory.perm_of config c.args.self.now _ c.in-Some.number c.in-Probing.asking c.args.link
    c.in-Probing.request c.without-missing.result c.args.block x e memory
    refl refl refl c.set.ensures.count c.set.ensures.trackers is p.1 serves p.0.unanswered bits more block_state
