use Rattle.std.proofs.Common.{refl, rules, ◌≡◌, length, false, Some}
use Rattle.std.{specs.Prelude.slice_get, proofs.lemmas.Option.slice_get_read}
use Rattle.tl_manager.proofs.calls.Carrying.{goes-on, last-is, is-complete, knows-taken}
use Rattle.tl_manager.{proofs.blocks.Completed.done-part, proofs.judging.Judged.passed}
use Rattle.tl_manager.{proofs.blocks.Placing.can-complete, proofs.blocks.Placing.limits}
use Rattle.tl_manager.proofs.manager.state.ManagerState.take.Goals as goal

pub take-requires : goal.take-requires
take-requires g c =
    let known = c.requires.known in
    let k = known.knows in
    let found : slice_get c.args.self.now.link_states.items c.args.link.0 ≡ Some c.index_mut.result.now =
    slice_get_read c.args.self.now.link_states.items (length c.args.self.now.link_states.items) c.args.link.0
    c.index_mut.result.now refl c.requires.link (rw c.from-number.ensures at c.index_mut.ensures.value) in
    let passes = c.requires.passes known.config known.end k in
    let ok = passed known.config c.args.link passes.0 c.args.beat.now known.end c.prove_typed.ensures passes.1 in
    let goes = goes-on known.config c.args.link c.index_mut.result.now c.args.beat.now known.end ok
    (k.link_states c.args.link.0 c.index_mut.result.now found) in
    let theirs = ok.theirs in
    let width = known.width in
    search (rules, goes, theirs, width)

pub returns-then-not-take-clause-handed : goal.returns-then-not-take-clause-handed
returns-then-not-take-clause-handed g c = λ config e k.
    let found : slice_get c.args.self.now.link_states.items c.args.link.0 ≡ Some c.index_mut.result.now =
    slice_get_read c.args.self.now.link_states.items (length c.args.self.now.link_states.items) c.args.link.0
    c.index_mut.result.now refl c.requires.link (rw c.from-number.ensures at c.index_mut.ensures.value) in
    let passes = c.requires.passes config e k in
    let ok = passed config c.args.link passes.0 c.args.beat.now e c.prove_typed.ensures passes.1 in
    let part = last-is config c.args.link c.index_mut.result.now c.args.beat.now e false ok
    (k.link_states c.args.link.0 c.index_mut.result.now found) c.if-not-take.ensures.completes in
    (done-part g.D.Directory.perm_of config c.args.self.now.block_state c.args.link c.args.beat.now e ok.theirs part
    k.block_state).0

pub returns-then-not-take-clause-knows : goal.returns-then-not-take-clause-knows
returns-then-not-take-clause-knows g c = λ config e k.
    let found : slice_get c.args.self.now.link_states.items c.args.link.0 ≡ Some c.index_mut.result.now =
    slice_get_read c.args.self.now.link_states.items (length c.args.self.now.link_states.items) c.args.link.0
    c.index_mut.result.now refl c.requires.link (rw c.from-number.ensures at c.index_mut.ensures.value) in
    let passes = c.requires.passes config e k in
    let ok = passed config c.args.link passes.0 c.args.beat.now e c.prove_typed.ensures passes.1 in
    let part = last-is config c.args.link c.index_mut.result.now c.args.beat.now e false ok
    (k.link_states c.args.link.0 c.index_mut.result.now found) c.if-not-take.ensures.completes in
    knows-taken g.D.Directory.perm_of c.args.self.now _ config c.args.link c.index_mut.result.now c.take.new.self
    c.args.beat.now e c.requires.known.width ok (rw c.from-number.ensures refl) found
    c.take.ensures.level c.take.ensures.closed c.take.ensures.requests c.take.ensures.reports refl
    (done-part g.D.Directory.perm_of config c.args.self.now.block_state c.args.link c.args.beat.now e ok.theirs part
    k.block_state).1 k

pub complete-requires : goal.complete-requires
complete-requires g c =
    let known = c.requires.known in
    let k = known.knows in
    let found : slice_get c.args.self.now.link_states.items c.args.link.0 ≡ Some c.index_mut.result.now =
    slice_get_read c.args.self.now.link_states.items (length c.args.self.now.link_states.items) c.args.link.0
    c.index_mut.result.now refl c.requires.link (rw c.from-number.ensures at c.index_mut.ensures.value) in
    let passes = c.requires.passes known.config known.end k in
    let ok = passed known.config c.args.link passes.0 c.args.beat.now known.end c.prove_typed.ensures passes.1 in
    let complete = is-complete known.config c.args.link c.index_mut.result.now c.args.beat.now c.take.new.message
    known.end known.width ok k.kept
    (k.link_states c.args.link.0 c.index_mut.result.now found) c.if-not-take.ensures.completes
    c.if-not-take.ensures.message c.prove_filled.ensures in
    let can = can-complete g.D.Directory.perm_of g.D.Directory.blocks g.D.Directory.clients c.args.self.now c.args.link
    c.args.beat.now c.take.new.message known c.requires.link complete in
    let width = known.width in
    let blocks = known.blocks in
    search (rules, can, width, blocks)

pub returns-clause-handed : goal.returns-clause-handed
returns-clause-handed g c = λ config e k.
    let found : slice_get c.args.self.now.link_states.items c.args.link.0 ≡ Some c.index_mut.result.now =
    slice_get_read c.args.self.now.link_states.items (length c.args.self.now.link_states.items) c.args.link.0
    c.index_mut.result.now refl c.requires.link (rw c.from-number.ensures at c.index_mut.ensures.value) in
    let passes = c.requires.passes config e k in
    let ok = passed config c.args.link passes.0 c.args.beat.now e c.prove_typed.ensures passes.1 in
    let complete = is-complete config c.args.link c.index_mut.result.now c.args.beat.now c.take.new.message e
    c.requires.known.width ok k.kept
    (k.link_states c.args.link.0 c.index_mut.result.now found) c.if-not-take.ensures.completes
    c.if-not-take.ensures.message c.prove_filled.ensures in
    (c.complete.ensures.done config c.args.beat.now e (limits config k.fits).0 complete k.block_state).0

pub returns-clause-knows : goal.returns-clause-knows
returns-clause-knows g c = λ config e k.
    let found : slice_get c.args.self.now.link_states.items c.args.link.0 ≡ Some c.index_mut.result.now =
    slice_get_read c.args.self.now.link_states.items (length c.args.self.now.link_states.items) c.args.link.0
    c.index_mut.result.now refl c.requires.link (rw c.from-number.ensures at c.index_mut.ensures.value) in
    let passes = c.requires.passes config e k in
    let ok = passed config c.args.link passes.0 c.args.beat.now e c.prove_typed.ensures passes.1 in
    let complete = is-complete config c.args.link c.index_mut.result.now c.args.beat.now c.take.new.message e
    c.requires.known.width ok k.kept
    (k.link_states c.args.link.0 c.index_mut.result.now found) c.if-not-take.ensures.completes
    c.if-not-take.ensures.message c.prove_filled.ensures in
    let done = c.complete.ensures.done config c.args.beat.now e (limits config k.fits).0 complete k.block_state in
    knows-taken g.D.Directory.perm_of c.args.self.now _ config c.args.link c.index_mut.result.now c.take.new.self
    c.args.beat.now e c.requires.known.width ok (rw c.from-number.ensures refl) found
    c.take.ensures.level c.take.ensures.closed c.take.ensures.requests c.take.ensures.reports c.complete.ensures.count
    done.1 k
