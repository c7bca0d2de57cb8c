use Rattle.std.proofs.Common.{refl, ◌≡◌, ◌<◌, length, Some, arith}
use Rattle.std.{specs.Prelude.slice_get, proofs.lemmas.Option.slice_get_read}
use Rattle.tl_manager.{proofs.calls.Middle.follows-any, proofs.calls.Unchanged.unchanged-at}
use Rattle.tl_manager.proofs.manager.state.ManagerState.goes_on.Goals as goal

pub returns-clause-passes : goal.returns-clause-passes
returns-clause-passes g c =
    let within : c.args.link.0 < length c.args.self.now.link_states.items = omega (arith, c.from-number.ensures) in
    let found : slice_get c.args.self.now.link_states.items c.args.link.0 ≡ Some c.index_mut.result.now =
    slice_get_read c.args.self.now.link_states.items (length c.args.self.now.link_states.items) c.args.link.0
    c.index_mut.result.now refl within (rw c.from-number.ensures at c.index_mut.ensures.value) in
    follows-any g.D.Directory.perm_of c.args.self.now _ c.args.link c.args.channel c.index_mut.result.now
    c.goes_on.new.self c.args.beat.now c.goes_on.result c.requires.known.width c.goes_on.ensures.theirs
    c.goes_on.ensures.typed c.goes_on.ensures.live c.goes_on.ensures.lawful c.goes_on.ensures.clean
    c.goes_on.ensures.middle c.goes_on.ensures.requests c.goes_on.ensures.reports c.goes_on.ensures.level
    c.goes_on.ensures.closed (rw c.from-number.ensures refl) found refl

pub returns-clause-unchanged : goal.returns-clause-unchanged
returns-clause-unchanged g c =
    unchanged-at (λ link_states. record { link_states = link_states; block_state = c.args.self.now.block_state })
    c.goes_on.result c.args.self.now.link_states c.from-number.result c.index_mut.result.now c.goes_on.new.self
    c.index_mut.ensures.value c.goes_on.ensures.unchanged
