use Rattle.std.proofs.Common.{refl, ◌≡◌, sym, length, arith, Some}
use Rattle.std.{specs.Prelude.slice_get, proofs.lemmas.Option.slice_get_read}
use Rattle.tl_rules.specs.statement.Conformance.{on_link}
use Rattle.tl_manager.{proofs.blocks.Recording.recorded-past}
use Rattle.tl_manager.proofs.manager.state.ManagerState.recorded.Goals as goal

pub returns-then-number-len : goal.returns-then-number-len
returns-then-number-len g c = λ config e k. sym (recorded-past config c.args.block c.args.link.0 e.trace k.kept.sound
    (omega (arith, k.count)))

pub returns : goal.returns
returns g c = λ config e k.
    let found : slice_get c.args.self.now.link_states.items c.args.link.0 ≡ Some c.index.result.now =
    slice_get_read c.args.self.now.link_states.items (length c.args.self.now.link_states.items) c.args.link.0
    c.index.result.now refl (omega arith) (rw c.from-number.ensures at c.index.ensures) in
    c.held.ensures (on_link c.args.link.0 e.trace) (record {
      config = config;
      end = e;
      kept = k.kept;
      block_state_is = k.block_state;
      link_state_is = k.link_states c.args.link.0 c.index.result.now found;
      size =
          k.size;
      past = refl;
    })
