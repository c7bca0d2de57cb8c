use Rattle.std.proofs.Common.{refl, sym, ◌∙◌}
use Rattle.tl_rules.specs.statement.Conformance.{on_link}
use Rattle.tl_manager.proofs.judging.Judging.{begins-so}
use Rattle.tl_manager.proofs.manager.state.ManagerState.broken.Goals as goal

pub returns : goal.returns
returns g c = λ config e k is part.
    c.broken_order.ensures (on_link c.args.link.0 e.trace)
    (record {
      config = config;
      end = e;
      kept = k.kept;
      block_state_is = k.block_state;
      link_state_is = is;
      size =
          k.size;
      past = refl;
    })
    ∙ rw k.block_state.profile (begins-so config c.args.beat.now c.args.part (on_link c.args.link.0 e.trace) part
    (sym c.is_first.ensures ∙ c.if-not-is_first.false))
