use Rattle.std.proofs.Common.{refl, sym, ◌∙◌}
use Rattle.tl_monitor.proofs.Accesses.{begun}
use Rattle.tl_monitor.proofs.link_state.LinkState.begin_transfer.Goals as goal

pub returns-in-Some-clause-rule : goal.returns-in-Some-clause-rule
returns-in-Some-clause-rule g c = λ t keeps.
    c.in-Some.ensures t (refl, rw c.cache.ensures keeps)
    ∙ sym (begun c.args.self.now c.args.beat.now c.args.liberties t keeps c.requires.first)
