use Rattle.std.proofs.Common.{length, refl, ◌∙◌}
use Rattle.std.proofs.lemmas.Bool.{lt-ltb}
use Rattle.tl_together.proofs.Following.{held_most}
use Rattle.tl_together.proofs.judge.Judge.held.Goals as goal

pub returns : goal.returns
returns g c = λ levels may t k lt.
    let follows = (k.open_knows refl).monitor_is in
    c.held_under.ensures levels may t _ follows.knows ∙ rw (lt-ltb c.args.link.0 (length levels) lt)
    (held_most c.args.self.now.monitor levels may c.args.link.0 c.args.block t follows lt)
