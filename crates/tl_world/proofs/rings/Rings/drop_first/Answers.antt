use Rattle.std.proofs.Common.{refl, rules}
use Rattle.tl_world.proofs.Queues.{moved-dropped}
use Rattle.tl_world.proofs.rings.Rings.drop_first.Goals as goal

pub returns-then-drop_at-clause-moved : goal.returns-then-drop_at-clause-moved
returns-then-drop_at-clause-moved g c = λ n s x rest carried inside first.
    moved-dropped n c.args.self.now _ s c.args.link.0 c.args.channel x rest carried inside first
    c.drop_at.ensures.number (search rules) (search rules) (search rules) c.drop_at.result (search rules)
    (rw c.if-drop_at.true c.mark.ensures.here) (search rules)

pub returns-else-drop_at-clause-moved : goal.returns-else-drop_at-clause-moved
returns-else-drop_at-clause-moved g c = λ n s x rest carried inside first.
    moved-dropped n c.args.self.now _ s c.args.link.0 c.args.channel x rest carried inside first
    c.drop_at.ensures.number (search rules) (search rules) (search rules) c.drop_at.result (search rules)
    (rw c.if-drop_at.false refl) (λ j other apart. refl)
