use Rattle.std.proofs.Common.{refl, ◌∙◌}
use Rattle.tl_rules.proofs.Profiles.{order-of}
use Rattle.tl_rules.proofs.order.broken_order.Goals as goal

pub returns : goal.returns
returns g c = λ t k.
    (rw c.of.ensures at c.broken_order_under.ensures) t ((c.args.profile, refl), k)
    ∙ order-of c.args.profile c.args.beat.now t
