use Rattle.std.proofs.Common.{refl, ap, ◌∙◌}
use Rattle.std.specs.Prelude.{Some}
use Rattle.tl_ports.proofs.Places.{first_waiting}
use Rattle.tl_ports.proofs.outgoing.Outgoing.next.Goals as goal

pub returns-in-None : goal.returns-in-None
returns-in-None g c = rw c.in-None.ensures refl

pub returns-in-Some : goal.returns-in-Some
returns-in-Some g c =
    ap (λ x. Some x.1) c.index.ensures
    ∙ first_waiting c.args.self.now.beats.items c.in-Some.place c.index.result.now c.args.link.0 c.args.channel
    c.in-Some.ensures.0 c.in-Some.ensures.1 (c.in-Some.ensures.2 c.index.result.now)
