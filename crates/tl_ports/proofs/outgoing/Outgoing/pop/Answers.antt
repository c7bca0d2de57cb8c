use Rattle.std.proofs.Common.{refl, ap, ◌∙◌}
use Rattle.std.specs.Prelude.{Some}
use Rattle.tl_ports.proofs.Places.{first_waiting, rest_waiting, none_waiting}
use Rattle.tl_ports.proofs.outgoing.Outgoing.pop.Goals as goal

pub returns-in-None-clause-first : goal.returns-in-None-clause-first
returns-in-None-clause-first g c = rw c.in-None.ensures refl

pub returns-in-None-clause-rest : goal.returns-in-None-clause-rest
returns-in-None-clause-rest g c = none_waiting c.args.self.now.beats.items c.args.link.0 c.args.channel
    c.in-None.ensures

pub returns-in-Some-clause-first : goal.returns-in-Some-clause-first
returns-in-Some-clause-first g c =
    ap (λ x. Some x.1) c.remove.ensures.value
    ∙ first_waiting c.args.self.now.beats.items c.in-Some.place c.remove.result c.args.link.0 c.args.channel
    c.in-Some.ensures.0 c.in-Some.ensures.1 (c.in-Some.ensures.2 c.remove.result)

pub returns-in-Some-clause-rest : goal.returns-in-Some-clause-rest
returns-in-Some-clause-rest g c = λ l ch.
    rw c.remove.ensures.by_index.2
    (rest_waiting c.args.self.now.beats.items c.in-Some.place c.remove.result c.args.link.0 c.args.channel
    c.in-Some.ensures.0 c.in-Some.ensures.1 (c.in-Some.ensures.2 c.remove.result) l ch)
