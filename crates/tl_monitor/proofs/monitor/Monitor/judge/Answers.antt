use Rattle.std.proofs.Common.{◌≡◌, arith, refl, sym, length, ◌<◌}
use Rattle.std.specs.Prelude.{Some, None}
use Rattle.tl_rules.specs.statement.Conformance.{on_link}
use Rattle.tl_rules.specs.statement.Liberties.{broken_after_under}
use Rattle.tl_monitor.proofs.Keepings.{keeps-more}
use Rattle.tl_monitor.proofs.Knowing.{fault-is, link_state-own, knows-more}
use Rattle.tl_monitor.proofs.Middle.{lawful-of}
use Rattle.tl_monitor.proofs.Numbered.{some-more}
use Rattle.tl_monitor.proofs.monitor.Monitor.judge.Goals as goal

pub returns-in-Ok-None-clause-knows : goal.returns-in-Ok-None-clause-knows
returns-in-Ok-None-clause-knows g c = λ levels lib t closed k.
    let old = c.index_mut-monitored.result.now in
    let lt : c.from-n.result < length c.args.self.now.links.items = omega (arith, c.len.ensures) in
    let keeps = link_state-own c.args.self.now levels lib t closed c.from-n.result old k lt
    c.index_mut-monitored.ensures.value in
    let lawful = lawful-of c.args.self.now.liberties c.args.self.now.links.items c.from-n.result old lt c.index_mut-monitored.ensures.value
    c.args.self.now.lawful in
    let legal : None ≡ broken_after_under c.args.self.now.liberties old.level c.args.beat.now (on_link c.from-n.result t) =
    rw c.in-Ok-None.field-0-is at (c.in-Ok-None.ensures.rule (on_link c.from-n.result t) lawful keeps) in
    knows-more c.args.self.now _ levels lib t closed c.from-n.result c.args.link c.args.beat.now old _ k
    refl refl refl c.from-n.ensures lt c.index_mut-monitored.ensures.value refl
    (keeps-more c.args.self.now.liberties old.level old.state c.push.new.self c.args.beat.now (on_link c.from-n.result t)
    c.requires keeps (sym legal) (rw c.in-Ok-None.field-0-is at c.in-Ok-None.ensures.takes))

pub returns-in-Ok-Some-clause-answer : goal.returns-in-Ok-Some-clause-answer
returns-in-Ok-Some-clause-answer g c = λ levels lib t closed k.
    let old = c.index_mut-monitored.result.now in
    let lt : c.from-n.result < length c.args.self.now.links.items = omega (arith, c.len.ensures) in
    let keeps = link_state-own c.args.self.now levels lib t closed c.from-n.result old k lt
    c.index_mut-monitored.ensures.value in
    let lawful = lawful-of c.args.self.now.liberties c.args.self.now.links.items c.from-n.result old lt c.index_mut-monitored.ensures.value
    c.args.self.now.lawful in
    fault-is c.args.self.now levels lib t closed c.from-n.result c.args.link c.args.beat.now old (Some c.in-Ok-Some.rule) k
    c.if-self.false c.from-n.ensures lt c.index_mut-monitored.ensures.value
    (rw c.in-Ok-Some.field-0-is at (c.in-Ok-Some.ensures.rule (on_link c.from-n.result t) lawful keeps))

pub returns-in-Err-clause-answer : goal.returns-in-Err-clause-answer
returns-in-Err-clause-answer g c = λ levels lib t closed k.
    let old = c.index_mut-monitored.result.now in
    let lt : c.from-n.result < length c.args.self.now.links.items = omega (arith, c.len.ensures) in
    let keeps = link_state-own c.args.self.now levels lib t closed c.from-n.result old k lt
    c.index_mut-monitored.ensures.value in
    let lawful = lawful-of c.args.self.now.liberties c.args.self.now.links.items c.from-n.result old lt c.index_mut-monitored.ensures.value
    c.args.self.now.lawful in
    fault-is c.args.self.now levels lib t closed c.from-n.result c.args.link c.args.beat.now old None k
    c.if-self.false c.from-n.ensures lt c.index_mut-monitored.ensures.value
    (c.in-Err.ensures.rule (on_link c.from-n.result t) lawful keeps)

pub returns-in-Err-clause-memory : goal.returns-in-Err-clause-memory
returns-in-Err-clause-memory g c = λ levels lib t closed k.
    let old = c.index_mut-monitored.result.now in
    let lt : c.from-n.result < length c.args.self.now.links.items = omega (arith, c.len.ensures) in
    let keeps = link_state-own c.args.self.now levels lib t closed c.from-n.result old k lt
    c.index_mut-monitored.ensures.value in
    let lawful = lawful-of c.args.self.now.liberties c.args.self.now.links.items c.from-n.result old lt c.index_mut-monitored.ensures.value
    c.args.self.now.lawful in
    let legal = c.in-Err.ensures.rule (on_link c.from-n.result t) lawful keeps in
    let new = c.in-Err.ensures.takes.1 in
    rw (← c.from-n.ensures, ← k.liberties_are) (some-more c.args.self.now.liberties old.level old.state c.args.beat.now
    (on_link c.from-n.result t) new.0 c.requires keeps (sym legal) new.1)
