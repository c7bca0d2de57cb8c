use Rattle.std.proofs.Common.{sym}
use Rattle.tl_rules.specs.statement.Conformance.{on_link}
use Rattle.tl_memory.{proofs.lawful.LegalBeats.few-before, proofs.messages.LinkTables.state-there}
use Rattle.tl_memory.proofs.links.Links.passes_by.Goals as goal

pub returns-in-Some : goal.returns-in-Some
returns-in-Some g c = λ levels t k legal fine.
    let link = c.args.link in
    let messages = (k.states_are link.0 c.in-Some.state.now (sym c.in-Some.ensures)).messages_are in
    c.passes_by.ensures (on_link link.0 t) messages
    (few-before levels link t c.requires.width legal c.args.x.now fine)

pub returns-in-None : goal.returns-in-None
returns-in-None g c = λ levels t k legal fine.
    state-there levels c.args.self.now (c.args.link, c.args.x.now) t k fine (sym c.in-None.ensures)
