use Rattle.std.proofs.Common.{sym}
use Rattle.tl_beat.specs.declared.channel.Channel.{Channel}
use Rattle.tl_burst.specs.statement.Messages.{unfinished}
use Rattle.tl_rules.specs.statement.Conformance.{on_link}
use Rattle.tl_memory.proofs.messages.Kept.{item-there}
use Rattle.tl_memory.proofs.memory.Memory.beats_come.Goals as goal

pub returns-in-Some : goal.returns-in-Some
returns-in-Some g c = λ n t k lt.
    let link = k.links_are.states_are c.args.link.0 c.in-Some.state.now (sym c.in-Some.ensures) in
    c.count.ensures g.row.W (unfinished Channel.D (on_link c.args.link.0 t)) link.messages_are.d_is.bytes_are

pub returns-in-None : goal.returns-in-None
returns-in-None g c = λ n t k lt. absurd
    (item-there c.args.self.now.links.states.items c.args.link.0 n k.links_are.count_is lt c.in-None.ensures)
