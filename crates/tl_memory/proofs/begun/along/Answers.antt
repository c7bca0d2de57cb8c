use Rattle.std.proofs.Common.{ap}
use Rattle.std.specs.{Box.box_value, Prelude.option_map}
use Rattle.tl_rules.specs.statement.History.{is_release_ack}
use Rattle.tl_bytes.specs.statement.Bytes.{pending_accesses}
use Rattle.tl_memory.proofs.{messages.Beginning.none-again, messages.Beginning.read-again}
use Rattle.tl_memory.proofs.{states.BlockAnswers.answered-there}
use Rattle.tl_memory.proofs.begun.along.Goals as goal

pub returns-in_ok-read-in-AccessAckData : goal.returns-in_ok-read-in-AccessAckData
returns-in_ok-read-in-AccessAckData g c = λ n block t k answers.
    let y = c.args.y.now in
    let one = answers (ap is_release_ack c.in-AccessAckData.is) in
    let to = answered-there c.args.link.0 y.source block one.0 (pending_accesses t) one.1.are_asked one.2 in
    read-again (option_map box_value c.in_ok-read-in-AccessAckData.read) y.opcode n c.args.link.0 y.source t c.in-AccessAckData.is
    (c.in_ok-read-in-AccessAckData.ensures n block t k to)

pub returns-in_default : goal.returns-in_default
returns-in_default g c = λ n block t k answers. none-again c.args.y.now.opcode n c.args.link.0 c.args.y.now.source t
    c.in_default.not-AccessAckData
