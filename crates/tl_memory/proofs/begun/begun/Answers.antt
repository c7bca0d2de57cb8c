use Rattle.std.proofs.Common.{ap, arith, refl, ◌≡◌, ◌<◌, ◌*◌, ◌^◌}
use Rattle.tl_rules.specs.statement.History.{is_grant, is_release_ack}
use Rattle.tl_memory.proofs.{states.BlockAnswers.grant-open, states.Memories.block-small}
use Rattle.std.specs.Box.{box_value}
use Rattle.std.specs.Prelude.{find, option_map}
use Rattle.tl_rules.{specs.code.Open.open_request, specs.statement.Conformance.on_link}
use Rattle.tl_bytes.specs.statement.Bytes.{is_of, pending_accesses}
use Rattle.tl_memory.{specs.declared.expected.Expected.Expected, proofs.states.BlockAnswers.answered-no_put}
use Rattle.tl_memory.{proofs.states.BlockAnswers.answered-there}
use Rattle.tl_memory.proofs.messages.Beginning.{grant-begun, none-begun, read-begun}
use Rattle.tl_memory.proofs.begun.begun.Goals as goal

pub returns-in_ok-new-in-GrantData : goal.returns-in_ok-new-in-GrantData
returns-in_ok-new-in-GrantData g c = λ n t k answers all.
    let y = c.args.y.now in
    let one = answers (ap is_release_ack c.in-GrantData.is) in
    let asked_is = grant-open c.args.link.0 y one.0 t one.1 (ap is_grant c.in-GrantData.is) in
    let small : c.args.block < 2 ^ 26 = rw (← one.2) (block-small y.source c.args.link.0 one.0 t all one.1.kept) in
    let address : c.saturating_mul.result ≡ 64 * c.args.block = omega (arith, c.saturating_mul.ensures, small) in
    let read : Expected = record {
      address = c.saturating_mul.result;
      size = 6;
      bytes = c.in_ok-bytes-in-GrantData.bytes;
    } in
    rw (c.in-GrantData.is, c.in_ok-new-in-GrantData.ensures.ok) (grant-begun read n c.args.block (open_request c.args.y.now.source (on_link c.args.link.0 t))
    one.0 t asked_is one.2 address refl (c.in_ok-bytes-in-GrantData.ensures n c.args.block t k))

pub returns-in_ok-read-in-AccessAckData : goal.returns-in_ok-read-in-AccessAckData
returns-in_ok-read-in-AccessAckData g c = λ n t k answers all.
    let one = answers (ap is_release_ack c.in-AccessAckData.is) in
    let to = answered-there c.args.link.0 c.args.y.now.source c.args.block one.0 (pending_accesses t) one.1.are_asked
    one.2 in
    rw c.in-AccessAckData.is (read-begun (option_map box_value c.in_ok-read-in-AccessAckData.read) n c.args.block
    (find (is_of c.args.link.0 c.args.y.now.source) (pending_accesses t)) t to
    (c.in_ok-read-in-AccessAckData.ensures n c.args.block t k to
    (answered-no_put c.args.link.0 c.args.y.now one.0 (pending_accesses t) one.1.are_asked one.1.answers_it
    c.in-AccessAckData.is)))

pub returns-in_default : goal.returns-in_default
returns-in_default g c = λ n t k answers all. none-begun c.args.y.now.opcode n c.args.link.0 c.args.y.now.source
    t c.in_default.not-GrantData c.in_default.not-AccessAckData
