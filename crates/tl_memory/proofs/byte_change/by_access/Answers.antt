use Rattle.tl_beat.specs.declared.beat.Beat.{Beat}
use Rattle.tl_bytes.specs.statement.Bytes.{pending_accesses}
use Rattle.tl_bytes.specs.statement.Early.{outrun_accesses}
use Rattle.tl_rules.specs.statement.Conformance.{on_link}
use Rattle.tl_memory.proofs.states.BlockAnswers.{answer-ends, answer-over, answered-there, unsettled-answer}
use Rattle.tl_memory.proofs.values.ByteChanges.{settled-change}
use Rattle.tl_memory.proofs.lawful.Responses.{access-untold}
use Rattle.tl_memory.proofs.states.Settling.{kept-found, none-kept, settles-answer}
use Rattle.tl_memory.proofs.byte_change.by_access.Goals as goal

pub returns-in-Some : goal.returns-in-Some
returns-in-Some g c = λ n block asked t k is access here late over message.
    let y = c.args.y.now in
    let link = c.args.link in
    let there = kept-found link.0 y.source block c.in-Some.access.now c.args.state.now.outrun (outrun_accesses t)
    k.outrun_are (rw here at is.outran) c.in-Some.ensures in
    settled-change n block c.in-Some.access.now (link, Beat.D y) t
    (settles-answer link y asked c.in-Some.access.now there.0 block t is access late
    (answer-over link y asked t is late over) there.1 there.2)

pub returns-in-None : goal.returns-in-None
returns-in-None g c = λ n block asked t k is access here late over message.
    let y = c.args.y.now in
    let link = c.args.link in
    let none = none-kept link.0 y.source block c.args.state.now.outrun (outrun_accesses t) k.outrun_are
    (rw here at is.outran) c.in-None.ensures in
    c.by_answer.ensures n block t k (access-untold block y asked (on_link link.0 t) is.answers_it access
    (answer-ends y.opcode asked.opcode is.answers_it)) (answer-over link y asked t is late over)
    (answered-there link.0 y.source block asked (pending_accesses t) is.are_asked here)
    (unsettled-answer block link y t none) message is.room
