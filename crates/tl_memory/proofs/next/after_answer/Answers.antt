use Rattle.std.{proofs.lemmas.Result.IfOk-weaker}
use Rattle.tl_beat.specs.declared.beat.Beat.{Beat}
use Rattle.tl_bytes.specs.statement.Bytes.{pending_accesses}
use Rattle.tl_bytes.specs.statement.Early.{outrun_accesses}
use Rattle.tl_rules.specs.statement.Conformance.{on_link}
use Rattle.tl_memory.proofs.states.BlockAnswers.{answer-ends, answer-over, answered-there, unsettled-answer}
use Rattle.tl_memory.proofs.states.BlockAnswers.{unsettles-answer}
use Rattle.tl_memory.proofs.lawful.Responses.{access-untold}
use Rattle.tl_memory.proofs.states.Settling.{kept-found, none-kept, settles-answer}
use Rattle.tl_memory.proofs.next.after_answer.Goals as goal

pub returns-in-Some : goal.returns-in-Some
returns-in-Some g c = IfOk-weaker c.settled.result _ _ (λ next h n block asked t k is access here late over message now.
    let y = c.args.y.now in
    let link = c.args.link in
    let there = kept-found link.0 y.source block c.in-Some.access.now c.args.state.now.outrun (outrun_accesses t)
    k.outrun_are (rw here at is.outran) c.in-Some.ensures in
    h n block (link, Beat.D y) t k
    (settles-answer link y asked c.in-Some.access.now there.0 block t is access late
    (answer-over link y asked t is late over) there.1 there.2) now)
    c.settled.ensures

pub returns-in-None : goal.returns-in-None
returns-in-None g c = IfOk-weaker c.answered.result _ _ (λ next h n block asked t k is access here late over message now.
    let y = c.args.y.now in
    let link = c.args.link in
    let none = none-kept link.0 y.source block c.args.state.now.outrun (outrun_accesses t) k.outrun_are
    (rw here at is.outran) c.in-None.ensures in
    h n block t k (access-untold block y asked (on_link link.0 t) is.answers_it access
    (answer-ends y.opcode asked.opcode is.answers_it)) (answer-over link y asked t is late over)
    (answered-there link.0 y.source block asked (pending_accesses t) is.are_asked here)
    (unsettled-answer block link y t none) (unsettles-answer block link y t late none k.outrun_are.inside)
    message is.room now)
    c.answered.ensures
