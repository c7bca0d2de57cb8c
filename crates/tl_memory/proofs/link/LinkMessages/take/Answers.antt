use Rattle.std.proofs.Common.{rules, false, ◌≡◌}
use Rattle.tl_beat.specs.declared.channel.Channel.{Channel}
use Rattle.tl_burst.specs.statement.Messages.{unfinished}
use Rattle.tl_burst.specs.statement.Part.{is_small}
use Rattle.tl_memory.proofs.messages.LinkBeats.{large-breaks, with-ack, with-probe, with-request}
use Rattle.tl_memory.proofs.link.LinkMessages.take.Goals as goal

pub returns-then-not-is_small : goal.returns-then-not-is_small
returns-then-not-is_small g c = λ l t k legal fine concerned.
    let large : is_small c.args.beat.now ≡ false = search rules in
    large-breaks l c.args.beat.now t c.requires legal fine large

pub returns-in-A : goal.returns-in-A
returns-in-A g c = λ l t k legal fine concerned.
    with-request c.args.self.now c.take.new.self l t c.requires k legal c.args.beat.now c.in-A.x
    c.completes.result _ c.in-A.is (c.completes.ensures (unfinished Channel.A t)) c.asking_after-self.ensures
    c.prove_request.ensures fine c.take.ensures

pub returns-in-E : goal.returns-in-E
returns-in-E g c = λ l t k legal fine concerned.
    with-ack c.args.self.now l t k legal c.args.beat.now c.in-E.x _ c.in-E.is c.acknowledged-self.ensures fine

pub returns-in-B : goal.returns-in-B
returns-in-B g c = λ l t k legal fine concerned.
    with-probe c.args.self.now c.args.beat.now c.in-B.field-0 t c.in-B.is k

pub returns-in-D : goal.returns-in-D
returns-in-D g c = λ l t k legal fine concerned.
    let is = c.in-D.is in
    rw is (c.take_response.ensures l t k legal (rw is at fine) (rw is at concerned))
