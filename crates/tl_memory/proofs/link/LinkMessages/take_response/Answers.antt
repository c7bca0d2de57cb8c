use Rattle.std.proofs.Common.{◌≡◌}
use Rattle.tl_beat.specs.declared.beat.Beat.{Beat}
use Rattle.tl_beat.specs.declared.channel.Channel.{Channel}
use Rattle.tl_burst.specs.statement.Part.{completes}
use Rattle.tl_burst.specs.statement.Messages.{unfinished}
use Rattle.tl_memory.proofs.messages.LinkBeats.{few-burst, with-response}
use Rattle.tl_memory.proofs.link.LinkMessages.take_response.Goals as goal

pub returns : goal.returns
returns g c = λ l t k legal fine concerned.
    let x = c.args.x.now in
    let whole : c.completes-completes.result ≡ completes (Beat.D x) (unfinished Channel.D t) =
    c.completes-completes.ensures (unfinished Channel.D t) k.d_is (few-burst l (Beat.D x) t c.requires.width legal fine) in
    with-response c.args.self.now c.take.new.self l t c.requires.width k legal x c.completes-completes.result
    c.args.block _ _ whole c.releasing_answered-self.ensures c.granting_after-self.ensures fine concerned c.take.ensures
