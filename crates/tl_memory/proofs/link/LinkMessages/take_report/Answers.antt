use Rattle.std.proofs.Common.{refl, ap, ◌∙◌, ◌≡◌}
use Rattle.tl_beat.specs.declared.beat.Beat.{Beat}
use Rattle.tl_beat.specs.declared.channel.Channel.{Channel}
use Rattle.tl_burst.specs.statement.Part.{completes}
use Rattle.tl_burst.specs.statement.Messages.{unfinished}
use Rattle.tl_memory.specs.code.Early.{overtaken}
use Rattle.tl_memory.proofs.messages.LinkBeats.{few-burst, with-report}
use Rattle.tl_memory.proofs.link.LinkMessages.take_report.Goals as goal

pub returns-then-completes : goal.returns-then-completes
returns-then-completes g c = λ l t k legal fine.
    let x = c.args.x.now in
    let whole : c.completes-completes.result ≡ completes (Beat.C x) (unfinished Channel.C t) =
    c.completes-completes.ensures (unfinished Channel.C t) k.c_is (few-burst l (Beat.C x) t c.requires.width legal fine) in
    with-report c.args.self.now c.take.new.self l t c.requires.width k legal x c.completes-completes.result _ _ whole
    c.releasing_after-self.ensures (rw c.if-completes.true (c.overtaken-self.ensures
    ∙ ap (λ b. overtaken c.args.self.now.granting b) c.block_at.ensures)) fine c.take.ensures

pub returns-else-completes : goal.returns-else-completes
returns-else-completes g c = λ l t k legal fine.
    let x = c.args.x.now in
    let whole : c.completes-completes.result ≡ completes (Beat.C x) (unfinished Channel.C t) =
    c.completes-completes.ensures (unfinished Channel.C t) k.c_is (few-burst l (Beat.C x) t c.requires.width legal fine) in
    with-report c.args.self.now c.take.new.self l t c.requires.width k legal x c.completes-completes.result _ _ whole
    c.releasing_after-self.ensures (rw c.if-completes.false refl) fine c.take.ensures
