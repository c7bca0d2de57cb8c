use Rattle.tl_client.proofs.messages.Responses.{filled-by}
use Rattle.tl_client.proofs.response.complete.Goals as goal

pub returns-then-completes-clause-payload : goal.returns-then-completes-clause-payload
returns-then-completes-clause-payload g c =
    let whole = rw c.if-completes.true at c.in-Ok.ensures.message in
    rw c.if-completes.true (filled-by c.take_into.new.message c.copy_payload.new.payload c.args.beat.now
    c.args.responses.now c.requires.width c.copy_payload.array_long c.copy_payload.ensures whole.1)
