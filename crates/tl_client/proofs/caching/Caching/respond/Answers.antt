use Rattle.std.proofs.Common.{refl, ◌∙◌, ap}
use Rattle.tl_client.specs.code.Response.{with_payload}
use Rattle.tl_client.specs.statement.Answer.{told}
use Rattle.tl_client.proofs.messages.Responses.{ends-from, nothing_left}
use Rattle.tl_client.proofs.caching.Caching.respond.Goals as goal

pub returns-clause-ends : goal.returns-clause-ends
returns-clause-ends g c = λ last fits.
    let filled = rw c.requires.response at c.if-not-complete.ensures.payload in
    ends-from c.args.self.now _ c.finish.new.self _ c.args.response.now (told c.finish.result c.finish.new.bytes)
    (ap (with_payload c.args.response.now) filled) refl refl refl refl
    refl c.finish.ensures.finished
    (c.finish.ensures.responses ∙ nothing_left c.args.response.now c.args.beat.now c.args.self.now.responses _
    c.if-not-complete.ensures.grows c.requires.response
    last) c.finish.ensures.granting fits
