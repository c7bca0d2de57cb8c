use Rattle.std.proofs.Common.{rules}
use Rattle.tl_client.proofs.plain_client.Past.{request_pending}
use Rattle.tl_client.proofs.plain.past.PlainPast.is_pending.Goals as goal

pub returns-in-RequestSource : goal.returns-in-RequestSource
returns-in-RequestSource g c = λ t k. request_pending c.args.self.now t c.args.key c.in-RequestSource.source _ k
    c.in-RequestSource.is (search rules)
