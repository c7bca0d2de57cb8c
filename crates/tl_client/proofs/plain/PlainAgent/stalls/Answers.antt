use Rattle.std.proofs.Common.{sym}
use Rattle.tl_client.specs.code.KnowsPlain.{plain_terms}
use Rattle.tl_client.proofs.plain_client.Offers.{stalls-plain}
use Rattle.tl_client.proofs.plain.PlainAgent.stalls.Goals as goal

pub returns : goal.returns
returns g c = λ e k. sym (stalls-plain (plain_terms c.args.self.now) c.args._channel c.args._beat.now e
    c.args.self.now.accesses)
