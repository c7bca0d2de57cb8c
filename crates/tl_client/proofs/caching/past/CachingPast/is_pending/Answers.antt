use Rattle.std.proofs.Common.{rules}
use Rattle.tl_client.proofs.caching_client.Past.{request_pending, release_pending, acquire_pending, release_of_pending}
use Rattle.tl_client.proofs.caching.past.CachingPast.is_pending.Goals as goal

pub returns-in-RequestSource : goal.returns-in-RequestSource
returns-in-RequestSource g c = λ t k. request_pending c.args.self.now t c.args.key c.in-RequestSource.source _ k
    c.in-RequestSource.is (search rules)

pub returns-in-ReleaseSource : goal.returns-in-ReleaseSource
returns-in-ReleaseSource g c = λ t k. release_pending c.args.self.now t c.args.key c.in-ReleaseSource.source _ k
    c.in-ReleaseSource.is (search rules)

pub returns-in-AcquireOf : goal.returns-in-AcquireOf
returns-in-AcquireOf g c = λ t k. acquire_pending c.args.self.now t c.args.key c.in-AcquireOf.block _ k
    c.in-AcquireOf.is c.is_acquiring.ensures

pub returns-in-ReleaseOf : goal.returns-in-ReleaseOf
returns-in-ReleaseOf g c = λ t k. release_of_pending c.args.self.now t c.args.key c.in-ReleaseOf.block _ k
    c.in-ReleaseOf.is c.is_releasing.ensures
