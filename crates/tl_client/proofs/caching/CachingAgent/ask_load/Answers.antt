use Rattle.std.proofs.Common.{refl, sym, ◌∙◌}
use Rattle.tl_client.proofs.Imports.{Load}
use Rattle.tl_client.specs.code.KnowsCaching.{caching_terms}
use Rattle.tl_client.proofs.endpoint.Words.{load-silent}
use Rattle.tl_client.proofs.caching_client.Answered.{answered, asked-busy}
use Rattle.tl_client.proofs.caching.CachingAgent.ask_load.Goals as goal

pub returns-in-Some-clause-reply : goal.returns-in-Some-clause-reply
returns-in-Some-clause-reply g c = λ e k.
    rw (asked-busy c.args.self.now (Load c.args.address c.args.size) e c.in-Some.busy k c.in-Some.ensures) refl

pub returns-in-None-clause-reply : goal.returns-in-None-clause-reply
returns-in-None-clause-reply g c = λ e k.
    c.load.ensures
    ∙ sym (answered c.args.self.now (Load c.args.address c.args.size) e k (sym c.in-None.ensures)).reply_is

pub returns-in-Some-clause-message : goal.returns-in-Some-clause-message
returns-in-Some-clause-message g c = λ e k.
    sym (load-silent (caching_terms c.args.self.now) c.args.address c.args.size e).0.message

pub returns-in-None-clause-message : goal.returns-in-None-clause-message
returns-in-None-clause-message g c = λ e k.
    sym (load-silent (caching_terms c.args.self.now) c.args.address c.args.size e).0.message

pub returns-in-Some-clause-after : goal.returns-in-Some-clause-after
returns-in-Some-clause-after g c = λ e k.
    rw (load-silent (caching_terms c.args.self.now) c.args.address c.args.size e).1 k

pub returns-in-None-clause-after : goal.returns-in-None-clause-after
returns-in-None-clause-after g c = λ e k.
    rw (load-silent (caching_terms c.args.self.now) c.args.address c.args.size e).1 k
