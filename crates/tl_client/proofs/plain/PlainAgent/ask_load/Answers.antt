use Rattle.std.proofs.Common.{refl, sym}
use Rattle.tl_client.proofs.Imports.{B4, Load}
use Rattle.tl_client.specs.code.KnowsPlain.{plain_terms}
use Rattle.tl_client.proofs.endpoint.Words.{load-silent}
use Rattle.tl_client.proofs.plain_client.Asks.{asked-alone}
use Rattle.tl_client.proofs.plain.PlainAgent.ask_load.Goals as goal

pub returns-clause-reply : goal.returns-clause-reply
returns-clause-reply g c = λ e k.
    rw (asked-alone (plain_terms c.args.self.now) (Load c.args._address c.args._size) e B4
    (rw c.args.self.now.accesses refl)) refl

pub returns-clause-message : goal.returns-clause-message
returns-clause-message g c = λ e k.
    sym (load-silent (plain_terms c.args.self.now) c.args._address c.args._size e).0.message

pub returns-clause-after : goal.returns-clause-after
returns-clause-after g c = λ e k. rw (load-silent (plain_terms c.args.self.now) c.args._address c.args._size e).1 k
