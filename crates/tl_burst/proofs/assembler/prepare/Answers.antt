use Rattle.std.proofs.Common.{◌∙◌, arith}
use Rattle.tl_burst.proofs.Begun.{continues_begun}
use Rattle.tl_burst.proofs.assembler.prepare.Goals as goal

pub returns-else-taken-eq0-clause-broken : goal.returns-else-taken-eq0-clause-broken
returns-else-taken-eq0-clause-broken g c = c.continues.ensures ∙ continues_begun c.args.beat.now c.args.message.now
    c.args.taken (omega arith)
