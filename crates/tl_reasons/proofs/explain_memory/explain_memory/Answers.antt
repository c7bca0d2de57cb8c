use Rattle.std.proofs.Common.{rules}
use Rattle.tl_reasons.proofs.Testifying.{witnessed}
use Rattle.tl_reasons.proofs.explain_memory.explain_memory.Goals as goal

pub returns-clause-ok : goal.returns-clause-ok
returns-clause-ok g c =
    witnessed c.args.allow _ _ c.in_ok-inquiry.inquiry c.args.found.now.good c.in_ok-number.number c.args.rule
    c.inquire.new.verdict.items c.in_ok-inquiry.status c.args.out.now.items c.extend_from_slice.new.self.items
    c.in_ok-inquiry.ensures.ok (search rules) (search rules) (search rules) (search rules)
    c.in_ok-number.ensures.number c.requires (search rules)
