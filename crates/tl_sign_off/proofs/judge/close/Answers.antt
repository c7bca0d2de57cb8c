use Rattle.tl_sign_off.proofs.Whole.{closed, closes}
use Rattle.tl_sign_off.proofs.judge.close.Goals as goal

pub returns-in-Clean-clause-judged : goal.returns-in-Clean-clause-judged
returns-in-Clean-clause-judged c = rw c.in-Clean.is (closes c.finish.result c.args.lines.now c.args.out.now.items c.finish.new.out.items
    c.finish.ensures.finishes c.finish.ensures.has)

pub returns-in-Broken-clause-judged : goal.returns-in-Broken-clause-judged
returns-in-Broken-clause-judged c = rw c.in-Broken.is (λ input is. closed c.args.lines.now input c.args.out.now.items is)
