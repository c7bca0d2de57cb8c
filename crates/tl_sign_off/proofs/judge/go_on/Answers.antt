use Rattle.std.proofs.Common.{rules}
use Rattle.tl_sign_off.proofs.Whole.{goes_on, stays}
use Rattle.tl_sign_off.proofs.judge.go_on.Goals as goal

pub returns-in-Clean-clause-judged : goal.returns-in-Clean-clause-judged
returns-in-Clean-clause-judged c = rw c.in-Clean.is (goes_on c.feed.result c.args.lines.now c.feed.new.self c.args.piece.now
    c.args.out.now.items c.feed.new.out.items c.feed.ensures.feeds c.feed.ensures.ends)

pub returns-in-Broken-clause-judged : goal.returns-in-Broken-clause-judged
returns-in-Broken-clause-judged c = rw c.in-Broken.is (λ input is. stays c.args.lines.now input c.args.piece.now c.args.out.now.items is)
