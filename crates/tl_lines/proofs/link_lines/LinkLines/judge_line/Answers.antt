use Rattle.std.proofs.lemmas.Result.{IfOk-weaker}
use Rattle.tl_lines.specs.declared.link_lines.LinkJudge.TheVariants.{Four, Eight, Sixteen}
use Rattle.tl_lines.proofs.JudgedLines.{watched}
use Rattle.tl_lines.proofs.link_lines.LinkLines.judge_line.Goals as goal

pub returns-in-Waiting-clause-judges : goal.returns-in-Waiting-clause-judges
returns-in-Waiting-clause-judges g c = rw c.in-Waiting.is (λ said. c.start.ensures.judges said)

pub returns-in-Four-clause-judges : goal.returns-in-Four-clause-judges
returns-in-Four-clause-judges g c = rw c.in-Four.is (λ said. watched c.args.self.now.together c.args.self.now.allow Four
    (λ m lines text k. k) (λ m lines text k. k) c.in-Four.judge c.watch.new.judge c.args.line.now said c.watch.result
    c.watch.ensures)

pub returns-in-Eight-clause-judges : goal.returns-in-Eight-clause-judges
returns-in-Eight-clause-judges g c = rw c.in-Eight.is (λ said. watched c.args.self.now.together c.args.self.now.allow
    Eight (λ m lines text k. k) (λ m lines text k. k) c.in-Eight.judge c.watch-in-Eight.new.judge c.args.line.now said
    c.watch-in-Eight.result c.watch-in-Eight.ensures)

pub returns-in-Sixteen-clause-judges : goal.returns-in-Sixteen-clause-judges
returns-in-Sixteen-clause-judges g c = rw c.in-Sixteen.is (λ said. watched c.args.self.now.together
    c.args.self.now.allow Sixteen (λ m lines text k. k) (λ m lines text k. k) c.in-Sixteen.judge
    c.watch-in-Sixteen.new.judge c.args.line.now said c.watch-in-Sixteen.result c.watch-in-Sixteen.ensures)

pub returns-in-Waiting-clause-watches : goal.returns-in-Waiting-clause-watches
returns-in-Waiting-clause-watches g c = rw c.in-Waiting.is c.start.ensures.watches

pub returns-in-Four-clause-watches : goal.returns-in-Four-clause-watches
returns-in-Four-clause-watches g c =
    rw c.in-Four.is (IfOk-weaker c.watch.result _ _ (λ fault h. h c.args.self.now.together) c.watch.ensures)

pub returns-in-Eight-clause-watches : goal.returns-in-Eight-clause-watches
returns-in-Eight-clause-watches g c =
    rw c.in-Eight.is (IfOk-weaker c.watch-in-Eight.result _ _ (λ fault h. h c.args.self.now.together)
    c.watch-in-Eight.ensures)

pub returns-in-Sixteen-clause-watches : goal.returns-in-Sixteen-clause-watches
returns-in-Sixteen-clause-watches g c =
    rw c.in-Sixteen.is (IfOk-weaker c.watch-in-Sixteen.result _ _ (λ fault h. h c.args.self.now.together)
    c.watch-in-Sixteen.ensures)
