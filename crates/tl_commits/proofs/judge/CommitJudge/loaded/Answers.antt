use Rattle.std.proofs.Common.{length}
use Rattle.tl_commits.proofs.CommitsJudged.{SaysAll, judged-load}
use Rattle.tl_commits.proofs.judge.CommitJudge.loaded.Goals as goal

pub returns : goal.returns
returns g c = λ levels complete l e k lt is i v few fits.
    let old = c.args.self.now in
    let says : SaysAll c.renewed.result complete (length levels) c.args.link.0 c.args.piece e =
    judged-load old.judge old.values old.loads.items levels complete l c.args.link c.args.piece e c.load_of-begun.result
    c.renewed.result k.judge_is k.values_are k.loads_are lt is (rw c.as_slice.ensures.value at c.load_of-begun.ensures)
    (rw k.complete_are at c.renewed.ensures) in
    says.values_are i v few fits
