use Rattle.std.proofs.Common.{rules, length, ◌≡◌, true, false}
use Rattle.tl_commits.proofs.CommitsJudged.{SaysAll, brings-or, judged-load, lacks-copy}
use Rattle.tl_commits.proofs.judge.CommitJudge.broken_load.Goals as goal

pub returns-then-not-load : goal.returns-then-not-load
returns-then-not-load g c = λ levels complete l e k lt is.
    let old = c.args.self.now in
    let off : c.renewed-load.result.loadable ≡ false = search rules in
    let says : SaysAll c.renewed-load.result complete (length levels) c.args.link.0 c.args.piece e =
    judged-load old.judge old.values old.loads.items levels complete l c.args.link c.args.piece e c.load_of-begun.result
    c.renewed-load.result k.judge_is k.values_are k.loads_are lt is (rw c.as_slice.ensures.value at c.load_of-begun.ensures)
    (rw k.complete_are at c.renewed-load.ensures) in
    lacks-copy complete (length levels) c.args.link.0 c.args.piece c.args.value e c.renewed-load.result says off

pub returns : goal.returns
returns g c = λ levels complete l e k lt is.
    let old = c.args.self.now in
    let on : c.renewed-load.result.loadable ≡ true = search rules in
    let says : SaysAll c.renewed-load.result complete (length levels) c.args.link.0 c.args.piece e =
    judged-load old.judge old.values old.loads.items levels complete l c.args.link c.args.piece e c.load_of-begun.result
    c.renewed-load.result k.judge_is k.values_are k.loads_are lt is (rw c.as_slice.ensures.value at c.load_of-begun.ensures)
    (rw k.complete_are at c.renewed-load.ensures) in
    brings-or complete (length levels) c.args.link.0 c.args.piece c.args.value e c.renewed-load.result says
    c.brings.result c.unless_kept.result on is c.brings.ensures c.unless_kept.ensures
