use Rattle.std.proofs.Common.{ap, false, length, ◌∙◌}
use Rattle.std.specs.Prelude.{slice_index_or}
use Rattle.tl_memory.proofs.messages.LinkTables.{link-there}
use Rattle.tl_commits.specs.statement.Events.{beats_of}
use Rattle.tl_commits.proofs.BeatsJudged.{report-bare, report-full}
use Rattle.tl_commits.proofs.judge.CommitJudge.broken_report.Goals as goal

pub returns-in-Some : goal.returns-in-Some
returns-in-Some g c = λ levels complete l e k fine.
    let known = c.is_complete-complete.ensures ∙ ap (λ items. slice_index_or items c.args.link.0 false) k.complete_are in
    let is = c.in-Some.ensures in
    c.unless_kept.ensures ∙ rw is.0 (report-full complete (length levels) c.args.link.0 c.in-Some.x.now e
    c.gives_truly.result (c.gives_truly.ensures levels l complete e k.judge_is (rw is.0 at fine) k.values_are known) is.1)

pub returns : goal.returns
returns g c = λ levels complete l e k fine.
    let lt = link-there _ levels (c.args.link, c.args.beat.now) (beats_of e) fine in
    let known = c.is_complete-complete.ensures ∙ ap (λ items. slice_index_or items c.args.link.0 false) k.complete_are in
    c.unless_kept-2.ensures ∙ rw (c.keeps_stores.ensures levels l complete e k.judge_is lt k.values_are known)
    (report-bare complete (length levels) c.args.link.0 c.args.beat.now e c.in_default.ensures)
