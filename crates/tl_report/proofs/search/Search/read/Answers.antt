use Rattle.std.proofs.Common.{◌≡◌, ◌+◌, ◌∙◌, rules, refl}
use Rattle.tl_report.proofs.Searched.{read_good, read_last, read_on}
use Rattle.tl_report.proofs.search.Search.read.Goals as goal

pub returns-in-None-clause-reads : goal.returns-in-None-clause-reads
returns-in-None-clause-reads g c =
    let number : c.in_ok-number.number ≡ c.args.self.now.lines + 1 = search rules in
    read_good g.J.LineJudge.ways c.args.self.now c.judge.new.self c.args.line.now c.in_ok-judge.ensures.same _
    (rw c.in-None.is at c.in_ok-judge.ensures.judges) refl refl refl number refl

pub returns-then-branch-clause-reads : goal.returns-then-branch-clause-reads
returns-then-branch-clause-reads g c =
    let number : c.in_ok-number.number ≡ c.args.self.now.lines + 1 = search rules in
    read_on g.J.LineJudge.ways c.args.self.now c.judge.new.self c.args.line.now c.in_ok-judge.ensures.same _ c.note.new.self
    c.in_ok-number.number c.in-Some.fault (rw c.in-Some.is at c.in_ok-judge.ensures.judges) refl refl refl refl refl number
    (rw c.if-branch.true at c.in_ok-note-in-Some.ensures)

pub returns-else-branch-clause-reads : goal.returns-else-branch-clause-reads
returns-else-branch-clause-reads g c =
    let number : c.in_ok-number.number ≡ c.args.self.now.lines + 1 = search rules in
    read_last g.J.LineJudge.ways c.args.self.now c.judge.new.self c.args.line.now c.in_ok-judge.ensures.same _ c.note.new.self
    c.in_ok-number.number c.in-Some.fault (rw c.in-Some.is at c.in_ok-judge.ensures.judges) refl refl refl refl refl number
    (rw c.if-branch.false at c.in_ok-note-in-Some.ensures)

pub returns-in-None-clause-aim : goal.returns-in-None-clause-aim
returns-in-None-clause-aim g c = c.in_ok-judge.ensures.same.aim_is

pub returns-then-branch-clause-aim : goal.returns-then-branch-clause-aim
returns-then-branch-clause-aim g c = c.in_ok-note-in-Some.ensures.aim_is ∙ c.in_ok-judge.ensures.same.aim_is

pub returns-else-branch-clause-aim : goal.returns-else-branch-clause-aim
returns-else-branch-clause-aim g c = c.in_ok-note-in-Some.ensures.aim_is ∙ c.in_ok-judge.ensures.same.aim_is
