use Rattle.std.proofs.Common.{ap, refl}
use Rattle.std.specs.Prelude.{Option}
use Rattle.tl_commit_lines.specs.declared.lines.EventLinks.{EventLinks}
use Rattle.tl_commit_lines.proofs.EventsJudged.{marked-begun, plain-first, plain-judged}
use Rattle.tl_commit_lines.proofs.lines.EventLines.start.Goals as goal

pub returns-in-None-clause-judges : goal.returns-in-None-clause-judges
returns-in-None-clause-judges c =
    plain-judged c.args.self.now _ c.args.line.now c.args.out.now.items _ c.handle_line.result
    (plain-first c.args.self.now c.args.line.now c.requires.none (rw c.in-None.is at c.in_ok-begin.ensures)) refl
    c.handle_line.ensures.judges c.handle_line.ensures.purpose

pub returns-in-Some-clause-judges : goal.returns-in-Some-clause-judges
returns-in-Some-clause-judges c =
    marked-begun c.args.self.now _ c.args.line.now c.args.out.now.items _ c.in-Some.links c.requires.none
    (ap (λ (o : Option EventLinks). record c.args.self.now { events = o }) c.replace.ensures.after) refl
    c.requires.first (rw c.in-Some.is at c.in_ok-begin.ensures)
