use Rattle.std.proofs.Common.{ap, refl}
use Rattle.std.specs.Prelude.{Option}
use Rattle.tl_wide_event_lines.specs.declared.lines.WideEventLinks.{WideEventLinks}
use Rattle.tl_wide_event_lines.proofs.TraceJudged.{narrow-first, narrow-says, wide-begun}
use Rattle.tl_wide_event_lines.proofs.lines.WideEventLines.start.Goals as goal

pub returns-in-None-clause-judges : goal.returns-in-None-clause-judges
returns-in-None-clause-judges c =
    narrow-says c.args.self.now _ c.args.line.now c.args.out.now.items _ c.handle_line.result
    (narrow-first c.args.self.now c.args.line.now c.requires.none (rw c.in-None.is at c.in_ok-begin.ensures)) refl
    c.handle_line.ensures.judges c.handle_line.ensures.purpose

pub returns-in-Some-clause-judges : goal.returns-in-Some-clause-judges
returns-in-Some-clause-judges c =
    wide-begun c.args.self.now _ c.args.line.now c.args.out.now.items _ c.in-Some.links c.requires.none
    (ap (λ (o : Option WideEventLinks). record c.args.self.now { wide = o }) c.replace.ensures.after) refl
    c.requires.new c.requires.first (rw c.in-Some.is at c.in_ok-begin.ensures)
