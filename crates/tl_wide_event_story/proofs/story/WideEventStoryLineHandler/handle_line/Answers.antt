use Rattle.std.proofs.Common.{◌≡◌, refl}
use Rattle.std.specs.Prelude.{Ok, Some}
use Rattle.tl_reasons.proofs.Examining.{ok_is}
use Rattle.tl_wide_event_lines.specs.code.EventWatching.{any_judged_for}
use Rattle.tl_wide_event_lines.specs.statement.JudgedWideEvents.{JudgedAny}
use Rattle.tl_wide_event_story.proofs.Storied.{story-ends, story-judged}
use Rattle.tl_wide_event_story.proofs.story.WideEventStoryLineHandler.handle_line.Goals as goal

pub returns-clause-judges : goal.returns-clause-judges
returns-clause-judges g c =
    story-judged c.args.self.now (record { lines = c.handle_line.new.self; replay = c.read.new.self })
    c.args.line.now c.args.out.now.items c.handle_line.new.out.items
    (JudgedAny (any_judged_for c.args.self.now.lines).0 (any_judged_for c.args.self.now.lines).1)
    c.in_ok-fault.fault c.in_ok-fault.ensures.judges c.in_ok-read.ensures

pub returns-clause-ends : goal.returns-clause-ends
returns-clause-ends g c = λ fault is.
    let same : c.in_ok-fault.fault ≡ Some fault = ok_is (Ok c.in_ok-fault.fault) c.in_ok-fault.fault (Some fault) refl is in
    story-ends c.args.self.now (record { lines = c.handle_line.new.self; replay = c.read.new.self }) c.args.line.now
    (rw same at c.in_ok-read.ensures)
