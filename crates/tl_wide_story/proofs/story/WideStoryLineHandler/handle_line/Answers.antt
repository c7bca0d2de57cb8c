use Rattle.std.proofs.Common.{refl}
use Rattle.tl_wide_story.proofs.Stories.{as_replayed}
use Rattle.tl_wide_story.proofs.story.WideStoryLineHandler.handle_line.Goals as goal

pub returns-clause-judges : goal.returns-clause-judges
returns-clause-judges g c =
    as_replayed c.args.self.now (record { replay = c.handle_line.new.self; lesson = c.take_line.new.self })
    c.handle_line.new.self c.args.line.now c.args.out.now.items c.handle_line.new._out.items c.in_ok-fault.fault refl
    c.in_ok-fault.ensures.judges

pub returns-clause-ends : goal.returns-clause-ends
returns-clause-ends g c = c.in_ok-fault.ensures.ends
