use Rattle.std.proofs.Common.{rules}
use Rattle.tl_wide_event_story.proofs.CopyFollowed.{copy-begun}
use Rattle.tl_wide_event_story.proofs.copy_guide.CopyGuide.new.Goals as goal

pub returns-in-Ok-Some : goal.returns-in-Ok-Some
returns-in-Ok-Some g c = copy-begun _ c.args.links.now.may c.args.links.now.levels.items
    (record { stores = c.args.complete.now; zero = c.args.zero }) (search rules) (search rules) (search rules)
