use Rattle.std.proofs.Common.{rules}
use Rattle.tl_wide_event_story.proofs.LinkRecorded.{commit-words}
use Rattle.tl_wide_event_story.proofs.link_guide.LinkGuide.tell_commit.Goals as goal

pub returns : goal.returns
returns g c = λ yes.
    commit-words c.args.self.now c.args.link c.args.out.now.items c.extend_from_slice.new.self.items (search rules)
    (search rules)
