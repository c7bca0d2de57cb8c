use Rattle.tl_commit_story.proofs.LinksFollowed.{links-commit}
use Rattle.tl_commit_story.proofs.links_record.LinksRecord.take_commit.Goals as goal

pub returns : goal.returns
returns g c = λ yes link commit. links-commit c.args.self.now link c.note_commit.new.self
    c.in_ok-note_commit.ensures.last c.in_ok-note_commit.ensures.commits commit
