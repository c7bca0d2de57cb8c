use Rattle.std.proofs.Common.{refl}
use Rattle.tl_commit_story.proofs.Recorded.{none-recorded}
use Rattle.tl_commit_story.proofs.link_record.LinkRecord.new.Goals as goal

pub returns : goal.returns
returns g c = none-recorded c.args.together _ c.args.levels.now c.args.may
    (c.with_liberties.ensures.record g.row.W) refl (rw c.with_liberties.ensures.subject c.level_at.ensures)
    c.in_ok-allowances.ensures
