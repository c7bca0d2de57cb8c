use Rattle.tl_commit_story.proofs.Followed.{beat-taken}
use Rattle.tl_commit_story.proofs.grounds.Grounds.take_beat.Goals as goal

pub returns : goal.returns
returns g c = λ on.
    beat-taken c.args.self.now c.follow.new.self c.push.new.monitor c.note.new.since c.args.number c.args.link
    c.args.beat.now c.held-before.result c.held-after.result c.follow.ensures.same c.in_ok-follow.ensures.follows
    (c.in_ok-push.ensures c.if-not-branch.false) c.held-before.ensures c.held-after.ensures
    (c.in_ok-note.ensures c.args.link c.args.beat.now c.requires.spelled)
