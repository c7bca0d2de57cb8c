use Rattle.tl_tried.proofs.EventRows.{beat-of, commit-of}
use Rattle.tl_tried.proofs.event_covering.take_beat_of.Goals as goal

pub returns-in-Beat : goal.returns-in-Beat
returns-in-Beat g c =
    beat-of c.args.covering.now c.take.new.covering c.args.link c.args.event.now c.in-Beat.beat c.take.result c.in-Beat.is
    c.take.ensures

pub returns-in-Commit : goal.returns-in-Commit
returns-in-Commit g c =
    commit-of c.args.covering.now c.args.covering.now c.args.link c.args.event.now _ c.in-Commit.is
