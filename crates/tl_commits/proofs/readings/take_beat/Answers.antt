use Rattle.std.proofs.Common.{◌∷◌, length, refl}
use Rattle.tl_memory.proofs.messages.LinkTables.{link-there}
use Rattle.tl_together.proofs.Following.{followed}
use Rattle.tl_events.specs.declared.commit.Event.TheVariants as event
use Rattle.tl_commits.specs.statement.Events.{beats_of}
use Rattle.tl_commits.proofs.PendingReads.{all-taken}
use Rattle.tl_commits.proofs.ReadSteps.{readings-beat}
use Rattle.tl_commits.proofs.readings.take_beat.Goals as goal

pub returns : goal.returns
unfolding beats_of
returns g c = λ levels l complete e k table shown met known.
    let link = c.args.link in
    let x = c.args.beat.now in
    let follows = (k.open_knows refl).monitor_is in
    let legal = followed _ levels l ((link, x) ∷ beats_of e) follows in
    let lt = link-there _ levels (link, x) (beats_of e) legal.0 in
    let taken = all-taken c.args.judge.now c.args.table.now link x c.args.shown levels l complete e
    c.args.readings.now.items c.take_each.new.readings.items k lt shown table c.take_each.ensures in
    c.forget_answered.ensures levels l complete (length levels) ((link, event.Beat x) ∷ e) k lt
    (readings-beat levels c.requires link x e legal.1 legal.0 complete (length levels) c.args.readings.now.items
    c.take_each.new.readings.items known met taken)
