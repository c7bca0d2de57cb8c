use Rattle.std.proofs.Common.{refl, rules}
use Rattle.tl_wide_event_story.proofs.Retold.{first-read, next-read}
use Rattle.tl_wide_event_story.proofs.replay.WideEventReplay.take_line.Goals as goal

pub returns-then-self-eq0 : goal.returns-then-self-eq0
returns-then-self-eq0 g c =
    first-read c.args.self.now c.in_ok-number.number c.args.line.now (search rules) _ (search rules)
    c.in_ok-self.ensures refl refl refl

pub returns : goal.returns
returns g c = next-read c.args.self.now c.in_ok-number.number c.args.line.now (search rules) c.follow.new.self _
    c.in_ok-follow.ensures refl refl refl refl
