use Rattle.std.proofs.Common.{refl, rules}
use Rattle.std.proofs.lemmas.Result.{IfOk-weaker}
use Rattle.tl_events.specs.declared.commit.Event.TheVariants as event
use Rattle.tl_wide_event_story.proofs.CopyFollowed.{copy-told-of}
use Rattle.tl_wide_event_story.proofs.copy_guide.CopyGuide.tell_part.Goals as goal

pub returns : goal.returns
returns g c = IfOk-weaker c.tell.result _ _
    (λ told tells. λ yes. copy-told-of c.args.self.now c.args.numbering.now.later.items c.args.address
    c.args.address c.args.rule c.args.link (event.Beat c.args.part.now) c.args.out.now.items c.tell.new.out.items
    (search rules) refl (tells yes))
    c.tell.ensures
