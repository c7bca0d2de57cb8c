use Rattle.std.proofs.Common.{rules}
use Rattle.std.proofs.lemmas.Result.{IfOk-weaker}
use Rattle.tl_wide_event_story.proofs.CopyFollowed.{copy-told}
use Rattle.tl_wide_event_story.proofs.copy_guide.CopyGuide.tell.Goals as goal

pub returns : goal.returns
returns g c = IfOk-weaker c.tell.result _ _
    (λ told says. λ yes. copy-told c.args.self.now _ c.args.rule c.args.event.now c.args.out.now.items
    c.tell_all.new.out.items c.extend_from_slice.new.self.items c.tell.new.out.items
    (search (rules, c.deref.ensures.value, c.in_ok-extend_from_slice.ensures.items)) (says yes))
    c.tell.ensures
