use Rattle.std.proofs.Common.{rules}
use Rattle.std.proofs.lemmas.Result.{IfOk-weaker}
use Rattle.tl_events.specs.declared.commit.Event.TheVariants as event
use Rattle.tl_wide_events.specs.statement.Narrowed.{address_of}
use Rattle.tl_wide_event_story.proofs.CopyFollowed.{copy-told-of}
use Rattle.tl_wide_event_story.proofs.copy_guide.CopyGuide.tell_commit.Goals as goal

pub returns : goal.returns
returns g c = IfOk-weaker c.tell.result _ _
    (λ told tells. λ yes. copy-told-of c.args.self.now c.args.numbering.now.later.items c.address.result
    (address_of c.args.commit) c.args.rule c.args.link (event.Commit c.args.narrow) c.args.out.now.items
    c.tell.new.out.items (search rules) c.address.ensures (tells yes))
    c.tell.ensures
