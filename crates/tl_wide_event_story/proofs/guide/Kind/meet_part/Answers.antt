use Rattle.std.proofs.Common.{refl}
use Rattle.tl_wide_event_story.proofs.guide.Kind.meet_part.Goals as goal

pub returns-in-Taken : goal.returns-in-Taken
returns-in-Taken g c = (rw c.in-Taken.is at c.in_ok-meet.ensures, refl)

pub returns : goal.returns
returns g c = (
  c.meet.new.out.items,
  rw c.deref.ensures.value at c.in_ok-extend_from_slice-in-AtFault.ensures.items,
  rw c.in-AtFault.is at c.in_ok-meet.ensures,
)
