use Rattle.std.proofs.Common.{inl, inr, refl}
use Rattle.tl_tried.proofs.WideParts.{rows-follow}
use Rattle.tl_tried.proofs.wide_covering.WideCovering.push.Goals as goal

pub returns-in_default : goal.returns-in_default
returns-in_default g c = inr (refl, refl, λ t follows. (rw c.in_default.is at (c.in_ok-parts.ensures t follows)).0)

pub returns : goal.returns
returns g c = inl (
  c.in-Some.parts,
  c.in_ok-fault.ensures,
  rows-follow c.args.self.now _ _ c.in_ok-self.ensures c.rows.ensures.value c.in_ok-follow_rows.ensures,
  λ t follows. rw c.in-Some.is at (c.in_ok-parts.ensures t follows),
)
