use Rattle.std.proofs.Common.{inl, inr, refl}
use Rattle.tl_tried.proofs.WideParts.{rows-follow}
use Rattle.tl_tried.proofs.wide_covering.WideCovering.push_commit.Goals as goal

pub returns-in_default : goal.returns-in_default
returns-in_default g c = inr (
  refl,
  refl,
  λ w t follows.
      (rw c.in_default.is at (c.in_ok-narrow_commit.ensures.narrowed w t follows)).0,
)

pub returns : goal.returns
returns g c = inl (
  refl,
  refl,
  rows-follow c.args.self.now _ _ c.in_ok-self.ensures c.rows.ensures.value c.in_ok-follow_rows.ensures,
  λ w t follows.
      let said = rw c.in-Some.is at (c.in_ok-narrow_commit.ensures.narrowed w t follows) in
      (said.0, said.2),
)
