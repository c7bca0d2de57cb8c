use Rattle.std.proofs.Common.{[], ◌∷◌, ap, inr, refl, subst, sym}
use Rattle.tl_events.specs.declared.commit.Commit.{Commit}
use Rattle.tl_events.specs.declared.commit.Event.TheVariants as event
use Rattle.tl_events.specs.statement.CommitLine.{IsCommit}
use Rattle.tl_wide.specs.declared.narrow.Narrower.{Narrower}
use Rattle.tl_wide.specs.statement.Narrowing.{Follows}
use Rattle.tl_wide_events.specs.statement.Narrowed.{WideEvents, names_of}
use Rattle.tl_wide_events.specs.statement.WideCommitLine.{IsWideCommit}
use Rattle.tl_sessions.proofs.wide.WideJudge.begin.Goals as goal

pub returns-in-Ok-None-narrow_commit : goal.returns-in-Ok-None-narrow_commit
returns-in-Ok-None-narrow_commit g c =
    let after = λ (t : WideEvents g.row.W) (follows : Follows c.args.self.now.narrower.value (names_of t)).
    rw c.in-Ok-None-narrow_commit.field-0-is at
    (c.in-Ok-None-narrow_commit.ensures.narrowed g.row.W (names_of t)
    (subst (λ (n : Narrower). Follows n (names_of t)) (sym c.deref_mut-in-Commit.ensures.value) follows)) in
    rw c.in-Commit.is (inr (
      refl,
      (refl, refl, refl, λ t follows. (after t follows).1),
      λ t follows. (after t follows).0,
    ))

pub returns-in-Ok-Some-narrow_commit : goal.returns-in-Ok-Some-narrow_commit
returns-in-Ok-Some-narrow_commit g c =
    let valid : IsWideCommit c.in-Commit.commit = rw c.in-Commit.is at c.requires.event in
    let narrow_valid : IsCommit c.in-Ok-Some-narrow_commit.commit =
    rw c.in-Ok-Some-narrow_commit.field-0-is at (c.in-Ok-Some-narrow_commit.ensures.valid valid) in
    let after = λ (t : WideEvents g.row.W) (follows : Follows c.args.self.now.narrower.value (names_of t)).
    rw c.in-Ok-Some-narrow_commit.field-0-is at
    (c.in-Ok-Some-narrow_commit.ensures.narrowed g.row.W (names_of t)
    (subst (λ (n : Narrower). Follows n (names_of t)) (sym c.deref_mut-in-Commit.ensures.value) follows)) in
    rw c.in-Commit.is (
      refl,
      refl,
      refl,
      narrow_valid,
      λ t follows.
          let (within, is, goes) = after t follows in (within, ap (λ (y : Commit). event.Commit y ∷ []) is, goes),
    )
