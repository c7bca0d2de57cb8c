use Rattle.std.proofs.Common.{sym, ◌∙◌}
use Rattle.std.specs.Prelude.{find, is_some}
use Rattle.tl_bytes.specs.declared.telling.Telling.{Telling}
use Rattle.tl_bytes.specs.statement.Known.{tellings_at}
use Rattle.tl_commits.specs.statement.Commits.{agree}
use Rattle.tl_commits.proofs.AnyTold.{any-elsewhere, any-here, any-none, any-not}
use Rattle.tl_commits.proofs.common.have_common.Goals as goal
use Rattle.tl_commits.proofs.common.have_common.Goals.{else-telling-place-via-then-telling-place+else-agrees}
use Rattle.tl_commits.proofs.common.have_common.Goals.{else-telling-place-via-else-telling-place}

pub returns-then-agrees : goal.returns-then-agrees
returns-then-agrees c =
    sym (any-here (λ (x : Telling). is_some (find (λ (y : Telling). agree x.value y.value)
    (tellings_at c.args.place c.args.those.now))) c.args.place c.args.these.now c.loop-telling.telling-index _
    c.loop-telling-test.true c.if-telling-place.true (sym c.agrees.ensures ∙ c.if-agrees.true))
    ∙ c.loop-telling.invariant

pub loop-telling-preserved : goal.loop-telling-preserved
loop-telling-preserved c = elim c.else-telling-place.branch [
  | else-telling-place-via-then-telling-place+else-agrees w ↦
      sym (any-not (λ (x : Telling). is_some (find (λ (y : Telling). agree x.value y.value)
      (tellings_at c.args.place c.args.those.now))) c.args.place c.args.these.now c.loop-telling.telling-index
      _ c.loop-telling-test.true (sym w.agrees.ensures ∙ w.if-agrees.false)) ∙ c.loop-telling.invariant
  | else-telling-place-via-else-telling-place w ↦
      sym (any-elsewhere (λ (x : Telling). is_some (find (λ (y : Telling). agree x.value y.value)
      (tellings_at c.args.place c.args.those.now)))
      c.args.place c.args.these.now c.loop-telling.telling-index _ c.loop-telling-test.true
      w.if-telling-place.false) ∙ c.loop-telling.invariant
]

pub returns : goal.returns
returns c =
    sym (any-none (λ (x : Telling). is_some (find (λ (y : Telling). agree x.value y.value)
    (tellings_at c.args.place c.args.those.now))) c.args.place c.args.these.now c.loop-telling.telling-index
    c.loop-telling-test.false) ∙ c.loop-telling.invariant
