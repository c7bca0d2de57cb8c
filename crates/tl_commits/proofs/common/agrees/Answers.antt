use Rattle.std.proofs.Common.{sym, ◌∙◌}
use Rattle.tl_bytes.specs.declared.telling.Telling.{Telling}
use Rattle.tl_commits.specs.statement.Commits.{agree}
use Rattle.tl_commits.proofs.AnyTold.{any-elsewhere, any-here, any-none, any-not}
use Rattle.tl_commits.proofs.common.agrees.Goals as goal
use Rattle.tl_commits.proofs.common.agrees.Goals.{else-telling-place-via-then-telling-place+else-agree}
use Rattle.tl_commits.proofs.common.agrees.Goals.{else-telling-place-via-else-telling-place}

pub returns-then-agree : goal.returns-then-agree
returns-then-agree c =
    sym (any-here (λ (y : Telling). agree c.args.value y.value) c.args.place c.args.told.now c.loop-telling.telling-index _
    c.loop-telling-test.true c.if-telling-place.true (sym c.agree.ensures ∙ c.if-agree.true))
    ∙ c.loop-telling.invariant

pub loop-telling-preserved : goal.loop-telling-preserved
loop-telling-preserved c = elim c.else-telling-place.branch [
  | else-telling-place-via-then-telling-place+else-agree w ↦
      sym (any-not (λ (y : Telling). agree c.args.value y.value) c.args.place c.args.told.now c.loop-telling.telling-index
      _ c.loop-telling-test.true (sym w.agree.ensures ∙ w.if-agree.false)) ∙ c.loop-telling.invariant
  | else-telling-place-via-else-telling-place w ↦ sym (any-elsewhere (λ (y : Telling). agree c.args.value y.value)
      c.args.place c.args.told.now c.loop-telling.telling-index _ c.loop-telling-test.true
      w.if-telling-place.false) ∙ c.loop-telling.invariant
]

pub returns : goal.returns
returns c =
    sym (any-none (λ (y : Telling). agree c.args.value y.value) c.args.place c.args.told.now c.loop-telling.telling-index
    c.loop-telling-test.false) ∙ c.loop-telling.invariant
