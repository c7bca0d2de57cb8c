use Rattle.std.proofs.Common.{sym, ◌∙◌}
use Rattle.tl_bytes.proofs.Told.{seen-here, seen-not, seen-elsewhere, seen-none}
use Rattle.tl_bytes.proofs.tellings.is_told_as.Goals as goal
use Rattle.tl_bytes.proofs.tellings.is_told_as.Goals.{else-telling-place-via-then-telling-place+else-could_be}
use Rattle.tl_bytes.proofs.tellings.is_told_as.Goals.{else-telling-place-via-else-telling-place}

pub returns-then-could_be : goal.returns-then-could_be
returns-then-could_be c =
    sym (seen-here c.args.place c.args.byte c.args.told.now c.loop-telling.telling-index _ c.loop-telling-test.true
    c.if-telling-place.true (sym c.could_be.ensures ∙ c.if-could_be.true))
    ∙ c.loop-telling.invariant

pub loop-telling-preserved : goal.loop-telling-preserved
loop-telling-preserved c = elim c.else-telling-place.branch [
  | else-telling-place-via-then-telling-place+else-could_be w ↦
      sym (seen-not c.args.place c.args.byte c.args.told.now c.loop-telling.telling-index _
      c.loop-telling-test.true (sym w.could_be.ensures ∙ w.if-could_be.false)) ∙ c.loop-telling.invariant
  | else-telling-place-via-else-telling-place w ↦ sym (seen-elsewhere c.args.place c.args.byte c.args.told.now
      c.loop-telling.telling-index _ c.loop-telling-test.true w.if-telling-place.false) ∙ c.loop-telling.invariant
]

pub returns : goal.returns
returns c =
    sym (seen-none c.args.place c.args.byte c.args.told.now c.loop-telling.telling-index c.loop-telling-test.false)
    ∙ c.loop-telling.invariant
