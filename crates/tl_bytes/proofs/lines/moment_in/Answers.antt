use Rattle.std.proofs.Common.{sym, ◌∙◌}
use Rattle.tl_bytes.proofs.ToldLines.{line-here, line-not, line-elsewhere, line-none}
use Rattle.tl_bytes.proofs.lines.moment_in.Goals as goal
use Rattle.tl_bytes.proofs.lines.moment_in.Goals.{else-telling-place-via-then-telling-place+else-same_value}
use Rattle.tl_bytes.proofs.lines.moment_in.Goals.{else-telling-place-via-else-telling-place}

pub returns-then-same_value : goal.returns-then-same_value
returns-then-same_value c =
    sym (line-here c.args.place c.args.byte c.args.told.now c.loop-telling.telling-index _ c.loop-telling-test.true
    c.if-telling-place.true (sym c.same_value.ensures ∙ c.if-same_value.true))
    ∙ c.loop-telling.invariant

pub loop-telling-preserved : goal.loop-telling-preserved
loop-telling-preserved c = elim c.else-telling-place.branch [
  | else-telling-place-via-then-telling-place+else-same_value w ↦
      sym (line-not c.args.place c.args.byte c.args.told.now c.loop-telling.telling-index _
      c.loop-telling-test.true (sym w.same_value.ensures ∙ w.if-same_value.false)) ∙ c.loop-telling.invariant
  | else-telling-place-via-else-telling-place w ↦ sym (line-elsewhere c.args.place c.args.byte c.args.told.now
      c.loop-telling.telling-index _ c.loop-telling-test.true w.if-telling-place.false) ∙ c.loop-telling.invariant
]

pub returns : goal.returns
returns c =
    sym (line-none c.args.place c.args.byte c.args.told.now c.loop-telling.telling-index c.loop-telling-test.false)
    ∙ c.loop-telling.invariant
