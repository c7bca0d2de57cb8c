use Rattle.std.proofs.Common.{◌∙◌, ap, arith}
use Rattle.std.specs.Prelude.{Some}
use Rattle.tl_wide_events.proofs.CommitFaults.{err-ok}
use Rattle.tl_wide_events.proofs.EventLines.{one-commit}
use Rattle.tl_wide_events.proofs.HalvedLines.{half-read, half-spelled, halved, halves-spell, short-read, short-spelled}
use Rattle.tl_wide_events.proofs.read.read_halves.Goals as goal
use Rattle.tl_wide_events.proofs.read.read_halves.Goals.{then-line-lt24-via-else-line-lt24+then-line-gt41}
use Rattle.tl_wide_events.proofs.read.read_halves.Goals.{then-line-lt24-via-then-line-lt24}

pub returns-then-line-lt24-clause-every_spelling : goal.returns-then-line-lt24-clause-every_spelling
returns-then-line-lt24-clause-every_spelling c = λ link x s.
    let h = halved c.args.line.now link x s in
    elim c.then-line-lt24.branch [
      | then-line-lt24-via-then-line-lt24 w ↦ absurd (omega (arith, h.long, w.if-line-lt24.true))
      | then-line-lt24-via-else-line-lt24+then-line-gt41 w ↦ absurd (omega (arith, h.short, w.if-line-gt41.true))
    ]

pub returns-in_default-clause-every_spelling : goal.returns-in_default-clause-every_spelling
returns-in_default-clause-every_spelling c = λ link x s.
    absurd (c.in_default.not-Ok _ (half-spelled c.args.line.now link x c.half.result s c.half.ensures))

pub returns-in-Err-clause-every_spelling : goal.returns-in-Err-clause-every_spelling
returns-in-Err-clause-every_spelling c = λ link x s.
    err-ok c.read_commit.result _ _ c.in-Err.is
    (short-spelled c.args.line.now _ link x c.read_commit.result s (c.as_slice.ensures.value ∙ c.shortened-short.ensures)
    c.read_commit.ensures.every_spelling)

pub returns-in-Ok-read_commit-clause-spelled : goal.returns-in-Ok-read_commit-clause-spelled
returns-in-Ok-read_commit-clause-spelled c = rw c.widened.ensures
    (halves-spell c.args.line.now c.in-Ok-read_commit.link c.in-Ok-read_commit.commit c.in-Ok.high (omega arith)
    (half-read c.args.line.now c.half.result c.in-Ok.high c.half.ensures c.in-Ok.is)
    (short-read c.args.line.now _ c.in-Ok-read_commit.link c.in-Ok-read_commit.commit (c.as_slice.ensures.value ∙ c.shortened-short.ensures)
    c.in-Ok-read_commit.ensures.spelled))

pub returns-in-Ok-read_commit-clause-every_spelling : goal.returns-in-Ok-read_commit-clause-every_spelling
returns-in-Ok-read_commit-clause-every_spelling c = λ link x s.
    let spelled = halves-spell c.args.line.now c.in-Ok-read_commit.link c.in-Ok-read_commit.commit c.in-Ok.high (omega arith)
    (half-read c.args.line.now c.half.result c.in-Ok.high c.half.ensures c.in-Ok.is)
    (short-read c.args.line.now _ c.in-Ok-read_commit.link c.in-Ok-read_commit.commit (c.as_slice.ensures.value ∙ c.shortened-short.ensures)
    c.in-Ok-read_commit.ensures.spelled) in
    rw c.widened.ensures (ap Some (one-commit c.args.line.now c.in-Ok-read_commit.link link _ x spelled s))
