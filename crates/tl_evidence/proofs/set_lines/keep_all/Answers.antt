use Rattle.std.proofs.Common.{arith}
use Rattle.tl_bytes.specs.statement.Known.{tellings_at}
use Rattle.tl_evidence.proofs.Setting.{last-kept, next-kept}
use Rattle.tl_evidence.proofs.set_lines.keep_all.Goals as goal

pub loop-at-preserved : goal.loop-at-preserved
loop-at-preserved c = record {
  long = c.keep_new.ensures.long;
  kept = λ p v small fits.
      next-kept p v (tellings_at p c.args.before.now) c.args.now.now c.loop-at.at c.args.count _ _ _ _
      c.loop-at-test.true (c.keep_new.ensures.kept p v small fits) (c.loop-at.invariant.kept p v small fits);
}

pub returns-clause-kept : goal.returns-clause-kept
returns-clause-kept c = λ p v small fits.
    last-kept p v (tellings_at p c.args.before.now) c.args.now.now c.loop-at.at c.args.count _ _
    (omega (arith, c.loop-at-test.false)) (c.loop-at.invariant.kept p v small fits)
