use Rattle.tl_times.proofs.Splitting.{digits_cut}
use Rattle.tl_times.proofs.pieces.digits.Goals as goal

pub returns : goal.returns
returns c = (
  digits_cut c.args.text.now c.split_at.result.0.now c.after_digits-rest.result.now c.saturating_sub.result c.after_digits-rest.ensures
      c.saturating_sub.ensures c.split_at.ensures.front,
  c.after_digits-rest.ensures,
)
