use Rattle.std.proofs.Common.{inr, arith}
use Rattle.tl_times.proofs.Splitting.{cut_part, not_true, uncut}
use Rattle.tl_times.proofs.pieces.first_part.Goals as goal

pub returns-in-Some-clause-part : goal.returns-in-Some-clause-part
returns-in-Some-clause-part c = inr (rw (c.split_at.ensures.front, c.split_at.ensures.back) (cut_part c.args.last c.args.text.now c.in-Some.end
    c.in-Some.ensures.0.high (λ i near. not_true _ (c.in-Some.ensures.0.before i (omega arith) near)) c.in-Some.ensures.1))

pub returns-in-None-clause-part : goal.returns-in-None-clause-part
returns-in-None-clause-part c = uncut c.args.last c.args.text.now (λ i near. not_true _ (c.in-None.ensures i (omega arith) near))
