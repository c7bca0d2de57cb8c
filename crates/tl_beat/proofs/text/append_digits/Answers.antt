use Rattle.std.proofs.Common.{rules, arith, ◌-◌, ◌≡◌, ◌++◌, [], sym, ap, ◌∙◌, List, ℕ}
use Rattle.std.proofs.lemmas.List.{append-nil}
use Rattle.tl_beat.specs.statement.Digits.{digits}
use Rattle.tl_beat.proofs.Written.{append_one, digits-none}
use Rattle.tl_beat.proofs.text.append_digits.Goals as goal

pub loop-i-preserved : goal.loop-i-preserved
loop-i-preserved c = record {
  text = rw c.push.ensures.items (append_one c.loop-i.text.items _ c.args.count c.loop-i.i c.args.number
      c.digit_byte.result c.loop-i-test.true c.loop-i.invariant.text c.digit_byte.ensures);
  len = search rules;
}

pub returns-clause-text : goal.returns-clause-text
returns-clause-text c =
    let none : digits (c.args.count - c.loop-i.i) c.args.number ≡ [] = digits-none _ _ (omega arith) in
    sym (append-nil c.loop-i.text.items) ∙ ap (λ (t : List ℕ). c.loop-i.text.items ++ t) (sym none)
    ∙ c.loop-i.invariant.text
