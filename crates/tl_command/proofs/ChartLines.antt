-- Words that name lines.
use Rattle.std.proofs.Common.{◌≡◌, ◌<◌, ◌^◌, ℕ, List, ◌∙◌, sym, arith}
use Rattle.std.specs.Prelude.{Option, Some, None, MatchOption}
use Rattle.std.specs.Fmt.{decimal}
use Rattle.std.proofs.lemmas.Fmt.{decimal_injective}
use Rattle.tl_command.specs.code.ChartReading.{AreOrdered, AreParts}
use Rattle.tl_command.specs.statement.ChartWords.{SpellsLines}

-- a word of these parts, which are these numbers, names these lines or none
pub spelled_lines : (word front back : List ℕ) (a b : ℕ) (r : Option (ℕ × ℕ)) → a < 2 ^ 64 → b < 2 ^ 64
    → AreParts word front back → front ≡ decimal a → back ≡ decimal b
    → MatchOption r (¬ AreOrdered a b) (λ x. (x ≡ (a, b)) × AreOrdered a b)
    → MatchOption r ((lines : ℕ × ℕ) → ¬ SpellsLines word lines) (SpellsLines word)
spelled_lines word front back a b None low small parts first last none = λ lines spells.
    let fits : lines.0 < 2 ^ 64 = omega (arith, spells.in_order, spells.fits) in
    let one : lines.0 ≡ a = decimal_injective lines.0 a fits low (sym spells.first ∙ sym parts.front_is ∙ first) in
    let two : lines.1 ≡ b = decimal_injective lines.1 b spells.fits small
    (sym spells.last ∙ sym parts.back_is ∙ last) in
    none (record {
      from_one = omega (arith, one, spells.from_one);
      in_order = omega (arith, one, two, spells.in_order);
    })
spelled_lines word front back a b (Some x) low small parts first last some = rw some.0 (record {
  dash = parts.dash;
  first = sym parts.front_is ∙ first;
  last = sym parts.back_is ∙ last;
  from_one = some.1.from_one;
  in_order = some.1.in_order;
  fits = small;
})
