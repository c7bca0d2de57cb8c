-- What two tables of numbers answer.
use Rattle.std.specs.Prelude.{ℕ, ◌≡◌, ◌||◌, true, false}
use Rattle.std.specs.Prelude.{List, Option, Some}
use Rattle.std.specs.Prelude.{None, Result, Ok, Err}
use Rattle.tl_wide.specs.declared.numbers.Numbers.{Numbers}
use Rattle.tl_wide.specs.statement.Naming.{place_in, with_number}
use Rattle.tl_wide.specs.statement.Numbers.{KnowsNumbers, is_past}

-- The answer to two names in two tables, and the tables then, as that to one name in one.
abbrev pub AreNumbered : {E : Type 0} → ℕ → List ℕ → ℕ → ℕ → List ℕ → ℕ → Result (Option (ℕ × ℕ)) E → Numbers
    → Numbers → Type 0
AreNumbered limit names name more others other (Ok (Some (n, m))) after also =
    (is_past limit names name ≡ false) × (is_past more others other ≡ false)
    × (n ≡ place_in (with_number (Some name) names) name) × (m ≡ place_in (with_number (Some other) others) other)
    × KnowsNumbers after (with_number (Some name) names) × KnowsNumbers also (with_number (Some other) others)
AreNumbered limit names name more others other (Ok None) after also =
    ((is_past limit names name || is_past more others other) ≡ true) × KnowsNumbers after names
    × KnowsNumbers also others
AreNumbered limit names name more others other (Err e) after also =
    KnowsNumbers after names × KnowsNumbers also others
