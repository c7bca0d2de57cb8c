-- Words of numbers.
use Rattle.std.proofs.Common.{◌≡◌, ◌≢◌, ◌<◌, ◌≤◌, ◌^◌, ◌&&◌, ℕ, true, false, List, ap, sym, ◌∙◌, arith}
use Rattle.std.proofs.Common.{Result, Ok, Err}
use Rattle.std.proofs.lemmas.Bool.Decides.{nat_tests}
use Rattle.std.proofs.lemmas.Fmt.{decimal_injective}
use Rattle.std.specs.Fmt.{decimal}
use Rattle.std.specs.Prelude.{Option, Some, None, nat_le}
use Rattle.tl_command.specs.statement.Words.{IsNamed, IsNumber, Text}

-- what was read isn't spelled otherwise
pub spelled_once : {E : Type 0} (word : List ℕ) (m : ℕ) (r : Result ℕ E)
    → ((n : ℕ) → n < 2 ^ 64 → word ≡ decimal n → r ≡ Ok n) → r ≡ Ok m → word ≢ decimal m
    → (n : ℕ) → n < 2 ^ 64 → word ≢ decimal n
spelled_once word m r reads is other = λ n lt e.
    let same : Ok n ≡ Ok m = sym (reads n lt e) ∙ is in
    let equal : n ≡ m = cc in
    other (e ∙ ap decimal equal)

-- what can't be read is no number
pub unread : {E : Type 0} (word : List ℕ) (r : Result ℕ E) (fault : E)
    → ((n : ℕ) → n < 2 ^ 64 → word ≡ decimal n → r ≡ Ok n) → r ≡ Err fault → (n : ℕ) → n < 2 ^ 64 → word ≢ decimal n
unread word r fault reads is = λ n lt e. let same : Ok n ≡ Err fault = sym (reads n lt e) ∙ is in absurd cc

-- a word names one number
pub named_once : (word : Option Text) (default : Option ℕ) (m n : ℕ) → m < 2 ^ 64 → n < 2 ^ 64 → IsNamed word default m
    → IsNamed word default n → m ≡ n
named_once None default m n small low e f = let same : Some m ≡ Some n = sym e ∙ f in cc
named_once (Some word) default m n small low e f = decimal_injective m n small low (sym e ∙ f)

pub within_limits : (n least most : ℕ) → (nat_le least n && nat_le n most) ≡ true → (least ≤ n) × (n ≤ most)
within_limits n least most e = (grind (arith, nat_tests), grind (arith, nat_tests))

outside : (n least most : ℕ) → least ≤ n → n ≤ most → (nat_le least n && nat_le n most) ≡ false → ⊥
outside n least most low high e = grind (arith, nat_tests)

-- a number outside of the limits is the only one
pub not_within : (word : Option Text) (default : Option ℕ) (least most m : ℕ) → m < 2 ^ 64 → most < 2 ^ 64
    → IsNamed word default m → (nat_le least m && nat_le m most) ≡ false → (n : ℕ)
    → ¬ IsNumber word default least most n
not_within word default least most m small limit is out = λ n h.
    let same = named_once word default m n small (omega (arith, h.2, limit)) is h.0 in
    outside n least most h.1 h.2 (ap (λ (x : ℕ). nat_le least x && nat_le x most) (sym same) ∙ out)

-- none is within them where there is none
pub none_within : (word : Option Text) (default : Option ℕ) (least most : ℕ) → most < 2 ^ 64
    → ((n : ℕ) → n < 2 ^ 64 → ¬ IsNamed word default n) → (n : ℕ) → ¬ IsNumber word default least most n
none_within word default least most limit none = λ n h. none n (omega (arith, h.2, limit)) h.0
