-- Texts of numbered things, one by one.
use Rattle.std.proofs.Common.{◌≡◌, ◌<◌, ◌≤◌, ℕ, suc, ◌+◌, ◌-◌, List, ◌++◌, length, drop}
use Rattle.std.proofs.Common.{sym, ap, ◌∙◌, arith, append_assoc}
use Rattle.std.proofs.lemmas.List.{append-nil, at_drop_more, drop_all}
use Rattle.std.specs.Prelude.{slice_index_or}
use Rattle.tl_tables.specs.statement.Numbered.{from_number, numbered}

pub numbered_next : {X : Type 0} (text : ℕ → X → List ℕ) (xs : List X) (i : ℕ) (d : X) (old now more : List ℕ)
    → i < length xs → more ≡ now ++ text i (slice_index_or xs i d)
    → now ++ numbered text i (drop i xs) ≡ old ++ numbered text 0 xs
    → more ++ numbered text (i + 1) (drop (i + 1) xs) ≡ old ++ numbered text 0 xs
unfolding numbered
numbered_next text xs i d old now more lt said before =
    ap (λ (front : List ℕ). front ++ numbered text (i + 1) (drop (i + 1) xs)) said
    ∙ append_assoc now (text i (slice_index_or xs i d)) (numbered text (i + 1) (drop (i + 1) xs))
    ∙ ap (λ (back : List ℕ). now ++ back) (sym (at_drop_more (numbered text i) xs i d lt)) ∙ before

-- the same of an element that was read
pub numbered_on : {X : Type 0} (text : ℕ → X → List ℕ) (xs : List X) (i : ℕ) (x : X) (old now more : List ℕ)
    → i < length xs → x ≡ slice_index_or xs i x → more ≡ now ++ text i x
    → now ++ numbered text i (drop i xs) ≡ old ++ numbered text 0 xs
    → more ++ numbered text (i + 1) (drop (i + 1) xs) ≡ old ++ numbered text 0 xs
numbered_on text xs i x old now more lt is said before =
    numbered_next text xs i x old now more lt (said ∙ ap (λ (y : _). now ++ text i y) is) before

pub numbered_all : {X : Type 0} (text : ℕ → X → List ℕ) (xs : List X) (i : ℕ) (old now : List ℕ) → length xs ≤ i
    → now ++ numbered text i (drop i xs) ≡ old ++ numbered text 0 xs → now ≡ old ++ numbered text 0 xs
unfolding numbered
numbered_all text xs i old now past before = rw (drop_all i xs past, append-nil now) at before

-- ---- numbers

pub number_next : (text : ℕ → List ℕ) (n i : ℕ) (old now more : List ℕ) → i < n → more ≡ now ++ text i
    → now ++ from_number text i (n - i) ≡ old ++ from_number text 0 n
    → more ++ from_number text (i + 1) (n - (i + 1)) ≡ old ++ from_number text 0 n
unfolding from_number
number_next text n i old now more lt said before =
    let left : n - i ≡ suc (n - (i + 1)) = omega (arith, lt) in
    ap (λ (front : List ℕ). front ++ from_number text (i + 1) (n - (i + 1))) said
    ∙ append_assoc now (text i) (from_number text (i + 1) (n - (i + 1)))
    ∙ ap (λ (k : ℕ). now ++ from_number text i k) (sym left) ∙ before

pub number_all : (text : ℕ → List ℕ) (n i : ℕ) (old now : List ℕ) → n ≤ i
    → now ++ from_number text i (n - i) ≡ old ++ from_number text 0 n → now ≡ old ++ from_number text 0 n
unfolding from_number
number_all text n i old now past before =
    let none : n - i ≡ 0 = omega (arith, past) in
    rw (none, append-nil now) at before
