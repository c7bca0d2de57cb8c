-- Which parts a message reaches.
use Rattle.std.proofs.Common.{◌≡◌, ℕ, zero, suc, ◌+◌, ◌-◌, ◌*◌, ◌/◌, ◌%◌, ◌^◌, ◌<◌, ◌≤◌, Bool, true, false, not, cond}
use Rattle.std.proofs.Common.{[], ◌∷◌, ◌++◌, refl, sym, ap, ◌∙◌, arith, inl, inr, lit<, add-one}
use Rattle.std.proofs.lemmas.Bool.{eqb-true, lt-ltb, lt-leb, le-leb, le-ltb}
use Rattle.std.proofs.lemmas.Bool.Decides.{nat_tests}
use Rattle.std.proofs.lemmas.List.Elements.{filter-append}
use Rattle.std.proofs.lemmas.List.{append-nil, append_assoc}
use Rattle.std.proofs.Math.Nat.{pow-le-pow_right}
use Rattle.std.specs.Prelude.{◌==◌, ◌&&◌, ◌||◌, nat_le, nat_lt, filter}
use Rattle.tl_rules.specs.statement.Legality.{each_below, is_lane, is_one_of}
use Rattle.tl_wide.proofs.Naming.{among-more}
use Rattle.tl_wide.specs.statement.Pieces.{from}
use Rattle.tl_wide.specs.statement.Parts.{below, reaches_part}
use Rattle.tl_wide.specs.statement.Width.{IsWideWidth, part_width}
use Rattle.tl_wide.proofs.EachBelow.{each-cong, each-fails}

-- a part of n + 1 lanes has a lane between these two where it overlaps them
lane-between : (n first last base : ℕ) → first < last
    → each_below (suc n) (λ i. not (nat_le first (base + i) && nat_lt (base + i) last))
    ≡ not (nat_lt first (base + suc n) && nat_lt base last)
unfolding each_below
lane-between zero first last base lt =
    let same : base + 0 ≡ base = omega arith in
    let next : base + 1 ≡ suc base = omega arith in
    rw (same, next) (grind (arith, nat_tests))
lane-between (suc n) first last base lt = rw (lane-between n first last base lt) (grind (arith, nat_tests))

-- all lanes are those of a message of as many bytes as a beat
whole-reached : (n w base : ℕ) → base < w → each_below (suc n) (λ i. not (nat_lt (base + i) w)) ≡ false
whole-reached n w base lt =
    let same : base + 0 ≡ base = omega arith in
    each-fails (suc n) 0 (λ i. not (nat_lt (base + i) w)) (omega arith) (rw (same, lt-ltb base w lt) refl)

abbrev is_between : ℕ → ℕ → ℕ → ℕ → Bool
is_between w size address lane = nat_le (address % w) lane && nat_lt lane (address % w + 2 ^ size)

large : (w size address lane : ℕ) → w ≤ 2 ^ size → is_lane w size address lane ≡ nat_lt lane w
large w size address lane le = rw (le-leb w (2 ^ size) le) refl

small : (w size address lane : ℕ) → 2 ^ size < w → is_lane w size address lane ≡ is_between w size address lane
small w size address lane lt = rw (lt-leb w (2 ^ size) lt) refl

-- ---- the widths, one by one

-- what holds at each width and its parts' holds
pub by_width : (P : ℕ → ℕ → Type 0) → P 4 4 → P 8 8 → P 16 16 → P 32 16 → P 64 16 → (w p : ℕ) → IsWideWidth w
    → p ≡ part_width w → P w p
by_width P a b c d e w p (inl is) same = let few : p ≡ 4 = rw is at same in rw (is, few) a
by_width P a b c d e w p (inr (inl is)) same = let few : p ≡ 8 = rw is at same in rw (is, few) b
by_width P a b c d e w p (inr (inr (inl is))) same = let few : p ≡ 16 = rw is at same in rw (is, few) c
by_width P a b c d e w p (inr (inr (inr (inl is)))) same = let few : p ≡ 16 = rw is at same in rw (is, few) d
by_width P a b c d e w p (inr (inr (inr (inr is)))) same = let few : p ≡ 16 = rw is at same in rw (is, few) e

-- how the parts fill a beat
pub record Fills (w p : ℕ) : Type 0 where
  pub few : p ≤ 16
  pub some : suc (p - 1) ≡ p
  pub all : p * (64 / p) ≡ 64
  pub within : (part : ℕ) → part < w / p → p * part + p ≤ w
  pub below_64 : (part : ℕ) → part < 64 / p → p * part < 64
  pub count : w / p ≤ 4
  pub wide : w ≤ 64
  pub fewer : w / p ≤ 64 / p

pub fills : (w p : ℕ) → IsWideWidth w → p ≡ part_width w → Fills w p
fills = by_width Fills
    (record {
      few = omega arith;
      some = refl;
      all = refl;
      within = λ part lt. omega arith;
      below_64 =
          λ part lt. omega arith;
      count = omega arith;
      wide = omega arith;
      fewer = omega arith;
    })
    (record {
      few = omega arith;
      some = refl;
      all = refl;
      within = λ part lt. omega arith;
      below_64 =
          λ part lt. omega arith;
      count = omega arith;
      wide = omega arith;
      fewer = omega arith;
    })
    (record {
      few = omega arith;
      some = refl;
      all = refl;
      within = λ part lt. omega arith;
      below_64 =
          λ part lt. omega arith;
      count = omega arith;
      wide = omega arith;
      fewer = omega arith;
    })
    (record {
      few = omega arith;
      some = refl;
      all = refl;
      within = λ part lt. omega arith;
      below_64 =
          λ part lt. omega arith;
      count = omega arith;
      wide = omega arith;
      fewer = omega arith;
    })
    (record {
      few = omega arith;
      some = refl;
      all = refl;
      within = λ part lt. omega arith;
      below_64 =
          λ part lt. omega arith;
      count = omega arith;
      wide = omega arith;
      fewer = omega arith;
    })

not-not : (b : Bool) → not (not b) ≡ b
not-not true = refl
not-not false = refl

-- a message of as many bytes as a beat reaches each part
pub reaches-all : (w p size address part : ℕ) → IsWideWidth w → p ≡ part_width w → part < w / p → w ≤ 2 ^ size
    → reaches_part w size address part ≡ true
reaches-all w p size address part width is lt le =
    let f = fills w p width is in
    let begins : p * part < w = omega (arith, f.within part lt, f.some) in
    rw (← is, ← f.some) (ap not (each-cong (suc (p - 1)) (λ i. not (is_lane w size address (suc (p - 1) * part + i)))
    (λ i. not (nat_lt (suc (p - 1) * part + i) w))
    (λ i small_i. ap not (large w size address (suc (p - 1) * part + i) le))
    ∙ whole-reached (p - 1) w (suc (p - 1) * part) (rw f.some begins)))

overlap : (w n size address base : ℕ) → 2 ^ size < w → 0 < 2 ^ size
    → not (each_below (suc n) (λ i. not (is_lane w size address (base + i))))
    ≡ (nat_lt (address % w) (base + suc n) && nat_lt base (address % w + 2 ^ size))
overlap w n size address base lt some =
    ap not (each-cong (suc n) (λ i. not (is_lane w size address (base + i)))
    (λ i. not (is_between w size address (base + i))) (λ i small_i. ap not (small w size address (base + i) lt))
    ∙ lane-between n (address % w) (address % w + 2 ^ size) base (omega arith))
    ∙ not-not (nat_lt (address % w) (base + suc n) && nat_lt base (address % w + 2 ^ size))

-- a message of fewer bytes reaches those that its lanes overlap
pub reaches-some : (w p size address part bytes : ℕ) → IsWideWidth w → p ≡ part_width w → bytes ≡ 2 ^ size → bytes < w
    → 0 < bytes
    → reaches_part w size address part
    ≡ (nat_lt (address % w) (p * part + p) && nat_lt (p * part) (address % w + bytes))
reaches-some w p size address part bytes width is counted lt some =
    let f = fills w p width is in
    let lt_w : 2 ^ size < w = rw counted at lt in
    let some_bytes : 0 < 2 ^ size = rw counted at some in
    rw (← is, counted, ← f.some) (overlap w (p - 1) size address (suc (p - 1) * part) lt_w some_bytes)

pub sixty-four : (w p size : ℕ) → IsWideWidth w → p ≡ part_width w → 6 ≤ size → w ≤ 2 ^ size
sixty-four w p size width is le =
    let f = fills w p width is in
    let more : 2 ^ 6 ≤ 2 ^ size = pow-le-pow_right {n = 2} (lit< tt) {i = 6} {j = size} le in
    omega (arith, f.wide, more)

-- ---- lists of parts

-- the numbers from one on, of which one is the first
pub from-first : (first count : ℕ) → from first (suc count) ≡ first ∷ from (suc first) count
unfolding from
from-first first count = refl

pub from-none : (first count : ℕ) → count ≡ 0 → from first count ≡ []
unfolding from
from-none first count none = rw none refl

from-behind : (n a : ℕ) → below a ++ from a n ≡ below (a + n)
unfolding from below
from-behind zero a = let same : a + 0 ≡ a = omega arith in rw same (append-nil (below a))
from-behind (suc n) a =
    let same : a + suc n ≡ suc a + n = omega arith in
    rw same (sym (append_assoc (below a) (a ∷ []) (from (suc a) n)) ∙ from-behind n (suc a))

pub from-zero : (n : ℕ) → from 0 n ≡ below n
unfolding below
from-zero n = let same : 0 + n ≡ n = omega arith in from-behind n 0 ∙ ap below same

-- those that a test picks
pub picked : (n : ℕ) (test : ℕ → Bool) (q : ℕ) → is_one_of q (filter test (below n)) ≡ (nat_lt q n && test q)
unfolding below
picked zero test q = rw (le-ltb q 0 (omega arith)) refl
picked (suc n) test q = rw (filter-append test (below n) (n ∷ [])) (go (test n) refl (picked n test q))
  where
    or_false : (a : Bool) → (a || false) ≡ a
    or_false true = refl
    or_false false = refl

    same_test : (own : Bool) → (q == n) ≡ own → (t : Bool) → test n ≡ t → (own && test q) ≡ (own && t)
    same_test true is t e = rw (eqb-true q n is) e
    same_test false is t e = refl

    next : (a b c t : Bool) → (b && t) ≡ (b && c) → ((a && t) || (b && c)) ≡ ((a || b) && t)
    next true true c t e = rw (← e) (go_or t)
      where
        go_or : (t : Bool) → (t || t) ≡ t
        go_or true = refl
        go_or false = refl
    next true false c t e = or_false t
    next false true c t e = sym e
    next false false c t e = refl

    more : nat_lt q (suc n) ≡ (nat_lt q n || (q == n))
    more = grind (arith, nat_tests)

    and_true : (b : Bool) → (b && true) ≡ b
    and_true true = refl
    and_true false = refl

    go : (b : Bool) → test n ≡ b → is_one_of q (filter test (below n)) ≡ (nat_lt q n && test q)
        → is_one_of q (filter test (below n) ++ cond b (n ∷ []) []) ≡ (nat_lt q (suc n) && test q)
    go true e h =
        among-more (filter test (below n)) n q ∙ rw (h, more)
        (ap (λ c. (nat_lt q n && test q) || c) (sym (and_true (q == n)))
        ∙ next (nat_lt q n) (q == n) true (test q) (same_test (q == n) refl true e))
    go false e h = rw (append-nil (filter test (below n)), h, more)
        (sym (ap (λ c. (nat_lt q n && test q) || c) (and_none (q == n))
        ∙ or_false (nat_lt q n && test q)) ∙ next (nat_lt q n) (q == n) false (test q)
        (same_test (q == n) refl false e))
      where
        and_none : (b : Bool) → (b && false) ≡ false
        and_none true = refl
        and_none false = refl

-- the parts from one on, of which it is the first that may be reached
pub from-part : (n part : ℕ) → part < n → from part (n - part) ≡ part ∷ from (part + 1) (n - (part + 1))
from-part n part lt =
    let some : n - part ≡ suc (n - (part + 1)) = omega arith in
    rw (some, add-one) (from-first part (n - suc part))
