-- The one part of a beat of at most 16 bytes.
use Rattle.std.proofs.Common.{◌≡◌, ℕ, ◌+◌, ◌-◌, ◌*◌, ◌/◌, ◌%◌, ◌^◌, ◌<◌, ◌≤◌, Bool, true, false, not, cond, List, []}
use Rattle.std.proofs.Common.{◌∷◌, refl, sym, ap, ◌∙◌, arith, inl, inr, lit<}
use Rattle.std.proofs.lemmas.Bool.{cases_lt, lt-ltb, ne_eqb}
use Rattle.std.proofs.lemmas.List.{take_all}
use Rattle.std.proofs.lemmas.Nat.{and_mask, pow-add, pow_pos}
use Rattle.std.proofs.Math.Bool.{or-true}
use Rattle.std.proofs.Math.Nat.{div-div-eq-div-mul, div-eq_of_lt, mod-eq_of_lt, mod-lt, zero-div}
use Rattle.std.specs.Prelude.{◌||◌, if◌then◌else◌, Option, Some, None}
use Rattle.tl_beat.specs.declared.beat.Beat.{Beat}
use Rattle.tl_beat.specs.statement.Line.{AreLanes}
use Rattle.tl_burst.specs.statement.Burst.{bit}
use Rattle.tl_rules.specs.statement.Legality.{is_one_of}
use Rattle.tl_wide.proofs.Cut.{all-left, at}
use Rattle.tl_wide.proofs.EachBelow.{each-cong, each-true}
use Rattle.tl_wide.proofs.Reached.{by_width, reaches-all, reaches-some}
use Rattle.tl_wide.specs.statement.Pieces.{carries_of, from, left_of, mask_in, parts_from, piece_of, pieces_of}
use Rattle.tl_wide.specs.statement.Pieces.{reached_at, size_in}
use Rattle.tl_wide.specs.declared.beat.WideBeat.{WideBeat}
use Rattle.tl_wide.specs.declared.parts.Named.{Named}
use Rattle.tl_wide.specs.declared.parts.Parts.{Parts}
use Rattle.tl_wide.specs.statement.Narrowed.{lone_mask}
use Rattle.tl_wide.specs.statement.Parts.{below, has_stray, part_lanes, part_mask, parts_of, reaches_part, shown_mask}
use Rattle.tl_wide.specs.statement.Width.{IsWideWidth, part_width}

-- there is one
one-part : (w p : ℕ) → IsWideWidth w → p ≡ part_width w → w ≤ 16 → (p ≡ w) × (w / p ≡ 1)
one-part w p width is = by_width (λ w p. w ≤ 16 → (p ≡ w) × (w / p ≡ 1)) (λ le. (refl, refl)) (λ le. (refl, refl))
    (λ le. (refl, refl)) (λ le. absurd (omega arith)) (λ le. absurd (omega arith)) w p width is

-- which each message reaches
reaches-only : (w size address : ℕ) → IsWideWidth w → w ≤ 16 → reaches_part w size address 0 ≡ true
reaches-only w size address width le =
    elim (cases_lt (2 ^ size) w) [
      | inl lt ↦ some lt
      | inr large ↦ reaches-all w (part_width w) size address 0 width refl part_lt large
    ]
  where
    part_lt : 0 < w / part_width w
    part_lt = let one = one-part w (part_width w) width refl le in omega (arith, one.1)

    some : 2 ^ size < w → reaches_part w size address 0 ≡ true
    some lt =
        let one = one-part w (part_width w) width refl le in
        let has : 0 < 2 ^ size = pow_pos size in
        let w_pos : 0 < w = omega (arith, lt) in
        let rest : address % w < w = mod-lt address w_pos in
        let first : address % w < part_width w * 0 + part_width w = omega (arith, one.0, rest) in
        let last : part_width w * 0 < address % w + 2 ^ size = omega (arith, has) in
        reaches-some w (part_width w) size address 0 (2 ^ size) width refl refl lt has
        ∙ rw (
          lt-ltb (address % w) (part_width w * 0 + part_width w) first,
          lt-ltb (part_width w * 0) (address % w + 2 ^ size) last,
        ) refl

pub parts-only : (w size address : ℕ) → IsWideWidth w → w ≤ 16 → parts_of w size address ≡ 0 ∷ []
unfolding below
parts-only w size address width le =
    rw ((one-part w (part_width w) width refl le).1) (go (reaches_part w size address 0)
    (reaches-only w size address width le))
  where
    zero_alone : List ℕ
    zero_alone = 0 ∷ []

    go : (b : Bool) → b ≡ true → (if b then zero_alone else []) ≡ zero_alone
    go true e = refl
    go false e = absurd cc

from-only : (w size address : ℕ) → IsWideWidth w → w ≤ 16 → parts_from w size address 0 ≡ 0 ∷ []
unfolding from
from-only w size address width le =
    rw ((one-part w (part_width w) width refl le).1) (go (reaches_part w size address 0)
    (reaches-only w size address width le))
  where
    zero_alone : List ℕ
    zero_alone = 0 ∷ []

    go : (b : Bool) → b ≡ true → (if b then zero_alone else []) ≡ zero_alone
    go true e = refl
    go false e = absurd cc

from-past : (w size address next : ℕ) → IsWideWidth w → w ≤ 16 → 0 < next → parts_from w size address next ≡ []
unfolding from
from-past w size address next width le past =
    let one = one-part w (part_width w) width refl le in
    let none : w / part_width w - next ≡ 0 = omega (arith, one.1, past) in
    rw none refl

-- its mask is the beat's
lone-only : (w mask : ℕ) (stray : Bool) → lone_mask w stray (0 ∷ []) mask ≡ shown_mask stray w mask 0
lone-only w mask true = refl
lone-only w mask false = and_mask (part_mask w mask 0) (part_width w)
    ∙ mod-eq_of_lt (mod-lt (mask / 2 ^ (part_width w * 0)) (pow_pos (part_width w)))

-- the parts to come
pub left-only : {w p : ℕ} (x : WideBeat w) (n : Named) (stray : Bool) → IsWideWidth w → w ≤ 16
    → left_of {p = p} x (at n stray 0) ≡ piece_of x n stray (shown_mask stray w (mask_in x) 0) 0 ∷ []
left-only {w} {p} x n stray width le =
    rw (
      from-only w (size_in x) (reached_at x n.asked) width le,
      parts-only w (size_in x) (reached_at x n.asked) width le,
      lone-only w (mask_in x) stray,
    ) (go (carries_of x) (piece_of x n stray (shown_mask stray w (mask_in x) 0) 0))
  where
    go : (b : Bool) (y : Beat p) → (if b then y ∷ [] else y ∷ []) ≡ y ∷ []
    go true y = refl
    go false y = refl

pub only-none : {w p : ℕ} (x : WideBeat w) (s : Parts) → IsWideWidth w → w ≤ 16 → 0 < s.next → left_of {p = p} x s ≡ []
only-none {w} {p} x s width le past =
    rw (
      from-past w (size_in x) (reached_at x s.named.asked) s.next width le past,
      ne_eqb s.next 0 (λ z. absurd (omega (arith, past, z))),
    ) (go (carries_of x))
  where
    go : (b : Bool) → cond {A = List (Beat p)} b [] [] ≡ []
    go true = refl
    go false = refl

pub only-one : {w p : ℕ} (x : WideBeat w) (s : Parts) (b : Beat p) → IsWideWidth w → w ≤ 16 → s.next ≡ 0
    → b ≡ piece_of x s.named s.stray (shown_mask s.stray w (mask_in x) 0) 0
    → left_of x s ≡ b ∷ left_of x (at s.named s.stray 1)
only-one {w} {p} x s b width le first is =
    let all = left-only {w = w} {p = p} x s.named s.stray width le in
    let past = only-none {w = w} {p = p} x (at s.named s.stray 1) width le (lit< tt) in
    rw (first, is, past) all

-- ---- lanes beyond it

no-bit : (mask p lane : ℕ) → mask / 2 ^ p ≡ 0 → p ≤ lane → bit mask lane ≡ false
no-bit mask p lane none le =
    let apart : lane ≡ p + (lane - p) = omega (arith, le) in
    let gone : mask / 2 ^ lane ≡ 0 = rw (apart, pow-add 2 p (lane - p)) (sym (div-div-eq-div-mul mask (2 ^ p) (2 ^ (lane - p)))
    ∙ rw none (zero-div (2 ^ (lane - p)))) in
    rw gone refl

pub none-stray : (w p size address mask : ℕ) → IsWideWidth w → p ≡ part_width w → w ≤ 16 → mask / 2 ^ p ≡ 0
    → has_stray w (parts_of w size address) mask ≡ false
none-stray w p size address mask width is le none =
    rw (parts-only w size address width le) (ap not (each-cong 64 _ (λ i. true) (λ lane lt. test lane) ∙ each-true 64))
  where
    test : (lane : ℕ) → (not (bit mask lane) || is_one_of (lane / part_width w) (0 ∷ [])) ≡ true
    test lane = elim (cases_lt lane (part_width w)) [
      | inl lt ↦ rw (div-eq_of_lt lt) (or-true (not (bit mask lane)))
      | inr past ↦ rw (no-bit mask (part_width w) lane (rw is at none) past) refl
    ]

-- ---- a beat whose mask has none

-- the first part has the whole mask, and all lanes
whole-mask : (w mask : ℕ) → IsWideWidth w → w ≤ 16 → mask < 2 ^ w → part_mask w mask 0 ≡ mask
whole-mask w mask width le small =
    let one = one-part w (part_width w) width refl le in
    let none : w * 0 ≡ 0 = omega arith in
    let whole : mask / 2 ^ 0 ≡ mask = omega arith in
    rw (one.0, none, whole) (mod-eq_of_lt small)

pub whole-lanes : (w : ℕ) (lanes : Option (List ℕ)) → IsWideWidth w → w ≤ 16 → AreLanes w lanes
    → lanes ≡ part_lanes w 0 lanes
whole-lanes w None width le are = refl
whole-lanes w (Some bytes) width le are =
    let one = one-part w (part_width w) width refl le in
    let none : w * 0 ≡ 0 = omega arith in
    let count : 0 + w - 0 ≡ w = omega arith in
    rw (one.0, none, count) (ap Some (sym (take_all w bytes (omega (arith, are.0)))))

-- it becomes one beat, with its mask
pub becomes-one : {w p : ℕ} (x : WideBeat w) (n : Named) (b : Beat p) → IsWideWidth w → w ≤ 16 → mask_in x < 2 ^ w
    → b ≡ piece_of x n false (mask_in x) 0 → left_of {p = p} x (at n false 0) ≡ b ∷ []
becomes-one {w} {p} x n b width le small is =
    left-only {w = w} {p = p} x n false width le
    ∙ rw (whole-mask w (mask_in x) width le small) (ap (λ (y : Beat p). y ∷ []) (sym is))

-- which is all that it becomes
pub all-of-one : {w p : ℕ} (x : WideBeat w) (n : Named) → IsWideWidth w → w ≤ 16 → mask_in x < 2 ^ w
    → left_of {p = p} x (at n false 0) ≡ pieces_of {p = p} x n
all-of-one {w} {p} x n width le small =
    let one = one-part w (part_width w) width refl le in
    let gone : mask_in x / 2 ^ part_width w ≡ 0 = rw one.0 (div-eq_of_lt small) in
    all-left {w = w} {p = p} x n false
    (sym (none-stray w (part_width w) (size_in x) (reached_at x n.asked) (mask_in x) width refl le gone))
