-- A beat that is no wider than those of the rules has one part, which is all of it.
use Rattle.std.proofs.Common.{◌≡◌, ℕ, zero, suc, ◌+◌, ◌-◌, ◌*◌, ◌/◌, ◌%◌, ◌^◌, ◌<◌, ◌≤◌, Bool, true, false, not, ◌&&◌, ◌||◌}
use Rattle.std.proofs.Common.{List, [], ◌∷◌, take, refl, sym, ap, ◌∙◌, subst, arith, inl, inr, lit<}
use Rattle.std.specs.Prelude.{bit_and, filter, if◌then◌else◌, nat_le, nat_lt, Option, Some, None, slice_range, ◌==◌}
use Rattle.std.proofs.Math.Nat.{div-eq_of_lt, mod-eq_of_lt, pow-le-pow_right}
use Rattle.std.proofs.lemmas.Bool.{and_right, cases_eq, cases_lt, le-leb, lt-ltb}
use Rattle.std.proofs.lemmas.List.{take_all}
use Rattle.std.proofs.lemmas.Nat.{and_mask, mod_below, pow_pos}
use Rattle.tl_beat.{specs.statement.Line.AreLanes, specs.statement.Width.IsWidth}
use Rattle.tl_burst.specs.statement.Burst.{bit}
use Rattle.tl_rules.proofs.Widths.{width-bounds}
use Rattle.tl_rules.specs.statement.Legality.{each_below, is_lane, is_one_of}
use Rattle.tl_wide.specs.statement.Parts.{below, common_mask, has_stray, part_lanes, part_mask, parts_of, reaches_part}
use Rattle.tl_wide.specs.statement.Width.{part_width}

-- ---- tests of each number

each-fails : (n i : ℕ) (test : ℕ → Bool) → i < n → test i ≡ false → each_below n test ≡ false
unfolding each_below
each-fails zero i test lt e = absurd (omega (arith, lt))
each-fails (suc n) i test lt e = elim (cases_eq i n) [
  | inl same ↦ let here : test n ≡ false = ap test (sym same) ∙ e in rw here refl
  | inr other ↦ and_right (test n) (each_below n test) (each-fails n i test (omega (arith, lt, other)) e)
]

each-holds : (n : ℕ) (test : ℕ → Bool) → ((i : ℕ) → i < n → test i ≡ true) → each_below n test ≡ true
unfolding each_below
each-holds zero test all = refl
each-holds (suc n) test all =
    rw (all n (omega arith), each-holds n test (λ i lt. all i (omega (arith, lt)))) refl

or-true : (b : Bool) → (b || true) ≡ true
or-true true = refl
or-true false = refl

keep-one : (b : Bool) (xs : List ℕ) → b ≡ true → (if b then xs else []) ≡ xs
keep-one b xs e = rw e refl

module _ (w : ℕ) (width : IsWidth w) where
  pub part-is : part_width w ≡ w
  part-is = elim width [ inl e ↦ rw e refl | inr more ↦ elim more [ inl e ↦ rw e refl | inr e ↦ rw e refl ] ]

  in-beat : (address : ℕ) → address % w < w
  in-beat address = let bounds = width-bounds w width in mod_below address w (omega (arith, bounds.0))

  -- ---- the part

  lane-self : (size address : ℕ) → is_lane w size address (address % w) ≡ true
  lane-self size address = go (nat_le w (2 ^ size))
    where
      go : (b : Bool) → (if b then nat_lt (address % w) w
          else nat_le (address % w) (address % w) && nat_lt (address % w) (address % w + 2 ^ size)) ≡ true
      go true = lt-ltb (address % w) w (in-beat address)
      go false =
          let some = pow_pos size in
          rw (
            le-leb (address % w) (address % w) (omega arith),
            lt-ltb (address % w) (address % w + 2 ^ size) (omega (arith, some)),
          ) refl

  reaches-first : (size address : ℕ) → reaches_part w size address 0 ≡ true
  reaches-first size address =
      let place : part_width w * 0 + address % w ≡ address % w = omega arith in
      ap not (each-fails (part_width w) (address % w)
      (λ lane. not (is_lane w size address (part_width w * 0 + lane)))
      (subst (λ n. address % w < n) (sym part-is) (in-beat address))
      (ap not (ap (is_lane w size address) place ∙ lane-self size address)))

  below-one : below (w / part_width w) ≡ 0 ∷ []
  unfolding below
  below-one = elim width [ inl e ↦ rw e refl | inr more ↦ elim more [ inl e ↦ rw e refl | inr e ↦ rw e refl ] ]

  pub one-part : (size address : ℕ) → parts_of w size address ≡ 0 ∷ []
  one-part size address = ap (filter (reaches_part w size address)) below-one
      ∙ keep-one (reaches_part w size address 0) (0 ∷ []) (reaches-first size address)

  -- ---- its mask

  pub no-stray : (mask : ℕ) → mask < 2 ^ part_width w → has_stray w (0 ∷ []) mask ≡ false
  no-stray mask small =
      ap not (each-holds 64 (λ lane. not (bit mask lane) || is_one_of (lane / part_width w) (0 ∷ []))
      (λ lane lt. elim (cases_lt lane (part_width w)) [
        | inl low ↦
            ap (λ n. not (bit mask lane) || ((n == 0) || false)) (div-eq_of_lt low) ∙ or-true (not (bit mask lane))
        | inr high ↦
            let more : 2 ^ part_width w ≤ 2 ^ lane = pow-le-pow_right {n = 2} (lit< tt) {i = part_width w} {j = lane} high in
            let less : mask < 2 ^ lane = omega (arith, small, more) in
            ap (λ q. not (q % 2 == 1) || is_one_of (lane / part_width w) (0 ∷ [])) (div-eq_of_lt less)
      ]))

  pub first-mask : (mask : ℕ) → mask < 2 ^ part_width w → part_mask w mask 0 ≡ mask
  first-mask mask small =
      let none : part_width w * 0 ≡ 0 = omega arith in
      let whole : mask / 2 ^ 0 ≡ mask = omega arith in
      ap (λ p. mask / 2 ^ p % 2 ^ part_width w) none ∙ ap (λ m. m % 2 ^ part_width w) whole ∙ mod-eq_of_lt small

  pub lone-mask : (mask : ℕ) → mask < 2 ^ part_width w → common_mask w (0 ∷ []) mask ≡ mask
  lone-mask mask small =
      ap (λ m. bit_and m (2 ^ part_width w - 1)) (first-mask mask small)
      ∙ and_mask mask (part_width w) ∙ mod-eq_of_lt small

  -- ---- its lanes

  pub first-lanes : (lanes : Option (List ℕ)) → AreLanes (part_width w) lanes → part_lanes w 0 lanes ≡ lanes
  first-lanes None are = refl
  first-lanes (Some bytes) are =
      let none : part_width w * 0 ≡ 0 = omega arith in
      let count : 0 + part_width w - 0 ≡ part_width w = omega arith in
      ap (λ p. Some (slice_range bytes p (p + part_width w))) none
      ∙ ap (λ n. Some (take n bytes)) count ∙ ap Some (take_all (part_width w) bytes (omega (arith, are.0)))
