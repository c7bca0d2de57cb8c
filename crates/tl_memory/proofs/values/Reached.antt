-- The write of any values to the bytes of a request.
use Rattle.std.proofs.Common.{◌≡◌, ℕ, ◌&&◌, ◌+◌, ◌-◌, ◌*◌, ◌/◌, ◌%◌, ◌^◌, ◌<◌, ◌≤◌, true, false, not, List, [], ◌∷◌, ◌++◌, length, refl, sym, ap, ◌∙◌, inl, inr, arith}
use Rattle.std.proofs.Common.{append_assoc, drop, get_or, take}
use Rattle.std.specs.Prelude.{nat_le, nat_lt, Some}
use Rattle.std.proofs.lemmas.List.{at_drop_more}
use Rattle.std.proofs.lemmas.Bool.{cases_lt, le-leb, le-ltb, lt-leb, lt-ltb}
use Rattle.std.proofs.lemmas.Nat.Bits.{bit_at_ones, bit_at_ones_above}
use Rattle.tl_burst.specs.statement.Burst.{bit, reaches}
use Rattle.tl_bytes.specs.declared.write.Write.{Write}
use Rattle.tl_memory.specs.code.Early.{is_outrun_of, outrun_but, outrun_in}
use Rattle.tl_memory.specs.code.Writers.{writes_outrun}
use Rattle.tl_memory.specs.declared.early.OutrunAccess.{OutrunAccess}
use Rattle.tl_memory.proofs.values.Masked.{in-place}
use Rattle.tl_memory.proofs.values.Writing.{one_kept, one_left}

-- the mask has the bytes of the request
pub any-reach : (address size place : ℕ) → size ≤ 6 → place < 64
    → (nat_le (address % 64) place
    && (nat_lt (place - address % 64) 64 && bit (2 ^ (2 ^ size) - 1) (place - address % 64)))
    ≡ reaches address size (64 * (address / 64) + place)
any-reach address size place small lt = ones (address % 64) (2 ^ size) ∙ in-place address (2 ^ size) place
  where
    ones : (a n : ℕ) → (nat_le a place && (nat_lt (place - a) 64 && bit (2 ^ n - 1) (place - a)))
        ≡ (nat_le a place && nat_lt place (a + n))
    ones a n = elim (cases_lt place a) [
      | inl below ↦ rw (lt-leb a place below) refl
      | inr above ↦ rw (le-leb a place above, lt-ltb (place - a) 64 (omega (arith, lt))) (elim (cases_lt (place - a) n) [
        | inl inside ↦ rw (bit_at_ones n (place - a) inside, lt-ltb place (a + n) (omega (arith, inside, above))) refl
        | inr outside ↦ rw (bit_at_ones_above n (place - a) outside, le-ltb place (a + n) (omega (arith, outside, above)))
            refl
      ])
    ]

-- ---- lists of accesses whose answers outran their requests, one by one

module _ (link source : ℕ) (i : ℕ) (xs : List OutrunAccess) (d : OutrunAccess) (lt : i < length xs) where
  -- this is the one
  pub outrun-here : is_outrun_of link source (get_or xs i d) ≡ true
      → Some (get_or xs i d) ≡ outrun_in link source (drop i xs)
  outrun-here on = sym (at_drop_more (outrun_in link source) xs i d lt ∙ rw on refl)

  -- or it comes later
  pub outrun-later : is_outrun_of link source (get_or xs i d) ≡ false
      → outrun_in link source (drop (i + 1) xs) ≡ outrun_in link source (drop i xs)
  outrun-later off = sym (at_drop_more (outrun_in link source) xs i d lt ∙ rw off refl)

  -- another one is kept
  pub outrun-kept : (first items new : List OutrunAccess) → is_outrun_of link source (get_or xs i d) ≡ false
      → new ≡ items ++ get_or xs i d ∷ [] → items ≡ first ++ outrun_but link source (take i xs)
      → new ≡ first ++ outrun_but link source (take (i + 1) xs)
  outrun-kept first items new off pushed before =
      pushed ∙ ap (λ l. l ++ get_or xs i d ∷ []) before
      ∙ append_assoc first (outrun_but link source (take i xs)) (get_or xs i d ∷ [])
      ∙ ap (λ l. first ++ l)
      (one_kept (λ x. not (is_outrun_of link source x)) (λ x. x) i xs (get_or xs i d) d refl lt (ap not off))

  -- and it is left out
  pub outrun-left : (first items : List OutrunAccess) → is_outrun_of link source (get_or xs i d) ≡ true
      → items ≡ first ++ outrun_but link source (take i xs) → items ≡ first ++ outrun_but link source (take (i + 1) xs)
  outrun-left first items on before =
      before ∙ ap (λ l. first ++ l)
      (one_left (λ x. not (is_outrun_of link source x)) (λ x. x) i xs (get_or xs i d) d refl lt (ap not on))

-- the writes of one more
pub outrun-written : (first items new : List Write) (i : ℕ) (xs : List OutrunAccess) (d : OutrunAccess) → i < length xs
    → new ≡ items ++ (get_or xs i d).write ∷ [] → items ≡ first ++ writes_outrun (take i xs)
    → new ≡ first ++ writes_outrun (take (i + 1) xs)
outrun-written first items new i xs d lt pushed before =
    pushed ∙ ap (λ l. l ++ (get_or xs i d).write ∷ []) before
    ∙ append_assoc first (writes_outrun (take i xs)) ((get_or xs i d).write ∷ [])
    ∙ ap (λ l. first ++ l) (one_kept (λ x. true) (λ x. x.write) i xs (get_or xs i d) d refl lt refl)
