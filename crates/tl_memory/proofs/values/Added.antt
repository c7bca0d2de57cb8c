-- Sets of values, with those that more and more accesses may leave.
use Rattle.std.proofs.Common.{◌≡◌, ℕ, Bool, true, false, ◌||◌, ◌+◌, ◌<◌, List, [], ◌∷◌, take, get_or, length}
use Rattle.std.proofs.Common.{refl, sym, ap, ◌∙◌}
use Rattle.std.specs.Prelude.{if◌then◌else◌, is_some, Some, None}
use Rattle.tl_bytes.specs.code.Tellings.{leaves, left_as}
use Rattle.tl_bytes.specs.declared.write.Write.{Write}
use Rattle.tl_memory.specs.code.Writers.{picked}
use Rattle.tl_memory.proofs.values.Writing.{found-append, none_yet, one_kept, one_left}

or-none : (b : Bool) → (b || false) ≡ b
or-none true = refl
or-none false = refl

pub or-more : (a b c : Bool) → ((a || b) || c) ≡ (a || (b || c))
or-more true b c = refl
or-more false b c = refl

-- one write alone
left-one : (p v : ℕ) (write : Write) → left_as p v (write ∷ []) ≡ leaves p v write
left-one p v write = go (leaves p v write)
  where
    go : (b : Bool) → is_some (if b then Some write else None) ≡ b
    go true = refl
    go false = refl

module _ {X : Type 0} (keep : X → Bool) (write : X → Write) (xs : List X) (first : Bool) (p v : ℕ) where
  -- the value is there at first, or one of the first i that are kept leaves it
  abbrev pub IsAdded : ℕ → Bool → Type 0
  IsAdded i now = now ≡ (first || left_as p v (picked keep write (take i xs)))

  pub added-none : IsAdded 0 first
  added-none = sym (ap (λ l. first || left_as p v l) (sym (none_yet keep write xs)) ∙ or-none first)

  pub added-one : (i : ℕ) (x d : X) (before now : Bool) → x ≡ get_or xs i d → i < length xs → keep x ≡ true
      → IsAdded i before → now ≡ (before || leaves p v (write x)) → IsAdded (i + 1) now
  added-one i x d before now is lt on was more =
      let earlier = picked keep write (take i xs) in
      more ∙ ap (λ b. b || leaves p v (write x)) was ∙ or-more first (left_as p v earlier) (leaves p v (write x))
      ∙ ap (λ b. first || (left_as p v earlier || b)) (sym (left-one p v (write x)))
      ∙ ap (λ b. first || b) (sym (found-append (leaves p v) earlier (write x ∷ [])))
      ∙ ap (λ l. first || left_as p v l) (one_kept keep write i xs x d is lt on)

  pub added-not : (i : ℕ) (x d : X) (before : Bool) → x ≡ get_or xs i d → i < length xs → keep x ≡ false
      → IsAdded i before → IsAdded (i + 1) before
  added-not i x d before is lt off was =
      was ∙ ap (λ l. first || left_as p v l) (one_left keep write i xs x d is lt off)
