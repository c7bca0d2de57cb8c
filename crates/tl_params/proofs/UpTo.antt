-- Readings one after another, up to a line feed.
use Rattle.std.proofs.Common.{◌≡◌, ◌<◌, ◌≤◌, ℕ, zero, suc, ◌-◌, List, [], ◌∷◌, ◌++◌, length, true, false, refl, ap, sym}
use Rattle.std.proofs.Common.{◌∙◌, arith, append_assoc, length-append, cond}
use Rattle.std.proofs.lemmas.List.{append-nil}
use Rattle.std.specs.Prelude.{Bool, Option, Some, None, option_and_then, option_map}
use Rattle.tl_params.specs.statement.Header.{is_end}
use Rattle.tl_params.specs.code.HeaderReading.{onto, up_to}

-- those that were read, behind those that were read before
abbrev pub behind : {A : Type 0} → List A → Option (List A) → Option (List A)
behind done more = option_map (λ xs. done ++ xs) more

behind-onto : {A : Type 0} (done : List A) (x : A) (more : Option (List A))
    → behind done (onto x more) ≡ behind (done ++ x ∷ []) more
behind-onto done x None = refl
behind-onto done x (Some xs) = ap Some (sym (append_assoc done (x ∷ []) xs))

module _ {A : Type 0} (read : List ℕ → Option (A × List ℕ)) where
  pub up_to-end : (n : ℕ) (bytes : List ℕ) → is_end bytes ≡ true → up_to read n bytes ≡ Some []
  unfolding up_to
  up_to-end zero bytes end = rw end refl
  up_to-end (suc n) bytes end = rw end refl

  up_to-none : (n : ℕ) (bytes : List ℕ) → is_end bytes ≡ false → read bytes ≡ None → up_to read n bytes ≡ None
  unfolding up_to
  up_to-none zero bytes more none = rw more refl
  up_to-none (suc n) bytes more none = rw (more, none) refl

  up_to-full : (n : ℕ) (bytes : List ℕ) → n ≡ 0 → is_end bytes ≡ false → up_to read n bytes ≡ None
  unfolding up_to
  up_to-full n bytes full more = rw (full, more) refl

  pub up_to-step : (m n : ℕ) (bytes rest : List ℕ) (x : A) → m ≡ suc n → is_end bytes ≡ false
      → read bytes ≡ Some (x, rest) → up_to read m bytes ≡ onto x (up_to read n rest)
  unfolding up_to
  up_to-step m n bytes rest x one more is = rw (one, more, is) refl

  -- a loop over them
  module _ (limit : ℕ) (bytes rest : List ℕ) (done : List A) (few : length done ≤ limit)
      (same : up_to read limit bytes ≡ behind done (up_to read (limit - length done) rest)) where
    pub next-is : (x : A) (after : List ℕ) → is_end rest ≡ false → read rest ≡ Some (x, after) → length done < limit
        → up_to read limit bytes ≡ behind (done ++ x ∷ []) (up_to read (limit - length (done ++ x ∷ [])) after)
    next-is x after more is room =
        let one : limit - length done ≡ suc (limit - length (done ++ x ∷ [])) =
        omega (arith, length-append done (x ∷ [])) in
        same ∙ ap (behind done) (up_to-step _ _ rest after x one more is) ∙ behind-onto done x
        (up_to read (limit - length (done ++ x ∷ [])) after)

    pub none-is : is_end rest ≡ false → read rest ≡ None → up_to read limit bytes ≡ None
    none-is more none = same ∙ ap (behind done) (up_to-none (limit - length done) rest more none)

    pub too_many : is_end rest ≡ false → length done ≡ limit → up_to read limit bytes ≡ None
    too_many more full = same ∙ ap (behind done) (up_to-full (limit - length done) rest (omega arith) more)

    pub all-read : is_end rest ≡ true → up_to read limit bytes ≡ Some done
    all-read end = same ∙ ap (behind done) (up_to-end (limit - length done) rest end) ∙ ap Some (append-nil done)

  -- what holds of none at the end, and of one more, holds of all
  module _ (IsSo : List ℕ → List A → Type 0) (at_end : (bytes : List ℕ) → is_end bytes ≡ true → IsSo bytes [])
      (one_more : (bytes rest : List ℕ) (x : A) (xs : List A) → read bytes ≡ Some (x, rest) → IsSo rest xs
      → IsSo bytes (x ∷ xs)) where
    abbrev AreSo : ℕ → List ℕ → List A → Type 0
    AreSo n bytes xs = IsSo bytes xs × (length xs ≤ n)

    none-so : (n : ℕ) (bytes : List ℕ) (xs : List A) → is_end bytes ≡ true → Some [] ≡ Some xs → AreSo n bytes xs
    none-so n bytes xs end e =
        let none : [] ≡ xs = cc in
        rw (← none) (at_end bytes end, omega arith)

    pub all-so : (n : ℕ) (bytes : List ℕ) (xs : List A) → up_to read n bytes ≡ Some xs → AreSo n bytes xs
    unfolding up_to
    all-so zero bytes xs e = at_zero (is_end bytes) refl e
      where
        at_zero : (b : Bool) → is_end bytes ≡ b → cond b (Some []) None ≡ Some xs → AreSo 0 bytes xs
        at_zero true end f = none-so 0 bytes xs end f
        at_zero false end f = absurd cc
    all-so (suc n) bytes xs e = at_suc (is_end bytes) refl (read bytes) refl (λ rest. all-so n rest) e
      where
        at_suc : (b : Bool) → is_end bytes ≡ b → (o : Option (A × List ℕ)) → read bytes ≡ o
            → ((rest : List ℕ) (ys : List A) → up_to read n rest ≡ Some ys → AreSo n rest ys)
            → cond b (Some []) (option_and_then (λ x. onto x.0 (up_to read n x.1)) o) ≡ Some xs → AreSo (suc n) bytes xs
        at_suc true end o is more f = none-so (suc n) bytes xs end f
        at_suc false end None is more f = absurd cc
        at_suc false end (Some (x, rest)) is more f = then (up_to read n rest) refl f
          where
            then : (m : Option (List A)) → up_to read n rest ≡ m → onto x m ≡ Some xs → AreSo (suc n) bytes xs
            then None found g = absurd cc
            then (Some ys) found g =
                let (so, few) = more rest ys found in
                let whole : x ∷ ys ≡ xs = cc in
                rw (← whole) (one_more bytes rest x ys is so, omega (arith, few))
