-- Whether one of the possible values of a place passes a test.
use Rattle.std.proofs.Common.{◌≡◌, ◌<◌, ◌≤◌, ◌+◌, ℕ, zero, suc, Bool, true, false, List, [], ◌∷◌, length, drop, get_or, refl, ◌∙◌}
use Rattle.std.specs.Prelude.{◌==◌, find, if◌then◌else◌, is_some, slice_get, Some}
use Rattle.std.proofs.Math.ListN.{drop_of_length-le}
use Rattle.std.proofs.lemmas.Bool.{eq-eqb, ne_eqb}
use Rattle.std.proofs.lemmas.List.{at_drop_more}
use Rattle.tl_bytes.specs.declared.telling.Telling.{Telling}
use Rattle.tl_bytes.specs.declared.telling.Told.{Told}
unfoldable use Rattle.tl_bytes.specs.statement.Known.{tellings_at}

module _ (test : Telling → Bool) where
  abbrev pub any : ℕ → List Told → Bool
  any p items = is_some (find test (tellings_at p items))

  -- the next one does
  pub any-here : (p : ℕ) (items : List Told) (i : ℕ) (d : Told) → i < length items → (get_or items i d).place ≡ p
      → test (get_or items i d).telling ≡ true → any p (drop i items) ≡ true
  unfolding tellings_at
  any-here p items i d lt same passes =
      at_drop_more (λ l. any p l) items i d lt ∙ rw (eq-eqb _ p same, passes) refl

  -- or doesn't
  pub any-not : (p : ℕ) (items : List Told) (i : ℕ) (d : Told) → i < length items
      → test (get_or items i d).telling ≡ false → any p (drop i items) ≡ any p (drop (i + 1) items)
  unfolding tellings_at
  any-not p items i d lt fails =
      at_drop_more (λ l. any p l) items i d lt
      ∙ one ((get_or items i d).place == p) (get_or items i d).telling (tellings_at p (drop (i + 1) items)) fails
    where
      one : (b : Bool) (e : Telling) (l : List Telling) → test e ≡ false
          → is_some (find test (if b then e ∷ l else l)) ≡ is_some (find test l)
      one true e l fails = rw fails refl
      one false e l fails = refl

  -- or is of another place
  pub any-elsewhere : (p : ℕ) (items : List Told) (i : ℕ) (d : Told) → i < length items
      → ((get_or items i d).place ≡ p → ⊥) → any p (drop i items) ≡ any p (drop (i + 1) items)
  unfolding tellings_at
  any-elsewhere p items i d lt other = at_drop_more (λ l. any p l) items i d lt ∙ rw (ne_eqb _ p other) refl

  -- none is left
  pub any-none : (p : ℕ) (items : List Told) (i : ℕ) → length items ≤ i → any p (drop i items) ≡ false
  unfolding tellings_at
  any-none p items i le = rw (drop_of_length-le items le) refl

  -- one of them that stands at a place does
  pub any-there : (p : ℕ) (items : List Told) (i : ℕ) (x : Told) → slice_get items i ≡ Some x → x.place ≡ p
      → test x.telling ≡ true → any p items ≡ true
  unfolding tellings_at
  any-there p [] i x at same passes = absurd cc
  any-there p (y ∷ items) zero x at same passes =
      let here : y ≡ x = some-is at in
      rw here (rw (eq-eqb x.place p same, passes) refl)
    where
      some-is : {X : Type 0} {a b : X} → Some a ≡ Some b → a ≡ b
      some-is e = cc
  any-there p (y ∷ items) (suc i) x at same passes =
      more (y.place == p) y.telling (tellings_at p items) (any-there p items i x at same passes)
    where
      either : (c : Bool) (e : Telling) (l : List Telling) → is_some (find test l) ≡ true
          → is_some (if c then Some e else find test l) ≡ true
      either true e l passes = refl
      either false e l passes = passes

      more : (b : Bool) (e : Telling) (l : List Telling) → is_some (find test l) ≡ true
          → is_some (find test (if b then e ∷ l else l)) ≡ true
      more true e l passes = either (test e) e l passes
      more false e l passes = passes
