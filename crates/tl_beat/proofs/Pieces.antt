-- A line's pieces between spaces, and the line that pieces make.
use Rattle.std.proofs.Common.{◌≡◌, ℕ, zero, suc, ◌+◌, ◌<◌, Bool, true, false, cond, List, [], ◌∷◌, ◌++◌, length, get_or}
use Rattle.std.proofs.Common.{refl, sym, ap, ◌∙◌, arith, drop}
use Rattle.std.specs.Prelude.{◌==◌, ⊤}
use Rattle.std.specs.List.{after_first, position_or_len}
use Rattle.std.proofs.lemmas.List.Sums.{sum_by-cons}
use Rattle.std.proofs.lemmas.Bool.{eqb-true}
use Rattle.tl_beat.specs.statement.Line.{pieces, onto_first, spaced}
use Rattle.tl_beat.specs.code.FromLeft.{spaces_in}

-- no byte of the piece is a space
abbrev pub NoSpace : List ℕ → Type 0
NoSpace [] = ⊤
NoSpace (c ∷ cs) = ((c == 32) ≡ false) × NoSpace cs

-- none of the pieces has a space
abbrev pub NoSpaces : List (List ℕ) → Type 0
NoSpaces [] = ⊤
NoSpaces (p ∷ ps) = NoSpace p × NoSpaces ps

-- a byte within a piece
pub NoSpace-get : (p : List ℕ) (i : ℕ) → NoSpace p → i < length p → (get_or p i 0 == 32) ≡ false
NoSpace-get [] i none lt = absurd (omega arith)
NoSpace-get (c ∷ cs) zero none lt = none.0
NoSpace-get (c ∷ cs) (suc i) none lt = NoSpace-get cs i none.1 (omega arith)

NoSpaces-onto_first : (c : ℕ) (ps : List (List ℕ)) → (c == 32) ≡ false → NoSpaces ps → NoSpaces (onto_first c ps)
NoSpaces-onto_first c [] not none = ((not, tt), tt)
NoSpaces-onto_first c (p ∷ ps) not none = ((not, none.0), none.1)

pub NoSpaces-pieces : (bytes : List ℕ) → NoSpaces (pieces bytes)
unfolding pieces
NoSpaces-pieces [] = (tt, tt)
NoSpaces-pieces (c ∷ cs) = go (c == 32) refl (NoSpaces-pieces cs)
  where
    go : (b : Bool) → (c == 32) ≡ b → NoSpaces (pieces cs)
        → NoSpaces (cond b ([] ∷ pieces cs) (onto_first c (pieces cs)))
    go true is h = (tt, h)
    go false is h = NoSpaces-onto_first c (pieces cs) is h

-- one byte more in the first piece
spaced-onto_first : (c : ℕ) (ps : List (List ℕ)) → 0 < length ps → spaced (onto_first c ps) ≡ c ∷ spaced ps
unfolding spaced
spaced-onto_first c [] some = absurd (omega arith)
spaced-onto_first c (p ∷ []) some = refl
spaced-onto_first c (p ∷ q ∷ ps) some = refl

length-onto_first : (c : ℕ) (ps : List (List ℕ)) → 0 < length ps → length (onto_first c ps) ≡ length ps
length-onto_first c [] some = absurd (omega arith)
length-onto_first c (p ∷ ps) some = refl

-- there is one piece more than there are spaces
pub length-pieces : (bytes : List ℕ) → length (pieces bytes) ≡ spaces_in bytes + 1
unfolding pieces
length-pieces [] = omega arith
length-pieces (c ∷ cs) =
    go (c == 32) (length-pieces cs) ∙ ap (λ n. n + 1) (sym (sum_by-cons (λ x. cond (x == 32) 1 0) c cs))
  where
    go : (b : Bool) → length (pieces cs) ≡ spaces_in cs + 1
        → length (cond b ([] ∷ pieces cs) (onto_first c (pieces cs))) ≡ cond b 1 0 + spaces_in cs + 1
    go true h = omega arith
    go false h = rw (length-onto_first c (pieces cs) (omega arith)) (omega arith)

pub pieces-some : (bytes : List ℕ) → 0 < length (pieces bytes)
pieces-some bytes = omega (arith, length-pieces bytes)

spaced-cons_empty : (ps : List (List ℕ)) → 0 < length ps → spaced ([] ∷ ps) ≡ 32 ∷ spaced ps
unfolding spaced
spaced-cons_empty [] some = absurd (omega arith)
spaced-cons_empty (p ∷ ps) some = refl

spaced-nothing : spaced ([] ∷ []) ≡ []
unfolding spaced
spaced-nothing = refl

-- the pieces of a line make the line
pub spaced-pieces : (bytes : List ℕ) → spaced (pieces bytes) ≡ bytes
unfolding pieces
spaced-pieces [] = spaced-nothing
spaced-pieces (c ∷ cs) = go (c == 32) refl (spaced-pieces cs)
  where
    go : (b : Bool) → (c == 32) ≡ b → spaced (pieces cs) ≡ cs
        → spaced (cond b ([] ∷ pieces cs) (onto_first c (pieces cs))) ≡ c ∷ cs
    go true is h = let same : c ≡ 32 = eqb-true c 32 is in spaced-cons_empty (pieces cs) (pieces-some cs) ∙ rw (same, h)
        refl
    go false is h = spaced-onto_first c (pieces cs) (pieces-some cs) ∙ rw h refl

pieces-piece : (p : List ℕ) → NoSpace p → pieces p ≡ p ∷ []
unfolding pieces
pieces-piece [] none = refl
pieces-piece (c ∷ cs) none = rw (none.0, pieces-piece cs none.1) refl

pieces-append : (p rest : List ℕ) → NoSpace p → pieces (p ++ 32 ∷ rest) ≡ p ∷ pieces rest
unfolding pieces
pieces-append [] rest none = refl
pieces-append (c ∷ cs) rest none = rw (none.0, pieces-append cs rest none.1) refl

-- pieces in a row are found again
pub pieces-spaced : (ps : List (List ℕ)) → 0 < length ps → NoSpaces ps → pieces (spaced ps) ≡ ps
unfolding spaced
pieces-spaced [] some none = absurd (omega arith)
pieces-spaced (p ∷ []) some none = pieces-piece p none.0
pieces-spaced (p ∷ q ∷ ps) some none =
    pieces-append p (spaced (q ∷ ps)) none.0 ∙ ap (λ (rest : List (List ℕ)). p ∷ rest)
    (pieces-spaced (q ∷ ps) (omega arith) none.1)

-- what stands behind the first space
pub after_first-piece : (p rest : List ℕ) → NoSpace p → after_first (λ b. b == 32) (p ++ 32 ∷ rest) ≡ rest
after_first-piece [] rest none = refl
after_first-piece (c ∷ cs) rest none =
    let n = position_or_len (λ b. b == 32) (cs ++ 32 ∷ rest) in
    let e : 1 + n + 1 ≡ suc (n + 1) = omega arith in
    rw none.0 (ap (λ (k : ℕ). drop k (c ∷ (cs ++ 32 ∷ rest))) e ∙ after_first-piece cs rest none.1)
