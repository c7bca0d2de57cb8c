-- Names that are numbered by their first appearance, and all other numbers behind them.
use Rattle.tl_renaming.specs.statement.Renamed.{IsOneToOne}
use Rattle.std.proofs.Common.{◌≡◌, ℕ, suc, ◌+◌, ◌<◌, Bool, true, false, ◌||◌, List, [], ◌∷◌, ◌++◌, length, refl, sym, ap, ◌∙◌}
use Rattle.std.proofs.Common.{append_assoc, arith}
use Rattle.std.specs.Prelude.{◌==◌, if◌then◌else◌}
use Rattle.std.proofs.lemmas.Bool.{eq-eqb, eqb-true}
use Rattle.std.proofs.lemmas.List.{append-nil}
use Rattle.tl_rules.specs.statement.Legality.{is_one_of}
use Rattle.tl_wide.specs.statement.Naming.{place_in}

-- a one-to-one map of all numbers, which gives each of these names its place
abbrev pub spread : List ℕ → ℕ → ℕ
spread names k = if is_one_of k names then place_in names k else length names + k

place-below : (names : List ℕ) (k : ℕ) → is_one_of k names ≡ true → place_in names k < length names
unfolding place_in
place-below [] k among = absurd cc
place-below (m ∷ names) k among = go (k == m) (place-below names k) among
  where
    go : (b : Bool) → (is_one_of k names ≡ true → place_in names k < length names) → (b || is_one_of k names) ≡ true
        → (if b then 0 else suc (place_in names k)) < suc (length names)
    go true rest e = omega arith
    go false rest e = let lt = rest e in omega (arith, lt)

one-place : (names : List ℕ) (m n : ℕ) → is_one_of m names ≡ true → is_one_of n names ≡ true
    → place_in names m ≡ place_in names n → m ≡ n
unfolding place_in
one-place [] m n a b e = absurd cc
one-place (x ∷ names) m n a b e = go (m == x) refl (n == x) refl (one-place names m n) a b e
  where
    go : (p : Bool) → (m == x) ≡ p → (q : Bool) → (n == x) ≡ q
        → (is_one_of m names ≡ true → is_one_of n names ≡ true → place_in names m ≡ place_in names n → m ≡ n)
        → (p || is_one_of m names) ≡ true → (q || is_one_of n names) ≡ true
        → (if p then 0 else suc (place_in names m)) ≡ (if q then 0 else suc (place_in names n)) → m ≡ n
    go true f true g rest a b e = eqb-true m x f ∙ sym (eqb-true n x g)
    go true f false g rest a b e = absurd (omega (arith, e))
    go false f true g rest a b e = absurd (omega (arith, e))
    go false f false g rest a b e = rest a b (omega (arith, e))

pub spread-apart : (names : List ℕ) → IsOneToOne (spread names)
spread-apart names m n e = go (is_one_of m names) refl (is_one_of n names) refl e
  where
    go : (p : Bool) → is_one_of m names ≡ p → (q : Bool) → is_one_of n names ≡ q
        → (if p then place_in names m else length names + m) ≡ (if q then place_in names n else length names + n)
        → m ≡ n
    go true f true g h = one-place names m n f g h
    go true f false g h = let lt = place-below names m f in absurd (omega (arith, lt, h))
    go false f true g h = let lt = place-below names n g in absurd (omega (arith, lt, h))
    go false f false g h = omega (arith, h)

-- ---- more names

-- the second list goes on with more names
abbrev pub Extends : List ℕ → List ℕ → Type 0
Extends names more = (rest : List ℕ) × (more ≡ names ++ rest)

pub same-extends : (names : List ℕ) → Extends names names
same-extends names = ([], sym (append-nil names))

pub then-extends : (a b c : List ℕ) → Extends a b → Extends b c → Extends a c
then-extends a b c (r, e) (s, f) = (r ++ s, f ∙ ap (λ (xs : List ℕ). xs ++ s) e ∙ append_assoc a r s)

among-still : (names rest : List ℕ) (k : ℕ) → is_one_of k names ≡ true → is_one_of k (names ++ rest) ≡ true
among-still [] rest k among = absurd cc
among-still (m ∷ names) rest k among = go (k == m) (among-still names rest k) among
  where
    go : (b : Bool) → (is_one_of k names ≡ true → is_one_of k (names ++ rest) ≡ true) → (b || is_one_of k names) ≡ true
        → (b || is_one_of k (names ++ rest)) ≡ true
    go true more e = refl
    go false more e = more e

place-still : (names rest : List ℕ) (k : ℕ) → is_one_of k names ≡ true
    → place_in (names ++ rest) k ≡ place_in names k
unfolding place_in
place-still [] rest k among = absurd cc
place-still (m ∷ names) rest k among = go (k == m) (place-still names rest k) among
  where
    go : (b : Bool) → (is_one_of k names ≡ true → place_in (names ++ rest) k ≡ place_in names k)
        → (b || is_one_of k names) ≡ true
        → (if b then 0 else suc (place_in (names ++ rest) k)) ≡ (if b then 0 else suc (place_in names k))
    go true more e = refl
    go false more e = ap suc (more e)

-- a name keeps its place
pub place-spread : (names more : List ℕ) (k : ℕ) → Extends names more → is_one_of k names ≡ true
    → place_in names k ≡ spread more k
place-spread names more k (rest, e) among =
    rw (e, among-still names rest k among) (sym (place-still names rest k among))

-- the first name has the place 0
pub first-place : (name : ℕ) (more : List ℕ) → Extends (name ∷ []) more → spread more name ≡ 0
unfolding place_in
first-place name more (rest, e) = rw (e, eq-eqb name name refl) refl
