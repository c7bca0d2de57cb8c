-- The places of names, and the sources of a link after one beat more.
use Rattle.std.proofs.Common.{◌≡◌, ℕ, suc, ◌<◌, ◌≤◌, Bool, true, false, List, [], ◌∷◌, ◌++◌, length}
use Rattle.std.proofs.Common.{refl, sym, ap, ◌∙◌, arith}
use Rattle.std.proofs.lemmas.Bool.{eq-eqb, eqb-true, ne_eqb}
use Rattle.std.proofs.lemmas.List.{length-append}
use Rattle.std.specs.Prelude.{◌==◌, ◌||◌, if◌then◌else◌, Option, Some, None}
use Rattle.tl_beat.specs.declared.beat.Link.{Link}
use Rattle.tl_rules.specs.statement.Legality.{is_one_of}
use Rattle.tl_wide.proofs.Naming.{among-more}
use Rattle.tl_wide.specs.declared.beat.WideBeat.{WideBeat}
use Rattle.tl_wide.specs.statement.Naming.{WideTrace, named, place_in, source_of, sources, with_number}

-- ---- places

pub place-below : (names : List ℕ) (n : ℕ) → is_one_of n names ≡ true → place_in names n < length names
unfolding place_in
place-below [] n among = absurd cc
place-below (m ∷ names) n among = go (n == m) (place-below names n) among
  where
    go : (b : Bool) → (is_one_of n names ≡ true → place_in names n < length names) → (b || is_one_of n names) ≡ true
        → (if b then 0 else suc (place_in names n)) < suc (length names)
    go true rest e = omega arith
    go false rest e = let lt : place_in names n < length names = rest e in omega arith

pub among-with : (names : List ℕ) (n : ℕ) → is_one_of n (with_number (Some n) names) ≡ true
among-with names n = go (is_one_of n names) refl
  where
    or_true : (a : Bool) → (a || true) ≡ true
    or_true true = refl
    or_true false = refl

    go : (b : Bool) → is_one_of n names ≡ b → is_one_of n (if b then names else names ++ n ∷ []) ≡ true
    go true e = e
    go false e = among-more names n n ∙ rw (eq-eqb n n refl) (or_true (is_one_of n names))

-- two names at one place are one
pub place-once : (names : List ℕ) (n m : ℕ) → is_one_of n names ≡ true → is_one_of m names ≡ true
    → place_in names n ≡ place_in names m → n ≡ m
unfolding place_in
place-once [] n m a b e = absurd cc
place-once (k ∷ names) n m a b e = go (n == k) refl (m == k) refl (place-once names n m) a b e
  where
    go : (p : Bool) → (n == k) ≡ p → (q : Bool) → (m == k) ≡ q
        → (is_one_of n names ≡ true → is_one_of m names ≡ true → place_in names n ≡ place_in names m → n ≡ m)
        → (p || is_one_of n names) ≡ true → (q || is_one_of m names) ≡ true
        → (if p then 0 else suc (place_in names n)) ≡ (if q then 0 else suc (place_in names m)) → n ≡ m
    go true ep true eq rest a b e = eqb-true n k ep ∙ sym (eqb-true m k eq)
    go true ep false eq rest a b e = absurd (omega (arith, e))
    go false ep true eq rest a b e = absurd (omega (arith, e))
    go false ep false eq rest a b e = rest a b (omega (arith, e))

-- no name is lost
pub with-longer : (names : List ℕ) (o : Option ℕ) → length names ≤ length (with_number o names)
with-longer names None = omega arith
with-longer names (Some n) = go (is_one_of n names)
  where
    go : (b : Bool) → length names ≤ length (if b then names else names ++ n ∷ [])
    go true = omega arith
    go false = omega (arith, length-append names (n ∷ []))

-- ---- sources

pub sources-own : {w : ℕ} (link : Link) (x : WideBeat w) (t : WideTrace w)
    → sources link.0 ((link, x) ∷ t) ≡ with_number (source_of x) (sources link.0 t)
unfolding named
sources-own link x t =
    ap (λ b. with_number (if b then source_of x else None) (sources link.0 t)) (eq-eqb link.0 link.0 refl)

pub sources-other : {w : ℕ} (link : Link) (x : WideBeat w) (t : WideTrace w) (i : ℕ) → (i ≡ link.0 → ⊥)
    → sources i ((link, x) ∷ t) ≡ sources i t
unfolding named
sources-other link x t i other =
    ap (λ b. with_number (if b then source_of x else None) (sources i t)) (ne_eqb link.0 i (λ e. other (sym e)))

-- the source of a beat is one of its link's
pub among-sources : {w : ℕ} (link : Link) (x : WideBeat w) (t : WideTrace w) (s : ℕ) → source_of x ≡ Some s
    → is_one_of s (sources link.0 ((link, x) ∷ t)) ≡ true
among-sources link x t s is = rw (sources-own link x t, is) (among-with (sources link.0 t) s)

-- the sources of its link are the same as before, and this one
pub sources-more : {w : ℕ} (link l : Link) (x : WideBeat w) (t : WideTrace w) → l.0 ≡ link.0
    → sources l.0 ((link, x) ∷ t) ≡ with_number (source_of x) (sources l.0 t)
sources-more link l x t same = rw same (sources-own link x t)
