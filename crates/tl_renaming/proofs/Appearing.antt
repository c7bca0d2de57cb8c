-- The names that appear in a wide trace.
use Rattle.tl_renaming.proofs.Spread.{Extends, same-extends, then-extends}
use Rattle.std.proofs.Common.{◌≡◌, ℕ, ◌<◌, ◌≤◌, Bool, true, false, ◌||◌, List, [], ◌∷◌, ◌++◌, length, refl, sym, ap, ◌∙◌, subst}
use Rattle.std.specs.Prelude.{◌==◌, eqb, if◌then◌else◌, IfSome, Option, Some, None, ⊤}
use Rattle.std.specs.List.{AllByRecursion, IsDistinct, list_any}
use Rattle.std.proofs.lemmas.Bool.{eq-eqb, eqb-true, ne_eqb}
use Rattle.std.proofs.lemmas.Map.Steps.{length-le_from_distinct_below}
use Rattle.tl_beat.specs.declared.beat.Link.{Link}
use Rattle.tl_rules.specs.statement.Legality.{is_one_of}
use Rattle.tl_wide.proofs.Naming.{among-more}
use Rattle.tl_wide.specs.declared.beat.WideBeat.{WideBeat}
use Rattle.tl_wide.specs.statement.Naming.{WideTrace, named, with_number}

-- ---- one more name

any-same : (names : List ℕ) (n : ℕ) → list_any (eqb n) names ≡ is_one_of n names
any-same [] n = refl
any-same (m ∷ names) n = ap (λ b. (n == m) || b) (any-same names n)

with-extends : (o : Option ℕ) (names : List ℕ) → Extends names (with_number o names)
with-extends None names = same-extends names
with-extends (Some n) names = go (is_one_of n names)
  where
    go : (b : Bool) → Extends names (if b then names else names ++ n ∷ [])
    go true = same-extends names
    go false = (n ∷ [], refl)

with-among : (n : ℕ) (names : List ℕ) → is_one_of n (with_number (Some n) names) ≡ true
with-among n names = go (is_one_of n names) refl
  where
    go : (b : Bool) → is_one_of n names ≡ b → is_one_of n (if b then names else names ++ n ∷ []) ≡ true
    go true e = e
    go false e = rw (among-more names n n, e, eq-eqb n n refl) refl

-- ---- names below a bound, and apart

below-with : (b : ℕ) (o : Option ℕ) (names : List ℕ) → IfSome o (λ n. n < b)
    → ((k : ℕ) → is_one_of k names ≡ true → k < b) → (k : ℕ) → is_one_of k (with_number o names) ≡ true → k < b
below-with b None names small below k among = below k among
below-with b (Some n) names small below k among = go (is_one_of n names) among
  where
    last : (old same : Bool) → is_one_of k names ≡ old → (k == n) ≡ same → (old || same) ≡ true → k < b
    last true same e f h = below k e
    last false true e f h = subst (λ m. m < b) (sym (eqb-true k n f)) small
    last false false e f h = absurd cc

    go : (old : Bool) → is_one_of k (if old then names else names ++ n ∷ []) ≡ true → k < b
    go true e = below k e
    go false e = last (is_one_of k names) (k == n) refl refl (sym (among-more names n k) ∙ e)

apart-from : (names : List ℕ) (m n : ℕ) → AllByRecursion (λ y. eqb m y ≡ false) names → eqb m n ≡ false
    → AllByRecursion (λ y. eqb m y ≡ false) (names ++ n ∷ [])
apart-from [] m n all e = (e, tt)
apart-from (x ∷ names) m n all e = (all.0, apart-from names m n all.1 e)

turned : (m n : ℕ) → (n == m) ≡ false → eqb m n ≡ false
turned m n e = ne_eqb m n (λ same. let no : true ≡ false = sym (eq-eqb n m (sym same)) ∙ e in cc)

first-fails : (a b : Bool) → (a || b) ≡ false → (a ≡ false) × (b ≡ false)
first-fails true b e = absurd cc
first-fails false b e = (refl, e)

distinct-more : (names : List ℕ) (n : ℕ) → IsDistinct eqb names → is_one_of n names ≡ false
    → IsDistinct eqb (names ++ n ∷ [])
unfolding IsDistinct
distinct-more [] n distinct new = (tt, tt)
distinct-more (m ∷ names) n distinct new =
    let both = first-fails (n == m) (is_one_of n names) new in
    (apart-from names m n distinct.0 (turned m n both.0), distinct-more names n distinct.1 both.1)

pub none-distinct : IsDistinct eqb []
unfolding IsDistinct
none-distinct = tt

pub one-distinct : (n : ℕ) → IsDistinct eqb (n ∷ [])
unfolding IsDistinct
one-distinct n = (tt, tt)

distinct-with : (o : Option ℕ) (names : List ℕ) → IsDistinct eqb names → IsDistinct eqb (with_number o names)
distinct-with None names distinct = distinct
distinct-with (Some n) names distinct = go (is_one_of n names) refl
  where
    go : (b : Bool) → is_one_of n names ≡ b → IsDistinct eqb (if b then names else names ++ n ∷ [])
    go true e = distinct
    go false e = distinct-more names n distinct e

-- ---- the names of a trace

-- the whole of a trace, the newest beat first, of which these beats came before
abbrev pub all_of : {w : ℕ} → WideTrace w → WideTrace w → WideTrace w
all_of before [] = before
all_of before (x ∷ trace) = all_of (x ∷ before) trace

module _ {w : ℕ} (of : Link × WideBeat w → Option ℕ) (first : List ℕ) where
  pub first-extends : (t : WideTrace w) → Extends first (named of first t)
  unfolding named
  first-extends [] = same-extends first
  first-extends (x ∷ t) = then-extends first (named of first t) (with_number (of x) (named of first t))
      (first-extends t) (with-extends (of x) (named of first t))

  pub later-extends : (before trace : WideTrace w) → Extends (named of first before) (named of first (all_of before trace))
  unfolding named
  later-extends before [] = same-extends (named of first before)
  later-extends before (x ∷ trace) = then-extends (named of first before)
      (with_number (of x) (named of first before)) (named of first (all_of (x ∷ before) trace))
      (with-extends (of x) (named of first before)) (later-extends (x ∷ before) trace)

  pub now-among : (x : Link × WideBeat w) (before : WideTrace w) (n : ℕ) → of x ≡ Some n
      → is_one_of n (named of first (x ∷ before)) ≡ true
  unfolding named
  now-among x before n e = rw e (with-among n (named of first before))

  -- ---- how many they are

  -- what each beat names is below b
  abbrev pub AllBelow : ℕ → WideTrace w → Type 0
  AllBelow b [] = ⊤
  AllBelow b (x ∷ t) = IfSome (of x) (λ n. n < b) × AllBelow b t

  below-named : (b : ℕ) (t : WideTrace w) → ((k : ℕ) → is_one_of k first ≡ true → k < b) → AllBelow b t → (k : ℕ)
      → is_one_of k (named of first t) ≡ true → k < b
  unfolding named
  below-named b [] start all k among = start k among
  below-named b (x ∷ t) start all k among =
      below-with b (of x) (named of first t) all.0 (below-named b t start all.1) k among

  distinct-named : (t : WideTrace w) → IsDistinct eqb first → IsDistinct eqb (named of first t)
  unfolding named
  distinct-named [] start = start
  distinct-named (x ∷ t) start = distinct-with (of x) (named of first t) (distinct-named t start)

  pub few-names : (b : ℕ) (t : WideTrace w) → IsDistinct eqb first → ((k : ℕ) → is_one_of k first ≡ true → k < b)
      → AllBelow b t → length (named of first t) ≤ b
  few-names b t distinct start all =
      length-le_from_distinct_below (named of first t) b (distinct-named t distinct)
      (λ k among. below-named b t start all k (sym (any-same (named of first t) k) ∙ among))
