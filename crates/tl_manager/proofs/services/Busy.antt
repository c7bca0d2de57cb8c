-- Whether a request has to wait, read off the trackers.
use Rattle.tl_manager.proofs.Imports.{Trace, block_at, is_one_of, Each, AreApart, Service, services, is_in_service}
use Rattle.tl_manager.proofs.Imports.{trackers_of, least_untaken, service_with, IsTracked, is_of, is_free, Tracker}
use Rattle.tl_manager.proofs.Imports.{Free, Probing, Granted}
use Rattle.std.proofs.Common.{◌≡◌, ℕ, zero, suc, ◌+◌, ◌<◌, ◌≤◌, ◌==◌, ◌⊎◌, Bool, true, false, List, [], ◌∷◌, length}
use Rattle.std.proofs.Common.{refl, sym, ap, subst, arith, inl, inr}
use Rattle.std.{specs.Prelude.if◌then◌else◌, specs.Prelude.nat_le, specs.Prelude.is_some, proofs.lemmas.List.length-map}
use Rattle.std.proofs.lemmas.Bool.{cases_eq, eqb-true, eq-eqb, ne_eqb, or_parts, le-leb, lt-leb}
use Rattle.tl_manager.{specs.statement.Service.free_from, proofs.words_of_clients.Free.as_many}
use Rattle.tl_manager.{proofs.words_of_clients.Free.without, proofs.blocks.Reporting.unserved-block}
use Rattle.tl_manager.{proofs.services.Serving.tracker_among}

-- ---- no more numbers than fit

untouched : (k : ℕ) (ns : List ℕ) → is_one_of k ns ≡ false → without k ns ≡ ns
unfolding without
untouched k [] e = refl
untouched k (n ∷ ns) e =
    let p = or_parts (k == n) (is_one_of k ns) e in
    let away : (n == k) ≡ false =
    ne_eqb n k (λ f. absurd (let here : (k == n) ≡ true = eq-eqb k n (sym f) in let no : (k == n) ≡ false = p.0 in
    cc)) in
    rw away (ap (λ ms. n ∷ ms) (untouched k ns p.1))

still_missing : (m k : ℕ) (ns : List ℕ) → is_one_of m ns ≡ false → is_one_of m (without k ns) ≡ false
unfolding without
still_missing m k [] e = refl
still_missing m k (n ∷ ns) e = let p = or_parts (m == n) (is_one_of m ns) e in
    go (n == k) p.0 (still_missing m k ns p.1)
  where
    go : (b : Bool) → (m == n) ≡ false → is_one_of m (without k ns) ≡ false
        → is_one_of m (if b then without k ns else n ∷ without k ns) ≡ false
    go true f rest = rest
    go false f rest = rw f rest

apart_without : (k : ℕ) (ns : List ℕ) → AreApart ns → AreApart (without k ns)
unfolding without
apart_without k [] apart = tt
apart_without k (n ∷ ns) apart = go (n == k) (still_missing n k ns apart.0) (apart_without k ns apart.1)
  where
    go : (b : Bool) → is_one_of n (without k ns) ≡ false → AreApart (without k ns)
        → AreApart (if b then without k ns else n ∷ without k ns)
    go true e rest = rest
    go false e rest = (e, rest)

below_without : (k : ℕ) (ns : List ℕ) → Each (λ n. n < suc k) ns → Each (λ n. n < k) (without k ns)
unfolding without
below_without k [] each = tt
below_without k (n ∷ ns) each = go (n == k) refl (below_without k ns each.1)
  where
    go : (b : Bool) → (n == k) ≡ b → Each (λ m. m < k) (without k ns)
        → Each (λ m. m < k) (if b then without k ns else n ∷ without k ns)
    go true e rest = rest
    go false e rest = (least (cases_eq n k), rest)
      where
        least : (n ≡ k) ⊎ (n ≡ k → ⊥) → n < k
        least (inl f) = absurd (let here : (n == k) ≡ true = eq-eqb n k f in cc)
        least (inr f) = let lt = each.0 in omega (arith, lt, f)

one_at_least : (k : ℕ) (ns : List ℕ) → AreApart ns → length ns ≤ suc (length (without k ns))
unfolding without
one_at_least k [] apart = omega arith
one_at_least k (n ∷ ns) apart = go (n == k) refl (one_at_least k ns apart.1)
  where
    go : (b : Bool) → (n == k) ≡ b → length ns ≤ suc (length (without k ns))
        → length (n ∷ ns) ≤ suc (length (if b then without k ns else n ∷ without k ns))
    go true e rest =
        let same : without k ns ≡ ns = untouched k ns (subst (λ i. is_one_of i ns ≡ false) (eqb-true n k e) apart.0) in
        rw same (omega arith)
    go false e rest = omega (arith, rest)

few_apart : (k : ℕ) (ns : List ℕ) → AreApart ns → Each (λ n. n < k) ns → length ns ≤ k
few_apart zero [] apart each = omega arith
few_apart zero (n ∷ ns) apart each = absurd (let lt = each.0 in omega (arith, lt))
few_apart (suc k) ns apart each =
    let le = few_apart k (without k ns) (apart_without k ns apart) (below_without k ns each) in
    let more = one_at_least k ns apart in
    omega (arith, le, more)

-- ---- the least that isn't taken

least_is : (m n more : ℕ) (ns : List ℕ) → m ≤ n → n ≤ m + more → is_one_of n ns ≡ false
    → ((i : ℕ) → m ≤ i → i < n → is_one_of i ns ≡ true) → n ≡ free_from m more ns
least_is m n zero ns low high free taken = omega (arith, low, high)
least_is m n (suc more) ns low high free taken =
    go (is_one_of m ns) refl (λ lt. least_is (m + 1) n more ns (omega (arith, lt)) (omega (arith, high)) free
    (λ i le l. taken i (omega (arith, le)) l))
  where
    go : (b : Bool) → is_one_of m ns ≡ b → (m < n → n ≡ free_from (m + 1) more ns)
        → n ≡ (if b then free_from (m + 1) more ns else m)
    go true e rest = rest (above (cases_eq m n))
      where
        above : (m ≡ n) ⊎ (m ≡ n → ⊥) → m < n
        above (inl f) = absurd (let no : is_one_of m ns ≡ false = subst (λ i. is_one_of i ns ≡ false) (sym f) free in
            cc)
        above (inr f) = omega (arith, low, f)
    go false e rest = same (cases_eq m n)
      where
        same : (m ≡ n) ⊎ (m ≡ n → ⊥) → n ≡ m
        same (inl f) = sym f
        same (inr f) = absurd (let yes : is_one_of m ns ≡ true = taken m (omega arith) (omega (arith, low, f)) in cc)

-- ---- trackers

pub taken-among : {w : ℕ} (n : ℕ) (tracker : Tracker w) (t : Trace w) → IsTracked n tracker t → is_free tracker ≡ false
    → is_one_of n (trackers_of (services t)) ≡ true
taken-among n Free t is e = absurd cc
taken-among n (Probing link request missing) t is e = tracker_among (block_at request.address) (services t)
    (service_with n link request) is.serves
taken-among n (Granted link block) t is e = tracker_among block (services t) (service_with n link is.request) is.serves

pub free-among : {w : ℕ} (n : ℕ) (tracker : Tracker w) (t : Trace w) → IsTracked n tracker t → is_free tracker ≡ true
    → is_one_of n (trackers_of (services t)) ≡ false
free-among n Free t is e = is
free-among n v t is e = absurd cc

pub unserved-among : {w : ℕ} (block : ℕ) (at : ℕ → Tracker w) (t : Trace w) → AreApart (trackers_of (services t))
    → ((n : ℕ) → IsTracked n (at n) t) → ((n : ℕ) → is_of block (at n) ≡ false)
    → is_in_service block (services t) ≡ false
unserved-among block at t apart tracked none = ap is_some (unserved-block block at t apart tracked none)

-- none is free
pub all-taken : {w : ℕ} (count : ℕ) (at : ℕ → Tracker w) (t : Trace w) → ((n : ℕ) → IsTracked n (at n) t)
    → ((n : ℕ) → n < count → is_free (at n) ≡ false) → nat_le count (length (services t)) ≡ true
all-taken {w} count at t tracked taken =
    let le = as_many count (trackers_of (services t)) (λ i lt. taken-among i (at i) t (tracked i) (taken i lt)) in
    le-leb count (length (services t)) (subst (λ k. count ≤ k) (length-map (services t) (λ (s : Service w). s.tracker))
    le)

-- one is, which is the least
pub one-free : {w : ℕ} (count n : ℕ) (at : ℕ → Tracker w) (t : Trace w) → AreApart (trackers_of (services t))
    → Each (λ i. i < count) (trackers_of (services t))
    → ((i : ℕ) → IsTracked i (at i) t) → n < count → is_free (at n) ≡ true → nat_le count (length (services t)) ≡ false
one-free {w} count n at t apart below tracked lt free =
    let le = few_apart count (n ∷ trackers_of (services t)) (free-among n (at n) t (tracked n) free, apart) (lt, below)
    in
    let few : suc (length (services t)) ≤ count =
    subst (λ k. suc k ≤ count) (length-map (services t) (λ (s : Service w). s.tracker)) le in
    lt-leb count (length (services t)) (omega (arith, few))

pub least-tracker : {w : ℕ} (n : ℕ) (at : ℕ → Tracker w) (t : Trace w) → ((i : ℕ) → IsTracked i (at i) t)
    → is_free (at n) ≡ true → ((i : ℕ) → i < n → is_free (at i) ≡ false)
    → n ≡ least_untaken (trackers_of (services t))
unfolding least_untaken
least-tracker {w} n at t tracked free taken =
    let le = as_many n (trackers_of (services t)) (λ i lt. taken-among i (at i) t (tracked i) (taken i lt)) in
    least_is 0 n (length (trackers_of (services t))) (trackers_of (services t)) (omega arith) (omega (arith, le))
    (free-among n (at n) t (tracked n) free)
    (λ i low lt. taken-among i (at i) t (tracked i) (taken i lt))
