-- Tokens that are pushed and popped.
-- Sums over numbers below a bound.
use Rattle.std.proofs.Common.{◌≡◌, ℕ, zero, suc, ◌+◌, ◌*◌, ◌<◌, ◌≤◌, Bool, true, false, ◌==◌, if◌then◌else◌, List, []}
use Rattle.std.proofs.Common.{◌∷◌, ◌++◌, refl, ◌∙◌, ap, arith, ◌⊎◌, inl, inr, ne_eqb}
use Rattle.tl_coherence.proofs
use proofs.Imports.{cases_eq, one_if, Holds, Kind, Packet, ProbeAck, Release, is, same_kind, set, set_at, count}
use Rattle.tl_coherence.{specs.bound.Rank.total, specs.protocol.Packet.IsOrdered}

-- ---- one place of a function

pub same_number : (n : ℕ) → (n == n) ≡ true
same_number n = grind arith

pub set-same : {X : Type 0} (k : ℕ) (x : X) (f : ℕ → X) → set k x f k ≡ x
set-same k x f = rw (same_number k) refl

pub set-other : {X : Type 0} (k n : ℕ) (x : X) (f : ℕ → X) → (n ≡ k → ⊥) → set k x f n ≡ f n
set-other k n x f ne = rw (ne_eqb n k ne) refl

-- what holds of the new value at its place, and elsewhere of the old ones, holds everywhere
pub set-each : {Y : Type 0} (P : ℕ → Y → Type 0) (k : ℕ) (y : Y) (f : ℕ → Y) → P k y
    → ((n : ℕ) → (n ≡ k → ⊥) → P n (f n)) → (n : ℕ) → P n (set k y f n)
set-each P k y f here others n = elim (cases_eq n k) [
  | inl same ↦ rw (same, set-same k y f) here
  | inr other ↦ rw (set-other k n y f other) (others n other)
]

-- a part that two values have in common is that of the chosen one
pub if-part : {A Y : Type 0} (part : Y → A) {a : A} (b : Bool) {x y : Y} → part x ≡ a → part y ≡ a
    → part (if b then x else y) ≡ a
if-part part b e f = grind arith

-- a part that the new value has in common with the old one is everywhere as before
pub set-part : {A Y : Type 0} (part : Y → A) (k : ℕ) (y : Y) (f : ℕ → Y) → part y ≡ part (f k) → (n : ℕ)
    → part (set k y f n) ≡ part (f n)
set-part part k y f e n = elim (cases_eq n k) [
  | inl same ↦ rw (same, set-same k y f) e
  | inr other ↦ rw (set-other k n y f other) refl
]

-- ---- one place of a count

count-push : (k : Kind) (n : ℕ) (xs : List Packet) (x : Packet) → count k n (xs ++ x ∷ []) ≡ count k n xs + one_if
    (is k n x)
unfolding count
count-push k n [] x = omega arith
count-push k n (y ∷ xs) x = omega (arith, count-push k n xs x)

kind_apart : (k : Kind) (x : Packet) → same_kind x.kind k ≡ false → (n : ℕ) → is k n x ≡ false
kind_apart k x e n = rw e refl

-- ---- the tokens of a kind, by blocks or sources that have this test

-- one place changes, and not its test
pub holds-set : {B : Type 0} (k : Kind) (xs : List Packet) (q : B → Bool) (f : ℕ → B) (m : ℕ) (y : B) → q y ≡ q (f m)
    → Holds k xs (λ n. q (f n)) → Holds k xs (λ n. q (set m y f n))
holds-set k xs q f m y e h n = elim (cases_eq n m) [
  | inl same ↦ rw (same, set-same m y f, e) (h m)
  | inr other ↦ rw (set-other m n y f other) (h n)
]

-- a token of another kind is pushed
pub holds-push_other : (k : Kind) (xs : List Packet) (x : Packet) (test : ℕ → Bool) → same_kind x.kind k ≡ false
    → Holds k xs test → Holds k (xs ++ x ∷ []) test
holds-push_other k xs x test off h n =
    let no : one_if (is k n x) ≡ 0 = rw (kind_apart k x off n) refl in
    omega (arith, count-push k n xs x, h n, no)

-- a token of the kind is pushed
pub holds-push : {B : Type 0} (k : Kind) (xs : List Packet) (x : Packet) (q : B → Bool) (f : ℕ → B) (m : ℕ) (y : B)
    → same_kind x.kind k ≡ true → x.number ≡ m → q (f m) ≡ false → q y ≡ true
    → Holds k xs (λ n. q (f n)) → Holds k (xs ++ x ∷ []) (λ n. q (set m y f n))
holds-push k xs x q f m y on at was now h n = elim (cases_eq n m) [
  | inl same ↦
      let yes : one_if (is k m x) ≡ 1 = rw (on, at, same_number m) refl in
      let before : count k m xs ≡ 0 = h m ∙ rw was refl in
      rw (same, set-same m y f, now) (omega (arith, count-push k m xs x, yes, before))
  | inr other ↦
      let no : one_if (is k n x) ≡ 0 = rw (on, at, ne_eqb n m other) refl in
      rw (set-other m n y f other) (omega (arith, count-push k n xs x, h n, no))
]

-- a token of another kind is popped
pub holds-pop_other : (k : Kind) (xs rest : List Packet) (x : Packet) (test : ℕ → Bool) → xs ≡ x ∷ rest
    → same_kind x.kind k ≡ false → Holds k xs test → Holds k rest test
unfolding count
holds-pop_other k xs rest x test e off h n = grind (arith, kind_apart)

-- the first is one that passes the test
pub holds-first : (k : Kind) (xs rest : List Packet) (x : Packet) (test : ℕ → Bool) → xs ≡ x ∷ rest
    → same_kind x.kind k ≡ true → Holds k xs test → test x.number ≡ true
unfolding count
holds-first k xs rest x test e on h = grind arith

-- a token of the kind is popped
pub holds-pop : {B : Type 0} (k : Kind) (xs rest : List Packet) (x : Packet) (q : B → Bool) (f : ℕ → B) (m : ℕ) (y : B)
    → xs ≡ x ∷ rest → same_kind x.kind k ≡ true → x.number ≡ m → q y ≡ false
    → Holds k xs (λ n. q (f n)) → Holds k rest (λ n. q (set m y f n))
unfolding count
holds-pop k xs rest x q f m y e on at now h n =
    let none_left : (b : Bool) (n : ℕ) → one_if b ≡ 1 + n → n ≡ 0 =
    elim [ true ↦ λ n f. omega (arith, f) | false ↦ λ n f. absurd (omega (arith, f)) ] in
    elim (cases_eq n m) [
      | inl same ↦
          let yes : one_if (is k m x) ≡ 1 = rw (on, at, same_number m) refl in
          rw (same, set-same m y f, now) (none_left (q (f m)) (count k m rest) (omega (arith, rw e at (h m), yes)))
      | inr other ↦
          let no : one_if (is k n x) ≡ 0 = rw (on, at, ne_eqb n m other) refl in
          let all : count k n (x ∷ rest) ≡ one_if (q (f n)) = rw e at (h n) in
          rw (set-other m n y f other) (omega (arith, all, no))
    ]

-- ---- a kind of which there are none

pub none-push : (k : Kind) (n : ℕ) (xs : List Packet) (x : Packet) → same_kind x.kind k ≡ false → count k n xs ≡ 0
    → count k n (xs ++ x ∷ []) ≡ 0
none-push k n xs x off none =
    let differs : one_if (is k n x) ≡ 0 = rw (kind_apart k x off n) refl in
    omega (arith, count-push k n xs x, none, differs)

pub none-pop : (k : Kind) (n : ℕ) (xs rest : List Packet) (x : Packet) → xs ≡ x ∷ rest → count k n xs ≡ 0
    → count k n rest ≡ 0
unfolding count
none-pop k n xs rest x e none = let all : count k n (x ∷ rest) ≡ 0 = rw e at none in omega (arith, all)

-- ---- the order of ProbeAcks and Releases

pub ordered-push_other : (b : ℕ) (xs : List Packet) (x : Packet) → is ProbeAck b x ≡ false → IsOrdered b xs
    → IsOrdered b (xs ++ x ∷ [])
unfolding IsOrdered count
ordered-push_other b [] x off h = (λ e. refl, tt)
ordered-push_other b (y ∷ xs) x off h = (
  λ e. let no : one_if (is ProbeAck b x) ≡ 0 = rw off refl in omega (arith, count-push ProbeAck b xs x, h.0 e, no),
  ordered-push_other b xs x off h.1,
)

pub ordered-push_report : (b : ℕ) (xs : List Packet) (x : Packet) → count Release b xs ≡ 0 → IsOrdered b xs
    → IsOrdered b (xs ++ x ∷ [])
unfolding IsOrdered count
ordered-push_report b [] x none h = (λ e. refl, tt)
ordered-push_report b (y ∷ xs) x none h = (
  λ e. absurd (let yes : one_if (is Release b y) ≡ 1 = rw e refl in omega (arith, none, yes)),
  ordered-push_report b xs x (omega (arith, none)) h.1,
)

pub ordered-pop : (b : ℕ) (xs rest : List Packet) (x : Packet) → xs ≡ x ∷ rest → IsOrdered b xs → IsOrdered b rest
unfolding IsOrdered
ordered-pop b xs rest x e h = let all : IsOrdered b (x ∷ rest) = rw e at h in all.1

-- a Release that is first has no ProbeAck of its block behind it
pub ordered-first : (b : ℕ) (xs rest : List Packet) (x : Packet) → xs ≡ x ∷ rest → is Release b x ≡ true
    → IsOrdered b xs → count ProbeAck b rest ≡ 0
unfolding IsOrdered
ordered-first b xs rest x e first h = let all : IsOrdered b (x ∷ rest) = rw e at h in all.0 first

pub set_at-same : {X : Type 0} (c source : ℕ) (x : X) (f : ℕ → ℕ → X) → set_at c source x f c source ≡ x
set_at-same {X} c source x f = cc (set-same c (set source x (f c)) f, set-same source x (f c))

pub total-same : (n : ℕ) (f g : ℕ → ℕ) → ((i : ℕ) → i < n → f i ≡ g i) → total n f ≡ total n g
unfolding total
total-same zero f g e = refl
total-same (suc n) f g e = omega (arith, total-same n f g (λ i lt. e i (omega (arith, lt))), e n (omega arith))

pub total-le : (n : ℕ) (f g : ℕ → ℕ) → ((i : ℕ) → i < n → f i ≤ g i) → total n f ≤ total n g
unfolding total
total-le zero f g e = omega arith
total-le (suc n) f g e = omega (arith, total-le n f g (λ i lt. e i (omega (arith, lt))), e n (omega arith))

pub total-plus : (n : ℕ) (f g : ℕ → ℕ) → total n (λ i. f i + g i) ≡ total n f + total n g
unfolding total
total-plus zero f g = omega arith
total-plus (suc n) f g = omega (arith, total-plus n f g)

pub total-zero : (n : ℕ) (f : ℕ → ℕ) → ((i : ℕ) → i < n → f i ≡ 0) → total n f ≡ 0
unfolding total
total-zero zero f e = refl
total-zero (suc n) f e = omega (arith, total-zero n f (λ i lt. e i (omega (arith, lt))), e n (omega arith))

-- one summand changes
pub total-set : (n m v : ℕ) (f : ℕ → ℕ) → m < n → total n (set m v f) + f m ≡ total n f + v
unfolding total
total-set zero m v f lt = absurd (omega (arith, lt))
total-set (suc n) m v f lt = go (cases_eq n m) (λ below. total-set n m v f below)
  where
    go : (n ≡ m) ⊎ (n ≡ m → ⊥) → (m < n → total n (set m v f) + f m ≡ total n f + v)
        → total n (set m v f) + set m v f n + f m ≡ total n f + f n + v
    go (inl same) rest =
        let others : total n (set m v f) ≡ total n f =
        total-same n (set m v f) f (λ i below. set-other m i v f (λ e. absurd (omega (arith, e, below, same)))) in
        let here : set m v f n ≡ v = rw same (set-same m v f) in
        let was : f n ≡ f m = ap f same in
        omega (arith, others, here, was)
    go (inr differs) rest = omega (arith, set-other m n v f differs, rest (omega (arith, lt, differs)))

-- only one summand counts
pub total-one : (n m v : ℕ) → m < n → total n (λ i. if i == m then v else 0) ≡ v
total-one n m v lt =
    let zeros : total n (λ (i : ℕ). 0) ≡ 0 = total-zero n (λ i. 0) (λ i below. refl) in
    omega (arith, total-set n m v (λ i. 0) lt, zeros)

-- at most one summand counts
pub one-at-most : (n m v : ℕ) → total n (λ i. if i == m then v else 0) ≤ v
unfolding total
one-at-most zero m v = omega arith
one-at-most (suc n) m v = go (cases_eq n m) (one-at-most n m v)
  where
    go : (n ≡ m) ⊎ (n ≡ m → ⊥) → total n (λ i. if i == m then v else 0) ≤ v
        → total n (λ i. if i == m then v else 0) + (if n == m then v else 0) ≤ v
    go (inl same) rest =
        let none : total n (λ i. if i == m then v else 0) ≡ 0 = total-zero n (λ i. if i == m then v else 0)
        (λ i lt. let ne : i ≡ m → ⊥ = λ e. absurd (omega (arith, e, lt, same)) in rw (ne_eqb i m ne) refl) in
        rw (same, same_number m) (let z : total m (λ i. if i == m then v else 0) ≡ 0 = rw same at none in
        omega (arith, z))
    go (inr differs) rest = rw (ne_eqb n m differs) (omega (arith, rest))

-- ---- what the Probes of one service weigh: one for itself and one for its report

pub total-const : (n v : ℕ) → total n (λ i. v) ≡ v * n
unfolding total
total-const zero v = omega arith
total-const (suc n) v = let rest = total-const n v in grind (arith, rest)

-- no one has a Trunk: at most two each
pub probes-light : (clients : ℕ) (f : ℕ → ℕ) → clients ≤ 16 → ((i : ℕ) → i < clients → f i ≤ 2) → total clients f ≤ 32
probes-light clients f few light = omega (arith, total-le clients f (λ i. 2) light, total-const clients 2, few)
