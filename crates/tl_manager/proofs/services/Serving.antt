-- The service of a block, where some services end.
use Rattle.tl_manager.proofs.Imports.{block_at, is_one_of, AreApart, blocks_of, Service, service_of_block, trackers_of}
use Rattle.std.proofs.Common.{◌≡◌, ℕ, Bool, true, false, ◌||◌, List, [], ◌∷◌, Option, Some, None, refl, sym, ◌∙◌, ap}
use Rattle.std.specs.Prelude.{◌==◌, if◌then◌else◌, filter}
use Rattle.std.proofs.lemmas.Bool.{eqb-true, eq-eqb, ne_eqb}

same_number : (n : ℕ) → (n == n) ≡ true
same_number n = eq-eqb n n refl

-- what is left of an optional value that has to pass a test
abbrev pub if_passes : {X : Type 0} → (X → Bool) → Option X → Option X
if_passes test None = None
if_passes test (Some x) = if test x then Some x else None

pub not_swapped : (a b : ℕ) → (a == b) ≡ false → (b == a) ≡ false
not_swapped a b f = ne_eqb b a (λ e. absurd (let yes : (a == b) ≡ true = rw e (same_number a) in cc))

pub none_of_block : {w : ℕ} (n : ℕ) (ss : List (Service w)) → is_one_of n (blocks_of ss) ≡ false
    → service_of_block n ss ≡ None
none_of_block n [] e = refl
none_of_block {w} n (s ∷ ss) e = go (n == block_at s.request.address) refl (λ g. none_of_block n ss g) e
  where
    go : (b : Bool) → (n == block_at s.request.address) ≡ b
        → (is_one_of n (blocks_of ss) ≡ false → service_of_block n ss ≡ None)
        → (b || is_one_of n (blocks_of ss)) ≡ false → service_of_block n (s ∷ ss) ≡ None
    go true f more g = absurd cc
    go false f more g = rw (not_swapped n (block_at s.request.address) f) (more g)

-- each block has one service at most, so the service of a block that stays is that of what was before, where it stays
pub serving-filter : {w : ℕ} (n : ℕ) (test : Service w → Bool) (ss : List (Service w)) → AreApart (blocks_of ss)
    → service_of_block n (filter test ss) ≡ if_passes test (service_of_block n ss)
serving-filter n test [] apart = refl
serving-filter {w} n test (s ∷ ss) apart = go (serving-filter n test ss apart.1) (block_at s.request.address == n) refl
    (test s) refl
  where
    missing : service_of_block n (filter test ss) ≡ if_passes test (service_of_block n ss)
        → (block_at s.request.address == n) ≡ true → service_of_block n (filter test ss) ≡ None
    missing rest e =
        let same : block_at s.request.address ≡ n = eqb-true (block_at s.request.address) n e in
        rest ∙ ap (if_passes test) (none_of_block n ss (rw same at apart.0))

    go : service_of_block n (filter test ss) ≡ if_passes test (service_of_block n ss) → (b : Bool)
        → (block_at s.request.address == n) ≡ b → (p : Bool) → test s ≡ p
        → service_of_block n (filter test (s ∷ ss)) ≡ if_passes test (service_of_block n (s ∷ ss))
    go rest true e true f = rw (f, e) (rw f refl)
    go rest true e false f = rw (f, e) (rw f (missing rest e))
    go rest false e true f = rw (f, e) rest
    go rest false e false f = rw (f, e) rest

-- ---- trackers

pub some_is : {X : Type 0} (x y : X) → Some x ≡ Some y → x ≡ y
some_is x y e = cc

-- the service of a block is in the list, so its tracker is among theirs
pub tracker_among : {w : ℕ} (n : ℕ) (ss : List (Service w)) (a : Service w) → service_of_block n ss ≡ Some a
    → is_one_of a.tracker (trackers_of ss) ≡ true
tracker_among n [] a e = absurd cc
tracker_among {w} n (s ∷ ss) a e = go (block_at s.request.address == n) (λ f. tracker_among n ss a f) e
  where
    either : (b : Bool) → (b || true) ≡ true
    either true = refl
    either false = refl

    go : (b : Bool) → (service_of_block n ss ≡ Some a → is_one_of a.tracker (trackers_of ss) ≡ true)
        → (if b then Some s else service_of_block n ss) ≡ Some a
        → ((a.tracker == s.tracker) || is_one_of a.tracker (trackers_of ss)) ≡ true
    go true rest f = let same : s ≡ a = some_is s a f in let t : s.tracker ≡ a.tracker =
        ap (λ (x : Service w). x.tracker) same in rw (t, same_number a.tracker) refl
    go false rest f = rw (rest f) (either (a.tracker == s.tracker))

-- services of one tracker are of one block
pub one_tracker : {w : ℕ} (n m : ℕ) (ss : List (Service w)) (a b : Service w) → AreApart (trackers_of ss)
    → service_of_block n ss ≡ Some a
    → service_of_block m ss ≡ Some b → a.tracker ≡ b.tracker → a ≡ b
one_tracker n m [] a b apart e f same = absurd cc
one_tracker {w} n m (s ∷ ss) a b apart e f same = go (block_at s.request.address == n) (block_at s.request.address == m)
    (λ g h. one_tracker n m ss a b apart.1 g h same) e f
  where
    taken : (x : Service w) (k : ℕ) → service_of_block k ss ≡ Some x → s.tracker ≡ x.tracker → ⊥
    taken x k g t =
        let among : is_one_of x.tracker (trackers_of ss) ≡ true = tracker_among k ss x g in
        let missing : is_one_of x.tracker (trackers_of ss) ≡ false = rw t at apart.0 in
        absurd cc

    go : (p q : Bool) → (service_of_block n ss ≡ Some a → service_of_block m ss ≡ Some b → a ≡ b)
        → (if p then Some s else service_of_block n ss) ≡ Some a
        → (if q then Some s else service_of_block m ss) ≡ Some b → a ≡ b
    go true true rest g h = sym (some_is s a g) ∙ some_is s b h
    go true false rest g h = absurd (taken b m h (ap (λ (x : Service w). x.tracker) (some_is s a g) ∙ same))
    go false true rest g h = absurd (taken a n g (ap (λ (x : Service w). x.tracker) (some_is s b h) ∙ sym same))
    go false false rest g h = rest g h
