-- Lists of services: how many pass a test, and those of a block or a tracker.
use Rattle.tl_manager.proofs.Imports.{Trace, block_at, is_one_of, Each, AreApart, blocks_of, one_if, count_where}
use Rattle.tl_manager.proofs.Imports.{is_granted, is_asking, Service, service_of_block, trackers_of}
use Rattle.std.proofs.Common.{◌≡◌, ℕ, ◌+◌, ◌<◌, ◌≤◌, ◌==◌, Bool, true, false, not, cond, ◌&&◌, List, [], ◌∷◌, Option}
use Rattle.std.proofs.Common.{Some, None, refl, sym, ap, ◌∙◌, arith}
use Rattle.std.specs.Prelude.{filter, if◌then◌else◌}
use Rattle.std.proofs.lemmas.Bool.{eqb-true, eq-eqb, or_parts}
use Rattle.tl_manager.proofs.services.Serving.{some_is, tracker_among}

-- ---- tests that agree

pub count-same : {X : Type 0} (f g : X → Bool) (xs : List X) → Each (λ x. f x ≡ g x) xs
    → count_where f xs ≡ count_where g xs
count-same f g [] each = refl
count-same f g (x ∷ xs) each = rw (each.0, count-same f g xs each.1) refl

pub filter-same : {X : Type 0} (f g : X → Bool) (xs : List X) → Each (λ x. f x ≡ g x) xs → filter f xs ≡ filter g xs
filter-same f g [] each = refl
filter-same f g (x ∷ xs) each = rw (each.0, filter-same f g xs each.1) refl

-- those of a list that is filtered
pub count-filter : {X : Type 0} (keep test : X → Bool) (xs : List X)
    → count_where test (filter keep xs) ≡ count_where (λ x. keep x && test x) xs
count-filter keep test [] = refl
count-filter {X} keep test (x ∷ xs) = go (keep x) (count-filter keep test xs)
  where
    go : (b : Bool) → count_where test (filter keep xs) ≡ count_where (λ y. keep y && test y) xs
        → count_where test (cond b (x ∷ filter keep xs) (filter keep xs)) ≡ one_if (b && test x) + count_where
        (λ y. keep y && test y) xs
    go true rest = rw rest refl
    go false rest = omega (arith, rest)

pub count-none : {X : Type 0} (xs : List X) → count_where (λ x. false) xs ≡ 0
count-none [] = refl
count-none (x ∷ xs) = let rest = count-none xs in omega (arith, rest)

pub all-each : {X : Type 0} (P : X → Type 0) (xs : List X) → ((x : X) → P x) → Each P xs
all-each P [] all = tt
all-each P (x ∷ xs) all = (all x, all-each P xs all)

pub each_both : {X : Type 0} (P Q R : X → Type 0) (xs : List X) → ((x : X) → P x → Q x → R x) → Each P xs → Each Q xs
    → Each R xs
each_both P Q R [] step ps qs = tt
each_both P Q R (x ∷ xs) step ps qs = (step x ps.0 qs.0, each_both P Q R xs step ps.1 qs.1)

-- how many services ask with a source, where the same are granted
pub counted-kept : {w : ℕ} (t u : Trace w) (c q : ℕ) (ss : List (Service w))
    → ((s : Service w) → is_granted u s ≡ is_granted t s)
    → count_where (is_asking c q u) ss ≡ count_where (is_asking c q t) ss
counted-kept {w} t u c q ss same =
    count-same (is_asking c q u) (is_asking c q t) ss (all-each (λ s. is_asking c q u s ≡ is_asking c q t s) ss
    (λ s. ap (λ b. (s.link.0 == c) && ((s.request.source == q) && not b)) (same s)))

-- ---- the service of a block

pub one_at_most : (b : Bool) → one_if b ≤ 1
one_at_most true = omega arith
one_at_most false = omega arith

count_some : (b : Bool) → b ≡ true → one_if b ≡ 1
count_some true e = refl
count_some false e = absurd cc

-- where the service of a block passes the test, one does
pub count-served : {w : ℕ} (n : ℕ) (test : Service w → Bool) (ss : List (Service w)) (s : Service w)
    → service_of_block n ss ≡ Some s → test s ≡ true → 0 < count_where test ss
count-served n test [] s e passes = absurd cc
count-served {w} n test (u ∷ ss) s e passes =
    go (block_at u.request.address == n) e (λ f. count-served n test ss s f passes)
  where
    go : (b : Bool) → (if b then Some u else service_of_block n ss) ≡ Some s
        → (service_of_block n ss ≡ Some s → 0 < count_where test ss) → 0 < one_if (test u) + count_where test ss
    go true f rest = let same : u ≡ s = some_is u s f in let one = count_some (test u) (rw same passes) in
        omega (arith, one)
    go false f rest = let lt = rest f in omega (arith, lt)

-- a service of the block is the block's service
pub same_block : {w : ℕ} (n : ℕ) (ss : List (Service w)) (s : Service w) → AreApart (blocks_of ss)
    → service_of_block n ss ≡ Some s → Each (λ u. (block_at u.request.address == n) ≡ true → u ≡ s) ss
same_block n [] s apart e = tt
same_block {w} n (u ∷ ss) s apart e = go (block_at u.request.address == n) refl e (λ f. same_block n ss s apart.1 f)
  where
    none : (vs : List (Service w)) → is_one_of n (blocks_of vs) ≡ false
        → Each (λ v. (block_at v.request.address == n) ≡ true → v ≡ s) vs
    none [] f = tt
    none (v ∷ vs) f =
        let p = or_parts (n == block_at v.request.address) (is_one_of n (blocks_of vs)) f in (
          λ here. absurd (let yes : (n == block_at v.request.address) ≡ true =
              eq-eqb n (block_at v.request.address) (sym (eqb-true (block_at v.request.address) n here))
              in let no : (n == block_at v.request.address) ≡ false = p.0 in cc),
          none vs p.1,
        )

    go : (b : Bool) → (block_at u.request.address == n) ≡ b → (if b then Some u else service_of_block n ss) ≡ Some s
        → (service_of_block n ss ≡ Some s → Each (λ v. (block_at v.request.address == n) ≡ true → v ≡ s) ss)
        → Each (λ v. (block_at v.request.address == n) ≡ true → v ≡ s) (u ∷ ss)
    go true here f rest =
        let block : block_at u.request.address ≡ n = eqb-true (block_at u.request.address) n here in
        (λ g. some_is u s f, none ss (rw block at apart.0))
    go false other f rest = (λ here. absurd cc, rest f)

-- one of its tracker too
pub same_tracker : {w : ℕ} (n : ℕ) (ss : List (Service w)) (s : Service w) → AreApart (trackers_of ss)
    → service_of_block n ss ≡ Some s → Each (λ u. (u.tracker == s.tracker) ≡ true → u ≡ s) ss
same_tracker n [] s apart e = tt
same_tracker {w} n (u ∷ ss) s apart e = go (block_at u.request.address == n) e (λ f. same_tracker n ss s apart.1 f)
  where
    none : (i : ℕ) (vs : List (Service w)) → is_one_of i (trackers_of vs) ≡ false
        → Each (λ v. (v.tracker == i) ≡ true → v ≡ s) vs
    none i [] f = tt
    none i (v ∷ vs) f =
        let p = or_parts (i == v.tracker) (is_one_of i (trackers_of vs)) f in (
          λ here. absurd (let yes : (i == v.tracker) ≡ true = eq-eqb i v.tracker (sym (eqb-true v.tracker i here)) in
              let no : (i == v.tracker) ≡ false = p.0 in cc),
          none i vs p.1,
        )

    go : (b : Bool) → (if b then Some u else service_of_block n ss) ≡ Some s
        → (service_of_block n ss ≡ Some s → Each (λ v. (v.tracker == s.tracker) ≡ true → v ≡ s) ss)
        → Each (λ v. (v.tracker == s.tracker) ≡ true → v ≡ s) (u ∷ ss)
    go true f rest =
        let same : u ≡ s = some_is u s f in
        let mine : u.tracker ≡ s.tracker = ap (λ (v : Service w). v.tracker) same in
        (λ g. same, none s.tracker ss (rw mine at apart.0))
    go false f rest = (
      λ here.
          absurd (let mine : u.tracker ≡ s.tracker = eqb-true u.tracker s.tracker here in
          let among : is_one_of s.tracker (trackers_of ss) ≡ true = tracker_among n ss s f in
          let missing : is_one_of s.tracker (trackers_of ss) ≡ false = rw mine at apart.0 in cc),
      rest f,
    )

-- where one passes at most, and the block's service does, it is the only one
pub only_one : {w : ℕ} (n : ℕ) (test : Service w → Bool) (ss : List (Service w)) (s : Service w)
    → count_where test ss ≤ 1 → service_of_block n ss ≡ Some s → test s ≡ true
    → Each (λ u. test u ≡ true → u ≡ s) ss
only_one n test [] s few e passes = tt
only_one {w} n test (u ∷ ss) s few e passes =
    go (block_at u.request.address == n) e (λ f g. only_one n test ss s g f passes)
  where
    none : (vs : List (Service w)) → count_where test vs ≤ 0 → Each (λ v. test v ≡ true → v ≡ s) vs
    none [] le = tt
    none (v ∷ vs) le = (
      λ here. absurd (let one = count_some (test v) here in omega (arith, one, le)),
      none vs
          (omega (arith, le)),
    )

    go : (b : Bool) → (if b then Some u else service_of_block n ss) ≡ Some s
        → (service_of_block n ss ≡ Some s → count_where test ss ≤ 1 → Each (λ v. test v ≡ true → v ≡ s) ss)
        → Each (λ v. test v ≡ true → v ≡ s) (u ∷ ss)
    go true f rest =
        let same : u ≡ s = some_is u s f in
        let one = count_some (test u) (rw same passes) in
        (λ g. same, none ss (omega (arith, one, few)))
    go false f rest =
        let some = count-served n test ss s f passes in (
          λ here. absurd (let one = count_some (test u) here in omega (arith, one, some, few)),
          rest f
              (omega (arith, few)),
        )

none_either : {X : Type 0} (b : Bool) (o : Option X) → o ≡ None → o ≡ (if b then None else o)
none_either true o e = e
none_either false o e = refl

-- without the service of a block
pub serving-without : {w : ℕ} (n k : ℕ) (ss : List (Service w))
    → service_of_block k (filter (λ u. not (block_at u.request.address == n)) ss)
    ≡ (if n == k then None else service_of_block k ss)
serving-without n k [] = none_either (n == k) (service_of_block k []) refl
serving-without {w} n k (u ∷ ss) = go (block_at u.request.address == n) refl (serving-without n k ss)
  where
    other : (b : Bool) → (n == k) ≡ b → (block_at u.request.address == n) ≡ true
        → (if b then None else service_of_block k ss) ≡ (if b then None else if block_at u.request.address == k then
        Some u else service_of_block k ss)
    other true e here = refl
    other false e here =
        let block : block_at u.request.address ≡ n = eqb-true (block_at u.request.address) n here in
        rw (block, e) refl

    mine : (b : Bool) → (n == k) ≡ b → (block_at u.request.address == n) ≡ false
        → (if block_at u.request.address == k then Some u else if b then None else service_of_block k ss)
        ≡ (if b then None else if block_at u.request.address == k then Some u else service_of_block k ss)
    mine true e away = let same : n ≡ k = eqb-true n k e in rw (← same, away) refl
    mine false e away = refl

    go : (b : Bool) → (block_at u.request.address == n) ≡ b
        → service_of_block k (filter (λ v. not (block_at v.request.address == n)) ss)
        ≡ (if n == k then None else service_of_block k ss)
        → service_of_block k (cond (not b) (u ∷ filter (λ v. not (block_at v.request.address == n)) ss)
        (filter (λ v. not (block_at v.request.address == n)) ss))
        ≡ (if n == k then None else if block_at u.request.address == k then Some u else service_of_block k ss)
    go true e rest = rest ∙ other (n == k) refl e
    go false e rest = rw rest (mine (n == k) refl e)
