-- Which clients pass a test: each that does, once, in rising order.
use Rattle.tl_manager.proofs.Imports.{Config, Perm, Trace, is_one_of, clients_from, is_nobody, has_copy, recorded}
use Rattle.tl_manager.proofs.Imports.{is_unheld, Each}
use Rattle.std.proofs.Common.{◌≡◌, ℕ, zero, suc, ◌+◌, ◌<◌, ◌≤◌, Bool, true, false, ◌&&◌, ◌||◌, List, [], ◌∷◌, length}
use Rattle.std.proofs.Common.{ltb, refl, sym, ◌∙◌, inl, inr, arith, ◌⊎◌}
use Rattle.std.specs.Prelude.{◌==◌, if◌then◌else◌, ◌↔◌}
use Rattle.std.proofs.lemmas.Bool.{cases_eq, cases_lt, eq-eqb, ne_eqb, lt-ltb, le-ltb, ltb-true}
use Rattle.tl_manager.{specs.statement.Holders.clients_where, specs.code.Kept.IsRising}
use Rattle.tl_manager.{proofs.words_of_clients.Lists.each_weaker}

-- ---- who is among them

-- none before the first that is tried
among-before : (c first n : ℕ) (test : ℕ → Bool) → c < first → is_one_of c (clients_from first n test) ≡ false
unfolding clients_from
among-before c first zero test lt = refl
among-before c first (suc n) test lt = go (test first) (among-before c (first + 1) n test (omega (arith, lt)))
  where
    go : (b : Bool) → is_one_of c (clients_from (first + 1) n test) ≡ false
        → is_one_of c (if b then first ∷ clients_from (first + 1) n test else clients_from (first + 1) n test) ≡ false
    go true rest = let away : (c == first) ≡ false = ne_eqb c first (λ e. absurd (omega (arith, e, lt))) in rw away rest
    go false rest = rest

-- and none past the last
among-beyond : (c first n : ℕ) (test : ℕ → Bool) → first + n ≤ c → is_one_of c (clients_from first n test) ≡ false
unfolding clients_from
among-beyond c first zero test le = refl
among-beyond c first (suc n) test le = go (test first) (among-beyond c (first + 1) n test (omega (arith, le)))
  where
    go : (b : Bool) → is_one_of c (clients_from (first + 1) n test) ≡ false
        → is_one_of c (if b then first ∷ clients_from (first + 1) n test else clients_from (first + 1) n test) ≡ false
    go true rest = let away : (c == first) ≡ false = ne_eqb c first (λ e. absurd (omega (arith, e, le))) in rw away rest
    go false rest = rest

among-within : (c first n : ℕ) (test : ℕ → Bool) → first ≤ c → c < first + n
    → is_one_of c (clients_from first n test) ≡ test c
unfolding clients_from
among-within c first zero test le lt = absurd (omega (arith, le, lt))
among-within c first (suc n) test le lt =
    go (cases_eq first c) (λ ne. among-within c (first + 1) n test (omega (arith, le, ne)) (omega (arith, lt)))
  where
    at_first : (b : Bool) → is_one_of c (if b then c ∷ clients_from (c + 1) n test else clients_from (c + 1) n test) ≡ b
    at_first true = rw (eq-eqb c c refl) refl
    at_first false = among-before c (c + 1) n test (omega arith)

    later : (first ≡ c → ⊥) → (b : Bool) → is_one_of c (clients_from (first + 1) n test) ≡ test c
        → is_one_of c (if b then first ∷ clients_from (first + 1) n test else clients_from (first + 1) n test) ≡ test c
    later ne true rest = let away : (c == first) ≡ false = ne_eqb c first (λ e. ne (sym e)) in rw away rest
    later ne false rest = rest

    go : (first ≡ c) ⊎ (first ≡ c → ⊥) → ((first ≡ c → ⊥) → is_one_of c (clients_from (first + 1) n test) ≡ test c)
        → is_one_of c (clients_from first (suc n) test) ≡ test c
    go (inl e) rest = rw e (at_first (test c))
    go (inr ne) rest = later ne (test first) (rest ne)

pub among-where : (config : Config) (test : ℕ → Bool) (c : ℕ)
    → is_one_of c (clients_where config test) ≡ (ltb c (length config.clients.items) && test c)
among-where config test c = elim (cases_lt c (length config.clients.items)) [
  | inl lt ↦ rw (lt-ltb c (length config.clients.items) lt) (among-within c 0 (length config.clients.items) test
      (omega arith) (omega (arith, lt)))
  | inr le ↦ rw (le-ltb c (length config.clients.items) le) (among-beyond c 0 (length config.clients.items) test
      (omega (arith, le)))
]

-- ---- in rising order

all-from : (first n : ℕ) (test : ℕ → Bool) → Each (λ c. first ≤ c) (clients_from first n test)
unfolding clients_from
all-from first zero test = tt
all-from first (suc n) test =
    go (test first) (each_weaker (λ c. first + 1 ≤ c) (λ c. first ≤ c) (clients_from (first + 1) n test)
    (λ c le. omega (arith, le)) (all-from (first + 1) n test))
  where
    go : (b : Bool) → Each (λ c. first ≤ c) (clients_from (first + 1) n test)
        → Each (λ c. first ≤ c) (if b then first ∷ clients_from (first + 1) n test else clients_from (first + 1) n test)
    go true rest = (omega arith, rest)
    go false rest = rest

rising-from : (first n : ℕ) (test : ℕ → Bool) → IsRising (clients_from first n test)
unfolding clients_from
rising-from first zero test = tt
rising-from first (suc n) test = go (test first) (rising-from (first + 1) n test)
  where
    go : (b : Bool) → IsRising (clients_from (first + 1) n test)
        → IsRising (if b then first ∷ clients_from (first + 1) n test else clients_from (first + 1) n test)
    go true rest = (
      each_weaker (λ c. first + 1 ≤ c) (λ c. first < c) (clients_from (first + 1) n test)
          (λ c le. omega (arith, le)) (all-from (first + 1) n test),
      rest,
    )
    go false rest = rest

pub rising-where : (config : Config) (test : ℕ → Bool) → IsRising (clients_where config test)
rising-where config test = rising-from 0 (length config.clients.items) test

-- ---- nobody

pub nobody-is : (cs : List ℕ) → is_nobody cs ≡ true → (c : ℕ) → is_one_of c cs ≡ false
nobody-is [] e c = refl
nobody-is (d ∷ cs) e c = absurd cc

pub is-nobody : (cs : List ℕ) → ((c : ℕ) → is_one_of c cs ≡ false) → is_nobody cs ≡ true
is-nobody [] none = refl
is-nobody (d ∷ cs) none = absurd (let away = none d in let here : (d == d) ≡ true = eq-eqb d d refl in
    let found : ((d == d) || is_one_of d cs) ≡ true = rw here refl in cc)

within_false : (a b : Bool) → (a && b) ≡ false → a ≡ true → b ≡ false
within_false true b e f = e
within_false false b e f = absurd cc

-- nobody passes exactly where the test fails at each client
pub nobody-where : (config : Config) (test : ℕ → Bool) → (is_nobody (clients_where config test) ≡ true) ↔ ((c : ℕ)
    → c < length config.clients.items → test c ≡ false)
nobody-where config test = (
  λ e c lt. within_false (ltb c (length config.clients.items)) (test c)
      (sym (among-where config test c) ∙ nobody-is (clients_where config test) e c)
      (lt-ltb c (length config.clients.items) lt),
  λ none. is-nobody (clients_where config test)
      (λ c. among-where config test c ∙ fails c (ltb c (length config.clients.items)) refl (none c)),
)
  where
    fails : (c : ℕ) (b : Bool) → ltb c (length config.clients.items) ≡ b
        → (c < length config.clients.items → test c ≡ false) → (b && test c) ≡ false
    fails c true e none = none (ltb-true c (length config.clients.items) e)
    fails c false e none = refl

no_copy : (p : Perm) → has_copy p ≡ false → p ≡ Perm.None
no_copy Perm.None e = refl
no_copy v e = absurd cc

pub unheld-where : {w : ℕ} (config : Config) (block : ℕ) (t : Trace w)
    → (is_unheld config block t ≡ true) ↔ ((c : ℕ) → c < length config.clients.items → recorded c block t ≡ Perm.None)
unheld-where config block t =
    let both = nobody-where config (λ c. has_copy (recorded c block t)) in
    (λ e c lt. no_copy (recorded c block t) (both.0 e c lt), λ none. both.1 (λ c lt. rw (none c lt) refl))

-- the same clients pass tests that agree
pub where-same : (first n : ℕ) (f g : ℕ → Bool) → ((c : ℕ) → f c ≡ g c)
    → clients_from first n f ≡ clients_from first n g
unfolding clients_from
where-same first zero f g same = refl
where-same first (suc n) f g same = rw (same first, where-same (first + 1) n f g same) refl
