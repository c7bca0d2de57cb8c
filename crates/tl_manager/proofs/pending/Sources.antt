-- Which sources and sinks are pending, and which services there are.
use Rattle.tl_manager.proofs.Imports.{unfinished, RequestSource, GrantSink, Trace, on_link, comes_in_request, block_at}
use Rattle.tl_manager.proofs.Imports.{is_acquire, pending, Each, AreApart, blocks_of, is_granting, one_if, count_where}
use Rattle.tl_manager.proofs.Imports.{is_granted, is_asking, IsAccounted, Service, services, service_of_block}
use Rattle.std.proofs.Common.{◌≡◌, ℕ, ◌+◌, ◌<◌, ◌==◌, Bool, true, false, ◌&&◌, ◌||◌, List, [], ◌∷◌, Some, None, refl}
use Rattle.std.proofs.Common.{sym, ap, ◌∙◌, arith, inl, inr}
use Rattle.std.proofs.lemmas.Bool.{eqb-true, eq-eqb, and_parts, or_parts, or_cases}
use Rattle.tl_beat.specs.declared.channel.Channel.{Channel}
use Rattle.tl_manager.specs.laws.Pending.{is_any, is_granted_with}
use Rattle.tl_manager.proofs.services.Serving.{none_of_block}
use Rattle.tl_manager.proofs.pending.Sinks.{AreTracked, grants_by}

any-count : {X : Type 0} (test : X → Bool) (xs : List X) → (b : Bool) → is_any test xs ≡ b → one_if b ≡ 0
    → count_where test xs ≡ 0
any-count test [] b e none = refl
any-count {X} test (x ∷ xs) true e none = absurd (omega (arith, none))
any-count {X} test (x ∷ xs) false e none =
    let p = or_parts (test x) (is_any test xs) e in
    let rest = any-count test xs false p.1 refl in
    let here : one_if (test x) ≡ 0 = ap one_if p.0 in
    omega (arith, rest, here)

count-any : {X : Type 0} (test : X → Bool) (xs : List X) → is_any test xs ≡ true → 0 < count_where test xs
count-any test [] e = absurd cc
count-any {X} test (x ∷ xs) e = go (test x) e (λ f. count-any test xs f)
  where
    go : (b : Bool) → (b || is_any test xs) ≡ true → (is_any test xs ≡ true → 0 < count_where test xs)
        → 0 < one_if b + count_where test xs
    go true f rest = omega arith
    go false f rest = let lt = rest f in omega (arith, lt)

-- a source is pending exactly where the unfinished request has it, or one in service that isn't answered
pub source-pending : {w : ℕ} (c q : ℕ) (t : Trace w) → IsAccounted t
    → pending (RequestSource q) (on_link c t) ≡ (comes_in_request q (unfinished Channel.A (on_link c t)) || is_any
    (is_asking c q t) (services t))
source-pending {w} c q t ok =
    go (comes_in_request q (unfinished Channel.A (on_link c t))) (is_any (is_asking c q t) (services t))
    (pending (RequestSource q) (on_link c t)) refl (ok.sources c q)
  where
    go : (a b p : Bool) → is_any (is_asking c q t) (services t) ≡ b
        → one_if a + count_where (is_asking c q t) (services t) ≡ one_if p → p ≡ (a || b)
    go true b false e f = absurd (omega (arith, f))
    go false true false e f = let some = count-any (is_asking c q t) (services t) e in absurd (omega (arith, f, some))
    go false false true e f = let none = any-count (is_asking c q t) (services t) false e refl in
        absurd (omega (arith, f, none))
    go v u y e f = refl

-- ---- the services by their blocks

-- what holds of the service of any block holds of each service
pub served-each : {w : ℕ} (P : Service w → Type 0) (ss : List (Service w)) → AreApart (blocks_of ss)
    → ((n : ℕ) (s : Service w) → service_of_block n ss ≡ Some s → P s) → Each P ss
served-each P [] apart all = tt
served-each {w} P (s ∷ ss) apart all = (
  all (block_at s.request.address) s (rw (eq-eqb (block_at s.request.address) (block_at s.request.address) refl) refl),
  served-each P ss apart.1 (λ n u e. later n u e (block_at s.request.address == n) refl),
)
  where
    later : (n : ℕ) (u : Service w) → service_of_block n ss ≡ Some u → (b : Bool)
        → (block_at s.request.address == n) ≡ b → P u
    later n u e true f =
        let same : block_at s.request.address ≡ n = eqb-true (block_at s.request.address) n f in
        let gone : service_of_block n ss ≡ None = none_of_block n ss (rw same at apart.0) in
        absurd (let no : Some u ≡ None = sym e ∙ gone in cc)
    later n u e false f = all n u (rw f e)

-- ---- sinks

-- a sink is pending exactly where an Acquire in service is granted with it
pub sink-pending : {w : ℕ} (c sink : ℕ) (t : Trace w) → AreTracked t
    → pending (GrantSink sink) (on_link c t) ≡ is_any (is_granted_with c sink t) (services t)
sink-pending {w} c sink t tracked = go (pending (GrantSink sink) (on_link c t)) refl
  where
    first : (b : Bool) {d : Bool} → d ≡ true → (b || d) ≡ true
    first true e = refl
    first false e = e

    found : (ss : List (Service w)) → is_granting c sink ss ≡ true → pending (GrantSink sink) (on_link c t) ≡ true
        → is_any (is_granted_with c sink t) ss ≡ true
    found [] e pends = absurd cc
    found (s ∷ ss) e pends = elim (or_cases (grants_by c sink s) (is_granting c sink ss) e) [
      | inl here ↦
          let p = and_parts (is_acquire s.request.opcode) ((s.link.0 == c) && (s.tracker == sink)) here in
          let q = and_parts (s.link.0 == c) (s.tracker == sink) p.1 in
          let mine : pending (GrantSink s.tracker) (on_link s.link.0 t) ≡ true =
          rw (eqb-true s.link.0 c q.0, eqb-true s.tracker sink q.1) pends in
          rw (q.0, q.1, p.0, mine) refl
      | inr later ↦ first (is_granted_with c sink t s) (found ss later pends)
    ]

    none : (ss : List (Service w)) → pending (GrantSink sink) (on_link c t) ≡ false
        → is_any (is_granted_with c sink t) ss ≡ false
    none [] e = refl
    none (s ∷ ss) e = rw (away (s.link.0 == c) (s.tracker == sink) refl refl) (none ss e)
      where
        never : (b : Bool) → (b && false) ≡ false
        never true = refl
        never false = refl

        away : (a b : Bool) → (s.link.0 == c) ≡ a → (s.tracker == sink) ≡ b → (a && (b && is_granted t s)) ≡ false
        away true true f g =
            let no : pending (GrantSink s.tracker) (on_link s.link.0 t) ≡ false =
            rw (eqb-true s.link.0 c f, eqb-true s.tracker sink g) e in
            ap (λ d. is_acquire s.request.opcode && d) no ∙ never (is_acquire s.request.opcode)
        away v u f g = refl

    go : (b : Bool) → pending (GrantSink sink) (on_link c t) ≡ b → b ≡ is_any (is_granted_with c sink t) (services t)
    go true e = sym (found (services t) (tracked c sink e) e)
    go false e = sym (none (services t) e)
