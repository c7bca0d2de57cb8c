-- What is owed for each open request is at most 33 beats and those of a block, for each Release one and those of a
-- block.
use Rattle.std.proofs.Common.{◌≡◌, ℕ, zero, suc, ◌+◌, ◌*◌, ◌<◌, ◌≤◌, Bool, true, false, not, ◌&&◌, ◌==◌, if◌then◌else◌}
use Rattle.std.proofs.Common.{Option, refl, arith, ◌⊎◌, inl, inr, length, ne_eqb}
use Rattle.tl_coherence.proofs
use proofs.Imports.{cases_eq, Config, Perm, same_perm, one_if, Left, acquire_weight, client_weight, is_let, is_used}
use proofs.Imports.{let_weight, letting_weight, open_releases, open_requests, pair_weight, probes_weight}
use proofs.Imports.{probing_weight, rank, use_weight, IsInvariant, Acquire, Answer, Grant, Kind, ProbeAck, Request}
use proofs.Imports.{ProbePhase, ReleasePhase, View, is_unprobed, Acquires, Asked, InService, Replied, SourceFree}
use proofs.Imports.{SourceState, State, view, some_below, sources_of, terms_at}
use Rattle.tl_coherence.specs.bound.Rank.{total}
use proofs.protocol.RequestsKept.{some-none, some-one}
use proofs.queues.Tokens.{total-le, total-const, probes-light, one-at-most, same_number}

-- what is left of a message is no more than it has: a block has n beats, an Acquire one, a report from one who isn't
-- recorded as the writer one, and an access and its answer one more than a block together
pub record IsLeft {X : Type 0} (n : ℕ) (left : Left) (answer : ℕ → ℕ → ℕ) (s : State X) : Type 0 where
  pub few : (c : ℕ) (k : Kind) (m : ℕ) → left c k m ≤ n
  pub acquires : (c m : ℕ) → left c Acquire m ≤ 1
  pub reports : (c m : ℕ) → is_unprobed ((s.block m).pair c).probing ≡ false
      → same_perm ((s.block m).pair c).recorded Perm.Trunk ≡ false → left c ProbeAck m ≤ 1
  pub accesses : (c source : ℕ) → s.uses c source ≡ Asked → left c Request source + answer c source ≤ n + 1
  pub answers : (c source : ℕ) → answer c source ≤ n

two-totals : (bound : ℕ) (f g h : ℕ → ℕ) (j k : ℕ) → ((c : ℕ) → f c ≤ j * g c + k * h c)
    → total bound f ≤ j * total bound g + k * total bound h
unfolding total
two-totals zero f g h j k le = omega arith
two-totals (suc bound) f g h j k le =
    let rest = two-totals bound f g h j k le in
    let here = le bound in
    let first : j * (total bound g + g bound) ≡ j * total bound g + j * g bound = grind arith in
    let second : k * (total bound h + h bound) ≡ k * total bound h + k * h bound = grind arith in
    omega (arith, rest, here, first, second)

-- at most two each, and nothing from one
total-less : (bound m : ℕ) (f : ℕ → ℕ) → m < bound → ((i : ℕ) → i < bound → f i ≤ 2) → f m ≡ 0
    → total bound f + 2 ≤ 2 * bound
unfolding total
total-less zero m f lt le none = absurd (omega (arith, lt))
total-less (suc bound) m f lt le none =
    go (cases_eq m bound) (λ below. total-less bound m f below (λ i h. le i (omega (arith, h))) none)
  where
    go : (m ≡ bound) ⊎ (m ≡ bound → ⊥) → (m < bound → total bound f + 2 ≤ 2 * bound)
        → total bound f + f bound + 2 ≤ 2 * suc bound
    go (inl same) rest =
        let others = total-le bound f (λ i. 2) (λ i h. le i (omega (arith, h))) in
        let all = total-const bound 2 in
        let here : f bound ≡ 0 = rw (← same) none in
        omega (arith, others, all, here)
    go (inr differs) rest = omega (arith, rest (omega (arith, lt, differs)), le bound (omega arith))

-- ---- the Probes and reports of a block

quiet-pair : (n left : ℕ) (recorded : Perm) (x : ProbePhase) → is_unprobed x ≡ true
    → probing_weight n left recorded x ≡ 0
quiet-pair n left recorded x e = grind arith

heavy-pair : (n left : ℕ) (recorded : Perm) (x : ProbePhase) → left ≤ n → 1 ≤ n
    → probing_weight n left recorded x ≤ n + 1
heavy-pair n left recorded x e f = grind arith

module _ {X : Type 0} {caching : ℕ → Bool} {s : State X} (inv : IsInvariant caching s) (n : ℕ) (left : Left) (answer : ℕ
    → ℕ → ℕ) (is : IsLeft n left answer s) (some : 1 ≤ n) (few : n ≤ 16) (clients : ℕ) (sixteen : clients ≤ 16) where
  -- the writer is probed
  writes_probed : ℕ → ℕ → Bool
  writes_probed m d = not (is_unprobed ((s.block m).pair d).probing) && same_perm ((s.block m).pair d).recorded
      Perm.Trunk

  both : (a b : Bool) → (not a && b) ≡ true → (a ≡ false) × (b ≡ true)
  both a b e = grind arith

  neither : (a b : Bool) → (not a && b) ≡ false → a ≡ false → b ≡ false
  neither a b e f = grind arith

  -- a bound for the Probes and reports where each client weighs two at most, and which one with a block's beats meets
  -- too
  pub probes-within : (m bound : ℕ) → 17 ≤ bound
      → (((d : ℕ) → d < clients → pair_weight n left m d ((s.block m).pair d) ≤ 2)
      → probes_weight clients n left m (s.block m) ≤ bound) → probes_weight clients n left m (s.block m) ≤ bound
  unfolding writes_probed
  probes-within m bound wide light =
      let weight : ℕ → ℕ = λ d. pair_weight n left m d ((s.block m).pair d) in
      go (some_below clients (writes_probed m)) refl
    where
      go : (b : Bool) → some_below clients (writes_probed m) ≡ b
          → total clients (λ d. pair_weight n left m d ((s.block m).pair d)) ≤ bound
      go false none = light (λ d lt. each d (is_unprobed ((s.block m).pair d).probing) refl
          (some-none clients (writes_probed m) none d lt))
        where
          each : (d : ℕ) (b : Bool) → is_unprobed ((s.block m).pair d).probing ≡ b → writes_probed m d ≡ false
              → pair_weight n left m d ((s.block m).pair d) ≤ 2
          each d b e f = grind (arith, quiet-pair, neither)
      go true found =
          let d = some-one _ (writes_probed m) found in
          let parts = both _ _ d.1 in
          alone d.0 parts.1 parts.0
        where
          alone : (d : ℕ) → same_perm ((s.block m).pair d).recorded Perm.Trunk ≡ true
              → is_unprobed ((s.block m).pair d).probing ≡ false
              → total clients (λ i. pair_weight n left m i ((s.block m).pair i)) ≤ bound
          alone d trunk probed =
              let at_most : (d : ℕ) → total clients (λ i. if i == d then n + 1 else 0) ≤ n + 1 =
              λ d. one-at-most clients d (n + 1) in
              let others = total-le clients (λ i. pair_weight n left m i ((s.block m).pair i))
              (λ i. if i == d then n + 1 else 0) (λ i lt. at i (cases_eq i d)) in
              omega (arith, others, at_most d, few, wide)
            where
              at : (i : ℕ) → (i ≡ d) ⊎ (i ≡ d → ⊥)
                  → pair_weight n left m i ((s.block m).pair i) ≤ (if i == d then n + 1 else 0)
              at i (inl e) = rw (e, same_number d) (heavy-pair n (left d ProbeAck m) ((s.block m).pair d).recorded
                  ((s.block m).pair d).probing (is.few d ProbeAck m) some)
              at i (inr ne) =
                  let z = quiet-pair n (left i ProbeAck m) ((s.block m).pair i).recorded _
                  ((inv.blocks m).alone d i trunk probed ne) in
                  rw (ne_eqb i d ne) (omega (arith, z))

  pub probes-few : (m : ℕ) → probes_weight clients n left m (s.block m) ≤ 32
  probes-few m = probes-within m 32 (omega arith)
      (λ light. probes-light clients (λ d. pair_weight n left m d ((s.block m).pair d)) sixteen light)

  -- the sender of an Acquire isn't probed
  pub probes-fewer : (m r : ℕ) → r < clients → is_unprobed ((s.block m).pair r).probing ≡ true
      → probes_weight clients n left m (s.block m) ≤ 30
  probes-fewer m r lt quiet = probes-within m 30 (omega arith) (λ light. without light)
    where
      without : ((d : ℕ) → d < clients → pair_weight n left m d ((s.block m).pair d) ≤ 2)
          → probes_weight clients n left m (s.block m) ≤ 30
      without light =
          let others = total-less clients r (λ d. pair_weight n left m d ((s.block m).pair d)) lt light
          (quiet-pair n (left r ProbeAck m) ((s.block m).pair r).recorded ((s.block m).pair r).probing quiet) in
          omega (arith, others, sixteen)

  -- ---- each open request, and each Release

  acquire-few : (asked granted probes : ℕ) (v : View) → asked ≤ 1 → granted ≤ n → probes ≤ 32
      → acquire_weight n asked granted probes v ≤ n + 33
  acquire-few asked granted probes v e f g = grind arith

  use-few : (c source : ℕ) (u : SourceState) → s.uses c source ≡ u
      → use_weight clients n left answer s c source u ≤ (n + 33) * one_if (is_used u)
  use-few c source SourceFree e = omega arith
  use-few c source Asked e = let few = is.accesses c _ e in omega (arith, few)
  use-few c source (InService m) e = let a = is.answers c source in let p = probes-few m in omega (arith, a, p)
  use-few c source Replied e = let a = is.few c Answer source in omega (arith, a)
  use-few c source (Acquires m) e =
      let all = acquire-few _ _ _ (view (s.block m).service c) (is.acquires c m) (is.few c Grant m) (probes-few m) in
      omega (arith, all)

  letting-few : (l : ℕ) (x : ReleasePhase) → l ≤ n → letting_weight l x ≤ n + 1
  letting-few l x e = grind (arith, some)

  let-few : (c source : ℕ) (o : Option ℕ) → s.lets c source ≡ o → let_weight left s c o ≤ (n + 1) * one_if (is_let o)
  let-few c source o e = grind (arith, letting-few, left)

  -- ---- the whole

  times-total : (k bound : ℕ) (f g : ℕ → ℕ) → ((i : ℕ) → f i ≤ k * g i) → total bound f ≤ k * total bound g
  unfolding total
  times-total k zero f g le = omega arith
  times-total k (suc bound) f g le =
      let rest = times-total k bound f g le in
      let here = le bound in
      let split : k * (total bound g + g bound) ≡ k * total bound g + k * g bound = grind arith in
      omega (arith, rest, here, split)

  client-few : (sources c : ℕ) → client_weight clients n left answer s sources c
      ≤ (n + 33) * (total sources (λ i. one_if (is_used (s.uses c i))) + length (s.link c).e) + (n + 1) * total sources
      (λ i. one_if (is_let (s.lets c i)))
  client-few sources c =
      let one-each : (k l : ℕ) → 1 ≤ k → l ≤ k * l = λ k l le. grind (arith, le) in
      let uses = times-total (n + 33) sources (λ i. use_weight clients n left answer s c i (s.uses c i))
      (λ i. one_if (is_used (s.uses c i))) (λ i. use-few c i (s.uses c i) refl) in
      let lets = times-total (n + 1) sources (λ i. let_weight left s c (s.lets c i)) (λ i. one_if (is_let (s.lets c i)))
      (λ i. let-few c i (s.lets c i) refl) in
      let split : (n + 33) * (total sources (λ i. one_if (is_used (s.uses c i))) + length (s.link c).e)
      ≡ (n + 33) * total sources (λ i. one_if (is_used (s.uses c i))) + (n + 33) * length (s.link c).e = grind arith in
      omega (arith, uses, lets, one-each (n + 33) (length (s.link c).e) (omega arith), split)

  pub potential-few : (config : Config) → length config.clients.items ≡ clients
      → rank config n left answer s ≤ (n + 33) * open_requests config s + (n + 1) * open_releases config s
  potential-few config e = rw e (two-totals clients (λ c. client_weight clients n left answer s (sources_of
      (terms_at config c)) c) (λ c. total (sources_of (terms_at config c)) (λ i. one_if (is_used (s.uses c i))) + length
      (s.link c).e) (λ c. total (sources_of (terms_at config c)) (λ i. one_if (is_let (s.lets c i)))) (n + 33) (n + 1)
      (λ c. client-few (sources_of (terms_at config c)) c))
