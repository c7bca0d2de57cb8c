-- The potential falls where what is owed falls at one client and rises nowhere.
use Rattle.std.proofs.Common.{◌≡◌, ℕ, zero, suc, ◌+◌, ◌<◌, ◌≤◌, true, refl, arith, ◌⊎◌, inl, inr, length}
use Rattle.tl_coherence.proofs
use proofs.Imports.{cases_eq, Config, Left, acquire_weight, client_weight, let_weight, pair_weight, probes_weight, rank}
use proofs.Imports.{use_weight, Acquire, Answer, Grant, Request, View, Acquires, Asked, InService, Replied, SourceFree}
use proofs.Imports.{SourceState, State, view, is_unserved, sources_of, terms_at}
use Rattle.tl_coherence.specs.bound.Rank.{total}
use proofs.queues.Tokens.{total-le}

-- one summand falls by k, and the others don't rise
pub total-falls : (n m k : ℕ) (f g : ℕ → ℕ) → m < n → ((i : ℕ) → i < n → g i ≤ f i) → g m + k ≤ f m
    → total n g + k ≤ total n f
unfolding total
total-falls zero m k f g lt le less = absurd (omega (arith, lt))
total-falls (suc n) m k f g lt le less =
    go (cases_eq n m) (λ below. total-falls n m k f g below (λ i h. le i (omega (arith, h))) less)
  where
    go : (n ≡ m) ⊎ (n ≡ m → ⊥) → (m < n → total n g + k ≤ total n f) → total n g + g n + k ≤ total n f + f n
    go (inl same) rest =
        let others = total-le n g f (λ i h. le i (omega (arith, h))) in
        let here : g n + k ≤ f n = rw same less in
        omega (arith, others, here)
    go (inr differs) rest = omega (arith, rest (omega (arith, lt, differs)), le n (omega arith))

module _ {X : Type 0} (config : Config) (n : ℕ) (left left' : Left) (answer answer' : ℕ → ℕ → ℕ) (s s' : State X) where
  abbrev pub clients : ℕ
  clients = length config.clients.items

  abbrev pub owed_use : ℕ → ℕ → ℕ
  owed_use c i = use_weight clients n left answer s c i (s.uses c i)

  abbrev pub owed_use' : ℕ → ℕ → ℕ
  owed_use' c i = use_weight clients n left' answer' s' c i (s'.uses c i)

  abbrev pub owed_let : ℕ → ℕ → ℕ
  owed_let c i = let_weight left s c (s.lets c i)

  abbrev pub owed_let' : ℕ → ℕ → ℕ
  owed_let' c i = let_weight left' s' c (s'.lets c i)

  -- nothing that is owed rises
  pub record IsNoMore : Type 0 where
    pub uses : (c i : ℕ) → owed_use' c i ≤ owed_use c i
    pub lets : (c i : ℕ) → owed_let' c i ≤ owed_let c i
    pub acks : (c : ℕ) → length (s'.link c).e ≤ length (s.link c).e

  -- at one client what is owed falls by one, with a GrantAck more for two less
  pub falls : (c : ℕ) → c < clients
      → ((d : ℕ) → client_weight clients n left' answer' s' (sources_of (terms_at config d)) d ≤ client_weight clients n
      left answer s (sources_of (terms_at config d)) d)
      → client_weight clients n left' answer' s' (sources_of (terms_at config c)) c + 1 ≤ client_weight clients n left
      answer s (sources_of (terms_at config c)) c → rank config n left' answer' s' + 1 ≤ rank config n left answer s
  falls c lt le less =
      total-falls clients c 1 (λ d. client_weight clients n left answer s (sources_of (terms_at config d)) d)
      (λ d. client_weight clients n left' answer' s' (sources_of (terms_at config d)) d) lt (λ d h. le d) less

  no-more-client : IsNoMore → (d : ℕ) → client_weight clients n left' answer' s' (sources_of (terms_at config d))
      d ≤ client_weight clients n left answer s (sources_of (terms_at config d)) d
  no-more-client is d =
      let uses = total-le (sources_of (terms_at config d)) (owed_use' d) (owed_use d) (λ i h. is.uses d i) in
      let lets = total-le (sources_of (terms_at config d)) (owed_let' d) (owed_let d) (λ i h. is.lets d i) in
      omega (arith, uses, lets, is.acks d)

  pub stays : IsNoMore → rank config n left' answer' s' ≤ rank config n left answer s
  stays is = total-le clients (λ d. client_weight clients n left' answer' s' (sources_of (terms_at config d)) d)
      (λ d. client_weight clients n left answer s (sources_of (terms_at config d)) d) (λ d h. no-more-client is d)

  -- what is owed for one request falls
  pub use-falls : (c i : ℕ) → c < clients → i < sources_of (terms_at config c) → IsNoMore
      → owed_use' c i + 1 ≤ owed_use c i → rank config n left' answer' s' + 1 ≤ rank config n left answer s
  use-falls c i lt below is less =
      let uses = total-falls _ i 1 (owed_use c) (owed_use' c) below (λ j h. is.uses c j) less in
      let lets = total-le (sources_of (terms_at config c)) (owed_let' c) (owed_let c) (λ j h. is.lets c j) in
      falls c lt (no-more-client is) (omega (arith, uses, lets, is.acks c))

  -- what is owed for one Release falls
  pub let-falls : (c i : ℕ) → c < clients → i < sources_of (terms_at config c) → IsNoMore
      → owed_let' c i + 1 ≤ owed_let c i → rank config n left' answer' s' + 1 ≤ rank config n left answer s
  let-falls c i lt below is less =
      let uses = total-le (sources_of (terms_at config c)) (owed_use' c) (owed_use c) (λ j h. is.uses c j) in
      let lets = total-falls _ i 1 (owed_let c) (owed_let' c) below (λ j h. is.lets c j) less in
      falls c lt (no-more-client is) (omega (arith, uses, lets, is.acks c))

  -- a GrantAck is taken
  pub ack-falls : (c : ℕ) → c < clients → IsNoMore → length (s'.link c).e + 1 ≤ length (s.link c).e
      → rank config n left' answer' s' + 1 ≤ rank config n left answer s
  ack-falls c lt is less =
      let uses = total-le (sources_of (terms_at config c)) (owed_use' c) (owed_use c) (λ j h. is.uses c j) in
      let lets = total-le (sources_of (terms_at config c)) (owed_let' c) (owed_let c) (λ j h. is.lets c j) in
      falls c lt (no-more-client is) (omega (arith, uses, lets, less))

  -- a Grant is taken: two less are owed for its request, and a GrantAck is on its way
  pub grant-falls : (c i : ℕ) → c < clients → i < sources_of (terms_at config c)
      → ((d j : ℕ) → owed_use' d j ≤ owed_use d j) → ((d j : ℕ) → owed_let' d j ≤ owed_let d j)
      → ((d : ℕ) → (d ≡ c → ⊥) → length (s'.link d).e ≤ length (s.link d).e)
      → length (s'.link c).e ≡ length (s.link c).e + 1 → owed_use' c i + 2 ≤ owed_use c i
      → rank config n left' answer' s' + 1 ≤ rank config n left answer s
  grant-falls c i lt below uses lets acks more less = falls c lt (λ d. each d (cases_eq d c)) here
    where
      here : client_weight clients n left' answer' s' (sources_of (terms_at config c)) c + 1 ≤ client_weight clients n
          left answer s (sources_of (terms_at config c)) c
      here =
          let u = total-falls _ i 2 (owed_use c) (owed_use' c) below (λ j h. uses c j) less in
          omega (arith, u, total-le (sources_of (terms_at config c)) (owed_let' c) (owed_let c) (λ j h. lets c j), more)

      each : (d : ℕ) → (d ≡ c) ⊎ (d ≡ c → ⊥) → client_weight clients n left' answer' s' (sources_of (terms_at config d))
          d ≤ client_weight clients n left answer s (sources_of (terms_at config d)) d
      each d (inl same) = rw same (let h = here in omega (arith, h))
      each d (inr differs) =
          let l = total-le (sources_of (terms_at config d)) (owed_let' d) (owed_let d) (λ j h. lets d j) in
          let a = acks d differs in
          omega (arith, total-le (sources_of (terms_at config d)) (owed_use' d) (owed_use d) (λ j h. uses d j), l, a)

  -- ---- one request, or Release, that is used as before

  pub use-no-more : (c i : ℕ) (u : SourceState) → s.uses c i ≡ u → s'.uses c i ≡ u → answer' c i ≤ answer c i
      → (u ≡ Asked → left' c Request i ≤ left c Request i) → (u ≡ Replied → left' c Answer i ≤ left c Answer i)
      → ((m : ℕ) → u ≡ InService m → probes_weight clients n left' m (s'.block m) ≤ probes_weight clients n left m
      (s.block m)) → ((m : ℕ) → u ≡ Acquires m → acquire_weight n (left' c Acquire m) (left' c Grant m)
      (probes_weight clients n left' m (s'.block m)) (view (s'.block m).service c) ≤ acquire_weight n (left c Acquire m)
      (left c Grant m) (probes_weight clients n left m (s.block m)) (view (s.block m).service c))
      → owed_use' c i ≤ owed_use c i
  use-no-more c i SourceFree e f ans asks replies serves acquires = rw (e, f) (omega arith)
  use-no-more c i Asked e f ans asks replies serves acquires = let a = asks refl in rw (e, f) (omega (arith, a, ans))
  use-no-more c i (InService m) e f ans asks replies serves acquires = let a = serves m refl in
      rw (e, f) (omega (arith, a, ans))
  use-no-more c i Replied e f ans asks replies serves acquires = rw (e, f) (replies refl)
  use-no-more c i (Acquires m) e f ans asks replies serves acquires = rw (e, f) (acquires m refl)

  -- Probes and reports, pair by pair
  pub probes-no-more : (m : ℕ)
      → ((d : ℕ) → d < clients → pair_weight n left' m d ((s'.block m).pair d) ≤ pair_weight n left m d
      ((s.block m).pair d)) → probes_weight clients n left' m (s'.block m) ≤ probes_weight clients n left m (s.block m)
  probes-no-more m le = total-le clients (λ d. pair_weight n left' m d ((s'.block m).pair d))
      (λ d. pair_weight n left m d ((s.block m).pair d)) le

-- an Acquire that is served as before
pub acquire-no-more : (n a a' g g' p p' : ℕ) (v : View) → (is_unserved v ≡ true → a' ≤ a) → g' ≤ g → p' ≤ p
    → acquire_weight n a' g' p' v ≤ acquire_weight n a g p v
acquire-no-more n a a' g g' p p' v e f h = grind arith
