-- A delivery is movable exactly where a channel carries a message.
-- A delivery is next exactly while something is outstanding.
use Rattle.std.proofs.Common.{◌≡◌, ℕ, zero, suc, ◌+◌, ◌<◌, Bool, true, false, not, ◌==◌, List, [], ◌∷◌, Option, Some}
use Rattle.std.proofs.Common.{None, refl, sym, ◌∙◌, ap, arith, ◌⊎◌, inl, inr, length, eqb-true, is_none, map, nat_le}
use Rattle.tl_coherence.proofs
use proofs.Imports.{and-false, cases_eq, true_from_ne_false, nat_tests, Beat, Link, Channel, IsWidth, Message, MessageA}
use proofs.Imports.{Config, ReleaseOf, on_link, block_at, ends, pending, EndConfig, one_if, service_of_block, services}
use proofs.Imports.{is_let, is_used, open_releases, open_requests, Packet, Release, ReleaseAck, count, NoRelease}
use proofs.Imports.{ReleaseAcked, ReleasePhase, ReleaseSent, is_unreleased, SourceFree, SourceState, State, shown}
use proofs.Imports.{AccessMessages, message_of, messages_on, SimulationRelation, IsCoherent, Moves, outstanding, Log}
use proofs.Imports.{system_after, is_movable, next_delivery, one_memory_after, terms_at}
use Rattle.tl_coherence.{specs.protocol.Protocol.packets_on, specs.bound.Rank.total}
use Rattle.tl_coherence.proofs.simulation.Owned as strangers
use Rattle.tl_manager.specs.statement.Service as manager
use proofs.queues.{Carried.carried-none, Tokens.same_number, Tokens.total-zero}
use proofs.queues.QuiescentQueues.{nothing-moves, no-next, empty-still, client_below}
use proofs.protocol.Served.{clients_in, sources_in, IsSilent, free-when_silent}
use proofs.protocol.GrantedAll.{IsBare, IsClosed, bare-when-closed, closed-when_bare}
use proofs.protocol.Capacities.{AreBounded}
use proofs.links.Granting.{IsFirst, exact, started-releasing}
use proofs.simulation.{Bounded.matched-bounded, Owned.sources-own}
use proofs.outstanding.Counted.{AreCounted, outstanding-open}

no_tokens : {w : ℕ} (f : Packet → Message w) (xs : List Packet) → map f xs ≡ [] → xs ≡ []
no_tokens f [] e = refl
no_tokens f (x ∷ xs) e = absurd cc

found_first : {w : ℕ} (n : ℕ) (s : manager.Service w) (ss : List (manager.Service w)) → block_at s.request.address ≡ n
    → service_of_block n (s ∷ ss) ≡ Some s
found_first n s ss e = rw (e, same_number n) refl

none_served : {w : ℕ} (ss : List (manager.Service w)) → ((n : ℕ) → service_of_block n ss ≡ None) → ss ≡ []
none_served [] none = refl
none_served (s ∷ ss) none = absurd (let both : Some s ≡ None = sym (found_first (block_at s.request.address) s ss refl)
    ∙ none (block_at s.request.address) in cc)

few_test : (n : ℕ) → 0 < n → nat_le n 0 ≡ false
few_test n lt = grind (arith, nat_tests, lt)

module _ {w : ℕ} {config : Config} {log : Log w} {mail : AccessMessages w} {request : ℕ → MessageA w}
    {s : State (List ℕ)} (matched : SimulationRelation config log mail request s (system_after config log))
    (coherent : IsCoherent (system_after config log) log (one_memory_after config log)) (trackers : 0 < config.trackers)
    (firsts : (c : ℕ) (terms : EndConfig) (ch : Channel) (x : Beat w) (rest : List (Beat w))
    → terms_at config c ≡ Some terms → (system_after config log).channels c ch ≡ x ∷ rest
    → IsFirst config terms c ch x (system_after config log)) where
  -- a channel without a beat has no message
  no_message : (c : ℕ) (ch : Channel) → (system_after config log).channels c ch ≡ [] → packets_on ch (s.link c) ≡ []
  no_message c ch none = no_tokens (message_of mail s c) _
      (carried-none _ (messages_on ch mail s c) (rw none at (matched.carried c ch)))

  -- and without a message it has no beat
  no_beat : (c : ℕ) (ch : Channel) → packets_on ch (s.link c) ≡ [] → (system_after config log).channels c ch ≡ []
  no_beat c ch none = grind arith

  -- a channel whose first beat is movable, if there is one, is empty where no delivery is next
  module _ (none : next_delivery config (system_after config log) ≡ None) where
    nothing_first : (c : ℕ) (terms : EndConfig) (ch : Channel) → terms_at config c ≡ Some terms
        → ((x : Beat w) (rest : List (Beat w)) → (system_after config log).channels c ch ≡ x ∷ rest
        → is_movable config c ch (system_after config log) ≡ true) → (system_after config log).channels c ch ≡ []
    nothing_first c terms ch is moves = go ((system_after config log).channels c ch) refl
      where
        go : (beats : List (Beat w)) → (system_after config log).channels c ch ≡ beats → beats ≡ []
        go [] e = refl
        go (x ∷ rest) e = absurd (let both : true ≡ false =
            sym (moves x rest e) ∙ nothing-moves _ _ c terms ch is none in cc)

    moving : (c : ℕ) (terms : EndConfig) (ch : Channel) (x : Beat w) (rest : List (Beat w))
        → terms_at config c ≡ Some terms → (system_after config log).channels c ch ≡ x ∷ rest → Moves config log c x
    moving c terms ch x rest is e =
        (exact matched coherent c terms is ch (λ y more f. firsts c terms ch y more is f)).moves x rest e

    empty_e : (c : ℕ) (terms : EndConfig) → terms_at config c ≡ Some terms
        → (system_after config log).channels c Channel.E ≡ []
    empty_e c terms is =
        let go : (x : Beat w) → IsFirst config terms c Channel.E x (system_after config log) → Moves config log c x
        → is_movable config c Channel.E (system_after config log) ≡ true =
        elim [ Beat.E y ↦ λ first m. m | x ↦ λ first m. absurd (let on = first.on in cc) ] in
        nothing_first c terms Channel.E is (λ x rest e. go x (firsts c terms Channel.E x rest is e)
        (moving c terms Channel.E x rest is e))

    empty_d : (c : ℕ) (terms : EndConfig) → terms_at config c ≡ Some terms
        → (system_after config log).channels c Channel.D ≡ []
    empty_d c terms is =
        let go : (x : Beat w) → IsFirst config terms c Channel.D x (system_after config log) → Moves config log c x
        → is_movable config c Channel.D (system_after config log) ≡ true =
        elim [ Beat.D y ↦ λ first m. m | x ↦ λ first m. absurd (let on = first.on in cc) ] in
        nothing_first c terms Channel.D is (λ x rest e. go x (firsts c terms Channel.D x rest is e)
        (moving c terms Channel.D x rest is e))

    empty_c : (c : ℕ) (terms : EndConfig) → terms_at config c ≡ Some terms
        → (system_after config log).channels c Channel.C ≡ []
    empty_c c terms is =
        let go : (x : Beat w) → IsFirst config terms c Channel.C x (system_after config log) → Moves config log c x
        → is_movable config c Channel.C (system_after config log) ≡ true =
        elim [ Beat.C y ↦ λ first m. m | x ↦ λ first m. absurd (let on = first.on in cc) ] in
        nothing_first c terms Channel.C is (λ x rest e. go x (firsts c terms Channel.C x rest is e)
        (moving c terms Channel.C x rest is e))

    -- no Release is outstanding, since neither it nor its ReleaseAck is on its way
    none_releasing : (c n : ℕ) (terms : EndConfig) → terms_at config c ≡ Some terms
        → pending (ReleaseOf n) ((system_after config log).clients c).past ≡ false
    unfolding count
    none_releasing c n terms is = (matched.known c).releases n ∙ go ((s.block n).pair c).letting refl
      where
        none_shown : (b : Bool) → 0 ≡ one_if b → b ≡ false
        none_shown b e = grind arith

        go : (x : ReleasePhase) → ((s.block n).pair c).letting ≡ x → not (is_unreleased x) ≡ false
        go NoRelease e = refl
        go (ReleaseSent r) e =
            let no = none_shown (shown Release c (s.block n))
            (rw (no_message c Channel.C (empty_c c terms is)) at (matched.invariant.transfers c Release refl n)) in
            absurd (let it : shown Release c (s.block n) ≡ true = rw e refl in let both : true ≡ false = sym it ∙ no in
            cc)
        go ReleaseAcked e =
            let no = none_shown (shown ReleaseAck c (s.block n))
            (rw (no_message c Channel.D (empty_d c terms is)) at (matched.invariant.transfers c ReleaseAck refl n)) in
            absurd (let it : shown ReleaseAck c (s.block n) ≡ true = rw e refl in let both : true ≡ false =
            sym it ∙ no in cc)

    empty_b : (c : ℕ) (terms : EndConfig) → terms_at config c ≡ Some terms
        → (system_after config log).channels c Channel.B ≡ []
    empty_b c terms is = nothing_first c terms Channel.B is (λ x rest e. go x (firsts c terms Channel.B x rest is e)
        (moving c terms Channel.B x rest is e))
      where
        go : (x : Beat w) → IsFirst config terms c Channel.B x (system_after config log) → Moves config log c x
            → is_movable config c Channel.B (system_after config log) ≡ true
        go (Beat.B y) first m = true_from_ne_false _ (λ still.
            let p = started-releasing matched coherent c (block_at y.address) (m.0 still) in
            absurd (let both : true ≡ false = sym p ∙ none_releasing c (block_at y.address) terms is in cc))
        go x first m = absurd (let on = first.on in cc)

    -- so no block is in service, and each request finds a tracker
    module _ (width : IsWidth w) where
      by_client : (ch : Channel) → ((c : ℕ) (terms : EndConfig) → terms_at config c ≡ Some terms
          → (system_after config log).channels c ch ≡ []) → (c : ℕ) → packets_on ch (s.link c) ≡ []
      by_client ch empties c = go (terms_at config c) refl
        where
          go : (o : Option EndConfig) → terms_at config c ≡ o → packets_on ch (s.link c) ≡ []
          go None is = strangers.no_tokens matched width c is ch
          go (Some terms) is = no_message c ch (empties c terms is)

      silent : IsSilent s
      silent = record {
        b = by_client Channel.B empty_b;
        c = by_client Channel.C empty_c;
        d = by_client Channel.D empty_d;
        e = by_client Channel.E empty_e;
      }

      none_in_service : services (system_after config log).manager.trace ≡ []
      none_in_service = none_served (services (system_after config log).manager.trace)
          (λ n. cc (matched.managed.serving_is n, free-when_silent n matched.invariant silent))

      empty_a : (c : ℕ) (terms : EndConfig) → terms_at config c ≡ Some terms
          → (system_after config log).channels c Channel.A ≡ []
      empty_a c terms is = nothing_first c terms Channel.A is (λ x rest e. go x (firsts c terms Channel.A x rest is e)
          (moving c terms Channel.A x rest is e))
        where
          go : (x : Beat w) → IsFirst config terms c Channel.A x (system_after config log) → Moves config log c x
              → is_movable config c Channel.A (system_after config log) ≡ true
          go (Beat.A y) first m = m ∙ rw (none_in_service, few_test _ trackers)
              (rw (and-false (ends (Beat.A y) (on_link c (system_after config log).manager.trace))) refl)
          go x first m = absurd (let on = first.on in cc)

      pub bare-when-standing : IsBare s
      bare-when-standing = record { a = by_client Channel.A empty_a; silent = silent }

  -- where no delivery is next, nothing is open
  pub closed-when-standing : IsWidth w → next_delivery config (system_after config log) ≡ None → IsClosed s
  closed-when-standing width none = closed-when_bare matched.invariant (bare-when-standing none width)

  -- where nothing is open, and no GrantAck is on its way, no delivery is next
  pub standing-when-closed : IsClosed s → ((c : ℕ) → (s.link c).e ≡ [])
      → next_delivery config (system_after config log) ≡ None
  standing-when-closed closed no_acks = no-next config (system_after config log) (λ c ch. empty-still config
      _ c ch (no_beat c ch (bare_on ch c (bare-when-closed matched.invariant closed no_acks))))
    where
      bare_on : (ch : Channel) (c : ℕ) → IsBare s → packets_on ch (s.link c) ≡ []
      bare_on ch c e = grind arith

-- a sum is 0 where each of its numbers is
total-none : (n : ℕ) (f : ℕ → ℕ) → total n f ≡ 0 → (i : ℕ) → i < n → f i ≡ 0
unfolding total
total-none zero f e i lt = absurd (omega (arith, lt))
total-none (suc n) f e i lt = go (cases_eq i n) (total-none n f (omega (arith, e)) i)
  where
    go : (i ≡ n) ⊎ (i ≡ n → ⊥) → (i < n → f i ≡ 0) → f i ≡ 0
    go (inl same) rest = let last : f i ≡ f n = ap f same in omega (arith, last, e)
    go (inr differs) rest = rest (omega (arith, lt, differs))

not_used : (u : SourceState) → one_if (is_used u) ≡ 0 → u ≡ SourceFree
not_used u e = grind arith

not_let : (o : Option ℕ) → one_if (is_let o) ≡ 0 → o ≡ None
not_let o e = grind arith

nothing_in : (xs : List Packet) → length xs ≡ 0 → xs ≡ []
nothing_in [] e = refl
nothing_in (x ∷ xs) e = absurd (omega (arith, e))

-- nothing is counted where nothing is open
none-counted : {X : Type 0} (config : Config) {s : State X} → IsClosed s → ((c : ℕ) → (s.link c).e ≡ [])
    → open_requests config s + open_releases config s ≡ 0
none-counted config {s} closed no_acks =
    let requests : open_requests config s ≡ 0 = total-zero (clients_in config) (λ c. total (sources_in config c)
    (λ i. one_if (is_used (s.uses c i))) + length (s.link c).e) (λ c few.
    let uses : total (sources_in config c) (λ i. one_if (is_used (s.uses c i))) ≡ 0 = total-zero (sources_in config c)
    (λ i. one_if (is_used (s.uses c i))) (λ i lt. ap (λ u. one_if (is_used u)) (closed.uses c i)) in
    let acks : length (s.link c).e ≡ 0 = ap length (no_acks c) in
    omega (arith, uses, acks)) in
    let releases = total-zero (clients_in config) (λ c. total (sources_in config c) (λ i. one_if (is_let (s.lets c i))))
    (λ c few. total-zero (sources_in config c) (λ i. one_if (is_let (s.lets c i)))
    (λ i lt. ap (λ o. one_if (is_let o)) (closed.lets c i))) in
    omega (arith, requests, releases)

module _ {w : ℕ} {config : Config} {log : Log w} {mail : AccessMessages w} {request : ℕ → MessageA w}
    {s : State (List ℕ)} (matched : SimulationRelation config log mail request s (system_after config log))
    (width : IsWidth w) (none : open_requests config s + open_releases config s ≡ 0) where
  -- the two sums of one client
  of_client : (c : ℕ) → c < clients_in config
      → (total (sources_in config c) (λ i. one_if (is_used (s.uses c i))) + length (s.link c).e ≡ 0)
      × (total (sources_in config c) (λ i. one_if (is_let (s.lets c i))) ≡ 0)
  of_client c few = let fact = total-none _ (λ d. total (sources_in config d)
      (λ i. one_if (is_used (s.uses d i))) + length (s.link d).e) (omega (arith, none)) c few in let other_fact =
      total-none _ (λ d. total (sources_in config d) (λ i. one_if (is_let (s.lets d i))))
      (omega (arith, none)) c few in (fact, other_fact)

  bounds : (c : ℕ) → AreBounded c (sources_in config c) config.trackers s
  bounds c = matched-bounded config log mail request s (system_after config log) matched c
      (sources-own config log c width)

  closed_use : (c source : ℕ) (terms : EndConfig) → terms_at config c ≡ Some terms → s.uses c source ≡ SourceFree
  closed_use c source terms at = go (s.uses c source) refl
    where
      zero_there : source < sources_in config c → one_if (is_used (s.uses c source)) ≡ 0
      zero_there lt =
          let both = (of_client c (client_below config c terms at)).0 in
          total-none _ (λ i. one_if (is_used (s.uses c i))) (omega (arith, both)) source lt

      used : (u : SourceState) → s.uses c source ≡ u → (u ≡ SourceFree → ⊥) → s.uses c source ≡ SourceFree
      used u e open_ = not_used _ (zero_there ((bounds c).requests source (λ closed. open_ (cc))))

      go : (u : SourceState) → s.uses c source ≡ u → s.uses c source ≡ SourceFree
      go SourceFree e = e
      go u e = used u e (λ f. absurd cc)

  closed_let : (c source : ℕ) (terms : EndConfig) → terms_at config c ≡ Some terms → s.lets c source ≡ None
  closed_let c source terms at = go (s.lets c source) refl
    where
      go : (o : Option ℕ) → s.lets c source ≡ o → s.lets c source ≡ None
      go None e = e
      go (Some n) e = not_let _ (total-none (sources_in config c) (λ i. one_if (is_let (s.lets c i)))
          (of_client c (client_below config c terms at)).1 source ((bounds c).releases source n e))

  no_ack : (c : ℕ) (terms : EndConfig) → terms_at config c ≡ Some terms → (s.link c).e ≡ []
  no_ack c terms at = let both = (of_client c (client_below config c terms at)).0 in
      nothing_in (s.link c).e (omega (arith, both))

  pub closed-when-counted : IsClosed s
  closed-when-counted = record {
    uses = λ c source. use_is c source (terms_at config c) refl;
    lets = λ c source. let_is c source (terms_at config c) refl;
  }
    where
      use_is : (c source : ℕ) (o : Option EndConfig) → terms_at config c ≡ o → s.uses c source ≡ SourceFree
      use_is c source None at = matched.strangers c source at
      use_is c source (Some terms) at = closed_use c source terms at

      let_is : (c source : ℕ) (o : Option EndConfig) → terms_at config c ≡ o → s.lets c source ≡ None
      let_is c source None at = strangers.no_let matched width c at source
      let_is c source (Some terms) at = closed_let c source terms at

  no-acks-counted : (c : ℕ) → (s.link c).e ≡ []
  no-acks-counted c = go (terms_at config c) refl
    where
      go : (o : Option EndConfig) → terms_at config c ≡ o → (s.link c).e ≡ []
      go None at = strangers.no_tokens matched width c at Channel.E
      go (Some terms) at = no_ack c terms at

-- A delivery is next exactly while something is outstanding.
pub next-while-outstanding : {w : ℕ} {config : Config} {log : Log w} {mail : AccessMessages w} {request : ℕ
    → MessageA w} {s : State (List ℕ)} (matched : SimulationRelation config log mail request s
    (system_after config log)) → IsCoherent (system_after config log) log (one_memory_after config log)
    → 0 < config.trackers → ((c : ℕ) (terms : EndConfig) (ch : Channel) (x : Beat w) (rest : List (Beat w))
    → terms_at config c ≡ Some terms → (system_after config log).channels c ch ≡ x ∷ rest
    → IsFirst config terms c ch x (system_after config log)) → IsWidth w → AreCounted config log s
    → is_none (next_delivery config (system_after config log)) ≡ (outstanding log == 0)
next-while-outstanding {w} {config} {log} {mail} {request} {s} matched coherent trackers firsts width counted =
    go (next_delivery config (system_after config log)) refl (outstanding log == 0) refl
  where
    zero_is : (n : ℕ) → n ≡ 0 → (n == 0) ≡ true
    zero_is n e = rw e refl

    go : (o : Option (Link × Channel)) → next_delivery config (system_after config log) ≡ o → (b : Bool)
        → (outstanding log == 0) ≡ b → is_none o ≡ b
    go None e false f =
        let bare = bare-when-standing matched coherent trackers firsts e width in
        let none = none-counted config (closed-when-standing matched coherent trackers firsts width e) bare.silent.e in
        absurd (let yes = zero_is _ ((outstanding-open counted) ∙ none) in let both : true ≡ false = sym yes ∙ f in cc)
    go (Some d) e true f =
        let none : open_requests config s + open_releases config s ≡ 0 = sym (outstanding-open counted)
        ∙ eqb-true (outstanding log) 0 f in
        let stands = standing-when-closed matched coherent trackers firsts (closed-when-counted matched width none)
        (no-acks-counted matched width none) in
        absurd (let both : Some d ≡ None = sym e ∙ stands in cc)
    go o e b f = refl

-- where no delivery is next, nothing is outstanding
pub none-outstanding : {w : ℕ} (config : Config) (log : Log w)
    → is_none (next_delivery config (system_after config log)) ≡ (outstanding log == 0)
    → next_delivery config (system_after config log) ≡ None → outstanding log ≡ 0
none-outstanding config log moving none = eqb-true (outstanding log) 0 (sym moving ∙ ap is_none none)
