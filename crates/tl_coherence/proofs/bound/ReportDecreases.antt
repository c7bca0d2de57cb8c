-- What is owed falls as a Probe is taken, and as a report is taken: with others missing, or the last one.
use Rattle.std.proofs.Common.{◌≡◌, ℕ, zero, suc, ◌+◌, ◌<◌, ◌≤◌, Bool, true, false, List, refl, sym, ◌∙◌, ap, arith, ◌⊎◌}
use Rattle.std.proofs.Common.{inl, inr, length, ne_eqb}
use Rattle.tl_coherence.proofs
use proofs.Imports.{cases_eq, Config, Cap, Report, Perm, report_at, same_perm, Left, probing_weight, pair_weight}
use proofs.Imports.{probes_weight, acquire_weight, IsInvariant, serves_of, is_serving, ProbeAck, Acquire, Grant, Answer}
use proofs.Imports.{set, ClientBlock, Own, Granting, ProbePhase, NoProbe, ProbeSent, ProbeAnswered, is_unprobed}
use proofs.Imports.{after_probe, after_report, after_grant_sent, Service, Free, Waits, GrantSent, State, SourceFree}
use proofs.Imports.{InService, Replied, Acquires, view, probed_block, ended_block, granted_block, reported_block}
use proofs.Imports.{is_unserved, AccessMessages}
use Rattle.tl_coherence.specs.bound.Rank.{total}
use proofs.rank.{Weights.IsLeft, RankParts.pair-falls, RankParts.request-falls}
use proofs.rank.Frames.{Taking, Falls, AreAsBefore, AreNoMore, AreElsewhere, IsBlockNoMore, let-stays, unserved-stays}
use proofs.protocol.BeatsRemaining.{beats_left}
use proofs.queues.Tokens.{same_number, set-same, set-other, set-part}

-- ---- one client's pair

probed-less : (size l l' : ℕ) (recorded : Perm) (k : Cap) (r : Report)
    → (same_perm recorded Perm.Trunk ≡ false → l' ≤ 1) → l' ≤ size
    → probing_weight size l' recorded (ProbeAnswered r) + 1 ≤ probing_weight size l recorded (ProbeSent k)
probed-less size l l' recorded k r one few = grind arith

answered_weight : (size l : ℕ) (recorded : Perm) (x : ProbePhase) (r : Report) → x ≡ ProbeAnswered r
    → probing_weight size l recorded x ≡ l
answered_weight size l recorded x r e = rw e refl

quiet_weight : (size l : ℕ) (recorded : Perm) (x : ProbePhase) → x ≡ NoProbe → probing_weight size l recorded x ≡ 0
quiet_weight size l recorded x e = rw e refl

-- one summand is at most the sum
summand-few : (bound m : ℕ) (f : ℕ → ℕ) → m < bound → f m ≤ total bound f
unfolding total
summand-few zero m f lt = absurd (omega (arith, lt))
summand-few (suc bound) m f lt = go (cases_eq m bound) (λ below. summand-few bound m f below)
  where
    go : (m ≡ bound) ⊎ (m ≡ bound → ⊥) → (m < bound → f m ≤ total bound f) → f m ≤ total bound f + f bound
    go e f = grind arith

-- ---- who has the block in service

pub serving : {X : Type 0} {caching : ℕ → Bool} {s : State X} (n d i : ℕ) → IsInvariant caching s
    → s.uses d i ≡ InService n → is_serving d i (s.block n).service ≡ true
serving n d i inv e = sym (inv.named.serves d i n) ∙ (ap (serves_of n) e ∙ same_number n)

-- nobody, where it isn't in service for an access
abbrev pub is_for_access : Service → Bool
is_for_access (Waits q false source k) = true
is_for_access _ = false

pub nobody-serving : {X : Type 0} {caching : ℕ → Bool} {s : State X} (n d i : ℕ) → IsInvariant caching s
    → is_for_access (s.block n).service ≡ false → s.uses d i ≡ InService n → ⊥
nobody-serving {caching} {s} n d i inv none e = go (s.block n).service none (serving n d i inv e)
  where
    go : (u : Service) → is_for_access u ≡ false → is_serving d i u ≡ true → ⊥
    go u e f = grind arith

module _ {w : ℕ} {config : Config} {mail mail' : AccessMessages w} {s s' : State (List ℕ)}
    (taking : Taking config mail mail' s s') where
  open taking use {caching, n, moves, showing, c, ch, rest, rest', popped, size, answer, all}

  abbrev left : Left
  left = beats_left mail s rest

  abbrev left' : Left
  left' = beats_left mail' s' rest'

  abbrev number : ℕ
  number = length config.clients.items

  -- a part of pairs that an event leaves alone
  pub kept_at : {A : Type 0} (part : ClientBlock → A) (p : ClientBlock) → part p ≡ part ((s.block n).pair c)
      → (s'.block n).pair ≡ set c p (s.block n).pair → (d : ℕ) → part ((s'.block n).pair d) ≡ part ((s.block n).pair d)
  kept_at part p e new d = ap (λ f. part (f d)) new ∙ set-part part c p (s.block n).pair e d

  other_at : (p : ClientBlock) → (s'.block n).pair ≡ set c p (s.block n).pair → (d : ℕ) → (d ≡ c → ⊥)
      → (s'.block n).pair d ≡ (s.block n).pair d
  other_at p new d ne = ap (λ f. f d) new ∙ set-other c d p (s.block n).pair ne

  own_at : (p : ClientBlock) → (s'.block n).pair ≡ set c p (s.block n).pair → (s'.block n).pair c ≡ p
  own_at p new = ap (λ f. f c) new ∙ set-same c p (s.block n).pair

  pub probe-falls : (k : Cap) → c < number → ((s.block n).pair c).probing ≡ ProbeSent k
      → s'.block n ≡ probed_block c k (s.block n) → IsLeft size left' answer s' → AreAsBefore s'.uses s.uses
      → AreAsBefore s'.lets s.lets → AreNoMore s'.link s.link → Falls taking
  probe-falls k lt sent new is uses lets acks =
      let pairs = ap (λ b. b.pair) new in
      pair-falls taking lt (rw sent refl) (ap (λ b. b.service) new) (other_at (after_probe k was) pairs) (kept_at
      (λ p. p.acquiring) (after_probe k was) refl pairs c) (kept_at (λ p. p.letting) (after_probe k was) refl pairs c)
      uses lets acks (less ((s'.block n).pair c) (own_at (after_probe k was) pairs) (is.reports c n))
    where
      was : ClientBlock
      was = (s.block n).pair c

      less : (p : ClientBlock) → p ≡ after_probe k was
          → (is_unprobed p.probing ≡ false → same_perm p.recorded Perm.Trunk ≡ false → left' c ProbeAck n ≤ 1)
          → pair_weight size left' n c p + 1 ≤ pair_weight size left n c ((s.block n).pair c)
      less p e reports =
          let after_probe_report : ClientBlock → Report = λ q. report_at k q.held in
          rw (e, sent) (probed-less size (left c ProbeAck n) (left' c ProbeAck n) was.recorded k
          (after_probe_report was) (λ none. reports (rw e refl) (rw e none)) (is.few c ProbeAck n))

  pub report-falls : (told r : Report) → c < number → ((s.block n).pair c).probing ≡ ProbeAnswered told
      → 1 ≤ left c ProbeAck n → s'.block n ≡ reported_block c r (s.block n) → AreAsBefore s'.uses s.uses
      → AreAsBefore s'.lets s.lets → AreNoMore s'.link s.link → Falls taking
  report-falls told r lt answered some new uses lets acks = pair-falls taking lt (rw answered refl) (ap (λ b. b.service)
      new) (other_at (after_report r was) pairs) (kept_at (λ p. p.acquiring) (after_report r was) refl pairs c)
      (kept_at (λ p. p.letting) (after_report r was) refl pairs c) uses lets acks less
    where
      was : ClientBlock
      was = (s.block n).pair c

      pairs : (s'.block n).pair ≡ set c (after_report r was) (s.block n).pair
      pairs = ap (λ b. b.pair) new

      less : pair_weight size left' n c ((s'.block n).pair c) + 1 ≤ pair_weight size left n c ((s.block n).pair c)
      less =
          let after = quiet_weight size (left' c ProbeAck n) ((s'.block n).pair c).recorded
          _ (ap (λ p. p.probing) (own_at (after_report r was) pairs)) in
          omega (arith, after, answered_weight size (left c ProbeAck n) was.recorded _ told answered, some)

  -- ---- the last report

  -- what one report owes is owed by its block
  report-owed : (told : Report) → c < number → ((s.block n).pair c).probing ≡ ProbeAnswered told → 1 ≤ left c ProbeAck n
      → 1 ≤ probes_weight number size left n (s.block n)
  report-owed told lt answered some =
      let one = answered_weight size (left c ProbeAck n) ((s.block n).pair c).recorded _ told answered in
      omega (arith, one, summand-few number c (λ d. pair_weight size left n d ((s.block n).pair d)) lt, some)

  pub answering-falls : (q source : ℕ) (k : Cap) (told r : Report) (f : List ℕ → List ℕ) → c < number
      → ((s.block n).pair c).probing ≡ ProbeAnswered told → 1 ≤ left c ProbeAck n
      → (s.block n).service ≡ Waits q false source k → s.uses q source ≡ InService n
      → left' q Answer source ≤ answer q source → s'.block n ≡ ended_block c r f (s.block n)
      → s'.uses q source ≡ Replied → AreElsewhere q source s'.uses s.uses → AreAsBefore s'.lets s.lets
      → AreNoMore s'.link s.link → Falls taking
  answering-falls q source k told r f lt answered some waits used few new replied unlike lets acks =
      let was : ClientBlock = (s.block n).pair c in
      let opened : s.uses q source ≡ SourceFree → ⊥ = λ e. absurd (let both : InService n ≡ SourceFree = sym used ∙ e in
      cc) in
      let pairs = ap (λ b. b.pair) new in
      let free : (s'.block n).service ≡ Free = ap (λ b. b.service) new in
      let block : IsBlockNoMore taking = record {
        serves = λ d i e g. absurd (nobody-serving n d i showing.after (ap is_for_access free) g);
        acquires = λ d i e g. unserved-stays taking d i n e g (ap (λ u. is_unserved (view u d)) waits)
            (ap (λ u. is_unserved (view u d)) free);
        lets = λ d i e g. let-stays taking d n (kept_at (λ p. p.letting) (after_report r was) refl pairs d);
      } in
      request-falls taking block q source opened unlike lets acks (rw (used, replied)
      (let owed = report-owed told lt answered some in omega (arith, few, owed)))

  pub granting-falls : (q source at : ℕ) (k gift : Cap) (told r : Report) (data_too : Bool) → c < number
      → ((s.block n).pair c).probing ≡ ProbeAnswered told → 1 ≤ left c ProbeAck n
      → (s.block n).service ≡ Waits q true at k → s.uses q source ≡ Acquires n → IsLeft size left' answer s'
      → s'.block n ≡ granted_block c q r data_too gift (s.block n) → AreAsBefore s'.uses s.uses
      → AreAsBefore s'.lets s.lets → AreNoMore s'.link s.link → Falls taking
  granting-falls q source at k gift told r data_too lt answered some waits used is new uses lets acks =
      let opened : s.uses q source ≡ SourceFree → ⊥ = λ e. absurd (let both : Acquires n ≡ SourceFree = sym used ∙ e in
      cc) in
      request-falls taking block q source opened (λ d i ne. uses d i) lets acks
      (rw (uses q source, used) (falls-at q refl))
    where
      was : ClientBlock
      was = (s.block n).pair c

      given : (s'.block n).service ≡ GrantSent q data_too gift
      given = ap (λ b. b.service) new

      falls-at : (d : ℕ) → d ≡ q → acquire_weight size (left' d Acquire n) (left' d Grant n)
          (probes_weight number size left' n (s'.block n)) (view (s'.block n).service d) + 1 ≤ acquire_weight size
          (left d Acquire n) (left d Grant n) (probes_weight number size left n (s.block n))
          (view (s.block n).service d)
      falls-at d e =
          let after : view (s'.block n).service d ≡ Granting data_too gift = rw (given, e, same_number q) refl in
          let before : view (s.block n).service d ≡ Own = rw (waits, e, same_number q) refl in
          let owed = report-owed told lt answered some in
          rw (after, before) (omega (arith, owed, is.few d Grant n))

      acquire : (d i : ℕ) → s.uses d i ≡ Acquires n → s'.uses d i ≡ Acquires n → (d ≡ q) ⊎ (d ≡ q → ⊥)
          → acquire_weight size (left' d Acquire n) (left' d Grant n) (probes_weight number size left' n (s'.block n))
          (view (s'.block n).service d) ≤ acquire_weight size (left d Acquire n) (left d Grant n)
          (probes_weight number size left n (s.block n)) (view (s.block n).service d)
      acquire d i e g (inl same) = let less = falls-at d same in omega (arith, less)
      acquire d i e g (inr other) =
          unserved-stays taking d i n e g (rw (waits, ne_eqb d q other) refl) (rw (given, ne_eqb d q other) refl)

      letting : (d : ℕ) → ((s'.block n).pair d).letting ≡ ((s.block n).pair d).letting
      letting d = let fact = set-part (λ p. p.letting) q (after_grant_sent gift ((s.block n).pair q))
          (set c (after_report r was) (s.block n).pair)
          (sym (set-part (λ p. p.letting) c (after_report r was) (s.block n).pair refl q)) d in
          cc (new, set-part (λ p. p.letting) c (after_report r was) (s.block n).pair refl d)

      block : IsBlockNoMore taking
      block = record {
        serves = λ d i e g. absurd (nobody-serving n d i showing.after (ap is_for_access given) g);
        acquires = λ d i e g. acquire d i e g (cases_eq d q);
        lets = λ d i e g. let-stays taking d n (letting d);
      }
