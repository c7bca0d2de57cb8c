-- What is owed falls as a request is taken: answered or granted at once, or with Probes.
use Rattle.std.proofs.Common.{◌≡◌, ℕ, ◌+◌, ◌≤◌, Bool, true, false, List, refl, sym, ◌∙◌, ap, arith, ◌⊎◌, inl, inr}
use Rattle.std.proofs.Common.{length, ne_eqb}
use Rattle.tl_coherence.proofs
use proofs.Imports.{cases_eq, Config, Cap, Left, acquire_weight, pair_weight, probes_weight, IsInvariant, Acquire}
use proofs.Imports.{Answer, Grant, Request, ClientBlock, Granting, Idle, Own, is_unprobed, after_grant_sent, Acquires}
use proofs.Imports.{Asked, Free, GrantSent, InService, Replied, SourceFree, State, Waits, granted_at_once}
use proofs.Imports.{performed_block, served_block, served_pair, view, is_unserved, AccessMessages}
use proofs.rank.{RankParts.request-falls, Weights.IsLeft, Weights.probes-few, Weights.probes-fewer}
use proofs.rank.Frames.{Taking, Falls, AreAsBefore, AreNoMore, AreElsewhere, IsBlockNoMore, acquire-stays, let-stays}
use proofs.rank.Frames.{pair-stays, unserved-stays, wants-used}
use proofs.protocol.{BeatsRemaining.beats_left, GrantedAll.serves_another}
use proofs.queues.Tokens.{total-le, same_number, set-part}
use proofs.bound.ReportDecreases.{is_for_access, nobody-serving}

-- a client whose own Acquire is in service isn't probed for it
owner_quiet : {caching : ℕ → Bool} {s : State (List ℕ)} (n r : ℕ) → IsInvariant caching s
    → view (s.block n).service r ≡ Own → is_unprobed ((s.block n).pair r).probing ≡ true
owner_quiet {s} n r inv own = go (is_unprobed ((s.block n).pair r).probing) refl
  where
    go : (b : Bool) → is_unprobed ((s.block n).pair r).probing ≡ b → b ≡ true
    go true e = refl
    go false e =
        let other = serves_another _ _ ((inv.blocks n).phases r) e in
        let no : false ≡ true = rw own at other in
        absurd cc

served_letting : (r : ℕ) (own : Bool) (k : Cap) (pair : ℕ → ClientBlock) (d : ℕ)
    → (served_pair r own k pair d).letting ≡ (pair d).letting
served_letting r own k pair d = grind arith

module _ {w : ℕ} {config : Config} {mail mail' : AccessMessages w} {s s' : State (List ℕ)}
    (taking : Taking config mail mail' s s') where
  open taking use {caching, n, moves, showing, c, ch, rest, rest', popped, size, answer, all}

  abbrev left : Left
  left = beats_left mail s rest

  abbrev left' : Left
  left' = beats_left mail' s' rest'

  abbrev number : ℕ
  number = length config.clients.items

  abbrev owed_for : ℕ → ℕ
  owed_for d = acquire_weight size (left d Acquire n) (left d Grant n) (probes_weight number size left n (s.block n))
      (view (s.block n).service d)

  abbrev owed_for' : ℕ → ℕ
  owed_for' d = acquire_weight size (left' d Acquire n) (left' d Grant n)
      (probes_weight number size left' n (s'.block n)) (view (s'.block n).service d)

  -- a block whose parts in flight are as before owes no more
  pub block-alike : (s'.block n).pair ≡ (s.block n).pair → (s'.block n).service ≡ (s.block n).service
      → IsBlockNoMore taking
  block-alike pairs service =
      let probes = total-le number (λ d. pair_weight size left' n d ((s'.block n).pair d))
      (λ d. pair_weight size left n d ((s.block n).pair d)) (λ d lt. pair-stays taking d n
      (ap (λ p. (p d).probing) pairs) (ap (λ p. (p d).recorded) pairs)) in
      record {
        serves = λ d i e f. probes;
        acquires = λ d i e f. acquire-stays taking d n (wants-used showing.before d i n e)
            (ap (λ p. (p d).acquiring) pairs) (ap (λ u. view u d) service) probes;
        lets = λ d i e f. let-stays taking d n (ap (λ p. (p d).letting) pairs);
      }

  pub answered-falls : (source : ℕ) (f : List ℕ → List ℕ) → s.uses c source ≡ Asked → s'.uses c source ≡ Replied
      → left' c Answer source ≤ answer c source → s'.block n ≡ performed_block f (s.block n)
      → AreElsewhere c source s'.uses s.uses → AreAsBefore s'.lets s.lets → AreNoMore s'.link s.link → Falls taking
  answered-falls source f asked replied few new unlike lets acks =
      let opened : s.uses c source ≡ SourceFree → ⊥ = λ e. absurd cc in
      request-falls taking (block-alike (ap (λ b. b.pair) new) (ap (λ b. b.service) new)) c source opened unlike lets
      acks (rw (asked, replied) (omega (arith, few)))

  -- ---- a free block comes into service

  module _ (free : (s.block n).service ≡ Free) (letting : (d : ℕ)
      → ((s'.block n).pair d).letting ≡ ((s.block n).pair d).letting) where
    -- where it owes no more to those who acquire it
    come-into-service : ((d : ℕ) → (is_unserved (view (s'.block n).service d) ≡ true) ⊎ (owed_for' d ≤ owed_for d))
        → IsBlockNoMore taking
    come-into-service each = record {
      serves = λ d i e f. absurd (nobody-serving n d i showing.before (ap is_for_access free) e);
      acquires = λ d i e f. acquire d i e f (each d);
      lets = λ d i e f. let-stays taking d n (letting d);
    }
      where
        acquire : (d i : ℕ) → s.uses d i ≡ Acquires n → s'.uses d i ≡ Acquires n
            → (is_unserved (view (s'.block n).service d) ≡ true) ⊎ (owed_for' d ≤ owed_for d) → owed_for' d ≤ owed_for d
        acquire d i e f (inl waits) = unserved-stays taking d i n e f (ap (λ u. is_unserved (view u d)) free) waits
        acquire d i e f (inr less) = less

    idle : (d : ℕ) → view (s.block n).service d ≡ Idle
    idle d = ap (λ u. view u d) free

    pub serving-falls : (source at : ℕ) (k : Cap) → 1 ≤ size → size ≤ 16 → number ≤ 16
        → (s'.block n).service ≡ Waits c false at k → s.uses c source ≡ Asked → s'.uses c source ≡ InService n
        → 1 ≤ left c Request source → IsLeft size left' answer s' → AreElsewhere c source s'.uses s.uses
        → AreAsBefore s'.lets s.lets → AreNoMore s'.link s.link → Falls taking
    serving-falls source at k wide narrow sixteen waits asked served some is unlike lets acks =
        let opened : s.uses c source ≡ SourceFree → ⊥ = λ e. absurd (let both : Asked ≡ SourceFree = sym asked ∙ e in
        cc) in
        let probes = probes-few showing.after size left' answer is wide narrow number sixteen n in
        request-falls taking (come-into-service (λ d. inl (ap (λ u. is_unserved (view u d)) waits))) c source opened
        unlike lets acks (rw (asked, served) (omega (arith, some, probes)))

    pub acquire-granted-falls : (source : ℕ) (data_too : Bool) (k : Cap) → (s'.block n).service ≡ GrantSent c data_too k
        → s.uses c source ≡ Acquires n → IsLeft size left' answer s' → AreAsBefore s'.uses s.uses
        → AreAsBefore s'.lets s.lets → AreNoMore s'.link s.link → Falls taking
    acquire-granted-falls source data_too k given used is uses lets acks =
        let opened : s.uses c source ≡ SourceFree → ⊥ = λ e. absurd cc in
        request-falls taking (come-into-service (λ d. at d (cases_eq d c))) c source opened (λ d i ne. uses d i) lets
        acks (rw (uses c source, used) (less c refl))
      where
        less : (d : ℕ) → d ≡ c → owed_for' d + 1 ≤ owed_for d
        less d e =
            let after : view (s'.block n).service d ≡ Granting data_too k = rw (given, e, same_number c) refl in
            rw (after, idle d) (omega (arith, is.few d Grant n))

        at : (d : ℕ) → (d ≡ c) ⊎ (d ≡ c → ⊥) → (is_unserved (view (s'.block n).service d) ≡ true)
            ⊎ (owed_for' d ≤ owed_for d)
        at d (inl e) = inr (let l = less d e in omega (arith, l))
        at d (inr ne) = inl (rw (given, ne_eqb d c ne) refl)

    pub acquire-served-falls : (source at : ℕ) (k : Cap) → 1 ≤ size → size ≤ 16 → number ≤ 16
        → (s'.block n).service ≡ Waits c true at k → s.uses c source ≡ Acquires n → 1 ≤ left c Acquire n
        → IsLeft size left' answer s' → AreAsBefore s'.uses s.uses → AreAsBefore s'.lets s.lets
        → AreNoMore s'.link s.link → Falls taking
    acquire-served-falls source at k wide narrow sixteen waits used some is uses lets acks =
        request-falls taking (come-into-service (λ d. each d (cases_eq d c))) c source opened
        (λ d i ne. uses d i) lets acks (rw (uses c source, used) less)
      where
        opened : s.uses c source ≡ SourceFree → ⊥
        opened e = absurd (let both : Acquires n ≡ SourceFree = sym used ∙ e in cc)

        own : view (s'.block n).service c ≡ Own
        own = rw (waits, same_number c) refl

        probes : probes_weight number size left' n (s'.block n) ≤ 30
        probes = probes-fewer showing.after size left' answer is wide narrow number sixteen n c
            (all.clients c source opened) (owner_quiet n c showing.after own)

        less : owed_for' c + 1 ≤ owed_for c
        less = rw (own, idle c) (omega (arith, probes, some))

        each : (d : ℕ) → (d ≡ c) ⊎ (d ≡ c → ⊥) → (is_unserved (view (s'.block n).service d) ≡ true)
            ⊎ (owed_for' d ≤ owed_for d)
        each d (inl e) = inr (rw e (let l = less in omega (arith, l)))
        each d (inr ne) = inl (rw (waits, ne_eqb d c ne) refl)

  -- the parts of Releases, in a block that is served or granted
  pub served-letting : (own : Bool) (source tracker : ℕ) (k : Cap) → s'.block n ≡ served_block c own source tracker k
      (s.block n) → (d : ℕ) → ((s'.block n).pair d).letting ≡ ((s.block n).pair d).letting
  served-letting own source tracker k new d = ap (λ b. (b.pair d).letting) new ∙ served_letting c own
      k (s.block n).pair d

  pub granted-letting : (tracker : ℕ) (data_too : Bool) (k : Cap) → s'.block n ≡ granted_at_once c tracker data_too k
      (s.block n) → (d : ℕ) → ((s'.block n).pair d).letting ≡ ((s.block n).pair d).letting
  granted-letting tracker data_too k new d = ap (λ b. (b.pair d).letting) new ∙ set-part
      (λ p. p.letting) c (after_grant_sent k ((s.block n).pair c)) (s.block n).pair refl d
