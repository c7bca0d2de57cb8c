-- What is owed falls as a response is taken, a Release, and a GrantAck.
use Rattle.std.proofs.Common.{◌≡◌, ℕ, ◌+◌, ◌<◌, ◌≤◌, Bool, true, ◌==◌, List, Some, None, refl, sym, ◌∙◌, ap, arith, ◌⊎◌}
use Rattle.std.proofs.Common.{inl, inr, length, ne_eqb, eqb-true}
use Rattle.tl_coherence.proofs
use proofs.Imports.{cases_eq, Config, Cap, Prune, Perm, prune_right, Left, acquire_weight, letting_weight, pair_weight}
use proofs.Imports.{probes_weight, probing_weight, IsInvariant, Acquire, Answer, Grant, ProbeAck, Release, set}
use proofs.Imports.{ClientBlock, Granting, NoProbe, NoRelease, ProbeAnswered, ProbePhase, ProbeSent, ReleaseAcked}
use proofs.Imports.{ReleaseSent, after_grant, after_release_ack, after_release_taken, Acquires, Free, GrantSent}
use proofs.Imports.{GrantTaken, Replied, SourceFree, State, freed_block, let_block, let_go_block, taken_block, view}
use proofs.Imports.{is_answered, is_unserved, is_wanting, AccessMessages}
use proofs.bound.ReportDecreases.{kept_at, nobody-serving, is_for_access}
use proofs.rank.Frames.{Taking, Falls, AreAsBefore, AreNoMore, AreElsewhere, IsBlockNoMore, acquire-stays, let-stays}
use proofs.rank.Frames.{pair-stays, unserved-stays, wants-used, report-here}
use proofs.rank.RankParts.{request-falls, release-falls, acknowledged-falls, granted-falls, block-same}
use proofs.queues.{Phases.and_right, Tokens.total-le, Tokens.same_number, Tokens.set-same, Tokens.set-other}
use proofs.protocol.BeatsRemaining.{beats_left, left-same}

pruned-weight : (size l l' : ℕ) (recorded : Perm) (r : Prune) (x : ProbePhase) → 1 ≤ size → ((a : ℕ) → l' ≤ l)
    → probing_weight size l' (prune_right r) x ≤ probing_weight size l recorded x
pruned-weight size l l' recorded r x e f = grind arith

granted_unserved : (q d : ℕ) → is_unserved (view (GrantTaken q) d) ≡ true
granted_unserved q d = grind arith

-- an Acquire has one source
acquired_with : {caching : ℕ → Bool} {s : State (List ℕ)} (n c i : ℕ) → IsInvariant caching s → s.uses c i ≡ Acquires n
    → i ≡ (s.block n).source c
acquired_with {s} n c i inv e = eqb-true i ((s.block n).source c) (and_right (is_wanting ((s.block n).pair c).acquiring)
    (i == (s.block n).source c) (cc (inv.named.acquires c i n, e, same_number n)))

module _ {w : ℕ} {config : Config} {mail mail' : AccessMessages w} {s s' : State (List ℕ)}
    (taking : Taking config mail mail' s s') where
  open taking use {caching, n, moves, showing, c, ch, rest, rest', popped, size, answer, all}

  abbrev left : Left
  left = beats_left mail s rest

  abbrev left' : Left
  left' = beats_left mail' s' rest'

  abbrev number : ℕ
  number = length config.clients.items

  pub answer-falls : (source : ℕ) → s.uses c source ≡ Replied → s'.uses c source ≡ SourceFree → 1 ≤ left c Answer source
      → s'.block n ≡ s.block n → AreElsewhere c source s'.uses s.uses → AreAsBefore s'.lets s.lets
      → AreNoMore s'.link s.link → Falls taking
  answer-falls source replied closed some same unlike lets acks =
      let opened : s.uses c source ≡ SourceFree → ⊥ = λ e. absurd (let both : Replied ≡ SourceFree = sym replied ∙ e in
      cc) in
      request-falls taking (block-same taking same) c source opened unlike lets acks
      (rw (replied, closed) (omega (arith, some)))

  pub grant-taken-falls : (data_too was_data whole : Bool) (k cap : Cap)
      → (s.block n).service ≡ GrantSent c was_data cap → s.uses c ((s.block n).source c) ≡ Acquires n
      → s'.uses c ((s.block n).source c) ≡ SourceFree → 1 ≤ left c Grant n
      → s'.block n ≡ taken_block c whole data_too k (s.block n) → AreElsewhere c ((s.block n).source c) s'.uses s.uses
      → AreAsBefore s'.lets s.lets → ((d : ℕ) → (d ≡ c → ⊥) → length (s'.link d).e ≤ length (s.link d).e)
      → length (s'.link c).e ≡ length (s.link c).e + 1 → Falls taking
  grant-taken-falls data_too was_data whole k cap given used closed some new unlike lets acks more =
      let before : view (s.block n).service c ≡ Granting was_data cap = rw (given, same_number c) refl in
      let opened : s.uses c ((s.block n).source c) ≡ SourceFree → ⊥ = λ e. absurd cc in
      granted-falls taking block c
      ((s.block n).source c) opened unlike lets acks more (rw (used, closed, before) (omega (arith, some)))
    where
      taken : (s'.block n).service ≡ GrantTaken c
      taken = ap (λ b. b.service) new

      acquire : (d i : ℕ) → s.uses d i ≡ Acquires n → s'.uses d i ≡ Acquires n → (d ≡ c) ⊎ (d ≡ c → ⊥)
          → acquire_weight size (left' d Acquire n) (left' d Grant n) (probes_weight number size left' n (s'.block n))
          (view (s'.block n).service d) ≤ acquire_weight size (left d Acquire n) (left d Grant n)
          (probes_weight number size left n (s.block n)) (view (s.block n).service d)
      acquire d i e f (inl same) =
          let own : s.uses c i ≡ Acquires n = rw same at e in
          let at = acquired_with n c i showing.before own in
          let end : s'.uses c i ≡ SourceFree = rw at closed in
          let still : s'.uses c i ≡ Acquires n = rw same at f in
          absurd (let both : Acquires n ≡ SourceFree = sym still ∙ end in cc)
      acquire d i e f (inr other) = unserved-stays taking d i n e f (rw (given, ne_eqb d c other) refl)
          (ap (λ u. is_unserved (view u d)) taken ∙ granted_unserved c d)

      block : IsBlockNoMore taking
      block = record {
        serves = λ d i e f. absurd (nobody-serving n d i showing.before (ap is_for_access given) e);
        acquires = λ d i e f. acquire d i e f (cases_eq d c);
        lets = λ d i e f. let-stays taking d n (kept_at taking (λ p. p.letting) (after_grant k ((s.block n).pair c))
            refl (ap (λ b. b.pair) new) d);
      }

  pub release-taken-falls : (source : ℕ) (told r : Prune) → 1 ≤ size → s.lets c source ≡ Some n
      → ((s.block n).pair c).letting ≡ ReleaseSent told → 1 ≤ left c Release n → s'.block n ≡ let_block c r (s.block n)
      → AreAsBefore s'.uses s.uses → AreAsBefore s'.lets s.lets → AreNoMore s'.link s.link → Falls taking
  release-taken-falls source told r wide used releasing some new uses lets acks = release-falls taking block c source n
      used uses (λ d i ne. lets d i) acks (rw (lets c source, used, releasing, acked) (omega (arith, some)))
    where
      was : ClientBlock
      was = (s.block n).pair c

      pairs : (s'.block n).pair ≡ set c (after_release_taken r was) (s.block n).pair
      pairs = ap (λ b. b.pair) new

      own : (s'.block n).pair c ≡ after_release_taken r was
      own = ap (λ f. f c) pairs ∙ set-same c (after_release_taken r was) (s.block n).pair

      other : (d : ℕ) → (d ≡ c → ⊥) → (s'.block n).pair d ≡ (s.block n).pair d
      other d ne = cc (pairs, set-other c d (after_release_taken r was) (s.block n).pair ne)

      acked : ((s'.block n).pair c).letting ≡ ReleaseAcked
      acked = ap (λ p. p.letting) own

      told_as : (x : ProbePhase) → was.probing ≡ x → probing_weight size (left' c ProbeAck n) (prune_right r)
          x ≤ probing_weight size (left c ProbeAck n) was.recorded x
      told_as NoProbe e = omega arith
      told_as (ProbeSent k) e = pruned-weight size (left c ProbeAck n) 0 was.recorded r (ProbeSent k) wide
          (λ a. omega arith)
      told_as (ProbeAnswered t) e =
          let same = left-same showing popped c ProbeAck n (report-here showing.before c n (rw e refl))
          (report-here showing.after c n (ap (λ p. is_answered p.probing) own ∙ ap is_answered e)) in
          omega (arith, same)

      each : (d : ℕ) → (d ≡ c) ⊎ (d ≡ c → ⊥) → pair_weight size left' n d ((s'.block n).pair d) ≤ pair_weight size left
          n d ((s.block n).pair d)
      each d (inl same) = rw same (rw own (told_as was.probing refl))
      each d (inr ne) = pair-stays taking d n (ap (λ p. p.probing) (other d ne)) (ap (λ p. p.recorded) (other d ne))

      probes : probes_weight number size left' n (s'.block n) ≤ probes_weight number size left n (s.block n)
      probes = total-le number (λ d. pair_weight size left' n d ((s'.block n).pair d))
          (λ d. pair_weight size left n d ((s.block n).pair d)) (λ d lt. each d (cases_eq d c))

      letting : (d : ℕ) → (d ≡ c) ⊎ (d ≡ c → ⊥) → letting_weight (left' d Release n) ((s'.block n).pair d).letting
          ≤ letting_weight (left d Release n) ((s.block n).pair d).letting
      letting d (inl same) = rw (same, acked, releasing) (omega arith)
      letting d (inr ne) = let-stays taking d n (ap (λ p. p.letting) (other d ne))

      block : IsBlockNoMore taking
      block = record {
        serves = λ d i e f. probes;
        acquires = λ d i e f. acquire-stays taking d n (wants-used showing.before d i n e) (kept_at taking
            (λ p. p.acquiring) (after_release_taken r was) refl pairs d) (ap (λ b. view b.service d) new) probes;
        lets = λ d i e f. letting d (cases_eq d c);
      }

  pub release-ack-falls : (source : ℕ) → s.lets c source ≡ Some n → s'.lets c source ≡ None
      → ((s.block n).pair c).letting ≡ ReleaseAcked → s'.block n ≡ let_go_block c (s.block n)
      → AreAsBefore s'.uses s.uses → AreElsewhere c source s'.lets s.lets → AreNoMore s'.link s.link → Falls taking
  release-ack-falls source used gone acked new uses unlike acks =
      release-falls taking block c source n used uses unlike acks (rw (gone, used, acked) (omega arith))
    where
      was : ClientBlock
      was = (s.block n).pair c

      pairs : (s'.block n).pair ≡ set c (after_release_ack was) (s.block n).pair
      pairs = ap (λ b. b.pair) new

      kept : ((s'.block n).pair c).letting ≡ NoRelease
      kept = ap (λ f. (f c).letting) pairs ∙ ap (λ p. p.letting) (set-same c (after_release_ack was) (s.block n).pair)

      other : (d : ℕ) → (d ≡ c → ⊥) → (s'.block n).pair d ≡ (s.block n).pair d
      other d ne = ap (λ f. f d) pairs ∙ set-other c d (after_release_ack was) (s.block n).pair ne

      probes : probes_weight number size left' n (s'.block n) ≤ probes_weight number size left n (s.block n)
      probes = total-le number (λ d. pair_weight size left' n d ((s'.block n).pair d)) (λ d. pair_weight size left n d
          ((s.block n).pair d)) (λ d lt. pair-stays taking d n (kept_at taking (λ p. p.probing)
          (after_release_ack was) refl pairs d) (kept_at taking (λ p. p.recorded) (after_release_ack was) refl pairs d))

      letting : (d : ℕ) → (d ≡ c) ⊎ (d ≡ c → ⊥) → letting_weight (left' d Release n) ((s'.block n).pair d).letting
          ≤ letting_weight (left d Release n) ((s.block n).pair d).letting
      letting d (inl same) = rw (same, kept) (omega arith)
      letting d (inr ne) = let-stays taking d n (ap (λ p. p.letting) (other d ne))

      block : IsBlockNoMore taking
      block = record {
        serves = λ d i e f. probes;
        acquires = λ d i e f. acquire-stays taking d n (wants-used showing.before d i n e) (kept_at taking
            (λ p. p.acquiring) (after_release_ack was) refl pairs d) (ap (λ b. view b.service d) new) probes;
        lets = λ d i e f. letting d (cases_eq d c);
      }

  pub grant-ack-falls : (q : ℕ) → c < number → (s.block n).service ≡ GrantTaken q → s'.block n ≡ freed_block (s.block n)
      → AreAsBefore s'.uses s.uses → AreAsBefore s'.lets s.lets → AreNoMore s'.link s.link
      → length (s'.link c).e + 1 ≤ length (s.link c).e → Falls taking
  grant-ack-falls q lt taken new uses lets acks less =
      let free : (s'.block n).service ≡ Free = ap (λ b. b.service) new in
      let block : IsBlockNoMore taking = record {
        serves = λ d i e f. absurd (nobody-serving n d i showing.before (ap is_for_access taken) e);
        acquires = λ d i e f. unserved-stays taking d i n e f (ap (λ u. is_unserved (view u d)) taken
            ∙ granted_unserved q d) (ap (λ u. is_unserved (view u d)) free);
        lets = λ d i e f. let-stays taking d n (ap (λ b. (b.pair d).letting) new);
      } in
      acknowledged-falls taking block c lt uses lets acks less
