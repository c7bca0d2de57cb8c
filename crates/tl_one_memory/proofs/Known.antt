-- After each run of one memory a byte may be what memory has, if no client has stored to its copy since it was told.
use Rattle.tl_one_memory.proofs.Imports.{Beat, Link, Trace, on_link, Memory, effect, block_at, is_release_ack, is_free}
use Rattle.tl_one_memory.proofs.Imports.{Access, access_writes, carried_byte, could_be, may_be, pending_accesses}
use Rattle.tl_one_memory.proofs.Imports.{pending_value, reaches, same-some, unfinished, IsPending, asked-by_now}
use Rattle.tl_one_memory.proofs.Imports.{IsPerformed, IsRun, IsTaken, Leaves, Performs, Run, Stores, Takes, found_in}
use Rattle.tl_one_memory.proofs.Imports.{memory_in, trace_in}
use Rattle.std.proofs.Common.{◌≡◌, ℕ, Bool, true, false, not, ◌&&◌, List, [], ◌∷◌, inl, inr, refl, sym, ap, ◌∙◌}
use Rattle.std.specs.Prelude.{if◌then◌else◌, find, is_some, None, Option, Some, ◌==◌}
use Rattle.std.proofs.lemmas.Bool.{and_parts, eqb-true, not-true}
use Rattle.tl_beat.{specs.declared.channel.Channel.Channel, specs.declared.opcode.OpA.OpA}
use Rattle.tl_burst.specs.declared.message.MessageA.{MessageA}
use Rattle.tl_params.specs.declared.perm.Perm.{Perm}
use Rattle.tl_rules.{specs.statement.Effect.after, specs.statement.History.ends}
use Rattle.tl_rules.specs.statement.{Admission.is_spoiled, Conformance.comes_in_request}
use Rattle.tl_bytes.specs.statement.Bytes.{tells, value_left, writes}
use Rattle.tl_bytes.specs.statement.Early.{Outrun, is_outrun_of, outrun_accesses, outruns}
use Rattle.tl_bytes.proofs.Finding.{none-some}
use Rattle.tl_memory.specs.statement.Known.{is_atomic}
use Rattle.tl_one_memory.proofs.Covered.{AreWindowed, IsCovered, IsOrderly, covered-after, untold-free, windowed-after}
use Rattle.tl_one_memory.proofs.CoveredAlike.{covered-as, windowed-as}
use Rattle.tl_one_memory.proofs.Performed.{asked-again, found-here, found-other, found-performed, found-still}
use Rattle.tl_one_memory.proofs.Performed.{found-taken, performed-once, some-value, unanswered}
use Rattle.tl_one_memory.proofs.Spans.{windowed-free}
use Rattle.tl_one_memory.proofs.Values.{after-unwritten, spoilt-left, spoilt-pending, value-left, value-pending}
use Rattle.tl_one_memory.specs.statement.Run.{IsClean, TellsTrue, left_by, place_in, returns, with_reached}
use Rattle.tl_one_memory.proofs.SoundAnswers.{sound-granted, sound-carried}

-- the access with this source was performed at an address, and isn't answered whole
abbrev pub IsDone : {w : ℕ} → Memory → Run w → ℕ → ℕ → ℕ → Type 0
IsDone first run address c s = (v : ℕ) × (found_in first c s run address ≡ Some v)

-- the burst has what it found, if it returns that, and no beat of it is corrupt, or denied
abbrev pub Answers : {w : ℕ} → Memory → Run w → ℕ → ℕ → Access w → List (Beat w) → Type 0
Answers first run c s access burst = is_some (find is_spoiled burst) ≡ false → returns access.request.opcode ≡ true
    → (address : ℕ)
    → reaches access.request.address access.request.size address ≡ true
    → carried_byte burst (place_in access address) ≡ found_in first c s run address

pub record IsKnown {w : ℕ} (n : ℕ) (first : Memory) (address : ℕ) (run : Run w) : Type 0 where
  pub windowed : AreWindowed n address (IsDone first run address) (trace_in run)
  pub covered : IsClean n first address run
      → IsCovered n address (memory_in first run address) (IsDone first run address) (Answers first run) (trace_in run)

-- what writes a byte, and is answered with bytes, is an atomic
pub writes-atomic : {w : ℕ} (o : OpA) (m : MessageA w) (address : ℕ) → returns o ≡ true → writes o m address ≡ true
    → (is_atomic o ≡ true) × (reaches m.address m.size address ≡ true)
writes-atomic OpA.ArithmeticData m address back e = (refl, e)
writes-atomic OpA.LogicalData m address back e = (refl, e)
writes-atomic OpA.Get m address back e = absurd cc
writes-atomic v m address back e = absurd cc

module _ {w : ℕ} (n : ℕ) (first : Memory) (address : ℕ) where
  -- of a beat that is taken rightly
  orderly : (link : Link) (x : Beat w) (run : Run w) → IsTaken n first link x run → IsRun n first run
      → IsOrderly n address (memory_in first run address) (IsDone first run address) (Answers first run) (link, x)
      (trace_in run)
  orderly link x run taken is = record {
    asks_again = λ c s p now done.
        (asked-again n first c s p link x run address done.0 taken is done.1 now).0;
    answers_done = λ z p e completes pending writing.
        let whole = and_parts (not (is_release_ack z.opcode) && ends (Beat.D z) (on_link link.0 (trace_in run)))
        (not (comes_in_request z.source (unfinished Channel.A (on_link link.0 (trace_in run))))) completes in
        let both = and_parts (not (is_release_ack z.opcode)) (ends (Beat.D z) (on_link link.0 (trace_in run))) whole.0 in
        let late : outruns z (on_link link.0 (trace_in run)) ≡ false =
        rw (both.0, not-true (comes_in_request z.source (unfinished Channel.A (on_link link.0 (trace_in run)))) whole.1)
        refl in
        let no_ack = not-true (is_release_ack z.opcode) both.0 in (
          λ granted. some-value (found_in first link.0 z.source run address)
              ((taken.answers_rightly z p e no_ack granted late pending).written address writing),
          λ sound reads k reached.
              let answer = taken.answers_rightly z p e no_ack
              (sound-granted z (unfinished Channel.D (on_link link.0 (trace_in run))) sound)
              late pending in
              let brought = answer.brings reads k reached (inr completes) in
              sound-carried (Beat.D z ∷ unfinished Channel.D (on_link link.0 (trace_in run))) (place_in p k)
              brought.byte
              sound brought.carried_is ∙ sym brought.found_is,
        );
    outruns_own = λ c s written now z older begun.
        taken.outruns_own now.beat z older address now.beat_is now.early begun
        (rw (← now.link_is, ← now.source_is) written);
  }

  -- where no link holds Trunk of the block, nothing is stored
  pub clean-free : (run : Run w) → IsRun n first run
      → is_free n Perm.Branch (block_at address) (trace_in run) ≡ true → IsClean n first address run
  unfolding IsRun IsClean trace_in
  clean-free [] is free = tt
  clean-free (Takes link x ∷ run) is free = inl free
  clean-free (Performs d i test left ∷ run) is free = clean-free run is.1 free
  clean-free (Leaves d i bytes ∷ run) is free = clean-free run is.1 free
  clean-free (Stores block bytes ∷ run) is free = (apart (block_at address == block) refl, clean-free run is.1 free)
    where
      apart : (b : Bool) → (block_at address == block) ≡ b → b ≡ false
      apart false e = refl
      apart true e = absurd (let no : false ≡ true =
          sym is.0 ∙ ap (λ (k : ℕ). is_free n Perm.Branch k (trace_in run))
          (sym (eqb-true (block_at address) block e))
          ∙ free in cc)

  known-taken : (link : Link) (x : Beat w) (run : Run w) → IsTaken n first link x run → IsRun n first run
      → IsKnown n first address run → IsKnown n first address (Takes link x ∷ run)
  unfolding trace_in memory_in IsClean
  known-taken link x run taken runs known = record {
    windowed = windowed-as n address value done done' answers answers' t' back
        (windowed-after n address value done answers t (link, x) order known.windowed);
    covered = λ clean. covered-as n address value done done' answers answers' t' back forth
        (covered-after n address value done answers t (link, x) order known.windowed (told-so clean) (old clean));
  }
    where
      told-so : IsClean n first address (Takes link x ∷ run)
          → tells (block_at address) x (on_link link.0 (trace_in run)) ≡ true → TellsTrue first address link x run
      told-so clean e = elim clean [
        | inl free ↦ taken.tells_rightly address free e
        | inr by ↦ rw e at by
      ]

      old : IsClean n first address (Takes link x ∷ run)
          → tells (block_at address) x (on_link link.0 (trace_in run)) ≡ false
          → IsCovered n address (memory_in first run address) (IsDone first run address) (Answers first run)
          (trace_in run)
      old clean e = known.covered (elim clean [
        | inr by ↦ rw e at by
        | inl free ↦ was (is_free n Perm.Branch (block_at address) (trace_in run)) refl free
      ])
        where
          was : (b : Bool) → is_free n Perm.Branch (block_at address) (trace_in run) ≡ b
              → is_free n Perm.Branch (block_at address) ((link, x) ∷ trace_in run) ≡ true
              → IsClean n first address run
          was true f free = clean-free run runs f
          was false f free = elim (taken.given_up_rightly address f free) [
            | inl told ↦ absurd (let no : false ≡ true = sym e ∙ told in cc)
            | inr clean ↦ clean
          ]

      t : Trace w
      t = trace_in run

      t' : Trace w
      t' = (link, x) ∷ trace_in run

      value : ℕ
      value = memory_in first run address

      done : ℕ → ℕ → Type 0
      done = IsDone first run address

      done' : ℕ → ℕ → Type 0
      done' = IsDone first (Takes link x ∷ run) address

      answers : ℕ → ℕ → Access w → List (Beat w) → Type 0
      answers = Answers first run

      answers' : ℕ → ℕ → Access w → List (Beat w) → Type 0
      answers' = Answers first (Takes link x ∷ run)

      order : IsOrderly n address value done answers (link, x) t
      order = orderly link x run taken runs

      back : (c s : ℕ) (p : Access w) → IsPending c s p t' → access_writes address p ≡ true → done' c s → done c s
      back c s p pending writing is = (is.0, (found-taken first c s link x run address is.0 is.1).1)

      forth : (c s : ℕ) (p : Access w) → IsPending c s p t' → access_writes address p ≡ true → done c s
          → done' c s × ((burst : List (Beat w)) → answers' c s p burst → answers c s p burst)
      forth c s p pending writing is = (
        (is.0, still address ∙ is.1),
        λ burst answer sound reads k reached. answer sound reads k reached ∙ still k,
      )
        where
          still : (k : ℕ) → found_in first c s (Takes link x ∷ run) k ≡ found_in first c s run k
          still k = found-still first c s link x run k (unanswered c s p link x t pending)

  -- ---- an access is performed

  known-performed : (d i : ℕ) (test : ℕ → Bool) (left : Memory) (run : Run w) → IsPerformed n first d i test run
      → IsKnown n first address run → IsKnown n first address (Performs d i test left ∷ run)
  unfolding trace_in memory_in effect IsClean
  known-performed d i test left run is known = record {
    windowed = windows;
    covered = λ clean. rw is.pending (covers clean (test address) refl);
  }
    where
      t : Trace w
      t = trace_in run

      memory : Memory
      memory = memory_in first run

      p : Access w
      p = is.access

      done : ℕ → ℕ → Type 0
      done = IsDone first run address

      done' : ℕ → ℕ → Type 0
      done' = IsDone first (Performs d i test left ∷ run) address

      answers : ℕ → ℕ → Access w → List (Beat w) → Type 0
      answers = Answers first run

      answers' : ℕ → ℕ → Access w → List (Beat w) → Type 0
      answers' = Answers first (Performs d i test left ∷ run)

      -- the access that is performed
      this : (c s : ℕ) (q : Access w) → c ≡ d → s ≡ i → IsPending c s q t → q ≡ p
      this c s q link source pending = same-some p q (sym (rw (link, source) is.pending) ∙ pending)

      windows : AreWindowed n address done' t
      windows c s q performed pending writing =
          elim (found-performed first c s d i test left run address performed.0 performed.1) [
            | inr old ↦ known.windowed c s q (performed.0, old) pending writing
            | inl now ↦
                let asked = asked-by_now c s q t pending in
                windowed-free n (block_at address) q.asked t asked.some asked.by_now
                (is.writes_free address now.2
                (ap (access_writes address) (sym (this c s q now.0 now.1 pending)) ∙ writing))
          ]

      -- at an address at which it isn't performed all stays as it was
      elsewhere : test address ≡ false → (c s : ℕ) (q : Access w) → IsPending c s q t → access_writes address q ≡ true
          → (burst : List (Beat w)) → answers' c s q burst → answers c s q burst
      elsewhere fails c s q pending writing burst answer sound reads k reached = go (d == c) refl (i == s) refl
        where
          kept : (d == c) && (i == s) ≡ false → carried_byte burst (place_in q k) ≡ found_in first c s run k
          kept e = answer sound reads k reached ∙ found-other first c s d i test left run k (rw e refl)

          -- what writes there, and is answered with bytes, would be performed there
          never : d ≡ c → i ≡ s → ⊥
          never link source =
              let atomic = writes-atomic q.request.opcode q.request address reads writing in
              let same : q ≡ p = this c s q (sym link) (sym source) pending in
              let no : false ≡ true = sym fails ∙ is.at_once
              (ap (λ (r : Access w). is_atomic r.request.opcode) (sym same) ∙ atomic.0) address
              (ap (λ (r : Access w). reaches r.request.address r.request.size address) (sym same) ∙ atomic.1) in cc

          go : (a : Bool) → (d == c) ≡ a → (b : Bool) → (i == s) ≡ b
              → carried_byte burst (place_in q k) ≡ found_in first c s run k
          go true e true f = absurd (never (eqb-true d c e) (eqb-true i s f))
          go true e false f = kept (rw (e, f) refl)
          go false e b f = kept (rw e refl)

      unpassed : test address ≡ false → (c s : ℕ)
          → found_in first c s (Performs d i test left ∷ run) address ≡ found_in first c s run address
      unpassed fails c s = found-other first c s d i test left run address (rw fails (never ((d == c) && (i == s))))
        where
          never : (b : Bool) → b && false ≡ false
          never true = refl
          never false = refl

      -- one that writes there isn't this one, where that doesn't
      back : access_writes address p ≡ false → (c s : ℕ) (q : Access w) → IsPending c s q t
          → access_writes address q ≡ true → done' c s → done c s
      back e c s q pending writing performed =
          elim (found-performed first c s d i test left run address performed.0 performed.1) [
            | inr old ↦ (performed.0, old)
            | inl now ↦ absurd (let no : false ≡ true =
                sym e ∙ ap (access_writes address) (sym (this c s q now.0 now.1 pending)) ∙ writing in cc)
          ]

      forth : test address ≡ true → (c s : ℕ) (q : Access w) → IsPending c s q t → access_writes address q ≡ true
          → done c s → done' c s × ((burst : List (Beat w)) → answers' c s q burst → answers c s q burst)
      forth passes c s q pending writing performed = (
        (performed.0, same address ∙ performed.1),
        λ burst answer sound reads k reached. answer sound reads k reached ∙ same k,
      )
        where
          other : (d == c) && (i == s) ≡ false
          other = go ((d == c) && (i == s))
              (rw (← passes) (performed-once n first c s d i test run address performed.0 is performed.1))
            where
              go : (b : Bool) → b && true ≡ false → b ≡ false
              go false e = refl
              go true e = e

          same : (k : ℕ) → found_in first c s (Performs d i test left ∷ run) k ≡ found_in first c s run k
          same k = found-other first c s d i test left run k (rw other refl)

      unwritten : IsClean n first address run → test address ≡ true → access_writes address p ≡ false
          → IsCovered n address (after p.request.opcode p.request memory address) done' answers' t
      unwritten clean passes e =
          rw (after-unwritten p.request.opcode p.request memory address e)
          (covered-as n address (memory address) done done' answers answers' t (back e) (forth passes)
          (known.covered clean))

      -- it writes the byte
      written : (v : ℕ) → test address ≡ true → access_writes address p ≡ true
          → ((burst : List (Beat w)) → answers' d i p burst
          → could_be v (value_left p.request.opcode p burst address) ≡ true)
          → could_be v (pending_value p.request.opcode p address) ≡ true → IsCovered n address v done' answers' t
      written v passes writing value pending = inr (inl (record {
        link = d;
        source = i;
        access = p;
        performed = (memory address, found-here first d i test left run address passes);
        pending = is.pending;
        writes = writing;
        value_is = value;
        pending_is = pending;
        untold = untold-free n address t (is.writes_free address passes writing);
      }))

      writes-now : IsClean n first address run → test address ≡ true → (s : Bool) → p.spoiled ≡ s → (b : Bool)
          → access_writes address p ≡ b
          → IsCovered n address (if s && b then left address else after p.request.opcode p.request memory address) done'
          answers' t
      writes-now clean passes true spoilt true e = written (left address) passes e
          (λ burst answer. spoilt-left p burst (left address) address spoilt)
          (spoilt-pending p (left address) address spoilt)
      writes-now clean passes false sound true e = written (after p.request.opcode p.request memory address) passes e
          (λ burst answer. value-left p memory burst address
          (λ sound reads k reached. answer sound reads k reached ∙ found-here first d i test left run k
          (is.at_once (writes-atomic p.request.opcode p.request address reads e).0 k reached)) e)
          (value-pending p memory address e)
      writes-now clean passes true spoilt false e = unwritten clean passes e
      writes-now clean passes false sound false e = unwritten clean passes e

      covers : IsClean n first address run → (b : Bool) → test address ≡ b
          → IsCovered n address (if b then left_by p left memory address else memory address) done' answers' t
      covers clean true e = writes-now clean e p.spoiled refl (access_writes address p) refl
      covers clean false e =
          covered-as n address (memory address) done done' answers answers' t
          (λ c s q pending writing performed. (performed.0, sym (unpassed e c s) ∙ performed.1))
          (λ c s q pending writing performed. (
            (performed.0, unpassed e c s ∙ performed.1),
            elsewhere e c s q pending writing,
          )) (known.covered clean)

  -- ---- a client stores to its copy

  known-stored : (block : ℕ) (bytes : Memory) (run : Run w) → IsKnown n first address run
      → IsKnown n first address (Stores block bytes ∷ run)
  unfolding trace_in memory_in found_in IsClean
  known-stored block bytes run known = record {
    windowed = known.windowed;
    covered = λ clean. rw clean.0 (known.covered clean.1);
  }

  -- ---- an access that was answered early leaves its bytes

  known-left : (d i : ℕ) (bytes : Memory) (run : Run w) → IsKnown n first address run
      → IsKnown n first address (Leaves d i bytes ∷ run)
  unfolding trace_in memory_in found_in IsClean
  known-left d i bytes run known = record {
    windowed = known.windowed;
    covered = λ clean. go (find (is_outrun_of d i) (outrun_accesses (trace_in run))) refl (known.covered clean);
  }
    where
      Covered : ℕ → Type 0
      Covered v = IsCovered n address v (IsDone first run address) (Answers first run) (trace_in run)

      go : (o : Option Outrun) → find (is_outrun_of d i) (outrun_accesses (trace_in run)) ≡ o
          → Covered (memory_in first run address) → Covered (with_reached o bytes (memory_in first run) address)
      go None e old = old
      go (Some access) e old = by (reaches access.address access.size address) refl
        where
          by : (b : Bool) → reaches access.address access.size address ≡ b
              → Covered (if b then bytes address else memory_in first run address)
          by false f = old
          by true f =
              inr (inr (record { link = d; source = i; access = access; is = e; reached = f }))

  -- ---- all that has happened

  known-first : IsKnown {w = w} n first address []
  unfolding trace_in memory_in pending_accesses may_be
  known-first = record {
    windowed = λ c s p performed pending writes. absurd (none-some p pending);
    covered = λ clean. inl (inl (refl, λ c s p performed pending writes free one. absurd (none-some p pending)));
  }

  pub known : (run : Run w) → IsRun n first run → IsKnown n first address run
  unfolding IsRun
  known [] is = known-first
  known (Takes link x ∷ run) is = known-taken link x run is.0 is.1 (known run is.1)
  known (Performs d i test left ∷ run) is = known-performed d i test left run is.0 (known run is.1)
  known (Stores block bytes ∷ run) is = known-stored block bytes run (known run is.1)
  known (Leaves d i bytes ∷ run) is = known-left d i bytes run (known run is.1)
