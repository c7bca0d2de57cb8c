-- What an answer brings its request may bring, by beats and commits.
use Rattle.tl_commit_memory.proofs.Imports.{Access, Beat, BeatD, Channel, CommitRun, Committed, Events, Happened}
use Rattle.tl_commit_memory.proofs.Imports.{IsAnswer, IsClean, IsCommitRun, IsPending, IsPerformed, IsTaken}
use Rattle.tl_commit_memory.proofs.Imports.{Leaves, Link, Memory, Performs, Run, Stores, Takes, Trace, access_writes}
use Rattle.tl_commit_memory.proofs.Imports.{asked-by_now, beats_of, events_in, found_in, is_of, is_release_ack}
use Rattle.tl_commit_memory.proofs.Imports.{memory_in}
use Rattle.tl_commit_memory.proofs.Imports.{none-some, on_link, pending_accesses, reaches, run_in, same-some}
use Rattle.tl_commit_memory.proofs.Imports.{among-filter, could_be, pending_value, trace_in, unfinished}
use Rattle.std.proofs.Common.{◌≡◌, ℕ, suc, Bool, true, false, not, ◌&&◌, ◌+◌, List, [], ◌∷◌, ◌⊎◌, inl, inr, refl, sym}
use Rattle.std.proofs.Common.{ap, ◌∙◌, arith, length, subst}
use Rattle.std.specs.Prelude.{if◌then◌else◌, filter, Some, ◌==◌}
use Rattle.std.proofs.lemmas.Bool.{and_from, and_parts, eqb-true, le-leb, or_left, or_right}
use Rattle.tl_burst.specs.statement.Messages.{burst_length}
use Rattle.tl_bytes.specs.statement.Bytes.{is_get, may_write, others, told_as, written_as}
use Rattle.tl_bytes.specs.statement.Early.{outrun_accesses, outruns}
use Rattle.tl_bytes.proofs.Finding.{among-found, found-among, found-passes}
use Rattle.tl_bytes.proofs.Pending.{pending-before}
use Rattle.tl_events.specs.declared.commit.Event.{Event}
use Rattle.tl_events.specs.declared.commit.Event.TheVariants as event
use Rattle.tl_commits.specs.statement.Completeness.{Completeness}
use Rattle.tl_commits.specs.statement.Seen.{values_seen}
unfoldable use Rattle.tl_commits.specs.statement.True.{before_last_seen, may_read_seen}
use Rattle.tl_one_memory.proofs.Covered.{IsWrittenNow}
use Rattle.tl_one_memory.proofs.Known.{Answers, IsDone, clean-free}
use Rattle.tl_one_memory.proofs.Outrun.{may-leave}
use Rattle.tl_one_memory.proofs.Performed.{asked-again, found-other, found-performed, found-still, found-taken}
use Rattle.tl_one_memory.proofs.Performed.{performed-once, some-value, still-late, unanswered}
unfoldable use Rattle.tl_one_memory.proofs.Read.{in-window}
use Rattle.tl_one_memory.proofs.Read.{begun-on_d, performed-window, put-unread}
use Rattle.tl_one_memory.specs.statement.Run.{MayBeRead, returns}
use Rattle.tl_beat.specs.declared.opcode.OpA.{OpA}
use Rattle.tl_burst.specs.declared.message.MessageA.{MessageA}
use Rattle.tl_bytes.specs.statement.Bytes.{writes}
use Rattle.tl_commit_memory.specs.statement.CommitRun.{StartsAs}
use Rattle.tl_commit_memory.proofs.Granted.{told-as}
use Rattle.tl_commit_memory.proofs.Traces.{beats-are, is-run}
use Rattle.tl_commit_memory.proofs.Values.{known-then}
unfoldable use Rattle.tl_commit_memory.proofs.Values.{to_beat}

-- ---- what a pending access may bring

-- all that may be so at the last beat, or that another writes now
read-now : {w : ℕ} (complete : Completeness) (n c s : ℕ) (p : Access w) (e : Events w) (address v : ℕ)
    → IsPending c s p (beats_of e) → in-window n p address (beats_of e) ≡ true
    → (told_as v (values_seen complete n address (to_beat e)) ≡ true)
    ⊎ (may_write address v (others p (beats_of e)) (outrun_accesses (beats_of e)) ≡ true)
    → may_read_seen complete n p e address v ≡ true
unfolding may_read_seen beats_of pending_accesses in-window to_beat
read-now complete n c s p [] address v pending window is = absurd (none-some p pending)
read-now {w} complete n c s p ((link, event.Beat x) ∷ e) address v pending window is =
    and_from _ _ (le-leb p.asked (suc (length (beats_of e)))
    (asked-by_now c s p ((link, x) ∷ beats_of e) pending).by_now)
    (or_left _ _ (and_from _ _ window (elim is [
      | inl told ↦ or_left _ _ told
      | inr written ↦ or_right _ _ written
    ])))
read-now complete n c s p ((link, event.Commit x) ∷ e) address v pending window is =
    and_from _ _ (le-leb p.asked (length (beats_of e)) (asked-by_now c s p (beats_of e) pending).by_now)
    (or_right false _ (read-now complete n c s p e address v pending window is))

-- and all that it could before
read-more : {w : ℕ} (complete : Completeness) (n c s : ℕ) (p : Access w) (x : Link × Event w) (e : Events w)
    (address v : ℕ) → IsPending c s p (beats_of e)
    → may_read_seen complete n p e address v ≡ true → may_read_seen complete n p (x ∷ e) address v ≡ true
unfolding may_read_seen beats_of
read-more complete n c s p (link, event.Beat x) e address v pending is =
    and_from _ _ (le-leb p.asked (suc (length (beats_of e)))
    (omega (arith, (asked-by_now c s p (beats_of e) pending).by_now)))
    (or_right _ _ is)
read-more complete n c s p (link, event.Commit x) e address v pending is =
    and_from _ _ (le-leb p.asked (length (beats_of e)) (asked-by_now c s p (beats_of e) pending).by_now)
    (or_right false _ is)

-- another access that writes the byte is another one
written-by : {w : ℕ} (n address v : ℕ) (done : ℕ → ℕ → Type 0) (Answering : ℕ → ℕ → Access w → List (Beat w) → Type 0)
    (t : Trace w) (link source : ℕ) (now : IsWrittenNow n address v done Answering t)
    → (is_of link source now.access ≡ true → ⊥)
    → written_as address v (filter (λ other. not (is_of link source other)) (pending_accesses t)) ≡ true
written-by {w} n address v done Answering t link source now other =
    found-among Writes (λ x. access_writes address x && could_be v (pending_value x.request.opcode x address))
    (filter (λ x. not (is_of link source x)) (pending_accesses t))
    (λ x is. and_from (access_writes address x) (could_be v (pending_value x.request.opcode x address)) is.0 is.1)
    (among-filter Writes (λ x. not (is_of link source x)) (pending_accesses t) (λ x is. ap not is.2)
    (among-found Writes _ (pending_accesses t) now.access now.pending
    (now.writes, now.pending_is, none (is_of link source now.access) other)))
  where
    none : (b : Bool) → (b ≡ true → ⊥) → b ≡ false
    none true ne = absurd (ne refl)
    none false ne = refl

    Writes : Access w → Type 0
    Writes x = (access_writes address x ≡ true) × (could_be v (pending_value x.request.opcode x address) ≡ true)
        × (is_of link source x ≡ false)

-- ---- what was found

module _ {w : ℕ} (complete : Completeness) (n : ℕ) (first : Memory) (starts : StartsAs complete.zero first) where
  -- each access that was performed at an address and reads may bring what it found there
  abbrev AreRead : CommitRun w → Type 0
  AreRead steps = (c s : ℕ) (p : Access w) (address v : ℕ) → found_in first c s (run_in steps) address ≡ Some v
      → IsPending c s p (trace_in (run_in steps)) → returns p.request.opcode ≡ true
      → reaches p.request.address p.request.size address ≡ true
      → may_read_seen complete n p (events_in steps) address v ≡ true

  pending-then : (c s : ℕ) (p : Access w) (steps : CommitRun w) → IsPending c s p (trace_in (run_in steps))
      → IsPending c s p (beats_of (events_in steps))
  pending-then c s p steps pending = subst (λ (t : Trace w). IsPending c s p t) (sym (beats-are steps)) pending

  read-taken : (link : Link) (x : Beat w) (steps : CommitRun w) → IsTaken n first link x (run_in steps)
      → IsCommitRun n first steps → AreRead steps → AreRead (Happened (Takes link x) ∷ steps)
  unfolding trace_in run_in events_in
  read-taken link x steps taken is before c s p address v performed pending back reached =
      elim (pending-before c s p (link, x) (trace_in (run_in steps)) pending) [
        | inl old ↦ read-more complete n c s p (link, event.Beat x) (events_in steps) address v
            (pending-then c s p steps old.0) (before c s p address v was old.0 back reached)
        | inr new ↦
            let more = (asked-again n first c s p link x (run_in steps) address v taken (is-run n first steps is) was
            new).0 in
            absurd (let no : true ≡ false = sym back ∙ put-unread p.request.opcode more.put in cc)
      ]
    where
      was : found_in first c s (run_in steps) address ≡ Some v
      was = (found-taken first c s link x (run_in steps) address v performed).1

  read-performed : (d i : ℕ) (test : ℕ → Bool) (left : Memory) (steps : CommitRun w)
      → IsPerformed n first d i test (run_in steps) → IsCommitRun n first steps → AreRead steps
      → AreRead (Happened (Performs d i test left) ∷ steps)
  unfolding trace_in run_in events_in
  read-performed d i test left steps is runs before c s p address v performed pending back reached =
      elim (found-performed first c s d i test left run address v performed) [
        | inl at_it ↦ now (at_it.0, at_it.1) at_it.2 at_it.3
        | inr old ↦ before c s p address v old pending back reached
      ]
    where
      run : Run w
      run = run_in steps

      now : (c ≡ d) × (s ≡ i) → test address ≡ true → v ≡ memory_in first run address
          → may_read_seen complete n p (events_in steps) address v ≡ true
      now same passes e = rw e (read-now complete n c s p (events_in steps) address (memory_in first run address)
          (pending-then c s p steps pending)
          (ap (in-window n p address) (beats-are steps)
          ∙ performed-window n first c s p run address pending back reached may
          (λ writes. is.writes_free address passes (ap (λ (q : Access w). access_writes address q) this ∙ writes)))
          (elim (known-then complete n first starts address steps runs (clean may)) [
            | inl told ↦ inl (told-as n address (memory_in first run address) (IsDone first run address) (trace_in run)
                (values_seen complete n address (to_beat (events_in steps))) told)
            | inr by ↦ inr (ap (λ (t : Trace w). may_write address (memory_in first run address) (others p t)
                (outrun_accesses t)) (beats-are steps) ∙ elim by [
                  | inl written ↦ or_left _ _ (written-by n address (memory_in first run address)
                      (IsDone first run address)
                      (Answers first run) (trace_in run) p.link p.request.source written (other written))
                  | inr left ↦ or_right _ _ (may-leave address (trace_in run) left)
                ])
          ]))
        where
          this : is.access ≡ p
          this = same-some p is.access (sym pending ∙ rw (same.0, same.1) is.pending)

          may : MayBeRead n first address run
          may = is.reads_free address passes
              (ap (λ (q : Access w). reaches q.request.address q.request.size address) this ∙ reached)

          clean : MayBeRead n first address run → IsClean n first address run
          clean free_or = elim free_or [
            | inl free ↦ clean-free n first address run (is-run n first steps runs) free
            | inr shown ↦ shown.1
          ]

          other : (written : IsWrittenNow n address (memory_in first run address) (IsDone first run address)
              (Answers first run) (trace_in run)) → is_of p.link p.request.source written.access ≡ true → ⊥
          other written e =
              let mine = and_parts (p.link == c) (p.request.source == s)
              (found-passes (is_of c s) (pending_accesses (trace_in run)) p pending) in
              let theirs = and_parts (written.access.link == written.link)
              (written.access.request.source == written.source)
              (found-passes (is_of written.link written.source) (pending_accesses (trace_in run)) written.access
              written.pending) in
              let both = and_parts (written.access.link == p.link)
              (written.access.request.source == p.request.source) e in
              let link : written.link ≡ d = sym (eqb-true written.access.link written.link theirs.0)
              ∙ eqb-true written.access.link p.link both.0 ∙ eqb-true p.link c mine.0 ∙ same.0 in
              let source : written.source ≡ i = sym (eqb-true written.access.request.source written.source theirs.1)
              ∙ eqb-true written.access.request.source p.request.source both.1
              ∙ eqb-true p.request.source s mine.1 ∙ same.1 in
              none-some written.performed.0
              (sym (is.once address passes) ∙ rw (← link, ← source) written.performed.1)

  pub are-read : (steps : CommitRun w) → IsCommitRun n first steps → AreRead steps
  unfolding IsCommitRun trace_in found_in run_in events_in
  are-read [] is = λ c s p address v performed pending. absurd (none-some v performed)
  are-read (Happened (Takes link x) ∷ steps) is = read-taken link x steps is.0 is.1 (are-read steps is.1)
  are-read (Happened (Performs d i test left) ∷ steps) is =
      read-performed d i test left steps is.0 is.1 (are-read steps is.1)
  are-read (Happened (Stores block bytes) ∷ steps) is = are-read steps is.1
  are-read (Happened (Leaves d i bytes) ∷ steps) is = are-read steps is.1
  are-read (Committed link x ∷ steps) is = λ c s p address v performed pending back reached.
      read-more complete n c s p (link, event.Commit x) (events_in steps) address v (pending-then c s p steps pending)
      (are-read steps is.1 c s p address v performed pending back reached)

  -- ---- an answer that has begun

  -- the byte at an address was found, and may be brought by what was so before
  pub record IsFoundBefore (c s : ℕ) (p : Access w) (k : ℕ) (steps : CommitRun w) (address : ℕ) : Type 0 where
    pub byte : ℕ
    pub found_is : found_in first c s (run_in steps) address ≡ Some byte
    pub brings : may_read_seen complete n p (before_last_seen c k (events_in steps)) address byte ≡ true

  -- so it is with all bytes of an access whose answer has begun, unless that is a Get
  abbrev IsReadBefore : ℕ → ℕ → Access w → ℕ → CommitRun w → Type 0
  IsReadBefore c s p k steps = is_get p.request.opcode ≡ false → returns p.request.opcode ≡ true → (address : ℕ)
      → reaches p.request.address p.request.size address ≡ true → IsFoundBefore c s p k steps address

  abbrev AreBegunRead : CommitRun w → Type 0
  AreBegunRead steps = (c : ℕ) (z : BeatD w) (older : List (Beat w)) (p : Access w)
      → unfinished Channel.D (on_link c (trace_in (run_in steps))) ≡ Beat.D z ∷ older → is_release_ack z.opcode ≡ false
      → z.denied ≡ false → IsPending c z.source p (trace_in (run_in steps))
      → IsReadBefore c z.source p (suc (length older)) steps

  -- what reads and is no Get writes what it reaches
  writes-reached : (o : OpA) (m : MessageA w) (address : ℕ) → is_get o ≡ false → returns o ≡ true
      → reaches m.address m.size address ≡ true → writes o m address ≡ true
  writes-reached OpA.ArithmeticData m address other back reached = reached
  writes-reached OpA.LogicalData m address other back reached = reached
  writes-reached OpA.Get m address other back reached = absurd cc
  writes-reached v m address other back reached = absurd cc

  none-before : (c : ℕ) (e : Events w) → before_last_seen c 0 e ≡ e
  unfolding before_last_seen
  none-before c [] = refl
  none-before c (x ∷ e) = refl

  -- at a beat of an answer
  pub read-next : (link : Link) (z : BeatD w) (p : Access w) (steps : CommitRun w)
      → IsTaken n first link (Beat.D z) (run_in steps)
      → IsCommitRun n first steps → AreBegunRead steps → is_release_ack z.opcode ≡ false → z.denied ≡ false
      → outruns z (on_link link.0 (trace_in (run_in steps))) ≡ false
      → IsPending link.0 z.source p (trace_in (run_in steps))
      → IsReadBefore link.0 z.source p (length (unfinished Channel.D (on_link link.0 (trace_in (run_in steps))))) steps
  read-next link z p steps taken is begun no_ack granted late pending =
      go (unfinished Channel.D (on_link link.0 (trace_in run))) refl
    where
      run : Run w
      run = run_in steps

      answer : IsAnswer first link.0 z p run
      answer = taken.answers_rightly z p refl no_ack granted late pending

      go : (burst : List (Beat w)) → unfinished Channel.D (on_link link.0 (trace_in run)) ≡ burst
          → IsReadBefore link.0 z.source p (length burst) steps
      go [] e = λ other back address reached.
          let found = some-value (found_in first link.0 z.source run address)
          (answer.written address (writes-reached p.request.opcode p.request address other back reached)) in
          record {
            byte = found.0;
            found_is = found.1;
            brings = ap (λ (i : Events w). may_read_seen complete n p i address found.0)
                (none-before link.0 (events_in steps))
                ∙ are-read steps is link.0 z.source p address found.0 found.1 pending back reached;
          }
      go (Beat.D y ∷ older) e =
          let same = taken.continues z y older refl e in
          rw same.1 (begun link.0 y older p e (ap is_release_ack (sym same.0) ∙ no_ack) (answer.undenied y older e)
          (rw (← same.1) pending))
      go (Beat.A y ∷ older) e = absurd (let no : false ≡ true = begun-on_d n first (Beat.A y) older _ e in cc)
      go (Beat.B y ∷ older) e = absurd (let no : false ≡ true = begun-on_d n first (Beat.B y) older _ e in cc)
      go (Beat.C y ∷ older) e = absurd (let no : false ≡ true = begun-on_d n first (Beat.C y) older _ e in cc)
      go (Beat.E y ∷ older) e = absurd (let no : false ≡ true = begun-on_d n first (Beat.E y) older _ e in cc)

  same-newest : (a b : BeatD w) (xs ys : List (Beat w)) → Beat.D a ∷ xs ≡ Beat.D b ∷ ys → (b ≡ a) × (ys ≡ xs)
  same-newest a b xs ys f = (cc, cc)

  begun-here : (link : Link) (y : BeatD w) (steps : CommitRun w) → IsTaken n first link (Beat.D y) (run_in steps)
      → IsCommitRun n first steps
      → AreBegunRead steps → (c : ℕ) (z : BeatD w) (older : List (Beat w)) (p : Access w) → link.0 ≡ c → z ≡ y
      → older ≡ unfinished Channel.D (on_link c (trace_in (run_in steps))) → is_release_ack z.opcode ≡ false
      → z.denied ≡ false → outruns y (on_link link.0 (trace_in (run_in steps))) ≡ false
      → IsPending c z.source p (trace_in (run_in steps)) → IsReadBefore c z.source p (length older) steps
  begun-here link y steps taken is begun c z older p own same rest no_ack granted late pending =
      rw (rest, same, ← own)
      (read-next link y p steps taken is begun (ap (λ (b : BeatD w). is_release_ack b.opcode) (sym same) ∙ no_ack)
      (ap (λ (b : BeatD w). b.denied) (sym same) ∙ granted) late
      (rw (own, ← same) pending))

  begun-taken : (link : Link) (x : Beat w) (steps : CommitRun w) → IsTaken n first link x (run_in steps)
      → IsCommitRun n first steps → AreBegunRead steps → AreBegunRead (Happened (Takes link x) ∷ steps)
  unfolding trace_in on_link unfinished before_last_seen run_in events_in
  begun-taken link x steps taken is begun c z older p e no_ack granted pending = here (link.0 == c) refl e
    where
      t : Trace w
      t = trace_in (run_in steps)

      Result : Type 0
      Result = IsReadBefore c z.source p (suc (length older)) (Happened (Takes link x) ∷ steps)

      -- what was so before is so still
      still : (k : ℕ) → before_last_seen c (suc (length older)) ((link, event.Beat x) ∷ events_in steps)
          ≡ before_last_seen c k (events_in steps) → IsReadBefore c z.source p k steps → Result
      still k same is other back address reached =
          let was = is other back address reached in
          record {
            byte = was.byte;
            found_is = found-still first c z.source link x (run_in steps) address
                (unanswered c z.source p link x t pending) ∙ was.found_is;
            brings = rw same was.brings;
          }

      -- the beat is another one
      apart : unfinished Channel.D (on_link c t) ≡ Beat.D z ∷ older
          → before_last_seen c (suc (length older)) ((link, event.Beat x) ∷ events_in steps)
          ≡ before_last_seen c (suc (length older)) (events_in steps) → Result
      apart f same = elim (pending-before c z.source p (link, x) t pending) [
        | inl old ↦ still (suc (length older)) same (begun c z older p f no_ack granted old.0)
        | inr new ↦ absurd (taken.asks_first new.beat z older new.beat_is new.asks_it
            (ap (λ (d : ℕ). unfinished Channel.D (on_link d t)) (sym new.link_is) ∙ f) no_ack new.source_is)
      ]

      -- it is the newest of the burst
      newest : (y : BeatD w) → x ≡ Beat.D y → link.0 ≡ c → (last : Bool)
          → (if last then [] else Beat.D y ∷ unfinished Channel.D (on_link c t)) ≡ Beat.D z ∷ older
          → before_last_seen c (suc (length older)) ((link, event.Beat x) ∷ events_in steps)
          ≡ before_last_seen c (length older) (events_in steps) → Result
      newest y f own true g same = absurd cc
      newest y f own false g same =
          let parts = same-newest y z (unfinished Channel.D (on_link c t)) older g in
          still (length older) same
          (begun-here link y steps (rw (← f) taken) is begun c z older p own parts.0 parts.1 no_ack granted
          (still-late c z.source p link y t (rw (← f) pending) own (ap (λ (b : BeatD w). b.source) (sym parts.0)))
          (elim (pending-before c z.source p (link, x) t pending) [
            | inl old ↦ old.0
            | inr new ↦ absurd (let no : Beat.D y ≡ Beat.A new.beat = sym f ∙ new.beat_is in cc)
          ]))

      on_link_c : (b : Beat w) → x ≡ b → (link.0 == c) ≡ true
          → unfinished Channel.D (b ∷ on_link c t) ≡ Beat.D z ∷ older → Result
      on_link_c (Beat.D y) f own g = newest y f (eqb-true link.0 c own)
          (length (unfinished Channel.D (on_link c t)) + 1 == burst_length (Beat.D y)) g (rw (f, own) refl)
      on_link_c v f own g = apart g (rw (f, own) refl)

      here : (b : Bool) → (link.0 == c) ≡ b
          → unfinished Channel.D (if b then x ∷ on_link c t else on_link c t) ≡ Beat.D z ∷ older → Result
      here true own g = on_link_c x refl own g
      here false own g = apart g (rw own refl)

  begun-performed : (d i : ℕ) (test : ℕ → Bool) (left : Memory) (steps : CommitRun w)
      → IsPerformed n first d i test (run_in steps) → AreBegunRead steps
      → AreBegunRead (Happened (Performs d i test left) ∷ steps)
  unfolding trace_in run_in events_in
  begun-performed d i test left steps is begun c z older p e no_ack granted pending other back address reached =
      let was = begun c z older p e no_ack granted pending other back address reached in
      record {
        byte = was.byte;
        found_is = found-other first c z.source d i test left (run_in steps) address
            (performed-once n first c z.source d i test (run_in steps) address was.byte is was.found_is)
            ∙ was.found_is;
        brings = was.brings;
      }

  pub are-begun_read : (steps : CommitRun w) → IsCommitRun n first steps → AreBegunRead steps
  unfolding IsCommitRun trace_in found_in on_link unfinished run_in events_in before_last_seen
  are-begun_read [] is = λ c z older p e no_ack granted pending. absurd cc
  are-begun_read (Happened (Takes link x) ∷ steps) is =
      begun-taken link x steps is.0 is.1 (are-begun_read steps is.1)
  are-begun_read (Happened (Performs d i test left) ∷ steps) is =
      begun-performed d i test left steps is.0 (are-begun_read steps is.1)
  are-begun_read (Happened (Stores block bytes) ∷ steps) is =
      λ c z older p e no_ack granted pending other back address reached.
      let was = are-begun_read steps is.1 c z older p e no_ack granted pending other back address reached in
      record { byte = was.byte; found_is = was.found_is; brings = was.brings }
  are-begun_read (Happened (Leaves d i bytes) ∷ steps) is =
      λ c z older p e no_ack granted pending other back address reached.
      let was = are-begun_read steps is.1 c z older p e no_ack granted pending other back address reached in
      record { byte = was.byte; found_is = was.found_is; brings = was.brings }
  are-begun_read (Committed link x ∷ steps) is =
      λ c z older p e no_ack granted pending other back address reached.
      let was = are-begun_read steps is.1 c z older p e no_ack granted pending other back address reached in
      record { byte = was.byte; found_is = was.found_is; brings = was.brings }
