-- What an answer brings its request may bring.
use Rattle.tl_one_memory.proofs.Imports.{Beat, BeatD, Link, reaches, unfinished, Trace, on_link, Memory, is_release_ack}
use Rattle.tl_one_memory.proofs.Imports.{Access, access_writes, before_last, could_be, is_of, may_be, pending_accesses}
use Rattle.tl_one_memory.proofs.Imports.{pending_value, among-filter, same-some, IsPending, asked-by_now, IsAnswer}
use Rattle.tl_one_memory.proofs.Imports.{IsPerformed, IsRun, IsTaken, Leaves, Performs, Run, Stores, Takes, found_in, memory_in}
use Rattle.tl_one_memory.proofs.Imports.{trace_in}
use Rattle.std.proofs.Common.{◌≡◌, ℕ, suc, Bool, true, false, not, ◌&&◌, ◌+◌, List, [], ◌∷◌, ◌⊎◌, inl, inr, refl, sym}
use Rattle.std.proofs.Common.{ap, ◌∙◌, arith, length}
use Rattle.std.specs.Prelude.{if◌then◌else◌, filter, Some, ◌==◌}
use Rattle.std.proofs.lemmas.Bool.{and_from, and_parts, eqb-true, le-leb, or_left, or_right}
use Rattle.tl_beat.specs.declared.channel.Channel.{Channel}
use Rattle.tl_burst.specs.statement.Messages.{History, burst_length, grown, on}
use Rattle.tl_beat.specs.declared.opcode.OpA.{OpA}
use Rattle.tl_burst.specs.declared.message.MessageA.{MessageA}
use Rattle.tl_params.specs.declared.perm.Perm.{Perm}
use Rattle.tl_rules.specs.statement.{History.block_at, Windows.needs}
use Rattle.tl_bytes.specs.statement.{Free.is_free, Shown.is_window}
use Rattle.tl_bytes.specs.statement.Bytes.{is_get, is_put, may_read, may_write, others, told_as, writes}
use Rattle.tl_bytes.specs.statement.Bytes.{written_as}
use Rattle.tl_bytes.specs.statement.Early.{outrun_accesses, outruns}
use Rattle.tl_one_memory.{proofs.Covered.IsWrittenNow, proofs.Granted.told-as}
use Rattle.tl_bytes.proofs.Finding.{among-found, found-among, found-passes, none-some}
use Rattle.tl_one_memory.proofs.Known.{Answers, IsDone, clean-free, known}
use Rattle.tl_one_memory.proofs.Outrun.{may-leave}
use Rattle.tl_one_memory.proofs.Performed.{asked-again, found-other, found-performed}
use Rattle.tl_one_memory.proofs.Performed.{found-still, found-taken, performed-once}
use Rattle.tl_one_memory.proofs.Performed.{some-value, still-late, unanswered}
use Rattle.tl_one_memory.specs.statement.Run.{IsClean, MayBeRead, returns}
use Rattle.tl_bytes.proofs.Pending.{pending-before}

-- ---- what a pending access may bring

-- with the last beat that was taken the access has a window
unfoldable pub in-window : {w : ℕ} → ℕ → Access w → ℕ → Trace w → Bool
in-window n p address [] = false
in-window n p address (x ∷ t) = is_window n (needs p.request.opcode) (block_at address) x t

-- all that may be so now, or that another writes now
read-now : {w : ℕ} (n c s : ℕ) (p : Access w) (t : Trace w) (address v : ℕ) → IsPending c s p t
    → in-window n p address t ≡ true
    → (told_as v (may_be n address t) ≡ true) ⊎ (may_write address v (others p t) (outrun_accesses t) ≡ true)
    → may_read n p t address v ≡ true
unfolding may_read pending_accesses in-window
read-now n c s p [] address v pending window is = absurd (none-some p pending)
read-now {w} n c s p (x ∷ t) address v pending window is =
    and_from _ _ (le-leb p.asked (suc (length t)) (asked-by_now c s p (x ∷ t) pending).by_now)
    (or_left _ _ (and_from _ _ window (elim is [
      | inl told ↦ or_left _ _ told
      | inr written ↦ or_right _ _ written
    ])))

-- and all that it could before
read-more : {w : ℕ} (n c s : ℕ) (p : Access w) (x : Link × Beat w) (t : Trace w) (address v : ℕ) → IsPending c s p t
    → may_read n p t address v ≡ true → may_read n p (x ∷ t) address v ≡ true
unfolding may_read
read-more n c s p x t address v pending is =
    and_from _ _ (le-leb p.asked (suc (length t)) (omega (arith, (asked-by_now c s p t pending).by_now)))
    (or_right _ _ is)

-- where an access that reads may be performed, it has a window
pub performed-window : {w : ℕ} (n : ℕ) (first : Memory) (c s : ℕ) (p : Access w) (run : Run w) (address : ℕ)
    → IsPending c s p (trace_in run) → returns p.request.opcode ≡ true
    → reaches p.request.address p.request.size address ≡ true → MayBeRead n first address run
    → (access_writes address p ≡ true → is_free n Perm.Trunk (block_at address) (trace_in run) ≡ true)
    → in-window n p address (trace_in run) ≡ true
unfolding pending_accesses in-window is_free
performed-window {w} n first c s p run address pending back reached reads writes =
    go (trace_in run) refl p.request.opcode refl
  where
    go : (t : Trace w) → trace_in run ≡ t → (o : OpA) → p.request.opcode ≡ o → in-window n p address t ≡ true
    go [] e o f = absurd (none-some p (rw e at pending))
    go (x ∷ t) e OpA.Get f = rw f (elim reads [
      | inl free ↦ or_left _ _ (rw e at free)
      | inr shown ↦ or_right _ _ (rw e at shown.0)
    ])
    go (x ∷ t) e OpA.ArithmeticData f = rw f (or_left _ _ (rw e at (writes (rw f reached))))
    go (x ∷ t) e OpA.LogicalData f = rw f (or_left _ _ (rw e at (writes (rw f reached))))
    go (x ∷ t) e v f = absurd (let no : returns v ≡ true = rw f at back in cc)

-- another access that writes the byte is another one
written-by : {w : ℕ} (n address v : ℕ) (done : ℕ → ℕ → Type 0) (Answering : ℕ → ℕ → Access w → List (Beat w) → Type 0)
    (t : Trace w) (link source : ℕ) (now : IsWrittenNow n address v done Answering t)
    → (is_of link source now.access ≡ true → ⊥)
    → written_as address v (filter (λ other. not (is_of link source other)) (pending_accesses t)) ≡ true
written-by {w} n address v done Answering t link source now other =
    found-among Writes (λ x. access_writes address x && could_be v (pending_value x.request.opcode x address))
    (filter (λ x. not (is_of link source x)) (pending_accesses t))
    (λ x is. and_from (access_writes address x) (could_be v (pending_value x.request.opcode x address)) is.0 is.1)
    (among-filter Writes (λ x. not (is_of link source x)) (pending_accesses t) (λ x is. ap not is.2)
    (among-found Writes _ (pending_accesses t) now.access now.pending
    (now.writes, now.pending_is, none (is_of link source now.access) other)))
  where
    none : (b : Bool) → (b ≡ true → ⊥) → b ≡ false
    none true ne = absurd (ne refl)
    none false ne = refl

    Writes : Access w → Type 0
    Writes x = (access_writes address x ≡ true) × (could_be v (pending_value x.request.opcode x address) ≡ true)
        × (is_of link source x ≡ false)

-- ---- what was found

-- each access that was performed at an address and reads may bring what it found there
abbrev AreRead : {w : ℕ} → ℕ → Memory → Run w → Type 0
AreRead {w} n first run = (c s : ℕ) (p : Access w) (address v : ℕ) → found_in first c s run address ≡ Some v
    → IsPending c s p (trace_in run) → returns p.request.opcode ≡ true
    → reaches p.request.address p.request.size address ≡ true → may_read n p (trace_in run) address v ≡ true

-- a Put isn't answered with bytes
pub put-unread : (o : OpA) → is_put o ≡ true → returns o ≡ false
put-unread OpA.PutFullData e = refl
put-unread OpA.PutPartialData e = refl
put-unread v e = absurd cc

module _ {w : ℕ} (n : ℕ) (first : Memory) where
  read-taken : (link : Link) (x : Beat w) (run : Run w) → IsTaken n first link x run → IsRun n first run
      → AreRead n first run → AreRead n first (Takes link x ∷ run)
  unfolding trace_in
  read-taken link x run taken is before c s p address v performed pending back reached =
      elim (pending-before c s p (link, x) (trace_in run) pending) [
        | inl old ↦ read-more n c s p (link, x) (trace_in run) address v old.0
            (before c s p address v was old.0 back reached)
        | inr new ↦
            let more = (asked-again n first c s p link x run address v taken is was new).0 in
            absurd (let no : true ≡ false = sym back ∙ put-unread p.request.opcode more.put in cc)
      ]
    where
      was : found_in first c s run address ≡ Some v
      was = (found-taken first c s link x run address v performed).1

  read-performed : (d i : ℕ) (test : ℕ → Bool) (left : Memory) (run : Run w) → IsPerformed n first d i test run
      → IsRun n first run
      → AreRead n first run → AreRead n first (Performs d i test left ∷ run)
  unfolding trace_in
  read-performed d i test left run is runs before c s p address v performed pending back reached =
      elim (found-performed first c s d i test left run address v performed) [
        | inl at_it ↦ now (at_it.0, at_it.1) at_it.2 at_it.3
        | inr old ↦ before c s p address v old pending back reached
      ]
    where
      now : (c ≡ d) × (s ≡ i) → test address ≡ true → v ≡ memory_in first run address
          → may_read n p (trace_in run) address v ≡ true
      now same passes e = rw e (read-now n c s p (trace_in run) address (memory_in first run address) pending
          (performed-window n first c s p run address pending back reached may
          (λ writes. is.writes_free address passes (ap (λ (q : Access w). access_writes address q) this ∙ writes)))
          (elim ((known n first address run runs).covered (clean may)) [
            | inl told ↦ inl
                (told-as n address (memory_in first run address) (IsDone first run address) (trace_in run) told)
            | inr by ↦ inr (elim by [
              | inl written ↦ or_left _ _ (written-by n address (memory_in first run address) (IsDone first run address)
                  (Answers first run) (trace_in run) p.link p.request.source written (other written))
              | inr left ↦ or_right _ _ (may-leave address (trace_in run) left)
            ])
          ]))
        where
          this : is.access ≡ p
          this = same-some p is.access (sym pending ∙ rw (same.0, same.1) is.pending)

          may : MayBeRead n first address run
          may = is.reads_free address passes
              (ap (λ (q : Access w). reaches q.request.address q.request.size address) this ∙ reached)

          clean : MayBeRead n first address run → IsClean n first address run
          clean free_or = elim free_or [
            | inl free ↦ clean-free n first address run runs free
            | inr shown ↦ shown.1
          ]

          other : (written : IsWrittenNow n address (memory_in first run address) (IsDone first run address)
              (Answers first run) (trace_in run)) → is_of p.link p.request.source written.access ≡ true → ⊥
          other written e =
              let mine = and_parts (p.link == c) (p.request.source == s)
              (found-passes (is_of c s) (pending_accesses (trace_in run)) p pending) in
              let theirs = and_parts (written.access.link == written.link)
              (written.access.request.source == written.source)
              (found-passes (is_of written.link written.source) (pending_accesses (trace_in run)) written.access
              written.pending) in
              let both = and_parts (written.access.link == p.link)
              (written.access.request.source == p.request.source) e in
              let link : written.link ≡ d = sym (eqb-true written.access.link written.link theirs.0)
              ∙ eqb-true written.access.link p.link both.0 ∙ eqb-true p.link c mine.0 ∙ same.0 in
              let source : written.source ≡ i = sym (eqb-true written.access.request.source written.source theirs.1)
              ∙ eqb-true written.access.request.source p.request.source both.1
              ∙ eqb-true p.request.source s mine.1 ∙ same.1 in
              none-some written.performed.0
              (sym (is.once address passes) ∙ rw (← link, ← source) written.performed.1)

  pub are-read : (run : Run w) → IsRun n first run → AreRead n first run
  unfolding IsRun trace_in found_in
  are-read [] is = λ c s p address v performed pending. absurd (none-some v performed)
  are-read (Takes link x ∷ run) is = read-taken link x run is.0 is.1 (are-read run is.1)
  are-read (Performs d i test left ∷ run) is = read-performed d i test left run is.0 is.1 (are-read run is.1)
  are-read (Stores block bytes ∷ run) is = are-read run is.1
  are-read (Leaves d i bytes ∷ run) is = are-read run is.1

  -- ---- an answer that has begun

  -- what has begun on channel D has beats of it
  pub begun-on_d : (b : Beat w) (older : List (Beat w)) (h : History w) → unfinished Channel.D h ≡ b ∷ older
      → on Channel.D b ≡ true
  unfolding unfinished
  begun-on_d b older [] e = absurd cc
  begun-on_d b older (x ∷ h) e = go (on Channel.D x) refl (begun-on_d b older h) e
    where
      first_is : (y z : Beat w) (ys zs : List (Beat w)) → y ∷ ys ≡ z ∷ zs → z ≡ y
      first_is y z ys zs f = cc

      more : on Channel.D x ≡ true → (last : Bool) → (if last then [] else x ∷ unfinished Channel.D h) ≡ b ∷ older
          → on Channel.D b ≡ true
      more f true g = absurd cc
      more f false g = rw (first_is x b (unfinished Channel.D h) older g) f

      go : (d : Bool) → on Channel.D x ≡ d → (unfinished Channel.D h ≡ b ∷ older → on Channel.D b ≡ true)
          → (if d then grown x (unfinished Channel.D h) else unfinished Channel.D h) ≡ b ∷ older → on Channel.D b ≡ true
      go true f before g = more f (length (unfinished Channel.D h) + 1 == burst_length x) g
      go false f before g = before g

  -- the byte at an address was found, and may be brought by what was so before
  pub record IsFoundBefore (c s : ℕ) (p : Access w) (k : ℕ) (run : Run w) (address : ℕ) : Type 0 where
    pub byte : ℕ
    pub found_is : found_in first c s run address ≡ Some byte
    pub brings : may_read n p (before_last c k (trace_in run)) address byte ≡ true

  -- so it is with all bytes of an access whose answer has begun, unless that is a Get
  abbrev IsReadBefore : ℕ → ℕ → Access w → ℕ → Run w → Type 0
  IsReadBefore c s p k run = is_get p.request.opcode ≡ false → returns p.request.opcode ≡ true → (address : ℕ)
      → reaches p.request.address p.request.size address ≡ true → IsFoundBefore c s p k run address

  abbrev AreBegunRead : Run w → Type 0
  AreBegunRead run = (c : ℕ) (z : BeatD w) (older : List (Beat w)) (p : Access w)
      → unfinished Channel.D (on_link c (trace_in run)) ≡ Beat.D z ∷ older → is_release_ack z.opcode ≡ false
      → z.denied ≡ false → IsPending c z.source p (trace_in run) → IsReadBefore c z.source p (suc (length older)) run

  -- what reads and is no Get writes what it reaches
  writes-reached : (o : OpA) (m : MessageA w) (address : ℕ) → is_get o ≡ false → returns o ≡ true
      → reaches m.address m.size address ≡ true → writes o m address ≡ true
  writes-reached OpA.ArithmeticData m address other back reached = reached
  writes-reached OpA.LogicalData m address other back reached = reached
  writes-reached OpA.Get m address other back reached = absurd cc
  writes-reached v m address other back reached = absurd cc

  -- at a beat of an answer
  pub read-next : (link : Link) (z : BeatD w) (p : Access w) (run : Run w) → IsTaken n first link (Beat.D z) run
      → IsRun n first run → AreBegunRead run → is_release_ack z.opcode ≡ false → z.denied ≡ false
      → outruns z (on_link link.0 (trace_in run)) ≡ false → IsPending link.0 z.source p (trace_in run)
      → IsReadBefore link.0 z.source p (length (unfinished Channel.D (on_link link.0 (trace_in run)))) run
  unfolding before_last
  read-next link z p run taken is begun no_ack granted late pending =
      go (unfinished Channel.D (on_link link.0 (trace_in run))) refl
    where
      answer : IsAnswer first link.0 z p run
      answer = taken.answers_rightly z p refl no_ack granted late pending

      go : (burst : List (Beat w)) → unfinished Channel.D (on_link link.0 (trace_in run)) ≡ burst
          → IsReadBefore link.0 z.source p (length burst) run
      go [] e = λ other back address reached.
          let found = some-value (found_in first link.0 z.source run address)
          (answer.written address (writes-reached p.request.opcode p.request address other back reached)) in
          record {
            byte = found.0;
            found_is = found.1;
            brings = are-read run is link.0 z.source p address found.0 found.1 pending back reached;
          }
      go (Beat.D y ∷ older) e =
          let same = taken.continues z y older refl e in
          rw same.1 (begun link.0 y older p e (ap is_release_ack (sym same.0) ∙ no_ack) (answer.undenied y older e)
          (rw (← same.1) pending))
      go (Beat.A y ∷ older) e = absurd (let no : false ≡ true = begun-on_d (Beat.A y) older _ e in cc)
      go (Beat.B y ∷ older) e = absurd (let no : false ≡ true = begun-on_d (Beat.B y) older _ e in cc)
      go (Beat.C y ∷ older) e = absurd (let no : false ≡ true = begun-on_d (Beat.C y) older _ e in cc)
      go (Beat.E y ∷ older) e = absurd (let no : false ≡ true = begun-on_d (Beat.E y) older _ e in cc)

  same-newest : (a b : BeatD w) (xs ys : List (Beat w)) → Beat.D a ∷ xs ≡ Beat.D b ∷ ys → (b ≡ a) × (ys ≡ xs)
  same-newest a b xs ys f = (cc, cc)

  begun-here : (link : Link) (y : BeatD w) (run : Run w) → IsTaken n first link (Beat.D y) run → IsRun n first run
      → AreBegunRead run → (c : ℕ) (z : BeatD w) (older : List (Beat w)) (p : Access w) → link.0 ≡ c → z ≡ y
      → older ≡ unfinished Channel.D (on_link c (trace_in run)) → is_release_ack z.opcode ≡ false → z.denied ≡ false
      → outruns y (on_link link.0 (trace_in run)) ≡ false → IsPending c z.source p (trace_in run)
      → IsReadBefore c z.source p (length older) run
  begun-here link y run taken is begun c z older p own same rest no_ack granted late pending =
      rw (rest, same, ← own)
      (read-next link y p run taken is begun (ap (λ (b : BeatD w). is_release_ack b.opcode) (sym same) ∙ no_ack)
      (ap (λ (b : BeatD w). b.denied) (sym same) ∙ granted) late
      (rw (own, ← same) pending))

  begun-taken : (link : Link) (x : Beat w) (run : Run w) → IsTaken n first link x run → IsRun n first run
      → AreBegunRead run → AreBegunRead (Takes link x ∷ run)
  unfolding trace_in on_link unfinished before_last
  begun-taken link x run taken is begun c z older p e no_ack granted pending = here (link.0 == c) refl e
    where
      t : Trace w
      t = trace_in run

      Result : Type 0
      Result = IsReadBefore c z.source p (suc (length older)) (Takes link x ∷ run)

      -- what was so before is so still
      still : (k : ℕ) → before_last c (suc (length older)) ((link, x) ∷ t) ≡ before_last c k t
          → IsReadBefore c z.source p k run → Result
      still k same is other back address reached =
          let was = is other back address reached in
          record {
            byte = was.byte;
            found_is = found-still first c z.source link x run address (unanswered c z.source p link x t pending)
                ∙ was.found_is;
            brings = rw same was.brings;
          }

      -- the beat is another one
      apart : unfinished Channel.D (on_link c t) ≡ Beat.D z ∷ older
          → before_last c (suc (length older)) ((link, x) ∷ t) ≡ before_last c (suc (length older)) t → Result
      apart f same = elim (pending-before c z.source p (link, x) t pending) [
        | inl old ↦ still (suc (length older)) same (begun c z older p f no_ack granted old.0)
        | inr new ↦ absurd (taken.asks_first new.beat z older new.beat_is new.asks_it
            (ap (λ (d : ℕ). unfinished Channel.D (on_link d t)) (sym new.link_is) ∙ f) no_ack new.source_is)
      ]

      -- it is the newest of the burst
      newest : (y : BeatD w) → x ≡ Beat.D y → link.0 ≡ c → (last : Bool)
          → (if last then [] else Beat.D y ∷ unfinished Channel.D (on_link c t)) ≡ Beat.D z ∷ older
          → before_last c (suc (length older)) ((link, x) ∷ t) ≡ before_last c (length older) t → Result
      newest y f own true g same = absurd cc
      newest y f own false g same =
          let parts = same-newest y z (unfinished Channel.D (on_link c t)) older g in
          still (length older) same
          (begun-here link y run (rw (← f) taken) is begun c z older p own parts.0 parts.1 no_ack granted
          (still-late c z.source p link y t (rw (← f) pending) own (ap (λ (b : BeatD w). b.source) (sym parts.0)))
          (elim (pending-before c z.source p (link, x) t pending) [
            | inl old ↦ old.0
            | inr new ↦ absurd (let no : Beat.D y ≡ Beat.A new.beat = sym f ∙ new.beat_is in cc)
          ]))

      on_link_c : (b : Beat w) → x ≡ b → (link.0 == c) ≡ true
          → unfinished Channel.D (b ∷ on_link c t) ≡ Beat.D z ∷ older → Result
      on_link_c (Beat.D y) f own g = newest y f (eqb-true link.0 c own)
          (length (unfinished Channel.D (on_link c t)) + 1 == burst_length (Beat.D y)) g (rw (f, own) refl)
      on_link_c v f own g = apart g (rw (f, own) refl)

      here : (b : Bool) → (link.0 == c) ≡ b
          → unfinished Channel.D (if b then x ∷ on_link c t else on_link c t) ≡ Beat.D z ∷ older → Result
      here true own g = on_link_c x refl own g
      here false own g = apart g (rw own refl)

  begun-performed : (d i : ℕ) (test : ℕ → Bool) (left : Memory) (run : Run w) → IsPerformed n first d i test run
      → AreBegunRead run
      → AreBegunRead (Performs d i test left ∷ run)
  unfolding trace_in
  begun-performed d i test left run is begun c z older p e no_ack granted pending other back address reached =
      let was = begun c z older p e no_ack granted pending other back address reached in
      record {
        byte = was.byte;
        found_is = found-other first c z.source d i test left run address
            (performed-once n first c z.source d i test run address was.byte is was.found_is) ∙ was.found_is;
        brings = was.brings;
      }

  pub are-begun_read : (run : Run w) → IsRun n first run → AreBegunRead run
  unfolding IsRun trace_in found_in on_link unfinished
  are-begun_read [] is = λ c z older p e no_ack granted pending. absurd cc
  are-begun_read (Takes link x ∷ run) is = begun-taken link x run is.0 is.1 (are-begun_read run is.1)
  are-begun_read (Performs d i test left ∷ run) is = begun-performed d i test left run is.0 (are-begun_read run is.1)
  are-begun_read (Stores block bytes ∷ run) is = λ c z older p e no_ack granted pending other back address reached.
      let was = are-begun_read run is.1 c z older p e no_ack granted pending other back address reached in
      record { byte = was.byte; found_is = was.found_is; brings = was.brings }
  are-begun_read (Leaves d i bytes ∷ run) is = λ c z older p e no_ack granted pending other back address reached.
      let was = are-begun_read run is.1 c z older p e no_ack granted pending other back address reached in
      record { byte = was.byte; found_is = was.found_is; brings = was.brings }
