-- A run of one memory keeps M4, where no beat breaks a rule of its link and an access reads, or writes a byte of its
-- block with its last beat.
use Rattle.tl_one_memory.proofs.Imports.{Beat, BeatD, Link, Trace, on_link, Memory, block_at, unfinished, reaches}
use Rattle.tl_one_memory.proofs.Imports.{Access, access_writes, same-some, IsAnswer, IsPending, IsPerformed, IsRun}
use Rattle.tl_one_memory.proofs.Imports.{IsTaken, Leaves, Performs, Run, Stores, Takes, found_in, trace_in}
use Rattle.std.proofs.Common.{◌≡◌, ◌+◌, ◌-◌, ◌*◌, ◌/◌, ◌^◌, ◌≤◌, arith, ℕ, Bool, true, false, not, ◌&&◌, ◌||◌, List, []}
use Rattle.std.proofs.Common.{◌∷◌, inl, inr, length, refl, sym, ap, ◌∙◌}
use Rattle.std.specs.Prelude.{find, None, Some, ◌==◌, min, nat_lt}
use Rattle.std.proofs.lemmas.Nat.{pow_pos}
use Rattle.std.proofs.lemmas.Bool.{le-leb, lt-ltb, ltb-true, and_parts, eq-eqb, or_left, or_right}
use Rattle.tl_beat.{specs.declared.beat.BeatA.BeatA, specs.declared.channel.Channel.Channel}
use Rattle.tl_beat.specs.statement.Width.{IsWidth}
use Rattle.tl_burst.specs.statement.Messages.{History, burst_length}
use Rattle.tl_params.specs.declared.level.Level.{Level}
use Rattle.tl_rules.specs.declared.past.Request.{Request}
use Rattle.tl_rules.specs.statement.Conformance.{comes_in_request}
use Rattle.tl_rules.specs.statement.History.{ends, is_release_ack}
use Rattle.tl_rules.specs.statement.Liberties.{broken_after_under}
use Rattle.tl_rules.specs.statement.Windows.{needs}
use Rattle.tl_bytes.specs.statement.Bytes.{is_put, leaves_pending}
use Rattle.tl_bytes.specs.statement.Early.{is_outrun_of, outrun_accesses, outruns}
use Rattle.tl_bytes.specs.statement.Free.{all_liberties}
use Rattle.tl_bytes.specs.statement.Shown.{is_window}
unfoldable use Rattle.tl_bytes.specs.statement.Shown.{had_window}
use Rattle.tl_bytes.proofs.Finding.{none-some}
use Rattle.tl_bytes.proofs.Pending.{AsksNot, IsAskedNow, pending-before}
use Rattle.tl_memory.specs.statement.Links.{AreLegal, IsLegal}
use Rattle.tl_memory.proofs.lawful.Lawful.{by_itself, is-request}
use Rattle.tl_memory.proofs.lawful.Open.{IsOpen, completes_answer, open-parts, open-whole}
use Rattle.tl_memory.proofs.lawful.OpenAccesses.{IsFine, IsRequestOf, is-fine, open-after, own-link, pending-open}
use Rattle.tl_one_memory.proofs.Performed.{asked-again, found-performed, found-taken, some-value}
use Rattle.tl_one_memory.proofs.Read.{put-unread}
unfoldable use Rattle.tl_one_memory.proofs.Read.{in-window}
use Rattle.tl_one_memory.proofs.OpenPending.{IsPendingOrOut, no, open-pending}
use Rattle.tl_one_memory.proofs.Windowed.{performing-window, touches}
use Rattle.tl_one_memory.specs.statement.Run.{IsBrought, has_come, is_answered_by, place_in, returns}
use Rattle.tl_one_memory.specs.statement.OpenWindows.{IsInWindow, is_last}
unfoldable use Rattle.tl_one_memory.specs.statement.OpenWindows.{AreInWindows}
use Rattle.tl_one_memory.specs.statement.Windowed.{reads_at}
use Rattle.tl_one_memory.proofs.WholeRequests.{complete-before, whole-now, put-beats, in-first, came-before}

now-had : {w : ℕ} (n c s : ℕ) (p : Access w) (asked : Request) (address : ℕ) (t : Trace w)
    → in-window n p address t ≡ true → IsOpen s asked (on_link c t) → asked.opcode ≡ p.request.opcode
    → block_at address ≡ asked.block → had_window n c s (needs asked.opcode) asked.block t ≡ true
unfolding had_window in-window
now-had n c s p asked address [] is o opcode block = absurd cc
now-had n c s p asked address (x ∷ t) is o opcode block =
    rw (open-whole s asked (on_link c (x ∷ t)) o)
    (or_left (is_window n (needs asked.opcode) asked.block x t) (had_window n c s (needs asked.opcode) asked.block t)
    (rw (opcode, ← block) is))

-- and after one more
still-had : {w : ℕ} (n c s : ℕ) (asked : Request) (x : Link × Beat w) (t : Trace w)
    → IsOpen s asked (on_link c (x ∷ t)) → had_window n c s (needs asked.opcode) asked.block t ≡ true
    → had_window n c s (needs asked.opcode) asked.block (x ∷ t) ≡ true
unfolding had_window
still-had n c s asked x t o had =
    rw (open-whole s asked (on_link c (x ∷ t)) o)
    (or_right (is_window n (needs asked.opcode) asked.block x t) (had_window n c s (needs asked.opcode) asked.block t)
    had)

abbrev touches_last : {w : ℕ} → ℕ → Access w → Bool
touches_last address p = reads_at address p || (access_writes address p && is_last address p)

-- so it touches it
touched-last : {w : ℕ} (address : ℕ) (p : Access w) → touches_last address p ≡ true → touches address p ≡ true
touched-last address p = go (reads_at address p) (access_writes address p) (is_last address p)
  where
    go : (a b c : Bool) → a || (b && c) ≡ true → a || b ≡ true
    go true b c e = refl
    go false true c e = refl
    go false false c e = e

-- each access that was performed at an address, whose request is open, has had a window of its block, if that address
-- is in it and the access reads the byte there, or writes it with its last beat
abbrev HaveHad : {w : ℕ} → ℕ → Memory → Run w → Type 0
HaveHad {w} n first run = (c s : ℕ) (p : Access w) (address v : ℕ) (asked : Request)
    → found_in first c s run address ≡ Some v → IsPending c s p (trace_in run)
    → IsOpen s asked (on_link c (trace_in run))
    → block_at address ≡ asked.block → touches_last address p ≡ true
    → had_window n c s (needs asked.opcode) asked.block (trace_in run) ≡ true

same-kept : {w : ℕ} (c s : ℕ) (p : Access w) (asked : Request) (t : Trace w) (k : IsRequestOf c s p t)
    → IsOpen s asked (on_link c t) → k.asked ≡ asked
same-kept c s p asked t k o = same-some asked k.asked (sym o.kept ∙ k.is_kept)

-- with the last beat of its answer an access isn't pending any more
complete-leaves : {w : ℕ} (z : BeatD w) (h : History w) → not (is_release_ack z.opcode) && ends (Beat.D z) h ≡ true
    → leaves_pending z h ≡ true
complete-leaves z h =
    go (not (is_release_ack z.opcode)) (ends (Beat.D z) h) (comes_in_request z.source (unfinished Channel.A h))
  where
    go : (a b comes : Bool) → a && b ≡ true → ((a && b) && not comes) || (a && comes) ≡ true
    go true true true e = refl
    go true true false e = refl
    go true false comes e = absurd cc
    go false b comes e = absurd cc

-- an answer that isn't complete with a beat
unended : {w : ℕ} (c s : ℕ) (link : Link) (x : Beat w) (t : Trace w) → is_answered_by c s link x t ≡ false → link.0 ≡ c
    → completes_answer s x (on_link c t) ≡ false
unended c s link (Beat.D z) t e same = go (completes_answer s (Beat.D z) (on_link c t)) refl
  where
    go : (b : Bool) → completes_answer s (Beat.D z) (on_link c t) ≡ b → b ≡ false
    go false f = refl
    go true f =
        let first = and_parts (ends (Beat.D z) (on_link c t)) (not (is_release_ack z.opcode) && (z.source == s)) f in
        let rest = and_parts (not (is_release_ack z.opcode)) (z.source == s) first.1 in
        let leaves : leaves_pending z (on_link c t) ≡ true =
        complete-leaves z (on_link c t) (rw (rest.0, first.0) refl) in
        sym (rw (same, eq-eqb c c refl, rest.1, leaves) refl) ∙ e
unended c s link (Beat.A z) t e same = refl
unended c s link (Beat.B z) t e same = refl
unended c s link (Beat.C z) t e same = refl
unended c s link (Beat.E z) t e same = refl

module _ {w : ℕ} (n : ℕ) (first : Memory) (width : IsWidth w) (levels : List Level) where
  -- a Put that goes on, and that is whole with the beat, has its last bytes with that
  not-last : (c s : ℕ) (p : Access w) (asked : Request) (link : Link) (x : Beat w) (t : Trace w)
      → IsLegal levels (link, x) t → (now : IsAskedNow c s p (link, x) t)
      → IsOpen s asked (on_link c ((link, x) ∷ t)) → (address : ℕ)
      → has_come now.beat (unfinished Channel.A (on_link link.0 t)) address ≡ true → is_last address p ≡ false
  not-last c s p asked link x t fine now o address came =
      came-before w p.request.address z.address p.request.size z.size address (length burst) address_is size_is
      (whole ∙ put-beats z parts.0) (ltb-true (address - w * (z.address / w)) (w * length burst) parts.1)
    where
      z : BeatA w
      z = now.beat

      burst : List (Beat w)
      burst = unfinished Channel.A (on_link link.0 t)

      parts : (is_put z.opcode ≡ true) × (nat_lt (address - w * (z.address / w)) (w * length burst) ≡ true)
      parts = and_parts (is_put z.opcode) (nat_lt (address - w * (z.address / w)) (w * length burst)) came

      f : IsFine all_liberties levels (link, x) t
      f = is-fine _ levels (link, x) t fine

      small : z.size ≤ 6
      small = (is-request f.level z width (by_itself f.level (Beat.A z) (on_link link.0 t)
          (ap (λ b. broken_after_under all_liberties f.level b (on_link link.0 t)) (sym now.beat_is) ∙ f.fine))).small

      size_is : p.request.size ≡ z.size
      size_is =
          let least : min z.size 6 ≡ z.size = omega (arith, small) in
          ap (λ (q : Access w). q.request.size) now.access_is ∙ least

      address_is : p.request.address ≡ z.address
      address_is = ap (λ (q : Access w). q.request.address) now.access_is

      history : on_link c ((link, x) ∷ t) ≡ Beat.A z ∷ on_link link.0 t
      history = ap (λ d. on_link d ((link, x) ∷ t)) now.link_is ∙ own-link link.0 (link, x) t refl
          ∙ ap (λ b. b ∷ on_link link.0 t) now.beat_is

      whole : length burst + 1 ≡ burst_length (Beat.A z)
      whole = whole-now s z (on_link link.0 t)
          (ap (λ h. comes_in_request s (unfinished Channel.A h)) (sym history) ∙ o.complete)
          (eq-eqb z.source s (sym now.source_is))

  had-taken : (link : Link) (x : Beat w) (run : Run w) → IsTaken n first link x run → IsRun n first run
      → AreLegal levels (trace_in run) → IsLegal levels (link, x) (trace_in run) → HaveHad n first run
      → HaveHad n first (Takes link x ∷ run)
  unfolding trace_in
  had-taken link x run taken runs legal fine before c s p address v asked performed pending o block touched =
      elim (pending-before c s p (link, x) t pending) [
        | inl old ↦ still old.0 old.1
        | inr new ↦
            let more = asked-again n first c s p link x run address v taken runs was.1 new in
            absurd (untouched (returns p.request.opcode) (reaches p.request.address p.request.size address)
            (access_writes address p) (is_last address p) (put-unread p.request.opcode more.0.put)
            (not-last c s p asked link x t fine new o address more.1) touched)
      ]
    where
      t : Trace w
      t = trace_in run

      untouched : (back reached writes last : Bool) → back ≡ false → last ≡ false
          → (back && reached) || (writes && last) ≡ true → ⊥
      untouched back reached true last e f touched = no (sym (rw (e, f) at touched))
      untouched back reached false last e f touched = no (sym (rw e at touched))

      was : (is_answered_by c s link x t ≡ false) × (found_in first c s run address ≡ Some v)
      was = found-taken first c s link x run address v performed

      still : IsPending c s p t → AsksNot c s (link, x) t
          → had_window n c s (needs asked.opcode) asked.block ((link, x) ∷ t) ≡ true
      still old unasked =
          still-had n c s asked (link, x) t o
          (before c s p address v asked was.1 old (record { kept = rw (← same) k.is_kept; complete = whole }) block
          touched)
        where
          k : IsRequestOf c s p t
          k = pending-open levels c s p t width legal old

          whole : comes_in_request s (unfinished Channel.A (on_link c t)) ≡ false
          whole = complete-before levels c s p asked (link, x) t legal fine old k unasked o

          open_before : IsOpen s k.asked (on_link c t)
          open_before = record { kept = k.is_kept; complete = whole }

          same : k.asked ≡ asked
          same = same-some asked k.asked (sym o.kept
              ∙ (open-after levels c s k.asked (link, x) t fine open_before
              (λ own. unended c s link x t was.0 own)).kept)

  had-performed : (d i : ℕ) (test : ℕ → Bool) (left : Memory) (run : Run w) → IsPerformed n first d i test run
      → AreLegal levels (trace_in run) → HaveHad n first run → HaveHad n first (Performs d i test left ∷ run)
  unfolding trace_in
  had-performed d i test left run is legal before c s p address v asked performed pending o block touched =
      elim (found-performed first c s d i test left run address v performed) [
        | inl at_it ↦ now (at_it.0, at_it.1) at_it.2
        | inr old ↦ before c s p address v asked old pending o block touched
      ]
    where
      k : IsRequestOf c s p (trace_in run)
      k = pending-open levels c s p (trace_in run) width legal pending

      opcode : asked.opcode ≡ p.request.opcode
      opcode = ap (λ (r : Request). r.opcode) (sym (same-kept c s p asked (trace_in run) k o)) ∙ k.opcode_is

      now : (c ≡ d) × (s ≡ i) → test address ≡ true
          → had_window n c s (needs asked.opcode) asked.block (trace_in run) ≡ true
      now same passes =
          now-had n c s p asked address (trace_in run)
          (performing-window n first d i test run p is (rw (← same.0, ← same.1) pending) address passes
          (touched-last address p touched)) o opcode block

  have-had : (run : Run w) → IsRun n first run → AreLegal levels (trace_in run) → HaveHad n first run
  unfolding IsRun trace_in found_in
  have-had [] is legal = λ c s p address v asked performed pending o block touched. absurd (none-some v performed)
  have-had (Takes link x ∷ run) is legal =
      had-taken link x run is.0 is.1 legal.1 legal.0 (have-had run is.1 legal.1)
  have-had (Performs d i test left ∷ run) is legal =
      had-performed d i test left run is.0 legal (have-had run is.1 legal)
  have-had (Stores block bytes ∷ run) is legal = have-had run is.1 legal
  have-had (Leaves d i bytes ∷ run) is legal = have-had run is.1 legal

  -- one that reads has found the byte at its address, with the first beat of its answer
  reading : (link : Link) (asked : Request) (z : BeatD w) (p : Access w) (run : Run w) → IsRun n first run
      → AreLegal levels (trace_in run) → IsPending link.0 z.source p (trace_in run) → IsAnswer first link.0 z p run
      → IsOpen z.source asked (on_link link.0 (trace_in run)) → returns asked.opcode ≡ true
      → had_window n link.0 z.source (needs asked.opcode) asked.block (trace_in run) ≡ true
  reading link asked z p run is legal pending answer o returned =
      have-had run is legal link.0 z.source p p.request.address come.byte asked come.found_is pending o
      (sym k.block_is ∙ ap (λ (r : Request). r.block) same)
      (or_left (reads_at p.request.address p) (access_writes p.request.address p && is_last p.request.address p)
      (rw (opcode, reached) refl))
    where
      k : IsRequestOf link.0 z.source p (trace_in run)
      k = pending-open levels link.0 z.source p (trace_in run) width legal pending

      same : k.asked ≡ asked
      same = same-kept link.0 z.source p asked (trace_in run) k o

      opcode : returns p.request.opcode ≡ true
      opcode = ap returns (sym k.opcode_is ∙ ap (λ (r : Request). r.opcode) same) ∙ returned

      reached : reaches p.request.address p.request.size p.request.address ≡ true
      reached = rw (
        le-leb p.request.address p.request.address (omega arith),
        lt-ltb p.request.address (p.request.address + 2 ^ p.request.size) (omega (arith, pow_pos p.request.size)),
      ) refl

      come : IsBrought (found_in first link.0 z.source run p.request.address)
          (Beat.D z ∷ unfinished Channel.D (on_link link.0 (trace_in run))) (place_in p p.request.address)
      come = answer.brings opcode p.request.address reached
          (inl (in-first w p.request.address (length (unfinished Channel.D (on_link link.0 (trace_in run)))) width))

  -- an access whose answer didn't outrun its request is pending
  only-pending : (c s : ℕ) (t : Trace w) → find (is_outrun_of c s) (outrun_accesses t) ≡ None → IsPendingOrOut c s t
      → (p : Access w) × IsPending c s p t
  only-pending c s t late (inl pending) = pending
  only-pending c s t late (inr out) = absurd (none-some out.0 (sym late ∙ out.1))

  in-window-now : (link : Link) (x : Beat w) (run : Run w) → IsTaken n first link x run → IsRun n first run
      → AreLegal levels (trace_in run) → IsInWindow n link.0 x (trace_in run)
  in-window-now link (Beat.A x) run taken is legal = tt
  in-window-now link (Beat.B x) run taken is legal = tt
  in-window-now link (Beat.C x) run taken is legal = tt
  in-window-now link (Beat.D z) run taken is legal = λ asked no_ack granted late open_so accesses.
      let o = open-parts z.source asked (on_link link.0 (trace_in run)) open_so in
      let p = only-pending link.0 z.source (trace_in run) late
      (open-pending levels width link.0 z.source asked (trace_in run) legal o accesses) in
      let in_time : outruns z (on_link link.0 (trace_in run)) ≡ false = rw (o.complete, no_ack) refl in
      let answer = taken.answers_rightly z p.0 refl no_ack granted in_time p.1 in
      record {
        access = p.0;
        pending = p.1;
        reads = reading link asked z p.0 run is legal p.1 answer o;
        writes_last = λ address block writes last.
            let found = some-value (found_in first link.0 z.source run address) (answer.written address writes) in
            have-had run is legal link.0 z.source p.0 address found.0 asked found.1 p.1 o block
            (or_right (reads_at address p.0) (access_writes address p.0 && is_last address p.0)
            (rw (writes, last) refl));
      }
  in-window-now link (Beat.E x) run taken is legal = tt

  pub all-in-windows : (run : Run w) → IsRun n first run → AreLegal levels (trace_in run)
      → AreInWindows n (trace_in run)
  unfolding IsRun trace_in AreInWindows
  all-in-windows [] is legal = tt
  all-in-windows (Takes link x ∷ run) is legal =
      (in-window-now link x run is.0 is.1 legal.1, all-in-windows run is.1 legal.1)
  all-in-windows (Performs d i test left ∷ run) is legal = all-in-windows run is.1 legal
  all-in-windows (Stores block bytes ∷ run) is legal = all-in-windows run is.1 legal
  all-in-windows (Leaves d i bytes ∷ run) is legal = all-in-windows run is.1 legal
