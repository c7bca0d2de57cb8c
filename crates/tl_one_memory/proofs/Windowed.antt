-- An access that one memory performs is answered after windows.
use Rattle.tl_one_memory.proofs.Imports.{Beat, BeatD, Link, reaches, unfinished}
use Rattle.tl_one_memory.proofs.Imports.{Trace, on_link, Memory, block_at, is_free}
use Rattle.tl_one_memory.proofs.Imports.{Access, access_writes, pending_accesses, same-some, IsPending, IsPerformed}
use Rattle.tl_one_memory.proofs.Imports.{IsAnswer, IsRun, IsTaken, Leaves, Performs, Run, Stores, Takes, found_in, trace_in}
use Rattle.std.proofs.Common.{◌≡◌, ◌/◌, ℕ, Bool, true, false, not, ◌&&◌, ◌||◌, [], ◌∷◌, inl, inr, refl, sym, ap, ◌∙◌}
use Rattle.std.proofs.Common.{length}
use Rattle.std.specs.Prelude.{◌==◌, nat_le, Some}
use Rattle.std.proofs.lemmas.Bool.{and_parts, eqb-true, leb-true, or_left, or_right}
use Rattle.tl_beat.specs.declared.{channel.Channel.Channel, opcode.OpA.OpA}
use Rattle.tl_params.specs.declared.perm.Perm.{Perm}
use Rattle.tl_rules.specs.statement.Windows.{needs}
use Rattle.tl_bytes.specs.statement.Bytes.{asks_new}
use Rattle.tl_bytes.specs.statement.Early.{outrun_accesses}
use Rattle.tl_bytes.specs.statement.Shown.{is_window}
use Rattle.tl_bytes.proofs.Finding.{none-some}
use Rattle.tl_bytes.proofs.Pending.{pending-before}
use Rattle.tl_one_memory.proofs.Growing.{HasGrown}
use Rattle.tl_one_memory.proofs.Performed.{asked-again, found-performed, found-taken, some-value}
use Rattle.tl_one_memory.proofs.Read.{performed-window, put-unread}
unfoldable use Rattle.tl_one_memory.proofs.Read.{in-window}
use Rattle.tl_one_memory.specs.statement.Run.{has_come, place_in, returns}
use Rattle.tl_one_memory.specs.statement.Windowed.{IsAfterWindows, asks_now, reads_at}
unfoldable use Rattle.tl_one_memory.specs.statement.Windowed.{AreAfterWindows, had_window_since}

-- the access reads, or writes, the byte at an address
abbrev pub touches : {w : ℕ} → ℕ → Access w → Bool
touches address access = reads_at address access || access_writes address access

-- with the last beat that was taken
now-windowed : {w : ℕ} (n c s : ℕ) (p : Access w) (address : ℕ) (t : Trace w) → in-window n p address t ≡ true
    → had_window_since n c s (needs p.request.opcode) address t ≡ true
unfolding had_window_since in-window
now-windowed n c s p address [] is = absurd cc
now-windowed n c s p address (x ∷ t) is = or_left _ _ is

-- and after one more, which doesn't ask for the byte again
still-windowed : {w : ℕ} (n c s : ℕ) (given : Perm) (address : ℕ) (x : Link × Beat w) (t : Trace w)
    → asks_now c s address x t ≡ false → had_window_since n c s given address t ≡ true
    → had_window_since n c s given address (x ∷ t) ≡ true
unfolding had_window_since
still-windowed n c s given address x t other had =
    or_right (is_window n given (block_at address) x t)
    (not (asks_now c s address x t) && had_window_since n c s given address t) (rw (other, had) refl)

-- where an access that writes may be performed, it has a window
writing-window : {w : ℕ} (n c s : ℕ) (p : Access w) (address : ℕ) (t : Trace w) → IsPending c s p t
    → access_writes address p ≡ true → is_free n Perm.Trunk (block_at address) t ≡ true
    → in-window n p address t ≡ true
unfolding pending_accesses in-window is_free
writing-window {w} n c s p address t pending writes free = go t refl p.request.opcode refl
  where
    go : (u : Trace w) → t ≡ u → (o : OpA) → p.request.opcode ≡ o → in-window n p address u ≡ true
    go [] e o f = absurd (none-some p (rw e at pending))
    go (x ∷ u) e OpA.PutFullData f = rw f (or_left _ _ (rw e at free))
    go (x ∷ u) e OpA.PutPartialData f = rw f (or_left _ _ (rw e at free))
    go (x ∷ u) e OpA.ArithmeticData f = rw f (or_left _ _ (rw e at free))
    go (x ∷ u) e OpA.LogicalData f = rw f (or_left _ _ (rw e at free))
    go (x ∷ u) e v f = absurd (let no = rw f at writes in cc)

-- each access that was performed at an address, and touches the byte there, has had a window of that
abbrev AreWindowed : {w : ℕ} → ℕ → Memory → Run w → Type 0
AreWindowed {w} n first run = (c s : ℕ) (p : Access w) (address v : ℕ) → found_in first c s run address ≡ Some v
    → IsPending c s p (trace_in run) → touches address p ≡ true
    → had_window_since n c s (needs p.request.opcode) address (trace_in run) ≡ true

-- a Put that goes on touched the byte before
touched-before : {w : ℕ} (address c s : ℕ) (p : Access w) (t : Trace w) (more : HasGrown address c s p t)
    → touches address p ≡ true → touches address more.was.old ≡ true
touched-before address c s p t more touched =
    or_right (reads_at address more.was.old) (access_writes address more.was.old) (sym more.was.writes_is
    ∙ wrote (returns p.request.opcode) (reaches p.request.address p.request.size address) (access_writes address p)
    (put-unread p.request.opcode more.put) touched)
  where
    wrote : (back reached writes : Bool) → back ≡ false → (back && reached) || writes ≡ true → writes ≡ true
    wrote back reached writes e f = rw e at f

module _ {w : ℕ} (n : ℕ) (first : Memory) where
  -- a byte that is asked for wasn't touched
  unasked : (c s : ℕ) (link : Link) (x : Beat w) (run : Run w) (address v : ℕ) → IsTaken n first link x run
      → found_in first c s run address ≡ Some v → asks_now c s address (link, x) (trace_in run) ≡ false
  unasked c s link (Beat.A z) run address v taken found = go (asks_now c s address (link, Beat.A z) (trace_in run)) refl
    where
      t : Trace w
      t = trace_in run

      came : Bool
      came = has_come z (unfinished Channel.A (on_link link.0 t)) address

      never : came ≡ true → not came ≡ true → ⊥
      never e f = let no : false ≡ true = ap not (sym e) ∙ f in cc

      go : (b : Bool) → asks_now c s address (link, Beat.A z) t ≡ b → b ≡ false
      go true e =
          let own = and_parts (link.0 == c) ((z.source == s) && (asks_new link.0 z (on_link link.0 t) (outrun_accesses t) && not came)) e in
          let same = and_parts (z.source == s) (asks_new link.0 z (on_link link.0 t) (outrun_accesses t) && not came) own.1 in
          let asked = and_parts (asks_new link.0 z (on_link link.0 t) (outrun_accesses t)) (not came) same.1 in
          elim (taken.asks_new z address refl asked.0) [
            | inl none ↦ absurd (none-some v (sym none
                ∙ rw (eqb-true link.0 c own.0, eqb-true z.source s same.0) found))
            | inr on ↦ absurd (never on.came asked.1)
          ]
      go false e = refl
  unasked c s link (Beat.B z) run address v taken found = refl
  unasked c s link (Beat.C z) run address v taken found = refl
  unasked c s link (Beat.D z) run address v taken found = refl
  unasked c s link (Beat.E z) run address v taken found = refl

  windowed-taken : (link : Link) (x : Beat w) (run : Run w) → IsTaken n first link x run → IsRun n first run
      → AreWindowed n first run → AreWindowed n first (Takes link x ∷ run)
  unfolding trace_in
  windowed-taken link x run taken is before c s p address v performed pending touched =
      elim (pending-before c s p (link, x) (trace_in run) pending) [
        | inl old ↦ still (needs p.request.opcode) (before c s p address v was old.0 touched)
        | inr new ↦
            let more = (asked-again n first c s p link x run address v taken is was new).0 in
            rw more.was.opcode_is
            (still (needs more.was.old.request.opcode) (before c s more.was.old address v was more.was.pending
            (touched-before address c s p (trace_in run) more touched)))
      ]
    where
      was : found_in first c s run address ≡ Some v
      was = (found-taken first c s link x run address v performed).1

      still : (given : Perm) → had_window_since n c s given address (trace_in run) ≡ true
          → had_window_since n c s given address ((link, x) ∷ trace_in run) ≡ true
      still given = still-windowed n c s given address (link, x) (trace_in run)
          (unasked c s link x run address v taken was)

  -- an access that is performed at an address has a window of the byte there, if it touches that
  pub performing-window : (d i : ℕ) (test : ℕ → Bool) (run : Run w) (p : Access w) → IsPerformed n first d i test run
      → IsPending d i p (trace_in run) → (address : ℕ) → test address ≡ true → touches address p ≡ true
      → in-window n p address (trace_in run) ≡ true
  performing-window d i test run p is pending address passes touched =
      by (access_writes address p) refl (reads_at address p) refl
    where
      this : is.access ≡ p
      this = same-some p is.access (sym pending ∙ is.pending)

      writes_free : access_writes address p ≡ true → is_free n Perm.Trunk (block_at address) (trace_in run) ≡ true
      writes_free writes =
          is.writes_free address passes (ap (λ (q : Access w). access_writes address q) this ∙ writes)

      by : (b : Bool) → access_writes address p ≡ b → (r : Bool) → reads_at address p ≡ r
          → in-window n p address (trace_in run) ≡ true
      by true writes r reads = writing-window n d i p address (trace_in run) pending writes (writes_free writes)
      by false unwritten true reads =
          let parts = and_parts (returns p.request.opcode) (reaches p.request.address p.request.size address) reads in
          performed-window n first d i p run address pending parts.0 parts.1
          (is.reads_free address passes
          (ap (λ (q : Access w). reaches q.request.address q.request.size address) this ∙ parts.1)) writes_free
      by false unwritten false unread = absurd (let no = rw (unread, unwritten) at touched in cc)

  windowed-performed : (d i : ℕ) (test : ℕ → Bool) (left : Memory) (run : Run w) → IsPerformed n first d i test run
      → AreWindowed n first run → AreWindowed n first (Performs d i test left ∷ run)
  unfolding trace_in
  windowed-performed d i test left run is before c s p address v performed pending touched =
      elim (found-performed first c s d i test left run address v performed) [
        | inl now ↦ now-windowed n c s p address (trace_in run)
            (performing-window d i test run p is (rw (← now.0, ← now.1) pending) address now.2 touched)
        | inr old ↦ before c s p address v old pending touched
      ]

  are-windowed : (run : Run w) → IsRun n first run → AreWindowed n first run
  unfolding IsRun trace_in found_in
  are-windowed [] is = λ c s p address v performed pending touched. absurd (none-some v performed)
  are-windowed (Takes link x ∷ run) is = windowed-taken link x run is.0 is.1 (are-windowed run is.1)
  are-windowed (Performs d i test left ∷ run) is = windowed-performed d i test left run is.0 (are-windowed run is.1)
  are-windowed (Stores block bytes ∷ run) is = are-windowed run is.1
  are-windowed (Leaves d i bytes ∷ run) is = are-windowed run is.1

  answered-after : (link : Link) (z : BeatD w) (run : Run w) → IsTaken n first link (Beat.D z) run → IsRun n first run
      → IsAfterWindows n link.0 (Beat.D z) (trace_in run)
  answered-after link z run taken is access no_ack granted late pending address touched =
      by (access_writes address access) refl
    where
      answer : IsAnswer first link.0 z access run
      answer = taken.answers_rightly z access refl no_ack granted late pending

      had : (v : ℕ) → found_in first link.0 z.source run address ≡ Some v → touches address access ≡ true
          → had_window_since n link.0 z.source (needs access.request.opcode) address (trace_in run) ≡ true
      had v found = are-windowed run is link.0 z.source access address v found pending

      k : ℕ
      k = length (unfinished Channel.D (on_link link.0 (trace_in run)))

      by : (b : Bool) → access_writes address access ≡ b
          → had_window_since n link.0 z.source (needs access.request.opcode) address (trace_in run) ≡ true
      by true writing =
          let found = some-value (found_in first link.0 z.source run address) (answer.written address writing) in
          had found.0 found.1 (or_right (reads_at address access) (access_writes address access) writing)
      by false unwritten =
          let brought = and_parts (reads_at address access) (nat_le (place_in access address / w) k)
          (only (reads_at address access && nat_le (place_in access address / w) k) (access_writes address access)
          unwritten
          touched) in
          let parts = and_parts (returns access.request.opcode)
          (reaches access.request.address access.request.size address) brought.0 in
          let come = answer.brings parts.0 address parts.1 (inl (leb-true (place_in access address / w) k brought.1)) in
          had come.byte come.found_is (or_left (reads_at address access) (access_writes address access) brought.0)
        where
          only : (a b : Bool) → b ≡ false → a || b ≡ true → a ≡ true
          only true b e f = refl
          only false b e f = sym e ∙ f

  after-windows : (link : Link) (x : Beat w) (run : Run w) → IsTaken n first link x run → IsRun n first run
      → IsAfterWindows n link.0 x (trace_in run)
  after-windows link (Beat.A x) run taken is = tt
  after-windows link (Beat.B x) run taken is = tt
  after-windows link (Beat.C x) run taken is = tt
  after-windows link (Beat.D z) run taken is = answered-after link z run taken is
  after-windows link (Beat.E x) run taken is = tt

  pub all-after-windows : (run : Run w) → IsRun n first run → AreAfterWindows n (trace_in run)
  unfolding IsRun trace_in AreAfterWindows
  all-after-windows [] is = tt
  all-after-windows (Takes link x ∷ run) is = (after-windows link x run is.0 is.1, all-after-windows run is.1)
  all-after-windows (Performs d i test left ∷ run) is = all-after-windows run is.1
  all-after-windows (Stores block bytes ∷ run) is = all-after-windows run is.1
  all-after-windows (Leaves d i bytes ∷ run) is = all-after-windows run is.1
