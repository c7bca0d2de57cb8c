-- What a Grant brings may be granted.
use Rattle.tl_one_memory.proofs.Imports.{Beat, BeatD, Link, unfinished, Trace, on_link, Memory, block_at, is_free}
use Rattle.tl_one_memory.proofs.Imports.{Access, access_writes, before_last, could_be, may_be, pending_accesses}
use Rattle.tl_one_memory.proofs.Imports.{pending_value, windows_since, among-filter, IsRun, IsTaken}
use Rattle.tl_one_memory.proofs.Imports.{Leaves, Performs, Run, Stores, Takes, memory_in, trace_in}
use Rattle.std.proofs.Common.{◌≡◌, ℕ, zero, suc, Bool, true, false, ◌&&◌, ◌||◌, ◌+◌, ◌*◌, ◌/◌, ◌<◌, ◌≤◌, List, [], ◌∷◌}
use Rattle.std.proofs.Common.{inl, inr, refl, ap, ◌∙◌, arith, length}
use Rattle.std.specs.Prelude.{if◌then◌else◌, filter, Option, Some, None, ◌==◌, nat_lt}
use Rattle.std.proofs.lemmas.Bool.{and_from, lt-ltb, or_left, or_right}
use Rattle.tl_beat.{specs.declared.channel.Channel.Channel, specs.declared.opcode.OpD.OpD}
use Rattle.tl_burst.specs.statement.Messages.{on}
use Rattle.tl_params.specs.declared.perm.Perm.{Perm}
use Rattle.tl_rules.{specs.code.Open.open_request, specs.declared.past.Request.Request}
use Rattle.tl_rules.specs.statement.{Admission.is_spoiled, Effect.bytes_from}
use Rattle.tl_bytes.specs.statement.Early.{is_overtaken}
use Rattle.tl_bytes.specs.statement.Bytes.{each_from, grants_truly, is_true_grant, may_grant, told_as, written_as}
use Rattle.tl_one_memory.proofs.Covered.{AreWindowed, IsToldLate, IsWrittenNow}
use Rattle.tl_bytes.proofs.Finding.{Among, among-found, found-among}
use Rattle.tl_one_memory.proofs.Known.{Answers, IsDone, IsKnown, clean-free, known}
use Rattle.tl_one_memory.proofs.Outrun.{may-leave}
use Rattle.tl_one_memory.specs.statement.Run.{IsClean, run_before}

-- ---- before the last beats of a response

pub trace-before : {w : ℕ} (link k : ℕ) (run : Run w) → trace_in (run_before link k run) ≡ before_last link k
    (trace_in run)
unfolding trace_in run_before before_last
trace-before link zero [] = refl
trace-before link zero (x ∷ run) = refl
trace-before link (suc k) [] = refl
trace-before {w} link (suc k) (Takes l x ∷ run) =
    go ((l.0 == link) && on Channel.D x) (trace-before link k run) (trace-before link (suc k) run)
  where
    go : (b : Bool) → trace_in (run_before link k run) ≡ before_last link k (trace_in run)
        → trace_in (run_before link (suc k) run) ≡ before_last link (suc k) (trace_in run)
        → trace_in (if b then run_before link k run else run_before link (suc k) run)
        ≡ (if b then before_last link k (trace_in run) else before_last link (suc k) (trace_in run))
    go true e f = e
    go false e f = f
trace-before link (suc k) (Performs d i test left ∷ run) = trace-before link (suc k) run
trace-before link (suc k) (Stores block bytes ∷ run) = trace-before link (suc k) run
trace-before link (suc k) (Leaves d i bytes ∷ run) = trace-before link (suc k) run

pub is_run-before : {w : ℕ} (n : ℕ) (first : Memory) (link k : ℕ) (run : Run w) → IsRun n first run
    → IsRun n first (run_before link k run)
unfolding IsRun run_before
is_run-before n first link zero [] is = is
is_run-before n first link zero (x ∷ run) is = is
is_run-before n first link (suc k) [] is = is
is_run-before {w} n first link (suc k) (Takes l x ∷ run) is =
    go ((l.0 == link) && on Channel.D x) (is_run-before n first link k run is.1)
    (is_run-before n first link (suc k) run is.1)
  where
    go : (b : Bool) → IsRun n first (run_before link k run) → IsRun n first (run_before link (suc k) run)
        → IsRun n first (if b then run_before link k run else run_before link (suc k) run)
    go true e f = e
    go false e f = f
is_run-before n first link (suc k) (Performs d i test left ∷ run) is = is_run-before n first link (suc k) run is.1
is_run-before n first link (suc k) (Stores block bytes ∷ run) is = is_run-before n first link (suc k) run is.1
is_run-before n first link (suc k) (Leaves d i bytes ∷ run) is = is_run-before n first link (suc k) run is.1

-- ---- what may be granted

-- what is told of a byte may be what memory has
pub told-as : {w : ℕ} (n address v : ℕ) (done : ℕ → ℕ → Type 0) (t : Trace w)
    → Among (IsToldLate n address v done t) (may_be n address t) → told_as v (may_be n address t) ≡ true
told-as n address v done t told = found-among (IsToldLate n address v done t) (λ e. could_be v e.value)
    (may_be n address t) (λ e each. each.0) told

may-grant : {w : ℕ} (n address v : ℕ) (done : ℕ → ℕ → Type 0) (Answering : ℕ → ℕ → Access w → List (Beat w) → Type 0)
    (t : Trace w) → AreWindowed n address done t → IsWrittenNow n address v done Answering t
    → written_as address v (filter (λ x. nat_lt 0 (windows_since n (block_at address) x.asked t)) (pending_accesses t))
    ≡ true
may-grant {w} n address v done Answering t windowed now =
    found-among Writes (λ x. access_writes address x && could_be v (pending_value x.request.opcode x address))
    (filter (λ x. nat_lt 0 (windows_since n (block_at address) x.asked t)) (pending_accesses t))
    (λ x is. and_from (access_writes address x) (could_be v (pending_value x.request.opcode x address)) is.0 is.1)
    (among-filter Writes (λ x. nat_lt 0 (windows_since n (block_at address) x.asked t)) (pending_accesses t)
    (λ x is. lt-ltb 0 (windows_since n (block_at address) x.asked t) is.2)
    (among-found Writes _ (pending_accesses t) now.access now.pending (
      now.writes,
      now.pending_is,
      windowed now.link now.source now.access now.performed now.pending now.writes,
    )))
  where
    Writes : Access w → Type 0
    Writes x = (access_writes address x ≡ true) × (could_be v (pending_value x.request.opcode x address) ≡ true)
        × (0 < windows_since n (block_at address) x.asked t)

granted-known : {w : ℕ} (n : ℕ) (first : Memory) (address : ℕ) (run : Run w) → IsKnown n first address run
    → IsClean n first address run
    → may_grant n (trace_in run) address (memory_in first run address) ≡ true
granted-known {w} n first address run is clean = elim (is.covered clean) [
  | inl told ↦ or_left _ _ (told-as n address (memory_in first run address) (IsDone first run address) (trace_in run)
      told)
  | inr (inl now) ↦ or_right _ _ (or_left _ _ (may-grant n address (memory_in first run address)
      (IsDone first run address) (Answers first run) (trace_in run) is.windowed now))
  | inr (inr left) ↦ or_right _ _ (or_right _ _ (may-leave address (trace_in run) left))
]

-- ---- the lanes of a beat

each-of : (test : ℕ → ℕ → Bool) (memory : Memory) (from k : ℕ) → ((address : ℕ) → from ≤ address → address < from + k
    → test address (memory address) ≡ true) → each_from test from (bytes_from memory from k) ≡ true
unfolding each_from bytes_from
each-of test memory from zero each = refl
each-of test memory from (suc k) each = and_from _ _ (each from (omega arith) (omega arith))
    (each-of test memory (from + 1) k (λ address le lt. each address (omega (arith, le)) (omega (arith, lt))))

in-block : (block k w address : ℕ) → w * k + w ≤ 64 → 64 * block + w * k ≤ address → address < 64 * block + w * k + w
    → address / 64 ≡ block
in-block block k w address le from to = omega (arith, le, from, to)

pub granted : {w : ℕ} (n : ℕ) (first : Memory) (link : Link) (z : BeatD w) (run : Run w)
    → IsTaken n first link (Beat.D z) run → IsRun n first run → z.opcode ≡ OpD.GrantData
    → ((z.corrupt || z.denied) || is_true_grant n link.0 z (open_request z.source (on_link link.0 (trace_in run)))
    (trace_in run))
    ≡ true
granted {w} n first link z run taken is granting =
    judged (z.corrupt || z.denied) refl
  where
    k : ℕ
    k = length (unfinished Channel.D (on_link link.0 (trace_in run)))

    old : Run w
    old = run_before link.0 k run

    go : is_spoiled (Beat.D z) ≡ false → (o : Option Request)
        → open_request z.source (on_link link.0 (trace_in run)) ≡ o
        → is_true_grant n link.0 z o (trace_in run) ≡ true
    go sound None e = refl
    go sound (Some asked) e = doubted (is_overtaken asked.block z (on_link link.0 (trace_in run))) refl
      where
        sure : is_overtaken asked.block z (on_link link.0 (trace_in run)) ≡ false
            → grants_truly n asked.block k z (before_last link.0 k (trace_in run)) ≡ true
        sure f =
            let grant = taken.grants_rightly z asked refl granting sound e f in
            rw (grant.lanes_are, ← trace-before link.0 k run)
            (each-of (may_grant n (trace_in old)) (memory_in first old) (64 * asked.block + w * k) w
            (λ address from to. granted-known n first address old
            (known n first address old (is_run-before n first link.0 k run is))
            (clean-free n first address old (is_run-before n first link.0 k run is)
            (ap (λ (b : ℕ). is_free n Perm.Branch b (trace_in old))
            (in-block asked.block k w address grant.within from to) ∙ grant.free))))

        doubted : (b : Bool) → is_overtaken asked.block z (on_link link.0 (trace_in run)) ≡ b
            → is_true_grant n link.0 z (Some asked) (trace_in run) ≡ true
        doubted true f = rw f refl
        doubted false f = rw f (sure f)

    judged : (b : Bool) → (z.corrupt || z.denied) ≡ b
        → (b || is_true_grant n link.0 z (open_request z.source (on_link link.0 (trace_in run))) (trace_in run)) ≡ true
    judged true sound = refl
    judged false sound = go sound (open_request z.source (on_link link.0 (trace_in run))) refl
