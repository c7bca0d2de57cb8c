-- What a Grant brings may be granted, by beats and commits.
use Rattle.tl_commit_memory.proofs.Imports.{Access, Among, Beat, BeatD, Channel, CommitRun, Events, IsClean}
use Rattle.tl_commit_memory.proofs.Imports.{IsCommitRun}
use Rattle.tl_commit_memory.proofs.Imports.{IsTaken, Link, Memory, Perm, Run, Telling, Trace, access_writes}
use Rattle.tl_commit_memory.proofs.Imports.{among-filter}
use Rattle.tl_commit_memory.proofs.Imports.{beats_of, block_at, could_be, events_in, is_free, memory_in, on_link}
use Rattle.tl_commit_memory.proofs.Imports.{pending_accesses, pending_value, run_in, seen, trace_in, unfinished}
use Rattle.tl_commit_memory.proofs.Imports.{windows_since}
use Rattle.std.proofs.Common.{◌≡◌, ℕ, zero, suc, Bool, true, false, ◌&&◌, ◌||◌, ◌+◌, ◌*◌, ◌/◌, ◌<◌, ◌≤◌, List}
use Rattle.std.proofs.Common.{inl, inr, refl, sym, ap, ◌∙◌, arith, length, subst}
use Rattle.std.specs.Prelude.{filter, Option, Some, None, nat_lt}
use Rattle.std.proofs.lemmas.Bool.{and_from, lt-ltb, or_left, or_right}
use Rattle.tl_beat.specs.declared.opcode.OpD.{OpD}
use Rattle.tl_rules.specs.declared.past.Request.{Request}
use Rattle.tl_rules.specs.statement.{Admission.is_spoiled, Effect.bytes_from, OpenMessages.open_request}
use Rattle.tl_bytes.specs.statement.Early.{is_outrun, is_overtaken, outrun_accesses}
use Rattle.tl_bytes.specs.statement.Bytes.{each_from, told_as, written_as}
use Rattle.tl_bytes.proofs.Finding.{among-found, found-among}
use Rattle.tl_commits.specs.statement.Completeness.{Completeness}
use Rattle.tl_commits.specs.statement.True.{before_last_seen, grants_truly_seen, is_true_grant_seen, may_grant_seen}
use Rattle.tl_one_memory.proofs.Covered.{AreWindowed, IsToldLate, IsWrittenNow}
use Rattle.tl_one_memory.proofs.Known.{Answers, IsDone, clean-free, known}
use Rattle.tl_one_memory.proofs.Outrun.{may-leave}
use Rattle.tl_one_memory.specs.statement.Run.{IsGranted}
use Rattle.tl_commit_memory.specs.statement.CommitRun.{StartsAs}
use Rattle.tl_commit_memory.proofs.Traces.{beats-are, events-before, is-before, is-run, run-before, steps_before}
use Rattle.tl_commit_memory.proofs.Values.{known-seen}

-- ---- what may be granted

-- what is told of a byte may be what memory has
pub told-as : {w : ℕ} (n address v : ℕ) (done : ℕ → ℕ → Type 0) (t : Trace w) (values : List Telling)
    → Among (IsToldLate n address v done t) values → told_as v values ≡ true
told-as n address v done t values told = found-among (IsToldLate n address v done t) (λ e. could_be v e.value)
    values (λ e each. each.0) told

may-grant : {w : ℕ} (n address v : ℕ) (done : ℕ → ℕ → Type 0) (Answering : ℕ → ℕ → Access w → List (Beat w) → Type 0)
    (t : Trace w) → AreWindowed n address done t → IsWrittenNow n address v done Answering t
    → written_as address v (filter (λ x. nat_lt 0 (windows_since n (block_at address) x.asked t)) (pending_accesses t))
    ≡ true
may-grant {w} n address v done Answering t windowed now =
    found-among Writes (λ x. access_writes address x && could_be v (pending_value x.request.opcode x address))
    (filter (λ x. nat_lt 0 (windows_since n (block_at address) x.asked t)) (pending_accesses t))
    (λ x is. and_from (access_writes address x) (could_be v (pending_value x.request.opcode x address)) is.0 is.1)
    (among-filter Writes (λ x. nat_lt 0 (windows_since n (block_at address) x.asked t)) (pending_accesses t)
    (λ x is. lt-ltb 0 (windows_since n (block_at address) x.asked t) is.2)
    (among-found Writes _ (pending_accesses t) now.access now.pending (
      now.writes,
      now.pending_is,
      windowed now.link now.source now.access now.performed now.pending now.writes,
    )))
  where
    Writes : Access w → Type 0
    Writes x = (access_writes address x ≡ true) × (could_be v (pending_value x.request.opcode x address) ≡ true)
        × (0 < windows_since n (block_at address) x.asked t)

module _ {w : ℕ} (complete : Completeness) (n : ℕ) (first : Memory) (starts : StartsAs complete.zero first)
    (steps : CommitRun w) (is : IsCommitRun n first steps)
  where
    abbrev run : Run w
    run = run_in steps

    granted-known : (address : ℕ) → IsClean n first address run
        → may_grant_seen complete n (events_in steps) address (memory_in first run address) ≡ true
    granted-known address clean = subst Granted (sym (beats-are steps)) (elim
        (known-seen complete n first starts address steps is clean) [
          | inl told ↦ or_left _ _ (told-as n address v (IsDone first run address) (trace_in run) values told)
          | inr (inl now) ↦ or_right _ _ (or_left _ _ (may-grant n address v (IsDone first run address)
              (Answers first run) (trace_in run) (known n first address run (is-run n first steps is)).windowed now))
          | inr (inr left) ↦ or_right _ _ (or_right _ _ (may-leave address (trace_in run) left))
        ])
      where
        v : ℕ
        v = memory_in first run address

        values : List Telling
        values = (seen complete n address (events_in steps)).values

        Granted : Trace w → Type 0
        Granted t = told_as v values || (written_as address v (filter
            (λ x. nat_lt 0 (windows_since n (block_at address) x.asked t)) (pending_accesses t))
            || is_outrun address (outrun_accesses t)) ≡ true

-- ---- the lanes of a beat

each-of : (test : ℕ → ℕ → Bool) (memory : Memory) (from k : ℕ) → ((address : ℕ) → from ≤ address → address < from + k
    → test address (memory address) ≡ true) → each_from test from (bytes_from memory from k) ≡ true
unfolding each_from bytes_from
each-of test memory from zero each = refl
each-of test memory from (suc k) each = and_from _ _ (each from (omega arith) (omega arith))
    (each-of test memory (from + 1) k (λ address le lt. each address (omega (arith, le)) (omega (arith, lt))))

in-block : (block k w address : ℕ) → w * k + w ≤ 64 → 64 * block + w * k ≤ address → address < 64 * block + w * k + w
    → address / 64 ≡ block
in-block block k w address le from to = omega (arith, le, from, to)

pub granted : {w : ℕ} (complete : Completeness) (n : ℕ) (first : Memory) (starts : StartsAs complete.zero first)
    (link : Link) (z : BeatD w) (steps : CommitRun w)
    → IsTaken n first link (Beat.D z) (run_in steps) → IsCommitRun n first steps → z.opcode ≡ OpD.GrantData
    → ((z.corrupt || z.denied) || is_true_grant_seen complete n link.0 z
    (open_request z.source (on_link link.0 (beats_of (events_in steps)))) (events_in steps)) ≡ true
granted {w} complete n first starts link z steps taken is granting = judged (z.corrupt || z.denied) refl
  where
    e : Events w
    e = events_in steps

    k : Trace w → ℕ
    k t = length (unfinished Channel.D (on_link link.0 t))

    old : ℕ → CommitRun w
    old i = steps_before link.0 i steps

    sure : is_spoiled (Beat.D z) ≡ false → (asked : Request) → (t : Trace w) → trace_in (run_in steps) ≡ t
        → open_request z.source (on_link link.0 t) ≡ Some asked → is_overtaken asked.block z (on_link link.0 t) ≡ false
        → grants_truly_seen complete n asked.block (k t) z (before_last_seen link.0 (k t) e) ≡ true
    sure sound asked t same f doubt =
        rw (grant.lanes_are, ← events-before link.0 (k t) steps, ← run-before link.0 (k t) steps)
        (each-of (may_grant_seen complete n (events_in (old (k t)))) (memory_in first (run_in (old (k t))))
        (64 * asked.block + w * k t) w (λ address from to. granted-known complete n first starts (old (k t)) was address
        (clean-free n first address (run_in (old (k t))) (is-run n first (old (k t)) was)
        (ap (λ (b : ℕ). is_free n Perm.Branch b (trace_in (run_in (old (k t)))))
        (in-block asked.block (k t) w address grant.within from to) ∙ rw (run-before link.0 (k t) steps) grant.free))))
      where
        was : IsCommitRun n first (old (k t))
        was = is-before n first link.0 (k t) steps is

        grant : IsGranted n first link.0 z asked.block (k t) (run_in steps)
        grant = subst (λ (u : Trace w). open_request z.source (on_link link.0 u) ≡ Some asked
            → is_overtaken asked.block z (on_link link.0 u) ≡ false
            → IsGranted n first link.0 z asked.block (k u) (run_in steps)) same
            (λ g d. taken.grants_rightly z asked refl granting sound g d) f doubt

    go : is_spoiled (Beat.D z) ≡ false → (o : Option Request)
        → open_request z.source (on_link link.0 (beats_of e)) ≡ o → is_true_grant_seen complete n link.0 z o e ≡ true
    go sound None f = refl
    go sound (Some asked) f = doubted (is_overtaken asked.block z (on_link link.0 (beats_of e))) refl
      where
        doubted : (b : Bool) → is_overtaken asked.block z (on_link link.0 (beats_of e)) ≡ b
            → is_true_grant_seen complete n link.0 z (Some asked) e ≡ true
        doubted true g = rw g refl
        doubted false g = rw g (sure sound asked (beats_of e) (sym (beats-are steps)) f g)

    judged : (b : Bool) → (z.corrupt || z.denied) ≡ b → (b || is_true_grant_seen complete n link.0 z
        (open_request z.source (on_link link.0 (beats_of e))) e) ≡ true
    judged true sound = refl
    judged false sound = go sound (open_request z.source (on_link link.0 (beats_of e))) refl
