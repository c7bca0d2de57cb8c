-- What was performed of an access, with one more happening.
use Rattle.tl_one_memory.proofs.Imports.{Beat, BeatD, Link, on_link, Memory, Trace, Access}
use Rattle.tl_one_memory.proofs.Imports.{is_of, pending_accesses, same-some, IsPending}
use Rattle.tl_one_memory.proofs.Imports.{unfinished, IsPerformed, IsRun, IsTaken, Leaves, Performs}
use Rattle.tl_one_memory.proofs.Imports.{Run, Stores, Takes, found_in, memory_in, trace_in}
use Rattle.std.proofs.Common.{◌≡◌, ℕ, Bool, true, false, not, ◌&&◌, ◌||◌, [], ◌∷◌, ◌⊎◌, inl, inr, refl, sym, ◌∙◌}
use Rattle.std.specs.Prelude.{if◌then◌else◌, ◌==◌, find, filter, is_some, Option, Some, None}
use Rattle.std.proofs.lemmas.Bool.{and_parts, eq-eqb, eqb-true}
use Rattle.tl_bytes.specs.statement.Bytes.{leaves_pending}
use Rattle.tl_bytes.specs.statement.Early.{ends_request, outruns}
use Rattle.tl_bytes.proofs.Finding.{find-left_out, none-some}
use Rattle.tl_beat.specs.declared.channel.Channel.{Channel}
use Rattle.tl_bytes.proofs.Pending.{IsAnsweredNow, IsAskedNow, pending-after}
use Rattle.tl_one_memory.proofs.Growing.{HasGrown, asked-or, asked-pending, has-grown}
use Rattle.tl_one_memory.specs.statement.Run.{has_come, is_answered_by}

pub some-value : {X : Type 0} (o : Option X) → is_some o ≡ true → (x : X) × (o ≡ Some x)
some-value None e = absurd cc
some-value (Some x) e = (x, refl)

-- ---- a beat is taken

-- one that is answered whole isn't pending
pub answered-gone : {w : ℕ} (c s : ℕ) (p : Access w) (link : Link) (x : Beat w) (t : Trace w)
    → is_answered_by c s link x t ≡ true → IsPending c s p ((link, x) ∷ t) → ⊥
unfolding pending_accesses
answered-gone {w} c s p link (Beat.D z) t answered pending =
    none-some p (sym (rw (whole.1) gone) ∙ pending)
  where
    whole : ((link.0 == c) && (z.source == s) ≡ true) × (leaves_pending z (on_link link.0 t) ≡ true)
    whole = and_parts ((link.0 == c) && (z.source == s)) (leaves_pending z (on_link link.0 t)) answered

    same : ((link.0 == c) ≡ true) × ((z.source == s) ≡ true)
    same = and_parts (link.0 == c) (z.source == s) whole.0

    gone : find (is_of c s) (filter (λ access. not (is_of link.0 z.source access)) (pending_accesses t)) ≡ None
    gone = find-left_out (is_of link.0 z.source) (is_of c s) (pending_accesses t)
        (λ access e. rw (eqb-true link.0 c same.0, eqb-true z.source s same.1) e)
answered-gone c s p link (Beat.A z) t answered pending = absurd cc
answered-gone c s p link (Beat.B z) t answered pending = absurd cc
answered-gone c s p link (Beat.C z) t answered pending = absurd cc
answered-gone c s p link (Beat.E z) t answered pending = absurd cc

-- so one that is pending wasn't answered
pub unanswered : {w : ℕ} (c s : ℕ) (p : Access w) (link : Link) (x : Beat w) (t : Trace w)
    → IsPending c s p ((link, x) ∷ t) → is_answered_by c s link x t ≡ false
unanswered c s p link x t pending = go (is_answered_by c s link x t) refl
  where
    go : (b : Bool) → is_answered_by c s link x t ≡ b → b ≡ false
    go true e = absurd (answered-gone c s p link x t e pending)
    go false e = refl

-- and its answer didn't come before its request was complete
pub still-late : {w : ℕ} (c s : ℕ) (p : Access w) (link : Link) (z : BeatD w) (t : Trace w)
    → IsPending c s p ((link, Beat.D z) ∷ t) → link.0 ≡ c → z.source ≡ s → outruns z (on_link link.0 t) ≡ false
still-late c s p link z t pending own source =
    neither (ends_request z (on_link link.0 t)) (outruns z (on_link link.0 t))
    (rw (eq-eqb link.0 c own, eq-eqb z.source s source) at (unanswered c s p link (Beat.D z) t pending))
  where
    neither : (a b : Bool) → a || b ≡ false → b ≡ false
    neither true b e = absurd cc
    neither false b e = e

-- one that wasn't stays pending, or is asked for again
still-pending : {w : ℕ} (c s : ℕ) (p : Access w) (link : Link) (x : Beat w) (t : Trace w)
    → is_answered_by c s link x t ≡ false → IsPending c s p t → (q : Access w) × IsPending c s q ((link, x) ∷ t)
still-pending {w} c s p link x t e pending = elim (asked-or c s (link, x) t) [
  | inr now ↦ (now.0, asked-pending c s now.0 (link, x) t now.1)
  | inl never ↦ elim (pending-after c s p (link, x) t pending never) [
    | inl still ↦ (p, still)
    | inr answered ↦ absurd (answer answered)
  ]
]
  where
    answer : IsAnsweredNow c s (link, x) t → ⊥
    answer now =
        let whole : is_answered_by c s link x t ≡ true =
        rw (
          now.beat_is,
          eq-eqb link.0 c (sym now.link_is),
          eq-eqb now.last.source s (sym now.source_is),
          now.completes,
        ) refl in
        let no : true ≡ false = sym whole ∙ e in cc

-- what was performed by then, and isn't answered now
pub found-taken : {w : ℕ} (first : Memory) (c s : ℕ) (link : Link) (x : Beat w) (run : Run w) (address v : ℕ)
    → found_in first c s (Takes link x ∷ run) address ≡ Some v
    → (is_answered_by c s link x (trace_in run) ≡ false) × (found_in first c s run address ≡ Some v)
unfolding found_in
found-taken {w} first c s link x run address v is = go (is_answered_by c s link x (trace_in run)) refl is
  where
    go : (b : Bool) → is_answered_by c s link x (trace_in run) ≡ b
        → (if b then None else found_in first c s run address) ≡ Some v
        → (is_answered_by c s link x (trace_in run) ≡ false) × (found_in first c s run address ≡ Some v)
    go true e f = absurd (none-some v f)
    go false e f = (e, f)

pub found-still : {w : ℕ} (first : Memory) (c s : ℕ) (link : Link) (x : Beat w) (run : Run w) (address : ℕ)
    → is_answered_by c s link x (trace_in run) ≡ false
    → found_in first c s (Takes link x ∷ run) address ≡ found_in first c s run address
unfolding found_in
found-still first c s link x run address e = rw e refl

-- ---- an access is performed

-- what was found by then, or is now
pub found-performed : {w : ℕ} (first : Memory) (c s d i : ℕ) (test : ℕ → Bool) (left : Memory) (run : Run w)
    (address v : ℕ)
    → found_in first c s (Performs d i test left ∷ run) address ≡ Some v
    → ((c ≡ d) × (s ≡ i) × (test address ≡ true) × (v ≡ memory_in first run address))
    ⊎ (found_in first c s run address ≡ Some v)
unfolding found_in
found-performed {w} first c s d i test left run address v e = go (d == c) refl (i == s) refl (test address) refl e
  where
    go : (a : Bool) → (d == c) ≡ a → (b : Bool) → (i == s) ≡ b → (passes : Bool) → test address ≡ passes
        → (if (a && b) && passes then Some (memory_in first run address) else found_in first c s run address) ≡ Some v
        → ((c ≡ d) × (s ≡ i) × (test address ≡ true) × (v ≡ memory_in first run address))
        ⊎ (found_in first c s run address ≡ Some v)
    go true f true g true h is = inl (
      sym (eqb-true d c f),
      sym (eqb-true i s g),
      h,
      same-some (memory_in first run address) v is,
    )
    go true f true g false h is = inr is
    go true f false g passes h is = inr is
    go false f b g passes h is = inr is

pub found-other : {w : ℕ} (first : Memory) (c s d i : ℕ) (test : ℕ → Bool) (left : Memory) (run : Run w) (address : ℕ)
    → ((d == c) && (i == s)) && test address ≡ false
    → found_in first c s (Performs d i test left ∷ run) address ≡ found_in first c s run address
unfolding found_in
found-other first c s d i test left run address e = rw e refl

pub found-here : {w : ℕ} (first : Memory) (d i : ℕ) (test : ℕ → Bool) (left : Memory) (run : Run w) (address : ℕ)
    → test address ≡ true
    → found_in first d i (Performs d i test left ∷ run) address ≡ Some (memory_in first run address)
unfolding found_in
found-here first d i test left run address e = rw (eq-eqb d d refl, eq-eqb i i refl, e) refl

-- what was performed at an address isn't performed there again
pub performed-once : {w : ℕ} (n : ℕ) (first : Memory) (c s d i : ℕ) (test : ℕ → Bool) (run : Run w) (address v : ℕ)
    → IsPerformed n first d i test run → found_in first c s run address ≡ Some v
    → ((d == c) && (i == s)) && test address ≡ false
performed-once n first c s d i test run address v is found = go (d == c) refl (i == s) refl (test address) refl
  where
    go : (a : Bool) → (d == c) ≡ a → (b : Bool) → (i == s) ≡ b → (passes : Bool) → test address ≡ passes
        → (a && b) && passes ≡ false
    go true f true g true h =
        absurd (none-some v (sym (is.once address h) ∙ rw (eqb-true d c f, eqb-true i s g) found))
    go true f true g false h = refl
    go true f false g passes h = refl
    go false f b g passes h = refl

-- ---- all that has happened

-- an access that was performed somewhere, and isn't answered whole, is pending
pub found-pending : {w : ℕ} (n : ℕ) (first : Memory) (c s address v : ℕ) (run : Run w) → IsRun n first run
    → found_in first c s run address ≡ Some v → (p : Access w) × IsPending c s p (trace_in run)
unfolding IsRun found_in trace_in
found-pending n first c s address v [] is found = absurd (none-some v found)
found-pending n first c s address v (Takes link x ∷ run) is found =
    let was = found-taken first c s link x run address v found in
    let before = found-pending n first c s address v run is.1 was.1 in
    still-pending c s before.0 link x (trace_in run) was.0 before.1
found-pending n first c s address v (Performs d i test left ∷ run) is found =
    elim (found-performed first c s d i test left run address v found) [
      | inl now ↦ (is.0.access, rw (now.0, now.1) is.0.pending)
      | inr old ↦ found-pending n first c s address v run is.1 old
    ]
found-pending n first c s address v (Stores block bytes ∷ run) is found =
    found-pending n first c s address v run is.1 found
found-pending n first c s address v (Leaves d i bytes ∷ run) is found =
    found-pending n first c s address v run is.1 found

-- if an access is asked for that was performed at an address, it is a Put that goes on, and the byte there came before
pub asked-again : {w : ℕ} (n : ℕ) (first : Memory) (c s : ℕ) (p : Access w) (link : Link) (x : Beat w) (run : Run w)
    (address v : ℕ) → IsTaken n first link x run → IsRun n first run → found_in first c s run address ≡ Some v
    → (now : IsAskedNow c s p (link, x) (trace_in run))
    → HasGrown address c s p (trace_in run)
    × (has_come now.beat (unfinished Channel.A (on_link link.0 (trace_in run))) address ≡ true)
asked-again n first c s p link x run address v taken is found now =
    elim (taken.asks_new now.beat address now.beat_is now.asks_it) [
      | inl none ↦ absurd (none-some v (sym none ∙ rw (← now.link_is, ← now.source_is) found))
      | inr on ↦
          let old = found-pending n first c s address v run is found in
          (has-grown address c s p (link, x) (trace_in run) now on old.0 old.1, on.came)
    ]
