-- What is kept of a block, with a beat that bears on another.
use Rattle.tl_memory.proofs.Imports.{Beat, Link, History, unfinished, Trace, on_link, ends, all_liberties, is_free, Access}
use Rattle.tl_memory.proofs.Imports.{ends_request, is_of, may_be, may_find, others, pending_accesses, tells, written_as}
use Rattle.tl_memory.proofs.Imports.{KnowsBlock, IsElsewhere, LeavesHeld, PassesBy, WritesNot, BlockState, PendingAccess}
use Rattle.tl_memory.proofs.Imports.{AllWriteInside, AreKnown, is_to, KnowsState, KnowsUnseen, free_for, open_for}
use Rattle.std.proofs.Common.{◌≡◌, ℕ, zero, suc, true, false, not, ◌&&◌, ◌||◌, ◌+◌, ◌*◌, ◌<◌, List, [], ◌∷◌}
use Rattle.std.proofs.Common.{refl, sym, ap, ap₂, ◌∙◌, arith, inl, inr, subst}
use Rattle.std.specs.Prelude.{filter, find, None, Option, Some}
use Rattle.std.proofs.lemmas.Bool.{cases_Bool, cases_eq, eq-eqb, ne_eqb, or_left}
use Rattle.tl_beat.specs.declared.channel.Channel.{Channel}
use Rattle.tl_params.specs.declared.perm.Perm.{Perm}
use Rattle.tl_rules.specs.statement.{Conformance.same_perm, Windows.needs}
use Rattle.tl_rules.specs.statement.Liberties.{held_under, says_held_under}
use Rattle.tl_bytes.specs.statement.{Free.may_hold, Shown.is_window, Shown.shows}
use Rattle.tl_bytes.{specs.declared.block_bytes.BlockBytes.BlockBytes, specs.declared.telling.Telling.Telling}
use Rattle.tl_bytes.{proofs.Since.same_after}
use Rattle.tl_bytes.specs.statement.Bytes.{after_answer, after_beat, last_told, last_window, told_as}
use Rattle.tl_bytes.specs.statement.Bytes.{is_settled}
use Rattle.tl_bytes.specs.statement.Early.{is_outrun}
unfoldable use Rattle.tl_bytes.specs.statement.Early.{outrun_accesses}
use Rattle.tl_memory.specs.declared.early.OutrunAccess.{OutrunAccess}
use Rattle.tl_memory.specs.statement.Known.{AllReachInside, AreOutrun, KnowsOutrun}
use Rattle.tl_memory.{specs.code.Elsewhere.KeepsByte, specs.code.Elsewhere.LeavesOutrun}
use Rattle.tl_memory.{proofs.values.Writing.reached-here, proofs.values.Writing.written-here}
use Rattle.tl_memory.{proofs.states.Keeping.settled-each}
use Rattle.tl_memory.proofs.states.Found.{found-passed, hidden-open, in_block, unshown-window}

-- ---- what a byte may be

answer-keeps : {w : ℕ} (n address : ℕ) (o : Option (Access w)) (answer : List (Beat w)) (t : Trace w)
    (before : List Telling) → WritesNot address o → after_answer n address o answer t before ≡ before
answer-keeps n address None answer t before none = refl
answer-keeps n address (Some access) answer t before none = rw none refl

pub beat-keeps : {w : ℕ} (n address link : ℕ) (y : Beat w) (t : Trace w) (before : List Telling)
    → KeepsByte address link y t → after_beat n address link y t before ≡ before
beat-keeps n address link (Beat.D y) t before keeps = elim (cases_Bool (ends_request y (on_link link t))) [
  | inl ends ↦ rw ends (answer-keeps n address (find (is_of link y.source) (pending_accesses t))
      (Beat.D y ∷ unfinished Channel.D (on_link link t)) t before (keeps ends))
  | inr goes_on ↦ rw goes_on refl
]
beat-keeps n address link v t before keeps = refl

pub byte-kept : {w : ℕ} (n block p : ℕ) (x : Link × Beat w) (t : Trace w) → p < 64
    → tells block x.1 (on_link x.0.0 t) ≡ false → KeepsByte (64 * block + p) x.0.0 x.1 t
    → is_settled (64 * block + p) x t ≡ false → may_be n (64 * block + p) (x ∷ t) ≡ may_be n (64 * block + p) t
unfolding may_be
byte-kept n block p x t lt quiet keeps unsettled =
    rw (in_block block p lt, quiet, unsettled) (beat-keeps n (64 * block + p) x.0.0 x.1 t (may_be n (64 * block + p) t) keeps)

pub bytes-kept : {w : ℕ} (n block : ℕ) (b : BlockBytes) (x : Link × Beat w) (t : Trace w) → KnowsBlock b n block t
    → tells block x.1 (on_link x.0.0 t) ≡ false → ((p : ℕ) → p < 64 → KeepsByte (64 * block + p) x.0.0 x.1 t)
    → ((p : ℕ) → p < 64 → is_settled (64 * block + p) x t ≡ false) → KnowsBlock b n block (x ∷ t)
unfolding last_told
bytes-kept n block b x t k quiet keeps unsettled = record {
  bytes_are = λ p lt. k.bytes_are p lt ∙ sym (byte-kept n block p x t lt quiet (keeps p lt) (unsettled p lt));
  last_is = rw quiet k.last_is;
}

-- ---- what an access may find

others-same : {w : ℕ} (block p v : ℕ) (access : Access w) (x : Link × Beat w) (t : Trace w) → p < 64
    → AllWriteInside (pending_accesses t) → AllWriteInside (pending_accesses (x ∷ t))
    → filter (is_to block) (pending_accesses (x ∷ t)) ≡ filter (is_to block) (pending_accesses t)
    → written_as (64 * block + p) v (others access (x ∷ t)) ≡ written_as (64 * block + p) v (others access t)
others-same block p v access x t lt before now same =
    sym (written-here block p v (λ other. not (is_of access.link access.request.source other))
    (pending_accesses (x ∷ t)) lt now)
    ∙ ap (λ l. written_as (64 * block + p) v
    (filter (λ other. not (is_of access.link access.request.source other)) l)) same
    ∙ written-here block p v (λ other. not (is_of access.link access.request.source other)) (pending_accesses t) lt
    before

-- with a beat that bears on another block it may find what it might
pub find-kept : {w : ℕ} (n block : ℕ) (access : Access w) (x : Link × Beat w) (t : Trace w) → IsElsewhere block x t
    → AllWriteInside (pending_accesses t) → AllReachInside (outrun_accesses t) → (p v : ℕ) → p < 64
    → may_find n access (x ∷ t) (64 * block + p) v ≡ may_find n access t (64 * block + p) v
find-kept n block access x t elsewhere inside reach p v lt =
    ap₂ (λ l b. told_as v l || b)
    (byte-kept n block p x t lt elsewhere.quiet (elsewhere.keeps p lt) (elsewhere.unsettled p lt))
    (ap₂ (λ a b. a || b) (others-same block p v access x t lt inside elsewhere.inside elsewhere.pending_stay)
    (sym (reached-here block p (outrun_accesses (x ∷ t)) lt elsewhere.outrun.reach_inside)
    ∙ ap (is_outrun (64 * block + p)) elsewhere.outrun.stay ∙ reached-here block p (outrun_accesses t) lt reach))

-- ---- how free it is

-- where the beat says nothing of what may be held of a block, that stays
pub held-kept : {w : ℕ} (block : ℕ) (x : Beat w) (past : History w)
    → (ends x past ≡ true → says_held_under all_liberties block x past ≡ None)
    → may_hold block (x ∷ past) ≡ may_hold block past
unfolding held_under
held-kept block x past silent = elim (cases_Bool (ends x past)) [
  | inl over ↦ rw (over, silent over) refl
  | inr goes_on ↦ rw goes_on refl
]

link-kept : {w : ℕ} (block m : ℕ) (x : Link × Beat w) (t : Trace w) → LeavesHeld block x t
    → may_hold block (on_link m (x ∷ t)) ≡ may_hold block (on_link m t)
unfolding on_link
link-kept block m x t same = elim (cases_eq x.0.0 m) [
  | inl own ↦ rw (eq-eqb x.0.0 m own) (rw own at same)
  | inr other ↦ rw (ne_eqb x.0.0 m other) refl
]

-- a beat that leaves as much of a block with its link leaves it as free as it was
pub free-kept : {w : ℕ} (n : ℕ) (given : Perm) (block : ℕ) (x : Link × Beat w) (t : Trace w) → LeavesHeld block x t
    → is_free n given block (x ∷ t) ≡ is_free n given block t
unfolding is_free
free-kept zero given block x t same = refl
free-kept (suc n) given block x t same =
    rw (free-kept n given block x t same, link-kept block n x t same) refl

pub last-kept : {w : ℕ} (n block : ℕ) (x : Link × Beat w) (t : Trace w)
    → is_free n Perm.Trunk block (x ∷ t) ≡ is_free n Perm.Trunk block t
    → is_free n Perm.Trunk block t ≡ false → last_window n block (x ∷ t) ≡ last_window n block t
unfolding last_window
last-kept n block x t same off = rw (same, off) refl

-- where nothing was carried it is free
pub free-first : (w n : ℕ) (given : Perm) (block : ℕ) → is_free {w = w} n given block [] ≡ true
unfolding is_free on_link held_under
free-first w zero given block = refl
free-first w (suc n) Perm.Trunk block = rw (free-first w n Perm.Trunk block) refl
free-first w (suc n) Perm.Branch block = rw (free-first w n Perm.Branch block) refl
free-first w (suc n) Perm.None block = rw (free-first w n Perm.None block) refl

-- ---- what is kept of it

-- the accesses whose answers outran their requests
pub outrun-stays : {w : ℕ} (block : ℕ) (kept : List OutrunAccess) (x : Link × Beat w) (t : Trace w)
    → LeavesOutrun block x t → KnowsOutrun kept block (outrun_accesses t)
    → KnowsOutrun kept block (outrun_accesses (x ∷ t))
outrun-stays block kept x t leaves k = record {
  are = subst (λ l. AreOutrun kept block l) (sym leaves.stay) k.are;
  inside = leaves.reach_inside;
}

module _ {w : ℕ} (s : BlockState w) (n block : ℕ) (x : Link × Beat w) (t : Trace w) where
  stays-each : (pending : List (PendingAccess w)) (accesses : List (Access w)) → PassesBy block x t
      → AllWriteInside (pending_accesses t) → AllReachInside (outrun_accesses t) → ((given : Perm) → free_for s.free given ≡ is_free n given block t)
      → AreKnown pending (open_for s.free) n block accesses t
      → AreKnown pending (open_for s.free) n block accesses (x ∷ t)
  stays-each [] [] passes inside reach free are = tt
  stays-each (one ∷ pending) (access ∷ accesses) passes inside reach free are = (
    record {
      asked_is = are.0.asked_is;
      lawful = are.0.lawful;
      write_is = are.0.write_is;
      before = omega (arith, are.0.before);
      windows_are = same_after one.windows n block access.asked x t are.0.windows_are are.0.before
          (free-kept n Perm.Trunk block x t passes.held_is);
      found_is = λ other. found-passed n block one.read (open_for s.free (needs access.request.opcode)) access x t
          (within (needs access.request.opcode)) are.0.before
          (find-kept n block access x t passes.elsewhere inside reach) (are.0.found_is other);
    },
    stays-each pending accesses passes inside reach free are.1,
  )
    where
      within : (given : Perm) → is_window n given block x t ≡ true → open_for s.free given ≡ true
      within given e = or_left (free_for s.free given) (same_perm given Perm.Branch && s.free.shown)
          (free given ∙ sym (free-kept n given block x t passes.held_is)
          ∙ sym (unshown-window n block given x t passes.unshown) ∙ e)
  stays-each v u passes inside reach free are = absurd are

  -- of a block that a beat passes by
  pub stays : PassesBy block x t → KnowsState s n block t → KnowsState s n block (x ∷ t)
  stays passes k = record {
    bytes_are = bytes-kept n block s.bytes x t k.bytes_are passes.elsewhere.quiet passes.elsewhere.keeps
        passes.elsewhere.unsettled;
    accesses_are = record {
      accesses_are = rw passes.elsewhere.pending_stay (stays-each s.accesses.items
          (filter (is_to block) (pending_accesses t)) passes k.accesses_are.inside k.outrun_are.inside k.free_is
          k.accesses_are.accesses_are);
      inside = passes.elsewhere.inside;
    };
    outrun_are = outrun-stays block s.outrun x t passes.elsewhere.outrun k.outrun_are;
    free_is = λ given. k.free_is given ∙ sym (free-kept n given block x t passes.held_is);
    last_is = λ off. k.last_is off ∙ sym (last-kept n block x t (free-kept n Perm.Trunk block x t passes.held_is)
        (sym (k.free_is Perm.Trunk) ∙ off));
  }

  -- where it is as free as it was, and its bytes aren't shown, that is seen
  pub settled : LeavesHeld block x t → shows block x.1 (on_link x.0.0 t) ≡ false → s.free.shown ≡ false
      → KnowsUnseen s n block x t → KnowsState s n block (x ∷ t)
  settled same unshown hidden k = record {
    bytes_are = k.bytes_are;
    accesses_are = record {
      accesses_are = settled-each n block x t (open_for s.free) s.accesses.items
          (filter (is_to block) (pending_accesses (x ∷ t))) window (free-kept n Perm.Trunk block x t same)
          k.accesses_are.accesses_are;
      inside = k.accesses_are.inside;
    };
    outrun_are = k.outrun_are;
    free_is = λ given. k.free_is given ∙ sym (free-kept n given block x t same);
    last_is = λ off. k.last_is off ∙ sym (last-kept n block x t (free-kept n Perm.Trunk block x t same)
        (sym (k.free_is Perm.Trunk) ∙ off));
  }
    where
      window : (given : Perm) → is_window n given block x t ≡ open_for s.free given
      window given = unshown-window n block given x t unshown ∙ free-kept n given block x t same ∙ sym (k.free_is given)
          ∙ sym (hidden-open s.free given hidden)
