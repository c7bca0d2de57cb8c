-- Requests that bear on another block leave what is kept of this one.
use Rattle.tl_memory.proofs.Imports.{Beat, BeatA, Link, Trace, on_link, block_at, ends, Access, is_access}
use Rattle.tl_memory.proofs.Imports.{pending_accesses, IsElsewhere, LeavesHeld, PassesBy, AllWriteInside, all_liberties}
use Rattle.tl_memory.proofs.Imports.{OpA, begins}
use Rattle.std.proofs.Common.{◌≡◌, ℕ, Bool, true, false, not, ◌&&◌, ◌||◌, List, [], ◌∷◌, refl, sym, ap, ◌∙◌}
use Rattle.std.specs.Prelude.{is_some, if◌then◌else◌, find, ◌==◌, Some, None}
use Rattle.std.proofs.lemmas.Bool.{and_parts}
use Rattle.tl_params.specs.declared.perm.Perm.{Perm}
use Rattle.tl_rules.specs.statement.History.{is_acquire}
use Rattle.tl_rules.specs.statement.Liberties.{grows_from_none}
use Rattle.tl_bytes.specs.statement.Bytes.{all_but, asks, asks_new, is_put}
use Rattle.tl_memory.specs.code.{Passing.acquires_from_none, Taking.AreContinued, Taking.asked_now}
use Rattle.tl_memory.{specs.code.Elsewhere.NoneIsTo}
use Rattle.tl_memory.proofs.states.Elsewhere.{held-kept}
use Rattle.tl_bytes.specs.statement.Early.{Outrun, is_outrun_of, settled_by}
use Rattle.tl_memory.specs.code.Taking.{AreOutrunIn}
use Rattle.tl_memory.specs.statement.Known.{AllReachInside, AreInside}
use Rattle.tl_memory.proofs.lawful.OutrunNames.{settled-a}
unfoldable use Rattle.tl_bytes.specs.statement.Early.{outrun_accesses}
use Rattle.tl_memory.proofs.states.Leaving.{asked-elsewhere, leaves-request, SettlesElsewhere, settles-none}
use Rattle.tl_memory.proofs.states.Leaving.{settles-other}
use Rattle.tl_memory.proofs.Plain.{true_false}

-- a beat of channel A leaves as much of each block with its link, unless it is an Acquire of it from nothing held
pub request-leaves : {w : ℕ} (block : ℕ) (link : Link) (y : BeatA w) (t : Trace w)
    → (acquires_from_none y ≡ true → (block_at y.address == block) ≡ false) → LeavesHeld block (link, Beat.A y) t
unfolding all_liberties
request-leaves block link y t other = held-kept block (Beat.A y) (on_link link.0 t)
    (λ over. silent (begins (Beat.A y) (on_link link.0 t)) (is_acquire y.opcode) (grows_from_none y.param) other)
  where
    silent : (first acquire none : Bool) → (acquire && none ≡ true → (block_at y.address == block) ≡ false)
        → (if first && (acquire && none) then (if block_at y.address == block then Some Perm.None else None) else None)
        ≡ None
    silent true true true other = rw (other refl) refl
    silent true true false other = refl
    silent true false none other = refl
    silent false acquire none other = refl

-- a beat of channel A that asks for no access to the block
request-elsewhere : {w : ℕ} (block : ℕ) (link : Link) (y : BeatA w) (t : Trace w)
    → AllWriteInside (pending_accesses ((link, Beat.A y) ∷ t))
    → (asks_new link.0 y (on_link link.0 t) (outrun_accesses t) ≡ true → (block_at y.address == block) ≡ false)
    → (asks_new link.0 y (on_link link.0 t) (outrun_accesses t) ≡ true
    → NoneIsTo link.0 y.source block (pending_accesses t))
    → SettlesElsewhere block (link, Beat.A y) t → IsElsewhere block (link, Beat.A y) t
unfolding pending_accesses
request-elsewhere block link y t inside other none settles = record {
  quiet = refl;
  keeps = λ place lt. tt;
  pending_stay = asked-elsewhere (asks_new link.0 y (on_link link.0 t) (outrun_accesses t)) link.0 y.source block _
      (pending_accesses t) other none;
  inside = inside;
  unsettled = settles.unsettled;
  outrun = settles.outrun;
}

-- where an access is asked for in another block none with its source is to this one
continued-apart : {w : ℕ} (link block : ℕ) (y : BeatA w) (accesses : List (Access w)) → AreContinued link y accesses
    → (block_at y.address == block) ≡ false → NoneIsTo link y.source block accesses
continued-apart link block y [] are other = tt
continued-apart link block y (access ∷ accesses) are other = (
  λ own. ap (λ k. k == block) (are.0 own).1 ∙ other,
  continued-apart link block y accesses are.1 other,
)

-- one for another block
pub request-passes : {w : ℕ} (block : ℕ) (link : Link) (y : BeatA w) (t : Trace w)
    → AllWriteInside (pending_accesses ((link, Beat.A y) ∷ t)) → AllReachInside (outrun_accesses t)
    → AreContinued link.0 y (pending_accesses t) → AreOutrunIn link.0 y.source (block_at y.address) (outrun_accesses t)
    → (block_at y.address == block) ≡ false → PassesBy block (link, Beat.A y) t
request-passes block link y t inside reach continued are other = record {
  elsewhere = request-elsewhere block link y t inside (λ asked. other)
      (λ asked. continued-apart link.0 block y (pending_accesses t) continued other)
      (settles-other block (block_at y.address) y.source (link, Beat.A y) t _ refl
      (λ a e. settled-a link.0 y (on_link link.0 t) (outrun_accesses t) a e) (leaves-request link y t _ refl) are other
      reach);
  held_is = request-leaves block link y t (λ acquires. other);
  unshown = refl;
}

never-new : (asked out : Bool) → asked ≡ false → (asked && not out) ≡ false
never-new true out e = absurd cc
never-new false out e = refl

-- one with which no access is asked for, and none is settled
pub unasked-elsewhere : {w : ℕ} (block : ℕ) (link : Link) (y : BeatA w) (t : Trace w) → AreInside t
    → asks y (on_link link.0 t) ≡ false
    → settled_by link.0 (Beat.A y) (on_link link.0 t) (outrun_accesses t) ≡ None → IsElsewhere block (link, Beat.A y) t
unfolding pending_accesses
unasked-elsewhere block link y t inside none unsettled =
    let never = never-new (asks y (on_link link.0 t))
    (is_some (find (is_outrun_of link.0 y.source) (outrun_accesses t))) none in
    request-elsewhere block link y t (rw never inside.inside) (λ asked. true_false (sym asked ∙ never))
    (λ asked. true_false (sym asked ∙ never))
    (settles-none block (link, Beat.A y) t unsettled (leaves-request link y t None unsettled) inside.reach_inside)

-- an access is no Acquire
pub access-bare : {w : ℕ} (y : BeatA w) → is_access y.opcode ≡ true → acquires_from_none y ≡ false
access-bare {w} y e = go y.opcode e
  where
    go : (opcode : OpA) → is_access opcode ≡ true → is_acquire opcode && grows_from_none y.param ≡ false
    go OpA.AcquireBlock e = absurd cc
    go OpA.AcquirePerm e = absurd cc
    go v e = refl

pub asks-bare : {w : ℕ} {X : Type 0} (link : Link) (y : BeatA w) (t : Trace w) → asks y (on_link link.0 t) ≡ true
    → acquires_from_none y ≡ true → X
asks-bare link y t asked acquires =
    let both = and_parts (is_access y.opcode) (is_put y.opcode || ends (Beat.A y) (on_link link.0 t)) asked in
    absurd (let no : true ≡ false = sym acquires ∙ access-bare y both.0 in cc)

-- so with an Acquire from nothing held none is asked for
pub acquire-unasked : {w : ℕ} (link : Link) (y : BeatA w) (t : Trace w) → acquires_from_none y ≡ true
    → asks y (on_link link.0 t) ≡ false
acquire-unasked link y t acquires = go (is_access y.opcode) refl
  where
    go : (access : Bool) → is_access y.opcode ≡ access
        → access && (is_put y.opcode || ends (Beat.A y) (on_link link.0 t)) ≡ false
    go true e = absurd (let no : true ≡ false = sym acquires ∙ access-bare y e in cc)
    go false e = refl

pub pending-asked : {w : ℕ} (link : Link) (y : BeatA w) (t : Trace w)
    → asks y (on_link link.0 t) ≡ true → is_some (find (is_outrun_of link.0 y.source) (outrun_accesses t)) ≡ false
    → pending_accesses ((link, Beat.A y) ∷ t) ≡ asked_now link.0 y t ∷ all_but link.0 y.source (pending_accesses t)
unfolding pending_accesses
pending-asked link y t asked none = rw (asked, none) refl

-- ---- a request that an answer outran

-- with a beat of it that settles it not yet
pub asks-known : {w : ℕ} (block : ℕ) (link : Link) (y : BeatA w) (a : Outrun) (t : Trace w) → AreInside t
    → find (is_outrun_of link.0 y.source) (outrun_accesses t) ≡ Some a
    → settled_by link.0 (Beat.A y) (on_link link.0 t) (outrun_accesses t) ≡ None → IsElsewhere block (link, Beat.A y) t
unfolding pending_accesses
asks-known block link y a t inside found unsettled =
    let never : asks_new link.0 y (on_link link.0 t) (outrun_accesses t) ≡ false =
    rw found (unasked (asks y (on_link link.0 t))) in
    request-elsewhere block link y t (rw never inside.inside) (λ asked. true_false (sym asked ∙ never))
    (λ asked. true_false (sym asked ∙ never))
    (settles-none block (link, Beat.A y) t unsettled (leaves-request link y t None unsettled) inside.reach_inside)
  where
    unasked : (b : Bool) → (b && false) ≡ false
    unasked true = refl
    unasked false = refl

-- the request of an access leaves what its link holds
pub asks-calm : {w : ℕ} (link : Link) (y : BeatA w) (t : Trace w) → asks y (on_link link.0 t) ≡ true
    → acquires_from_none y ≡ false
asks-calm link y t asked =
    access-bare y (and_parts (is_access y.opcode) (is_put y.opcode || ends (Beat.A y) (on_link link.0 t)) asked).0

-- a report without data, or of a Release that is answered, tells nothing
