-- What is known of the state of a block, from what is known of its parts.
use Rattle.tl_memory.proofs.Imports.{Beat, BeatD, Link, a_carries_data, Trace, on_link, is_free}
use Rattle.tl_memory.proofs.Imports.{Access, ends_request, pending_accesses, KnowsBlock, may_bring, WritesNot}
use Rattle.tl_memory.proofs.Imports.{AreRenewed, found_by, keeps, staying, BlockState, Expected, PendingAccess}
use Rattle.tl_memory.proofs.Imports.{AllWriteInside, AnyIsTo, AreKnown, Expects, ExpectsAgain, is_to}
use Rattle.tl_memory.proofs.Imports.{KnowsAccess, KnowsState, KnowsUnseen, Freedom, closed}
use Rattle.tl_memory.proofs.Imports.{free_for, freedom, open_for}
use Rattle.std.proofs.Common.{◌≡◌, ℕ, Bool, true, false, not, ◌&&◌, ◌-◌, ◌/◌, List, [], ◌∷◌, length}
use Rattle.std.proofs.Common.{refl, sym, ap, subst, ◌∙◌, arith, inl, inr}
use Rattle.std.{specs.Box.box_value, specs.Prelude.option_map}
use Rattle.std.specs.Prelude.{filter, if◌then◌else◌, is_some, None, Option, Some, unwrap_or}
use Rattle.std.proofs.lemmas.Bool.{cases_Bool, eqb-true}
use Rattle.tl_params.specs.declared.perm.Perm.{Perm}
use Rattle.tl_bytes.{specs.declared.write.Write.Write}
use Rattle.tl_bytes.{proofs.Since.closed_after}
use Rattle.tl_memory.proofs.Imports.{OpA}
use Rattle.tl_bytes.specs.statement.Bytes.{is_get, is_put, last_window, window_began, windows_since}
use Rattle.tl_bytes.specs.statement.Known.{count_of, IsWrite}
use Rattle.tl_memory.specs.statement.Known.{IsNoPut}
use Rattle.tl_memory.specs.{code.Taking.next_accesses, code.Taking.with_next, code.Writers.AreWatched, declared.next_state.NextState.NextState}
use Rattle.tl_memory.{proofs.values.Writing.no_data}
unfoldable use Rattle.tl_bytes.specs.statement.Early.{outrun_accesses}
use Rattle.tl_memory.specs.statement.Known.{KnowsOutrun}
use Rattle.tl_memory.proofs.states.Elsewhere.{free-first}
use Rattle.tl_memory.proofs.states.Found.{freedom-is, hidden, window-is}
use Rattle.tl_memory.proofs.states.Keeping.{copied-each, filters-swap, inside-kept, IsFound}
use Rattle.tl_memory.proofs.states.Keeping.{watched-each}

-- a block of which nothing was carried
pub state-first : {w : ℕ} (s : BlockState w) (n block : ℕ) → KnowsBlock {w = w} s.bytes n block []
    → s.accesses.items ≡ [] → s.outrun ≡ [] → ((given : Perm) → free_for s.free given ≡ true) → KnowsState s n block []
unfolding pending_accesses outrun_accesses
state-first {w} s n block bytes none nothing free = record {
  bytes_are = bytes;
  accesses_are = record { accesses_are = rw none tt; inside = tt };
  outrun_are = record { are = rw nothing tt; inside = tt };
  free_is = λ given. free given ∙ sym (free-first w n given block);
  last_is = λ off. absurd (differ (sym (free Perm.Trunk) ∙ off));
}
  where
    differ : true ≡ false → ⊥
    differ e = cc

-- it is free for all
pub all-free : (given : Perm) → free_for (record { reading = true; writing = true; shown = false }) given ≡ true
all-free Perm.Trunk = refl
all-free Perm.Branch = refl
all-free Perm.None = refl

-- ---- the access with a source on a link

pub is-found : {w : ℕ} (p : PendingAccess w) (q : Option (PendingAccess w)) (admits : Perm → Bool) (n block : ℕ)
    (o : Option (Access w)) (t : Trace w) → Some p ≡ q → IsFound q admits n block o t → AnyIsTo block o
    → (access : Access w) × (o ≡ Some access) × KnowsAccess p admits n block access t
    × (block ≡ access.request.address / 64)
is-found p None admits n block o t e found to = absurd cc
is-found p (Some q) admits n block None t e found to = absurd found
is-found p (Some q) admits n block (Some access) t e found to =
    (access, refl, rw (same e) found, sym (eqb-true (access.request.address / 64) block to))
  where
    same : {X : Type 0} {x y : X} → Some x ≡ Some y → x ≡ y
    same e = cc

pub none-found : {w : ℕ} (q : Option (PendingAccess w)) (admits : Perm → Bool) (n block : ℕ) (o : Option (Access w))
    (t : Trace w) → None ≡ q → IsFound q admits n block o t → o ≡ None
none-found None admits n block None t e found = refl
none-found None admits n block (Some access) t e found = absurd found
none-found (Some q) admits n block o t e found = absurd cc

-- both are there, or none is
pub both-found : {w : ℕ} (q : Option (PendingAccess w)) (admits : Perm → Bool) (n block : ℕ) (o : Option (Access w))
    (t : Trace w) → IsFound q admits n block o t → is_some q ≡ is_some o
both-found None admits n block None t found = refl
both-found (Some q) admits n block (Some access) t found = refl
both-found None admits n block (Some access) t found = absurd found
both-found (Some q) admits n block None t found = absurd found

pub expects-none : {w : ℕ} (n block : ℕ) (o : Option (Access w)) (t : Trace w) → o ≡ None → Expects None n block o t
expects-none n block o t none = rw none tt

-- what the access may have found by now
pub expects-some : {w : ℕ} (expected : Expected) (p : PendingAccess w) (n block : ℕ) (access : Access w)
    (o : Option (Access w)) (t : Trace w) → o ≡ Some access → KnowsAccess p closed n block access t
    → expected.address ≡ p.writer.asked.request.address → expected.size ≡ p.writer.asked.request.size
    → expected.bytes ≡ p.read → IsNoPut o → Expects (Some expected) n block o t
expects-some expected p n block access o t found k address size same other = rw found (
  address ∙ k.asked_is.address_is,
  size ∙ k.asked_is.size_is,
  λ place byte lt. ap (λ r. may_bring r place byte) same ∙ sym (k.found_is (rw found at other) place byte lt),
)

-- a Get is no Put
pub get-no_put : {w : ℕ} (access : Access w) (o : Option (Access w)) → o ≡ Some access
    → is_get access.request.opcode ≡ true → IsNoPut o
get-no_put access o found get = rw found (go access.request.opcode get)
  where
    go : (opcode : OpA) → is_get opcode ≡ true → is_put opcode ≡ false
    go OpA.Get e = refl
    go v e = absurd cc

pub again-none : {w : ℕ} (expected : Option Expected) (n : ℕ) (o : Option (Access w)) (t : Trace w) → o ≡ None
    → expected ≡ None → ExpectsAgain expected n o t
again-none expected n o t none is = rw none is

pub again-other : {w : ℕ} (n : ℕ) (access : Access w) (o : Option (Access w)) (t : Trace w) → o ≡ Some access
    → is_get access.request.opcode ≡ false → ExpectsAgain None n o t
again-other n access o t found other =
    rw found ((λ get. absurd (let no : true ≡ false = sym get ∙ other in cc)), λ e. refl)

pub again-get : {w : ℕ} (expected : Option Expected) (n block : ℕ) (access : Access w) (o : Option (Access w))
    (t : Trace w) → o ≡ Some access → block ≡ access.request.address / 64 → is_get access.request.opcode ≡ true
    → Expects expected n block o t → ExpectsAgain expected n o t
again-get expected n block access o t found to is known = rw found (
  (λ get. subst (λ b. Expects expected n b (Some access) t) to (rw found at known)),
  λ other. absurd (let no : true ≡ false = sym is ∙ other in cc),
)

-- ---- one more beat

-- with what a beat makes of it
pub unseen-state : {w : ℕ} (old : BlockState w) (next : NextState w) (n block : ℕ) (gone : Option (Link × ℕ))
    (x : Link × Beat w) (t : Trace w) → KnowsState old n block t
    → KnowsBlock (unwrap_or (option_map box_value next.bytes) old.bytes) n block (x ∷ t)
    → filter (is_to block) (pending_accesses (x ∷ t)) ≡ filter (keeps gone) (filter (is_to block) (pending_accesses t))
    → AllWriteInside (pending_accesses (x ∷ t))
    → KnowsOutrun (unwrap_or next.outrun old.outrun) block (outrun_accesses (x ∷ t))
    → AreRenewed (found_by old.free old.bytes old.accesses.items old.outrun) (staying gone old.accesses.items)
    (next_accesses old.accesses next.accesses).items
    → KnowsUnseen (with_next old next) n block x t
unseen-state {w} old next n block gone x t k bytes stay inside out renewed = record {
  bytes_are = bytes;
  accesses_are = record {
    accesses_are = subst (λ l. AreKnown (next_accesses old.accesses next.accesses).items closed n block l t) (sym stay)
        (copied-each n block old.free old.bytes old.accesses.items old.outrun t k.bytes_are k.accesses_are
        k.outrun_are gone old.accesses.items (next_accesses old.accesses next.accesses).items (filter (is_to block) (pending_accesses t)) k.accesses_are.accesses_are renewed);
    inside = inside;
  };
  outrun_are = out;
  free_is = λ given. hidden old.free given ∙ k.free_is given;
  last_is = k.last_is;
}

-- where the accesses stay that are pending, or one is gone
pub gone-here : {w : ℕ} (block : ℕ) (gone : Option (Link × ℕ)) (x : Link × Beat w) (t : Trace w)
    → pending_accesses (x ∷ t) ≡ filter (keeps gone) (pending_accesses t)
    → filter (is_to block) (pending_accesses (x ∷ t)) ≡ filter (keeps gone) (filter (is_to block) (pending_accesses t))
gone-here block gone x t stay =
    ap (filter (is_to block)) stay ∙ filters-swap (is_to block) (keeps gone) (pending_accesses t)

pub gone-inside : {w : ℕ} (gone : Option (Link × ℕ)) (x : Link × Beat w) (t : Trace w)
    → pending_accesses (x ∷ t) ≡ filter (keeps gone) (pending_accesses t) → AllWriteInside (pending_accesses t)
    → AllWriteInside (pending_accesses (x ∷ t))
gone-inside gone x t stay inside = rw stay (inside-kept (keeps gone) (pending_accesses t) inside)

pub at-block : {w : ℕ} (write : Write) (here block : ℕ) (access : Access w) (burst : List (Beat w)) → block ≡ here
    → IsWrite write here access burst → IsWrite write block access burst
at-block write here block access burst e k = rw e k

pub writes-none : {w : ℕ} (address : ℕ) (o : Option (Access w)) → o ≡ None → WritesNot address o
writes-none address o none = rw none tt

pub reads-only : {w : ℕ} (address : ℕ) (o : Option (Access w)) (access : Access w) → o ≡ Some access
    → a_carries_data access.request.opcode ≡ false → WritesNot address o
reads-only address o access found none = rw found (no_data access.request.opcode access.request address none)

pub pending-answered : {w : ℕ} (link : Link) (y : BeatD w) (t : Trace w) → ends_request y (on_link link.0 t) ≡ true
    → pending_accesses ((link, Beat.D y) ∷ t) ≡ filter (keeps (Some (link, y.source))) (pending_accesses t)
unfolding pending_accesses
pending-answered link y t over = rw over refl

-- ---- seen whether it is free

-- the last moment at which it was free, where it is so no longer
pub last-closed : {w : ℕ} (n block last : ℕ) (x : Link × Beat w) (t : Trace w)
    → is_free n Perm.Trunk block t ≡ true → false ≡ is_free n Perm.Trunk block (x ∷ t) → last ≡ length t
    → last ≡ last_window n block (x ∷ t)
last-closed n block last x t was closed now =
    (closed_after (record {
      is_open = true;
      count = count_of (windows_since n block 0 t);
      began = window_began n block 0 t;
      last = 0;
    }) last n block 0 x t (record {
      open_is = sym was;
      count_is = refl;
      began_is = λ e. refl;
      last_is = λ e. absurd cc;
    }) (omega arith) refl closed now).last_is refl

pub last-watched : {w : ℕ} (old : BlockState w) (n block moment : ℕ) (free : Bool) (x : Link × Beat w) (t : Trace w)
    → KnowsUnseen old n block x t → free ≡ is_free n Perm.Trunk block (x ∷ t) → moment ≡ length (x ∷ t)
    → free ≡ false → (if old.free.writing && not free then moment - 1 else old.last_free) ≡ last_window n block (x ∷ t)
unfolding last_window
last-watched old n block moment free x t k is now off = elim (cases_Bool old.free.writing) [
  | inl was ↦ rw (off, was) (last-closed n block (moment - 1) x t (sym (k.free_is Perm.Trunk) ∙ was) (sym off ∙ is)
      (omega (arith, now)))
  | inr was ↦ rw (was) (k.last_is was ∙ sym (rw (sym is ∙ off) refl))
]

pub watched-state : {w : ℕ} (s old : BlockState w) (n block moment : ℕ) (x : Link × Beat w) (t : Trace w)
    → KnowsUnseen old n block x t → s.bytes ≡ old.bytes → s.outrun ≡ old.outrun
    → AreWatched s.free.writing moment old.accesses.items s.accesses.items → s.free ≡ freedom n block x t
    → moment ≡ length (x ∷ t)
    → s.last_free ≡ (if old.free.writing && not s.free.writing then moment - 1 else old.last_free)
    → KnowsState s n block (x ∷ t)
watched-state s old n block moment x t k bytes out watched free now ended = record {
  bytes_are = rw bytes k.bytes_are;
  accesses_are = record {
    accesses_are = watched-each n block x t (open_for s.free) s.free.writing moment old.accesses.items s.accesses.items
        (filter (is_to block) (pending_accesses (x ∷ t)))
        (λ given. window-is n block given x t ∙ ap (λ f. open_for f given) (sym free)) k.accesses_are.accesses_are
        watched (ap (λ (f : Freedom). f.writing) free) now;
    inside = k.accesses_are.inside;
  };
  outrun_are = rw out k.outrun_are;
  free_is = λ given. ap (λ f. free_for f given) free ∙ freedom-is n block given x t;
  last_is = λ off. ended ∙ last-watched old n block moment s.free.writing x t k
      (ap (λ (f : Freedom). f.writing) free) now off;
}
