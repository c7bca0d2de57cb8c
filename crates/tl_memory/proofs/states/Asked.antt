-- What is kept of a block, with a beat with which an access to it is asked for.
use Rattle.tl_memory.proofs.Imports.{Beat, BeatA, ends, Link, Trace, on_link, block_at, Access, may_find, may_read}
use Rattle.tl_memory.proofs.Imports.{is_of, pending_accesses, KnowsBlock, AreRenewed, found_by, keeps, staying}
use Rattle.tl_memory.proofs.Imports.{BlockState, PendingAccess, may_bring, AllWriteInside, AnyIsTo, AreKnown, is_to}
use Rattle.tl_memory.proofs.Imports.{KeepsFound, KnowsAccess, KnowsAccesses, KnowsState, WritesInside, LeavesHeld}
use Rattle.tl_memory.proofs.Imports.{open_for}
use Rattle.std.proofs.Common.{◌≡◌, ℕ, suc, Bool, true, false, ◌&&◌, ◌||◌, ◌+◌, ◌*◌, ◌/◌, ◌≤◌, List, [], ◌∷◌, length}
use Rattle.std.proofs.Common.{refl, sym, ap, ap₂, subst, ◌∙◌, arith, inl, inr}
use Rattle.std.specs.Prelude.{filter, find, if◌then◌else◌, is_some, None, Option, Some}
use Rattle.std.proofs.lemmas.Bool.{cases_Bool, eq-eqb}
use Rattle.std.proofs.Math.Nat.{mul-suc}
use Rattle.tl_params.specs.declared.perm.Perm.{Perm}
use Rattle.tl_rules.specs.statement.Windows.{needs}
use Rattle.tl_bytes.specs.declared.{read_bytes.ReadBytes.ReadBytes, windows.WritingWindows.WritingWindows}
use Rattle.tl_bytes.specs.statement.Early.{if_answered, is_outrun_of, reaches_byte, settled_by}
unfoldable use Rattle.tl_bytes.specs.statement.Early.{outrun_accesses}
use Rattle.tl_bytes.specs.statement.Bytes.{is_settled, is_put}
use Rattle.tl_bytes.proofs.Since.{same_after}
use Rattle.tl_memory.specs.code.Elsewhere.{LeavesOutrun}
use Rattle.tl_memory.specs.statement.Known.{AllReachInside}
use Rattle.tl_memory.proofs.states.Elsewhere.{outrun-stays, free-kept, last-kept}
use Rattle.tl_memory.proofs.states.Leaving.{leaves-request, leaves-still}
use Rattle.tl_bytes.specs.statement.{Known.KnowsWindows, Shown.is_window, Shown.shows}
use Rattle.tl_memory.specs.code.Taking.{AreContinued, next_accesses, none_shown, with_next}
use Rattle.tl_memory.specs.code.Writers.{IsGrown, IsWriter}
use Rattle.tl_memory.specs.{declared.next_state.NextState.NextState, declared.writer.Writer.Writer}
use Rattle.tl_memory.specs.{statement.Known.IsLawful}
use Rattle.tl_memory.proofs.states.Found.{found-kept, found-settled, hidden, hidden-open, unshown-window}
use Rattle.tl_memory.proofs.states.Keeping.{copied-each, filters-swap, inside-kept, settled-each}

-- a block has room for one beat more
pub whole_room : (w n : ℕ) → w * n + w ≤ 64 → w * suc n ≤ 64
whole_room w n le = rw (mul-suc w n) le

-- where an access to the block is asked for, one that is pending with its source is to the block
pub continued-to : {w : ℕ} (link block : ℕ) (y : BeatA w) (accesses : List (Access w)) → AreContinued link y accesses
    → block_at y.address ≡ block → AnyIsTo block (find (is_of link y.source) accesses)
continued-to link block y [] are here = tt
continued-to link block y (access ∷ accesses) are here = elim (cases_Bool (is_of link y.source access)) [
  | inl own ↦ rw own (eq-eqb (access.request.address / 64) block ((are.0 own).1 ∙ here))
  | inr other ↦ rw other (continued-to link block y accesses are.1 here)
]

-- and has its opcode
pub continued-as : {w : ℕ} (link : ℕ) (y : BeatA w) (access : Access w) (accesses : List (Access w))
    → AreContinued link y accesses → find (is_of link y.source) accesses ≡ Some access
    → access.request.opcode ≡ y.opcode
continued-as link y access [] are found = absurd cc
continued-as link y access (x ∷ accesses) are found = elim (cases_Bool (is_of link y.source x)) [
  | inl own ↦
      let same : Some x ≡ Some access = rw own at found in
      rw (← same_some same) (are.0 own).0
  | inr other ↦ continued-as link y access accesses are.1 (rw other at found)
]
  where
    same_some : {X : Type 0} {x y : X} → Some x ≡ Some y → x ≡ y
    same_some e = cc

-- ---- the access that more is asked of

-- two accesses that find the same
pub record IsAlike {w : ℕ} (p q : Access w) : Type 0 where
  pub link_is : q.link ≡ p.link
  pub source_is : q.request.source ≡ p.request.source
  pub opcode_is : q.request.opcode ≡ p.request.opcode
  pub asked_is : q.asked ≡ p.asked

found-alike : {w : ℕ} (n : ℕ) (p q : Access w) (t : Trace w) (a v : ℕ) → IsAlike p q
    → may_find n q t a v ≡ may_find n p t a v
found-alike n p q t a v e = rw (e.link_is, e.source_is) refl

reads-alike : {w : ℕ} (n : ℕ) (p q : Access w) (t : Trace w) (a v : ℕ) → IsAlike p q
    → may_read n q t a v ≡ may_read n p t a v
unfolding may_read
reads-alike n p q [] a v e = refl
reads-alike n p q (x ∷ t) a v e =
    rw (e.asked_is, e.opcode_is, found-alike n p q (x ∷ t) a v e, reads-alike n p q t a v e) refl

found-as : {w : ℕ} (read : ReadBytes) (b c : Bool) (n block : ℕ) (p q : Access w) (t : Trace w) → IsAlike p q → c ≡ b
    → KeepsFound read b n block p t → KeepsFound read c n block q t
found-as read b c n block p q t e same found place byte lt =
    reads-alike n p q t (64 * block + place) byte e ∙ found place byte lt
    ∙ ap₂ (λ d f. (d && f) || may_bring read place byte) (sym same)
    (sym (found-alike n p q t (64 * block + place) byte e))

-- with it one may access the block for whom it is free
pub asked-window : {w : ℕ} (old : BlockState w) (n block : ℕ) (given : Perm) (x : Link × Beat w) (t : Trace w)
    → KnowsState old n block t → LeavesHeld block x t → shows block x.1 (on_link x.0.0 t) ≡ false
    → is_window n given block x t
    ≡ open_for (none_shown old.free) given
asked-window old n block given x t k same unshown =
    unshown-window n block given x t unshown ∙ free-kept n given block x t same
    ∙ sym (hidden-open (none_shown old.free) given refl
    ∙ hidden old.free given ∙ k.free_is given)

-- what is kept of an access that is asked for first with the beat
pub first-access : {w : ℕ} (own : PendingAccess w) (admits : Perm → Bool) (writer : Writer w) (windows : WritingWindows)
    (n block : ℕ) (access : Access w) (x : Link × Beat w) (t : Trace w) → own.writer ≡ writer → own.windows ≡ windows
    → IsWriter writer access → IsLawful access → block_at access.request.address ≡ block
    → access.asked ≡ suc (length t) → KnowsWindows windows n block access.asked (x ∷ t)
    → KeepsFound own.read (admits (needs access.request.opcode)) n block access (x ∷ t)
    → KnowsAccess own admits n block access (x ∷ t)
first-access own admits writer windows n block access x t same same_windows is lawful here now known found = record {
  asked_is = rw same is.0;
  lawful = lawful;
  write_is = rw (same, ← here) is.1;
  before = omega (arith, now);
  windows_are = rw same_windows known;
  found_is = λ other. found;
}

-- and of one of which more is asked for, with which the block stays as free as it was
pub grown-access : {w : ℕ} (old : BlockState w) (first own : PendingAccess w) (writer : Writer w) (n block : ℕ)
    (p q : Access w) (x : Link × Beat w) (t : Trace w) → KnowsState old n block t
    → KnowsAccess first (open_for old.free) n block p t
    → IsGrown writer (found_by old.free old.bytes old.accesses.items old.outrun) first own → IsAlike p q → IsWriter writer q
    → IsLawful q → block_at q.request.address ≡ block → LeavesHeld block x t
    → shows block x.1 (on_link x.0.0 t) ≡ false
    → KnowsAccess own (open_for (none_shown old.free)) n block q (x ∷ t)
grown-access {w} old first own writer n block p q x t k one grown alike is lawful here same unshown = record {
  asked_is = rw grown.writer_is is.0;
  lawful = lawful;
  write_is = rw (grown.writer_is, ← here) is.1;
  before = omega (arith, alike.asked_is, one.before);
  windows_are = rw (grown.windows_are, alike.asked_is) (same_after first.windows n block p.asked x t one.windows_are
      one.before (free-kept n Perm.Trunk block x t same));
  found_is = λ other. found-as own.read (open_for (none_shown old.free) (needs p.request.opcode))
      (open_for (none_shown old.free) (needs q.request.opcode)) n block p q (x ∷ t) alike
      (ap (λ o. open_for (none_shown old.free) (needs o)) alike.opcode_is)
      (found-settled n block own.read (open_for (none_shown old.free) (needs p.request.opcode)) p x t
      (asked-window old n block (needs p.request.opcode) x t k same unshown) one.before
      (kept (ap is_put (sym alike.opcode_is) ∙ other)));
}
  where
    renewed : PendingAccess w
    renewed = record { writer = first.writer; windows = first.windows; read = own.read }

    kept : is_put p.request.opcode ≡ false → KeepsFound own.read false n block p t
    kept other = found-kept n block old.free old.bytes old.accesses.items old.outrun first renewed p t
        (record { writer_is = refl; windows_are = refl; read_is = grown.read_is }) k.bytes_are k.accesses_are
        k.outrun_are one.asked_is other (one.found_is other)

-- the accesses with the one that is asked for
asked-more : {w : ℕ} (admits : Perm → Bool) (n block : ℕ) (first : PendingAccess w) (more : List (PendingAccess w))
    (access : Access w) (left : List (Access w)) (x : Link × Beat w) (t : Trace w)
    → pending_accesses (x ∷ t) ≡ access ∷ left → is_to block access ≡ true
    → WritesInside access → AllWriteInside left → KnowsAccess first admits n block access (x ∷ t)
    → AreKnown more admits n block (filter (is_to block) left) (x ∷ t)
    → KnowsAccesses (first ∷ more) admits n block (x ∷ t) (x ∷ t)
asked-more admits n block first more access left x t pending to inside all k are = record {
  accesses_are = rw (pending, to) (k, are);
  inside = rw pending (inside, all);
}

-- the block, which stays as free as it was
pub asked-state : {w : ℕ} (old : BlockState w) (next : NextState w) (gone : Option (Link × ℕ)) (n block : ℕ)
    (first : PendingAccess w) (more : List (PendingAccess w)) (access : Access w) (x : Link × Beat w) (t : Trace w)
    → KnowsState old n block t → next.bytes ≡ None → next.outrun ≡ None
    → (next_accesses old.accesses next.accesses).items ≡ first ∷ more
    → pending_accesses (x ∷ t) ≡ access ∷ filter (keeps gone) (pending_accesses t)
    → is_to block access ≡ true → WritesInside access → LeavesHeld block x t
    → shows block x.1 (on_link x.0.0 t) ≡ false → KnowsBlock old.bytes n block (x ∷ t)
    → LeavesOutrun block x t → KnowsAccess first (open_for (none_shown old.free)) n block access (x ∷ t)
    → AreRenewed (found_by old.free old.bytes old.accesses.items old.outrun) (staying gone old.accesses.items) more
    → KnowsState (with_next old next) n block (x ∷ t)
asked-state {w} old next gone n block first more access x t k none nothing items pending to inside same unshown bytes
    leaves one renewed = record {
      bytes_are = rw none bytes;
      accesses_are = rw items (asked-more admits n block first more access (filter (keeps gone) (pending_accesses t)) x t
          pending to inside (inside-kept (keeps gone) (pending_accesses t) k.accesses_are.inside) one
          (subst (λ l. AreKnown more admits n block l (x ∷ t))
          (sym (filters-swap (is_to block) (keeps gone) (pending_accesses t)))
          (settled-each n block x t admits more (filter (keeps gone) (filter (is_to block) (pending_accesses t)))
          (λ given. asked-window old n block given x t k same unshown) (free-kept n Perm.Trunk block x t same)
          (copied-each n block old.free old.bytes old.accesses.items old.outrun t k.bytes_are k.accesses_are
          k.outrun_are gone old.accesses.items more (filter (is_to block) (pending_accesses t)) k.accesses_are.accesses_are renewed))));
      outrun_are = rw nothing (outrun-stays block old.outrun x t leaves k.outrun_are);
      free_is = λ given. hidden old.free given ∙ k.free_is given ∙ sym (free-kept n given block x t same);
      last_is = λ off. k.last_is off ∙ sym (last-kept n block x t (free-kept n Perm.Trunk block x t same)
          (sym (k.free_is Perm.Trunk) ∙ off));
    }
  where
    admits : Perm → Bool
    admits = open_for (none_shown old.free)

-- ---- a request that no answer outran

none-found-so : {X : Type 0} (o : Option X) → is_some o ≡ false → o ≡ None
none-found-so None e = refl
none-found-so (Some x) e = absurd cc

settles-nothing : {w : ℕ} (link : Link) (y : BeatA w) (t : Trace w)
    → is_some (find (is_outrun_of link.0 y.source) (outrun_accesses t)) ≡ false
    → settled_by link.0 (Beat.A y) (on_link link.0 t) (outrun_accesses t) ≡ None
settles-nothing link y t none =
    rw (none-found-so (find (is_outrun_of link.0 y.source) (outrun_accesses t)) none)
    (either (ends (Beat.A y) (on_link link.0 t)))
  where
    either : (b : Bool) → (if b then if_answered None else None) ≡ None
    either true = refl
    either false = refl

pub unsettled-asked : {w : ℕ} (link : Link) (y : BeatA w) (t : Trace w) (address : ℕ)
    → is_some (find (is_outrun_of link.0 y.source) (outrun_accesses t)) ≡ false
    → is_settled address (link, Beat.A y) t ≡ false
unsettled-asked link y t address none = ap (reaches_byte address) (settles-nothing link y t none)

pub leaves-asked : {w : ℕ} (block : ℕ) (link : Link) (y : BeatA w) (t : Trace w)
    → is_some (find (is_outrun_of link.0 y.source) (outrun_accesses t)) ≡ false → AllReachInside (outrun_accesses t)
    → LeavesOutrun block (link, Beat.A y) t
leaves-asked block link y t none inside =
    leaves-still block (link, Beat.A y) t (leaves-request link y t None (settles-nothing link y t none)) inside
