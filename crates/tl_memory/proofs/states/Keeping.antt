-- What is kept of a block, with one more beat.
use Rattle.tl_memory.proofs.Imports.{Beat, Link, Trace, is_free, Access, is_of, pending_accesses, KnowsBlock}
use Rattle.tl_memory.proofs.Imports.{AreRenewed, IsRenewed, found_by, keeps, staying, Freedom, PendingAccess}
use Rattle.tl_memory.proofs.Imports.{AllWriteInside, AreKnown, IsAsked, is_to, AnyIsTo, KnowsAccess, KnowsAccesses}
use Rattle.tl_memory.proofs.Imports.{closed, open_for}
use Rattle.std.proofs.Common.{◌≡◌, ℕ, zero, suc, Bool, true, false, not, ◌+◌, ◌<◌, ◌≤◌, List, [], ◌∷◌, ◌++◌}
use Rattle.std.proofs.Common.{length, refl, sym, ap, ◌∙◌, arith, inl, inr, drop, get_or, set, take}
use Rattle.std.specs.Prelude.{if◌then◌else◌, filter, find, None, Option, Some, ⊤}
use Rattle.std.{specs.List.AllZip, proofs.lemmas.Bool.cases_Bool, proofs.lemmas.List.at_drop_more}
use Rattle.std.{proofs.lemmas.Slice.Zip.all_zipped_more, proofs.Math.ListN.drop_of_length-le}
use Rattle.tl_params.specs.declared.perm.Perm.{Perm}
use Rattle.tl_rules.specs.statement.Windows.{needs}
use Rattle.tl_bytes.{specs.declared.block_bytes.BlockBytes.BlockBytes, specs.statement.Shown.is_window}
use Rattle.tl_memory.specs.declared.early.OutrunAccess.{OutrunAccess}
use Rattle.tl_memory.specs.statement.Known.{KnowsOutrun}
unfoldable use Rattle.tl_bytes.specs.statement.Early.{outrun_accesses}
use Rattle.tl_bytes.proofs.Since.{same_after}
use Rattle.tl_memory.specs.code.Writers.{finds_bytes, has_reader, AreWatched, is_named, picked, stays}
use Rattle.tl_memory.proofs.{states.Found.found-kept, states.Found.found-settled, values.Writing.named}
use Rattle.tl_memory.proofs.{values.Writing.one_kept, values.Writing.one_left}

-- ---- lists

pub find-keeps : {X : Type 0} (p q : X → Bool) (xs : List X) (x : X) → find p xs ≡ Some x → q x ≡ true
    → find p (filter q xs) ≡ Some x
find-keeps p q [] x found passes = absurd cc
find-keeps p q (y ∷ xs) x found passes = elim (cases_Bool (p y)) [
  | inl here ↦
      let same : Some y ≡ Some x = rw here at found in
      rw (ap q (first same) ∙ passes, here) same
  | inr later ↦
      let rest = find-keeps p q xs x (rw later at found) passes in
      elim (cases_Bool (q y)) [
        | inl kept ↦ rw (kept, later) rest
        | inr left ↦ rw left rest
      ]
]
  where
    first : {X : Type 0} {x y : X} → Some x ≡ Some y → x ≡ y
    first e = cc

pub finds-none : {X : Type 0} (p q : X → Bool) (xs : List X) → find p xs ≡ None → find p (filter q xs) ≡ None
finds-none p q [] none = refl
finds-none p q (y ∷ xs) none = elim (cases_Bool (p y)) [
  | inl here ↦ absurd (never (rw here at none))
  | inr later ↦
      let rest = finds-none p q xs (rw later at none) in
      elim (cases_Bool (q y)) [
        | inl kept ↦ rw (kept, later) rest
        | inr left ↦ rw left rest
      ]
]
  where
    never : {X : Type 0} {x : X} → Some x ≡ None → ⊥
    never e = cc

pub filters-swap : {X : Type 0} (p q : X → Bool) (xs : List X) → filter p (filter q xs) ≡ filter q (filter p xs)
filters-swap p q [] = refl
filters-swap p q (x ∷ xs) = elim (cases_Bool (p x)) [
  | inl p_on ↦ elim (cases_Bool (q x)) [
    | inl q_on ↦ rw (q_on, p_on, q_on) (ap (λ l. x ∷ l) (filters-swap p q xs))
    | inr q_off ↦ rw (q_off, p_on, q_off) (filters-swap p q xs)
  ]
  | inr p_off ↦ elim (cases_Bool (q x)) [
    | inl q_on ↦ rw (q_on, p_off) (filters-swap p q xs)
    | inr q_off ↦ rw (q_off, p_off) (filters-swap p q xs)
  ]
]

module _ {X : Type 0} (p : X → Bool) where
  pub found-here : (i : ℕ) (xs : List X) (x : X) → x ≡ get_or xs i x → i < length xs → p x ≡ true
      → Some x ≡ find p (drop i xs)
  found-here i xs x is lt on = sym (at_drop_more (find p) xs i x lt ∙ rw (← is, on) refl)

  pub found-later : (i : ℕ) (xs : List X) (x : X) → x ≡ get_or xs i x → i < length xs → p x ≡ false
      → find p (drop (i + 1) xs) ≡ find p (drop i xs)
  found-later i xs x is lt off = sym (at_drop_more (find p) xs i x lt ∙ rw (← is, off) refl)

  pub found-none : (i : ℕ) (xs : List X) → length xs ≤ i → None ≡ find p (drop i xs)
  found-none i xs le = rw (drop_of_length-le xs le) refl

-- the first so many are as they should be, and the others as they were
unfoldable pub IsDone : {X : Type 0} → (X → X → Type 0) → ℕ → List X → List X → Type 0
IsDone R i [] [] = ⊤
IsDone R i [] (y ∷ ys) = ⊥
IsDone R i (x ∷ xs) [] = ⊥
IsDone R zero (x ∷ xs) (y ∷ ys) = (y ≡ x) × IsDone R zero xs ys
IsDone R (suc i) (x ∷ xs) (y ∷ ys) = R x y × IsDone R i xs ys

module _ {X : Type 0} (R : X → X → Type 0) where
  pub done-none : (xs : List X) → IsDone R 0 xs xs
  unfolding IsDone
  done-none [] = tt
  done-none (x ∷ xs) = (refl, done-none xs)

  done-one : (i : ℕ) (xs ys : List X) (item new : X) → IsDone R i xs ys → i < length xs → item ≡ get_or ys i item
      → R item new → IsDone R (suc i) xs (set ys i new)
  unfolding IsDone
  done-one i [] [] item new done lt is r = absurd (omega (arith, lt))
  done-one zero (x ∷ xs) (y ∷ ys) item new done lt is r = (rw (← (is ∙ done.0)) r, done.1)
  done-one (suc i) (x ∷ xs) (y ∷ ys) item new done lt is r =
      (done.0, done-one i xs ys item new done.1 (omega (arith, lt)) is r)
  done-one i v u item new done lt is r = absurd done

  pub done-more : (i : ℕ) (xs ys : List X) (item new : X) → IsDone R i xs ys → i < length xs
      → item ≡ get_or ys i item → R item new → IsDone R (i + 1) xs (set ys i new)
  done-more i xs ys item new done lt is r =
      let more : i + 1 ≡ suc i = omega arith in
      rw more (done-one i xs ys item new done lt is r)

  pub done-all : (i : ℕ) (xs ys : List X) → IsDone R i xs ys → length xs ≤ i → AllZip R xs ys
  unfolding IsDone
  done-all i [] [] done le = tt
  done-all zero (x ∷ xs) (y ∷ ys) done le = absurd (omega (arith, le))
  done-all (suc i) (x ∷ xs) (y ∷ ys) done le = (done.0, done-all i xs ys done.1 (omega (arith, le)))
  done-all i v u done le = absurd done

-- ---- the accesses that stay

-- Puts find no bytes, so they stay as they are
pub puts-renewed : {w : ℕ} (more : PendingAccess w → ℕ → ℕ → Bool) (accesses : List (PendingAccess w))
    → has_reader accesses ≡ false → AreRenewed more (staying None accesses) accesses
unfolding picked
puts-renewed more [] none = tt
puts-renewed more (x ∷ xs) none = elim (cases_Bool (finds_bytes x)) [
  | inl reads ↦ absurd (let no : true ≡ false = rw reads at none in cc)
  | inr put ↦ (
    record { writer_is = refl; windows_are = refl; read_is = λ other. absurd (never (rw other at put)) },
    puts-renewed more xs (rw put at none),
  )
]
  where
    never : true ≡ false → ⊥
    never e = cc

pub keeps-all : {w : ℕ} (accesses : List (Access w)) → accesses ≡ filter (keeps None) accesses
keeps-all [] = refl
keeps-all (x ∷ accesses) = ap (λ l. x ∷ l) (keeps-all accesses)

stays-as : {w : ℕ} (gone : Option (Link × ℕ)) (x : PendingAccess w) (access : Access w)
    → IsAsked x.writer.asked access → stays gone x ≡ keeps gone access
stays-as None x access k = refl
stays-as (Some gone) x access k = ap not (named gone.0.0 gone.1 x.writer access k)

pub inside-kept : {w : ℕ} (keep : Access w → Bool) (accesses : List (Access w)) → AllWriteInside accesses
    → AllWriteInside (filter keep accesses)
inside-kept keep [] inside = inside
inside-kept keep (x ∷ accesses) inside = elim (cases_Bool (keep x)) [
  | inl kept ↦ rw kept (inside.0, inside-kept keep accesses inside.1)
  | inr left ↦ rw left (inside-kept keep accesses inside.1)
]

module _ {w : ℕ} (gone : Option (Link × ℕ)) (more : PendingAccess w → ℕ → ℕ → Bool) where
  -- none is copied yet
  pub copied-none : (xs : List (PendingAccess w)) → AreRenewed more (staying gone (take 0 xs)) []
  unfolding picked
  copied-none xs = tt

  -- one is copied
  pub copied-more : (i : ℕ) (xs copies : List (PendingAccess w)) (x new : PendingAccess w)
      → AreRenewed more (staying gone (take i xs)) copies → x ≡ get_or xs i x → i < length xs → stays gone x ≡ true
      → IsRenewed more x new → AreRenewed more (staying gone (take (i + 1) xs)) (copies ++ new ∷ [])
  copied-more i xs copies x new are is lt on one =
      rw (← one_kept (stays gone) (λ x. x) i xs x x is lt on)
      (all_zipped_more (IsRenewed more) (staying gone (take i xs)) copies x new are one)

  -- one that is gone isn't
  pub copied-left : (i : ℕ) (xs copies : List (PendingAccess w)) (x : PendingAccess w)
      → AreRenewed more (staying gone (take i xs)) copies → x ≡ get_or xs i x → i < length xs → stays gone x ≡ false
      → AreRenewed more (staying gone (take (i + 1) xs)) copies
  copied-left i xs copies x are is lt off =
      rw (← one_left (stays gone) (λ x. x) i xs x x is lt off) are

module _ {w : ℕ} (n block : ℕ) (free : Freedom) (bytes : BlockBytes) (all : List (PendingAccess w))
    (outrun : List OutrunAccess) (t : Trace w) (known : KnowsBlock bytes n block t)
    (k : KnowsAccesses all (open_for free) n block t t) (out : KnowsOutrun outrun block (outrun_accesses t)) where
  -- a copy has what the access may have found
  pub kept-one : (old new : PendingAccess w) (access : Access w) → IsRenewed (found_by free bytes all outrun) old new
      → KnowsAccess old (open_for free) n block access t → KnowsAccess new closed n block access t
  kept-one old new access r one = record {
    asked_is = rw r.writer_is one.asked_is;
    lawful = one.lawful;
    write_is = rw r.writer_is one.write_is;
    before = one.before;
    windows_are = rw r.windows_are one.windows_are;
    found_is = λ other. found-kept n block free bytes all outrun old new access t r known k out one.asked_is other
        (one.found_is other);
  }

  copied-step : (b c : Bool) (z : PendingAccess w) (rest new : List (PendingAccess w))
      (y : Access w) (accesses : List (Access w)) → b ≡ c
      → AreRenewed (found_by free bytes all outrun) (if b then z ∷ rest else rest) new
      → KnowsAccess z (open_for free) n block y t → ((more : List (PendingAccess w))
      → AreRenewed (found_by free bytes all outrun) rest more → AreKnown more closed n block accesses t)
      → AreKnown new closed n block (if c then y ∷ accesses else accesses) t
  copied-step true true z rest [] y accesses e copied one more = absurd copied
  copied-step true true z rest (first ∷ new) y accesses e copied one more =
      (kept-one z first y copied.0 one, more new copied.1)
  copied-step false false z rest new y accesses e copied one more = more new copied
  copied-step v u z rest new y accesses e copied one more = absurd cc

  -- the copies of those that stay
  pub copied-each : (gone : Option (Link × ℕ)) (old new : List (PendingAccess w)) (accesses : List (Access w))
      → AreKnown old (open_for free) n block accesses t
      → AreRenewed (found_by free bytes all outrun) (staying gone old) new
      → AreKnown new closed n block (filter (keeps gone) accesses) t
  unfolding picked
  copied-each gone [] [] [] are copied = tt
  copied-each gone [] (z ∷ new) [] are copied = absurd copied
  copied-each gone (z ∷ old) new (y ∷ accesses) are copied =
      copied-step (stays gone z) (keeps gone y) z (staying gone old) new y (filter (keeps gone) accesses)
      (stays-as gone z y are.0.asked_is) copied are.0
      (λ more each. copied-each gone old more accesses are.1 each)
  copied-each gone v new u are copied = absurd are

-- ---- the one that is pending with a source on a link

-- both are known, or there is none
abbrev pub IsFound : {w : ℕ} → Option (PendingAccess w) → (Perm → Bool) → ℕ → ℕ → Option (Access w) → Trace w → Type 0
IsFound None admits n block None t = ⊤
IsFound (Some pending) admits n block (Some access) t = KnowsAccess pending admits n block access t
IsFound _ admits n block _ t = ⊥

module _ {w : ℕ} (link source : ℕ) (admits : Perm → Bool) (n block : ℕ) (t : Trace w) where
  finds-known : (pending : List (PendingAccess w)) (accesses : List (Access w))
      → AreKnown pending admits n block accesses t
      → IsFound (find (is_named link source) pending) admits n block (find (is_of link source) accesses) t
  finds-known [] [] are = tt
  finds-known (x ∷ pending) (y ∷ accesses) are =
      let same = named link source x.writer y are.0.asked_is in
      elim (cases_Bool (is_of link source y)) [
        | inl own ↦ rw (same ∙ own, own) (are.0)
        | inr other ↦ rw (same ∙ other, other) (finds-known pending accesses are.1)
      ]
  finds-known v u are = absurd are

  -- so is the one among all that are pending, where it is to the block
  pub finds : (pending : List (PendingAccess w)) → KnowsAccesses pending admits n block t t
      → AnyIsTo block (find (is_of link source) (pending_accesses t))
      → IsFound (find (is_named link source) pending) admits n block (find (is_of link source) (pending_accesses t)) t
  finds pending k to = go (find (is_of link source) (pending_accesses t)) refl to
    where
      go : (o : Option (Access w)) → find (is_of link source) (pending_accesses t) ≡ o → AnyIsTo block o
          → IsFound (find (is_named link source) pending) admits n block o t
      go None e to = rw (← finds-none (is_of link source) (is_to block) (pending_accesses t) e)
          (finds-known pending (filter (is_to block) (pending_accesses t)) k.accesses_are)
      go (Some access) e to = rw (← find-keeps (is_of link source) (is_to block) (pending_accesses t) access e to)
          (finds-known pending (filter (is_to block) (pending_accesses t)) k.accesses_are)

-- ---- seen for whom the block is free

module _ {w : ℕ} (n block : ℕ) (x : Link × Beat w) (t : Trace w) where
  pub watched-each : (admits : Perm → Bool) (free : Bool) (moment : ℕ) (old new : List (PendingAccess w))
      (accesses : List (Access w)) → ((given : Perm) → is_window n given block x t ≡ admits given)
      → AreKnown old closed n block accesses t → AreWatched free moment old new
      → free ≡ is_free n Perm.Trunk block (x ∷ t) → moment ≡ length (x ∷ t)
      → AreKnown new admits n block accesses (x ∷ t)
  watched-each admits free moment [] [] [] window are watched is now = tt
  watched-each admits free moment [] (z ∷ new) accesses window are watched is now = absurd watched
  watched-each admits free moment (z ∷ old) [] accesses window are watched is now = absurd watched
  watched-each admits free moment (z ∷ old) (v ∷ new) (y ∷ accesses) window are watched is now = (
    record {
      asked_is = rw watched.0.writer_is are.0.asked_is;
      lawful = are.0.lawful;
      write_is = rw watched.0.writer_is are.0.write_is;
      before = omega (arith, are.0.before);
      windows_are = watched.0.windows_are n block y.asked x t are.0.windows_are are.0.before is now;
      found_is = λ other. rw watched.0.read_is (found-settled n block z.read (admits (needs y.request.opcode)) y x t
          (window (needs y.request.opcode)) are.0.before (are.0.found_is other));
    },
    watched-each admits free moment old new accesses window are.1 watched.1 is now,
  )
  watched-each admits free moment v u z window are watched is now = absurd are

  -- where it is as free for writing as it was
  pub settled-each : (admits : Perm → Bool) (pending : List (PendingAccess w)) (accesses : List (Access w))
      → ((given : Perm) → is_window n given block x t ≡ admits given)
      → is_free n Perm.Trunk block (x ∷ t) ≡ is_free n Perm.Trunk block t
      → AreKnown pending closed n block accesses t → AreKnown pending admits n block accesses (x ∷ t)
  settled-each admits [] [] window same are = tt
  settled-each admits (z ∷ pending) (y ∷ accesses) window same are = (
    record {
      asked_is = are.0.asked_is;
      lawful = are.0.lawful;
      write_is = are.0.write_is;
      before = omega (arith, are.0.before);
      windows_are = same_after z.windows n block y.asked x t are.0.windows_are are.0.before same;
      found_is = λ other. found-settled n block z.read (admits (needs y.request.opcode)) y x t
          (window (needs y.request.opcode)) are.0.before (are.0.found_is other);
    },
    settled-each admits pending accesses window same are.1,
  )
  settled-each admits v u window same are = absurd are
