-- What accesses write, and what those may write that are pending.
use Rattle.tl_memory.proofs.Imports.{Beat, OpA, a_carries_data, MessageA, Access, access_writes, is_of, writes}
use Rattle.tl_memory.proofs.Imports.{others, PendingAccess, Writer, Trace, pending_accesses, written_as, AllWriteInside}
use Rattle.tl_memory.proofs.Imports.{IsAsked, is_to, WritesInside, AreKnown, KnowsAccesses}
use Rattle.std.proofs.Common.{◌≡◌, ℕ, zero, suc, Bool, true, false, not, ◌&&◌, ◌||◌, ◌+◌, ◌*◌, ◌/◌, ◌<◌, List, [], ◌∷◌}
use Rattle.std.proofs.Common.{◌++◌, length, refl, sym, ap, ap₂, ◌∙◌, arith, inl, inr, get_or, take, append-nil}
use Rattle.std.proofs.lemmas.List.{take_more}
use Rattle.std.specs.Prelude.{if◌then◌else◌, filter, find, is_some, nat_lt, None, Option, Some, ◌==◌}
use Rattle.std.proofs.lemmas.Bool.{cases_Bool, eq-eqb, lt-ltb}
use Rattle.tl_params.specs.declared.perm.Perm.{Perm}
use Rattle.tl_bytes.specs.code.Tellings.{is_written, leaves, value_at, left_as}
use Rattle.tl_bytes.specs.statement.Bytes.{all_but, could_be, is_put, pending_value, value_left, value_written}
use Rattle.tl_bytes.specs.statement.Bytes.{windows_since}
use Rattle.tl_bytes.specs.statement.Known.{count_of, MayWrite, windowed}
use Rattle.tl_memory.specs.code.Writers.{names, picked, some_window, writes_but, writes_outrun, writes_windowed}
use Rattle.tl_memory.specs.declared.access.Asked.{Asked}
use Rattle.tl_bytes.specs.declared.write.Write.{Write}
use Rattle.tl_bytes.specs.statement.Early.{Outrun, is_outrun}
unfoldable use Rattle.tl_bytes.specs.statement.Early.{outrun_accesses}
use Rattle.tl_burst.specs.statement.Burst.{reaches}
use Rattle.tl_memory.specs.declared.early.OutrunAccess.{OutrunAccess}
use Rattle.tl_memory.specs.statement.Known.{AllReachInside, AreOutrun, KnowsOutrun, outruns_in}

pub spoiled_value : (b : Bool) (v : ℕ) → b ≡ true → (if b then None else Some v) ≡ None
spoiled_value b v e = rw e refl

pub sound_value : (b : Bool) (v : ℕ) → b ≡ false → (if b then None else Some v) ≡ Some v
sound_value b v e = rw e refl

pub both_false : (a b : Bool) → a || b ≡ false → a ≡ false
both_false true b e = absurd cc
both_false false b e = refl

pub put_pending : {w : ℕ} (op : OpA) (access : Access w) (address : ℕ) → is_put op ≡ true
    → value_written access [] address ≡ pending_value op access address
put_pending OpA.PutFullData access address e = refl
put_pending OpA.PutPartialData access address e = refl
put_pending v access address e = absurd cc

-- what a Put leaves it may write while it is pending
pub put_left : {w : ℕ} (op : OpA) (access : Access w) (burst : List (Beat w)) (address : ℕ) → is_put op ≡ true
    → pending_value op access address ≡ value_left op access burst address
put_left OpA.PutFullData access burst address e = refl
put_left OpA.PutPartialData access burst address e = refl
put_left v access burst address e = absurd cc

pub other_left : {w : ℕ} (op : OpA) (access : Access w) (burst : List (Beat w)) (address : ℕ) → is_put op ≡ false
    → value_written access burst address ≡ value_left op access burst address
other_left OpA.PutFullData access burst address e = absurd cc
other_left OpA.PutPartialData access burst address e = absurd cc
other_left v access burst address e = refl

pub other_pending : {w : ℕ} (op : OpA) (access : Access w) (address : ℕ) → is_put op ≡ false
    → None ≡ pending_value op access address
other_pending OpA.PutFullData access address e = absurd cc
other_pending OpA.PutPartialData access address e = absurd cc
other_pending v access address e = refl

-- what carries no data writes nothing
pub no_data : {w : ℕ} (op : OpA) (m : MessageA w) (address : ℕ) → a_carries_data op ≡ false
    → writes op m address ≡ false
no_data OpA.PutFullData m address e = absurd cc
no_data OpA.PutPartialData m address e = absurd cc
no_data OpA.ArithmeticData m address e = absurd cc
no_data OpA.LogicalData m address e = absurd cc
no_data v m address e = refl

-- ---- what those write that are kept

module _ {X Y : Type 0} (keep : X → Bool) (write : X → Y) where
  pub none_yet : (xs : List X) → [] ≡ picked keep write (take 0 xs)
  unfolding picked
  none_yet xs = refl

  picked-append : (xs ys : List X) → picked keep write (xs ++ ys) ≡ picked keep write xs ++ picked keep write ys
  unfolding picked
  picked-append [] ys = refl
  picked-append (x ∷ xs) ys = elim (cases_Bool (keep x)) [
    | inl on ↦ rw on (ap (λ l. write x ∷ l) (picked-append xs ys))
    | inr off ↦ rw off (picked-append xs ys)
  ]

  alone : (x : X) → keep x ≡ true → picked keep write (x ∷ []) ≡ write x ∷ []
  unfolding picked
  alone x e = rw e refl

  none : (x : X) → keep x ≡ false → picked keep write (x ∷ []) ≡ []
  unfolding picked
  none x e = rw e refl

  next : (i : ℕ) (xs : List X) (x d : X) → x ≡ get_or xs i d → i < length xs
      → picked keep write (take (i + 1) xs) ≡ picked keep write (take i xs) ++ picked keep write (x ∷ [])
  next i xs x d is lt = ap (picked keep write) (take_more xs i d lt) ∙ picked-append (take i xs) (get_or xs i d ∷ [])
      ∙ ap (λ y. picked keep write (take i xs) ++ picked keep write (y ∷ [])) (sym is)

  pub one_kept : (i : ℕ) (xs : List X) (x d : X) → x ≡ get_or xs i d → i < length xs → keep x ≡ true
      → picked keep write (take i xs) ++ write x ∷ [] ≡ picked keep write (take (i + 1) xs)
  one_kept i xs x d is lt on = sym (next i xs x d is lt ∙ ap (λ l. picked keep write (take i xs) ++ l) (alone x on))

  pub one_left : (i : ℕ) (xs : List X) (x d : X) → x ≡ get_or xs i d → i < length xs → keep x ≡ false
      → picked keep write (take i xs) ≡ picked keep write (take (i + 1) xs)
  one_left i xs x d is lt off = sym (next i xs x d is lt ∙ ap (λ l. picked keep write (take i xs) ++ l) (none x off)
      ∙ append-nil (picked keep write (take i xs)))

-- an access that is kept has the names that it has
pub named : {w : ℕ} (link source : ℕ) (writer : Writer w) (access : Access w) → IsAsked writer.asked access
    → names link source writer.asked ≡ is_of link source access
named link source writer access k = ap (λ l. (l == link) && (writer.asked.request.source == source)) k.link_is
    ∙ ap (λ s. (access.link == link) && (s == source)) k.source_is

-- it may leave the bytes that the access may write
pub leaves-is : {w : ℕ} (block place byte : ℕ) (writer : Writer w) (access : Access w) → place < 64
    → ((is_written writer.write place ≡ access_writes (64 * block + place) access)
    × (is_written writer.write place ≡ true → value_at writer.write place ≡ pending_value access.request.opcode access
    (64 * block + place))) → leaves place byte writer.write ≡ (access_writes (64 * block + place) access && could_be
    byte (pending_value access.request.opcode access (64 * block + place)))
leaves-is block place byte writer access lt is =
    where_written (is_written writer.write place) (value_at writer.write place)
    (pending_value access.request.opcode access (64 * block + place)) is.1
    ∙ ap (λ b. b && could_be byte (pending_value access.request.opcode access (64 * block + place))) is.0
  where
    where_written : (b : Bool) (u v : Option ℕ) → (b ≡ true → u ≡ v) → (b && could_be byte u) ≡ (b && could_be byte v)
    where_written true u v same = ap (could_be byte) (same refl)
    where_written false u v same = refl

first_of : {X Y : Type 0} (b c : Bool) (x : X) (y : Y) (o : Option X) (p : Option Y) → b ≡ c → is_some o ≡ is_some p
    → is_some (if b then Some x else o) ≡ is_some (if c then Some y else p)
first_of true true x y o p e f = refl
first_of false false x y o p e f = f
first_of v u x y o p e f = absurd cc

-- these are the writes of these accesses to the block
abbrev WritesAs : {w : ℕ} → List Write → ℕ → List (Access w) → Type 0
WritesAs writes block accesses = (place byte : ℕ) → place < 64
    → left_as place byte writes ≡ written_as (64 * block + place) byte accesses

-- what others write is what the accesses may write that are others
others-write : {w : ℕ} (n link source block : ℕ) (admits : Perm → Bool) (seen : Trace w) (pending : List (PendingAccess w))
    (accesses : List (Access w)) → AreKnown pending admits n block accesses seen
    → WritesAs (writes_but link source pending) block (filter (λ other. not (is_of link source other)) accesses)
unfolding picked
others-write n link source block admits seen [] [] are place byte lt = refl
others-write n link source block admits seen (x ∷ pending) (y ∷ accesses) are place byte lt =
    let more = others-write n link source block admits seen pending accesses are.1 place byte lt in
    let same = named link source x.writer y are.0.asked_is in
    elim (cases_Bool (is_of link source y)) [
      | inl own ↦ rw (same ∙ own, own) more
      | inr other ↦ rw (same ∙ other, other) (first_of (leaves place byte x.writer.write) _ x.writer.write y _ _
          (leaves-is block place byte x.writer y lt (are.0.write_is place lt)) more)
    ]
others-write n link source block admits seen v u are place byte lt = absurd are

-- what is elsewhere writes nothing here
pub apart : {w : ℕ} (block place : ℕ) (access : Access w) → place < 64 → WritesInside access
    → is_to block access ≡ false → access_writes (64 * block + place) access ≡ false
apart block place access lt inside other = elim (cases_Bool (access_writes (64 * block + place) access)) [
  | inr none ↦ none
  | inl some ↦
      let here : (64 * block + place) / 64 ≡ block = omega arith in
      absurd (differ (sym (eq-eqb (access.request.address / 64) block (sym (inside (64 * block + place) some) ∙ here))
      ∙ other))
]
  where
    differ : true ≡ false → ⊥
    differ e = cc

none_first : {X : Type 0} (b c : Bool) (x : X) (o : Option X) → b ≡ false
    → is_some (if b && c then Some x else o) ≡ is_some o
none_first b c x o e = rw e refl

-- so what all others write here is what those write that are to the block
pub written-here : {w : ℕ} (block place byte : ℕ) (keep : Access w → Bool) (accesses : List (Access w)) → place < 64
    → AllWriteInside accesses → written_as (64 * block + place) byte (filter keep (filter (is_to block) accesses))
    ≡ written_as (64 * block + place) byte (filter keep accesses)
written-here block place byte keep [] lt inside = refl
written-here block place byte keep (x ∷ accesses) lt inside =
    let more = written-here block place byte keep accesses lt inside.1 in
    elim (cases_Bool (is_to block x)) [
      | inl here ↦ elim (cases_Bool (keep x)) [
        | inl kept ↦ rw (here, kept) (first_of _ _ x x _ _ refl more)
        | inr left ↦ rw (here, left) more
      ]
      | inr elsewhere ↦ elim (cases_Bool (keep x)) [
        | inl kept ↦ rw (elsewhere, kept) (more ∙ sym (none_first _ _ x _ (apart block place x lt inside.0 elsewhere)))
        | inr left ↦ rw (elsewhere, left) more
      ]
    ]

-- ---- what those write whose answers outran their requests

pub found-append : {X : Type 0} (test : X → Bool) (xs ys : List X)
    → is_some (find test (xs ++ ys)) ≡ (is_some (find test xs) || is_some (find test ys))
found-append test [] ys = refl
found-append test (x ∷ xs) ys = elim (cases_Bool (test x)) [
  | inl here ↦ rw here refl
  | inr other ↦ rw other (found-append test xs ys)
]

outrun-write : (block : ℕ) (outrun : List OutrunAccess) (accesses : List Outrun) → AreOutrun outrun block accesses
    → (place byte : ℕ) → place < 64
    → left_as place byte (writes_outrun outrun) ≡ is_outrun (64 * block + place) accesses
unfolding picked
outrun-write block [] [] are place byte lt = refl
outrun-write block (x ∷ outrun) (y ∷ accesses) are place byte lt =
    first_of (leaves place byte x.write) (reaches y.address y.size (64 * block + place)) x.write y _ _
    (any (is_written x.write place) (value_at x.write place) (are.0.any place) ∙ are.0.reaches_it place lt)
    (outrun-write block outrun accesses are.1 place byte lt)
  where
    any : (b : Bool) (v : Option ℕ) → v ≡ None → (b && could_be byte v) ≡ b
    any true v e = rw e refl
    any false v e = refl
outrun-write block v u are place byte lt = absurd are

pub reached-here : (block place : ℕ) (accesses : List Outrun) → place < 64 → AllReachInside accesses
    → is_outrun (64 * block + place) (filter (outruns_in block) accesses) ≡ is_outrun (64 * block + place) accesses
reached-here block place [] lt inside = refl
reached-here block place (x ∷ accesses) lt inside =
    let more = reached-here block place accesses lt inside.1 in
    elim (cases_Bool (outruns_in block x)) [
      | inl here ↦ rw here (first_of _ _ x x _ _ refl more)
      | inr elsewhere ↦ rw elsewhere (more ∙ sym (left_out _ x _ (apart_from elsewhere)))
    ]
  where
    left_out : {X : Type 0} (b : Bool) (y : X) (o : Option X) → b ≡ false → is_some (if b then Some y else o) ≡ is_some o
    left_out b y o e = rw e refl

    differ : true ≡ false → ⊥
    differ e = cc

    apart_from : outruns_in block x ≡ false → reaches x.address x.size (64 * block + place) ≡ false
    apart_from other = elim (cases_Bool (reaches x.address x.size (64 * block + place))) [
      | inr none ↦ none
      | inl some ↦
          let here : (64 * block + place) / 64 ≡ block = omega arith in
          absurd (differ (sym (eq-eqb (x.address / 64) block (sym (inside.0 (64 * block + place) some) ∙ here)) ∙ other))
    ]

-- with these writes too
with-outrun : {w : ℕ} (block : ℕ) (writes : List Write) (accesses : List (Access w)) (outrun : List OutrunAccess)
    (all : List Outrun) → WritesAs writes block accesses → KnowsOutrun outrun block all
    → MayWrite (writes ++ writes_outrun outrun) block accesses all
with-outrun block writes accesses outrun all known k place byte lt =
    found-append (leaves place byte) writes (writes_outrun outrun)
    ∙ ap₂ (λ a b. a || b) (known place byte lt)
    (outrun-write block outrun (filter (outruns_in block) all) k.are place byte lt
    ∙ reached-here block place all lt k.inside)

-- what all may write but the access with this source on a link
pub all-may-write : {w : ℕ} (n block link source : ℕ) (t : Trace w) (pending : List (PendingAccess w))
    (outrun : List OutrunAccess) {admits : Perm → Bool} → KnowsAccesses pending admits n block t t
    → KnowsOutrun outrun block (outrun_accesses t)
    → MayWrite (writes_but link source pending ++ writes_outrun outrun) block
    (all_but link source (pending_accesses t)) (outrun_accesses t)
all-may-write n block link source t pending outrun {admits} known out =
    with-outrun block (writes_but link source pending) (all_but link source (pending_accesses t)) outrun
    (outrun_accesses t) (λ place byte lt.
    others-write n link source block admits t pending (filter (is_to block) (pending_accesses t)) known.accesses_are
    place byte lt
    ∙ written-here block place byte (λ other. not (is_of link source other)) (pending_accesses t) lt known.inside) out

-- what others may write than an access
pub others-may-write : {w : ℕ} (n block : ℕ) (asked : Asked w) (access : Access w) (t : Trace w)
    (pending : List (PendingAccess w)) (outrun : List OutrunAccess) {admits : Perm → Bool} → IsAsked asked access
    → KnowsAccesses pending admits n block t t → KnowsOutrun outrun block (outrun_accesses t)
    → MayWrite (writes_but asked.link.0 asked.request.source pending ++ writes_outrun outrun) block (others access t)
    (outrun_accesses t)
others-may-write n block asked access t pending outrun {admits} k known out place byte lt =
    ap (λ l. left_as place byte (writes_but l asked.request.source pending ++ writes_outrun outrun)) k.link_is
    ∙ ap (λ s. left_as place byte (writes_but access.link s pending ++ writes_outrun outrun)) k.source_is
    ∙ all-may-write n block access.link access.request.source t pending outrun {admits = admits} known out place byte lt

-- ---- what those may write that have had a window

some-is : (k : ℕ) → some_window (count_of k) ≡ nat_lt 0 k
some-is zero = refl
some-is (suc zero) = refl
some-is (suc (suc k)) = sym (lt-ltb 0 (suc (suc k)) (omega arith))

windowed-write : {w : ℕ} (n block : ℕ) (admits : Perm → Bool) (t : Trace w) (pending : List (PendingAccess w))
    (accesses : List (Access w)) → AreKnown pending admits n block accesses t
    → WritesAs (writes_windowed pending) block (filter (λ x. nat_lt 0 (windows_since n block x.asked t)) accesses)
unfolding picked
windowed-write n block admits t [] [] are place byte lt = refl
windowed-write n block admits t (x ∷ pending) (y ∷ accesses) are place byte lt =
    let more = windowed-write n block admits t pending accesses are.1 place byte lt in
    let same = ap some_window are.0.windows_are.count_is ∙ some-is (windows_since n block y.asked t) in
    elim (cases_Bool (nat_lt 0 (windows_since n block y.asked t))) [
      | inl had ↦ rw (same ∙ had, had) (first_of (leaves place byte x.writer.write) _ x.writer.write y _ _
          (leaves-is block place byte x.writer y lt (are.0.write_is place lt)) more)
      | inr none ↦ rw (same ∙ none, none) more
    ]
windowed-write n block admits t v u are place byte lt = absurd are

-- so that a Grant may bring it
pub windowed-may-write : {w : ℕ} (n block : ℕ) (admits : Perm → Bool) (t : Trace w) (pending : List (PendingAccess w))
    (outrun : List OutrunAccess) → KnowsAccesses pending admits n block t t
    → KnowsOutrun outrun block (outrun_accesses t)
    → MayWrite (writes_windowed pending ++ writes_outrun outrun) block (windowed n block t) (outrun_accesses t)
windowed-may-write n block admits t pending outrun k out =
    with-outrun block (writes_windowed pending) (windowed n block t) outrun (outrun_accesses t) (λ place byte lt.
    windowed-write n block admits t pending (filter (is_to block) (pending_accesses t)) k.accesses_are place byte lt
    ∙ written-here block place byte (λ x. nat_lt 0 (windows_since n block x.asked t)) (pending_accesses t) lt k.inside)
    out
