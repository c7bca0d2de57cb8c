-- What a response is to the blocks and to the accesses that are pending, by the open request that it answers.
use Rattle.tl_memory.proofs.Imports.{Beat, BeatA, BeatD, Link, OpA, OpD, History}
use Rattle.tl_memory.proofs.Imports.{request_fields, Request, Trace, answers, on_link, block_at, ends}
use Rattle.tl_memory.proofs.Imports.{is_grant, is_release_ack, request_of, Access, is_access, is_of}
use Rattle.tl_memory.proofs.Imports.{pending_accesses, tells, AllWriteInside, WritesInside}
use Rattle.std.proofs.Common.{◌≡◌, ℕ, Bool, true, false, not, ◌&&◌, List, [], ◌∷◌, Option, Some, None, refl, ap}
use Rattle.std.proofs.Common.{inl, inr}
use Rattle.std.specs.Prelude.{if◌then◌else◌, ◌==◌, filter, find, ⊤}
use Rattle.std.proofs.lemmas.Bool.{cases_Bool}
use Rattle.tl_rules.{specs.statement.History.asks_for}
use Rattle.tl_bytes.specs.statement.Bytes.{leaves_pending}
use Rattle.tl_bytes.specs.statement.Early.{is_overtaken}
use Rattle.tl_bytes.specs.statement.Bytes.{tells_granted}
use Rattle.tl_memory.{specs.code.Taking.tells_block}
use Rattle.tl_memory.{specs.code.Taking.tells_response}

-- ---- what it tells of a block

-- a Grant answers no access
pub grants_no_access : (opcode : OpD) (asked : OpA) → answers opcode asked ≡ true → is_access asked ≡ true
    → is_grant opcode ≡ false
grants_no_access OpD.AccessAck asked e access = refl
grants_no_access OpD.AccessAckData asked e access = refl
grants_no_access OpD.HintAck asked e access = refl
grants_no_access OpD.ReleaseAck asked e access = refl
grants_no_access OpD.Grant OpA.AcquireBlock e access = absurd cc
grants_no_access OpD.Grant OpA.AcquirePerm e access = absurd cc
grants_no_access OpD.Grant _ e access = absurd cc
grants_no_access OpD.GrantData OpA.AcquireBlock e access = absurd cc
grants_no_access OpD.GrantData _ e access = absurd cc

-- the answer to an access tells nothing
pub access-untold : {w : ℕ} (block : ℕ) (y : BeatD w) (asked : Request) (t : History w)
    → answers y.opcode asked.opcode ≡ true → is_access asked.opcode ≡ true → is_release_ack y.opcode ≡ false
    → tells block (Beat.D y) t ≡ false
access-untold block y asked t e access bare =
    rw (bare, grants_no_access y.opcode asked.opcode e access) (never (ends (Beat.D y) t))
  where
    never : (b : Bool) → (b && false) ≡ false
    never true = refl
    never false = refl

told_if : {w : ℕ} (block : ℕ) (denied late : Bool) (opcode : OpD) (asked : Request) (o : Option (BeatA w))
    → request_fields o ≡ Some asked
    → ((is_grant opcode && asks_for block o) && (not denied && (tells_granted opcode o && late)))
    ≡ ((asked.block == block) && ((not denied && tells_block opcode asked.opcode) && late))
told_if block denied late opcode asked None e = absurd cc
told_if block denied late opcode asked (Some x) e = rw (← same) (go denied opcode)
  where
    same : record { opcode = x.opcode; param = x.param; size = x.size; block = block_at x.address } ≡ asked
    same = cc

    never : (b : Bool) → false ≡ (b && false)
    never true = refl
    never false = refl

    neither : (a b : Bool) → (a && false) ≡ (b && false)
    neither true b = never b
    neither false b = never b

    go : (denied : Bool) (opcode : OpD)
        → ((is_grant opcode && (block_at x.address == block)) && (not denied && (tells_granted opcode (Some x) && late)))
        ≡ ((block_at x.address == block) && ((not denied && tells_block opcode x.opcode) && late))
    go true opcode = neither (is_grant opcode && (block_at x.address == block)) (block_at x.address == block)
    go false OpD.GrantData = refl
    go false OpD.Grant = refl
    go false v = never (block_at x.address == block)

-- its last beat tells of the block of its request, and of no other, if it is of this kind and wasn't overtaken
pub response-tells : {w : ℕ} (block : ℕ) (y : BeatD w) (asked : Request) (t : History w)
    → request_fields (request_of y.source t) ≡ Some asked → is_release_ack y.opcode ≡ false
    → tells block (Beat.D y) t
    ≡ (ends (Beat.D y) t && ((asked.block == block) && (tells_response y asked.opcode && not (is_overtaken block y t))))
response-tells block y asked t fields bare =
    rw bare (ap (λ b. ends (Beat.D y) t && b)
    (told_if block y.denied (not (is_overtaken block y t)) y.opcode asked (request_of y.source t) fields))

-- ---- the accesses that are pending

all-left : {X : Type 0} (test : X → Bool) (xs : List X) → find test xs ≡ None → filter (λ x. not (test x)) xs ≡ xs
all-left test [] none = refl
all-left {X} test (x ∷ xs) none = elim (cases_Bool (test x)) [
  | inl is ↦ absurd (let no : Some x ≡ None = rw is at none in cc)
  | inr isnt ↦ rw isnt (ap (λ l. x ∷ l) (all-left test xs (rw isnt at none)))
]

-- they stay where the request that is answered isn't among them
pub none-answered : {w : ℕ} (link : Link) (y : BeatD w) (t : Trace w)
    → find (is_of link.0 y.source) (pending_accesses t) ≡ None
    → pending_accesses ((link, Beat.D y) ∷ t) ≡ pending_accesses t
unfolding pending_accesses
none-answered link y t none = go (leaves_pending y (on_link link.0 t))
  where
    go : (b : Bool) → (if b then filter (λ access. not (is_of link.0 y.source access)) (pending_accesses t) else
        pending_accesses t) ≡ pending_accesses t
    go true = all-left (is_of link.0 y.source) (pending_accesses t) none
    go false = refl

-- ---- beats that bear on another block

-- the access, where there is one, writes in its own block alone
abbrev AnyWritesInside : {w : ℕ} → Option (Access w) → Type 0
AnyWritesInside None = ⊤
AnyWritesInside (Some access) = WritesInside access

found-inside : {w : ℕ} (test : Access w → Bool) (accesses : List (Access w)) → AllWriteInside accesses
    → AnyWritesInside (find test accesses)
found-inside test [] inside = tt
found-inside test (access ∷ accesses) inside = elim (cases_Bool (test access)) [
  | inl here ↦ rw here inside.0
  | inr not_here ↦ rw not_here (found-inside test accesses inside.1)
]
