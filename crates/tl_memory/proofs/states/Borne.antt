-- A beat that breaks no rule bears on one block at most.
use Rattle.tl_memory.proofs.Imports.{Beat, BeatA, BeatD, Link, Request, Trace, History, on_link, block_at, is_grant}
use Rattle.tl_memory.proofs.Imports.{request_of, unfinished, is_release_ack, Access, is_of, pending_accesses}
use Rattle.tl_memory.proofs.Imports.{block_asked, block_borne, ends, PassesBy, IsLegalBeat, IsResponse, AllWriteInside}
use Rattle.tl_memory.proofs.Imports.{WritesInside}
use Rattle.tl_beat.specs.declared.beat.BeatE.{BeatE}
use Rattle.tl_beat.specs.declared.channel.Channel.{Channel}
use Rattle.tl_params.specs.declared.perm.Perm.{Perm}
use Rattle.tl_rules.specs.statement.Conformance.{comes_in_request}
use Rattle.tl_rules.specs.statement.History.{capped, is_release, releases, reported}
unfoldable use Rattle.tl_rules.specs.statement.History.{release_of}
use Rattle.tl_rules.specs.statement.Liberties.{given_by_grant, left_by_release}
use Rattle.tl_bytes.specs.statement.Bytes.{asks_new, asks}
use Rattle.tl_bytes.specs.statement.Early.{is_release_of}
unfoldable use Rattle.tl_bytes.specs.statement.Early.{outrun_accesses}
use Rattle.tl_memory.specs.code.Elsewhere.{block_coming, block_granted, block_released, block_requested, LeavesOutrun}
use Rattle.tl_memory.specs.code.Taking.{IsLegalAck, IsLegalResponse}
use Rattle.tl_memory.specs.statement.Known.{AllReachInside, AreInside}
use Rattle.tl_bytes.specs.declared.known_bytes.KnownBytes.{KnownBytes}
use Rattle.tl_bytes.specs.statement.{Bytes.tells, Known.AreCarried, Known.HasBytes}
use Rattle.tl_memory.proofs.{messages.EarlyMessages.picked, lawful.Open.open-whole}
use Rattle.std.proofs.Common.{◌≡◌, ℕ, Bool, true, false, not, ◌&&◌, [], ◌∷◌, List, refl, sym, ap, ◌∙◌, inl, inr}
use Rattle.std.specs.Prelude.{if◌then◌else◌, filter, Option, Some, None, ◌==◌}
use Rattle.std.proofs.lemmas.Bool.{and_parts, cases_Bool, eq-eqb, eqb-true}
use Rattle.tl_memory.{specs.code.Taking.IsRequested, specs.code.Taking.asked_now}
use Rattle.tl_memory.{proofs.states.BlockAnswers.other-passes}
use Rattle.tl_memory.proofs.states.Keeping.{inside-kept}
use Rattle.tl_memory.proofs.states.Bearing.{ack-passes, ack-settles, probe-passes, release-passes, report-passes}
use Rattle.tl_memory.proofs.states.AskingElsewhere.{request-passes}

-- ---- the accesses that are pending write in their blocks

one-inside : {w : ℕ} (c : Bool) (keep : Access w → Bool) (access : Access w) (before : List (Access w))
    → (c ≡ true → WritesInside access) → AllWriteInside before
    → AllWriteInside (if c then access ∷ filter keep before else before)
one-inside true keep access before inside all = (inside refl, inside-kept keep before all)
one-inside false keep access before inside all = all

pub request-inside : {w : ℕ} (link : Link) (y : BeatA w) (t : Trace w) → IsRequested link.0 y t
    → AllWriteInside (pending_accesses t) → AllWriteInside (pending_accesses ((link, Beat.A y) ∷ t))
unfolding pending_accesses
request-inside link y t is all =
    one-inside (asks_new link.0 y (on_link link.0 t) (outrun_accesses t)) (λ access. not (is_of link.0 y.source access))
    (asked_now link.0 y t) (pending_accesses t)
    (λ new. is.inside (and_parts (asks y (on_link link.0 t)) _ new).0) all

-- ---- the block that a beat bears on

other-than : (k block : ℕ) → (Some k ≡ Some block → ⊥) → (k == block) ≡ false
other-than k block other = elim (cases_Bool (k == block)) [
  | inl same ↦ absurd (other (ap Some (eqb-true k block same)))
  | inr differ ↦ differ
]

-- a Release of the block that has these beats is the one with this source
released-there : {w : ℕ} (block source : ℕ) (burst : List (Beat w)) → is_release_of block source burst ≡ true
    → block_released source burst ≡ Some block
released-there block source [] e = absurd cc
released-there block source (Beat.A z ∷ rest) e = absurd cc
released-there block source (Beat.B z ∷ rest) e = absurd cc
released-there block source (Beat.C z ∷ rest) e =
    let both = and_parts (is_release z.opcode && (z.source == source)) (block_at z.address == block) e in
    rw both.0 (ap Some (eqb-true (block_at z.address) block both.1))
released-there block source (Beat.D z ∷ rest) e = absurd cc
released-there block source (Beat.E z ∷ rest) e = absurd cc

-- with no block that it releases, what it leaves isn't said
left-unsaid : {w : ℕ} (source : ℕ) (burst : List (Beat w)) → block_released source burst ≡ None
    → left_by_release source burst ≡ None
left-unsaid source [] e = refl
left-unsaid source (Beat.A z ∷ rest) e = refl
left-unsaid source (Beat.B z ∷ rest) e = refl
left-unsaid source (Beat.C z ∷ rest) e = go (is_release z.opcode && (z.source == source)) e
  where
    go : (b : Bool) → ◌≡◌ {A = Option ℕ} (if b then Some (block_at z.address) else None) None
        → ◌≡◌ {A = Option Perm} (if b then Some (reported z.param) else None) None
    go true e = absurd cc
    go false e = refl
left-unsaid source (Beat.D z ∷ rest) e = refl
left-unsaid source (Beat.E z ∷ rest) e = refl

-- a ReleaseAck bears on the block of a Release that isn't complete
ack-borne : {w : ℕ} (block : ℕ) (link : Link) (y : BeatD w) (t : Trace w) → AreInside t → is_release_ack y.opcode ≡ true
    → IsLegalResponse link.0 y t → (block_released y.source (unfinished Channel.C (on_link link.0 t)) ≡ Some block → ⊥)
    → PassesBy block (link, Beat.D y) t
ack-borne {w} block link y t inside ack is other =
    release-passes block link y t inside ack unreleased
    (λ own. go (block_released y.source burst) refl own)
  where
    burst : List (Beat w)
    burst = unfinished Channel.C (on_link link.0 t)

    unreleased : is_release_of block y.source burst ≡ false
    unreleased = elim (cases_Bool (is_release_of block y.source burst)) [
      | inl e ↦ absurd (other (released-there block y.source burst e))
      | inr e ↦ e
    ]

    go : (o : Option ℕ) → block_released y.source burst ≡ o → releases block (release_of y.source (on_link link.0 t)) ≡ true
        → left_by_release y.source burst ≡ None
    go None e own = left-unsaid y.source burst e
    go (Some k) e own = absurd (other (e ∙ ap Some (is.released block k e own)))

-- with no block that it grants, what it gives isn't said
given-unsaid : {w : ℕ} (sink block : ℕ) (burst : List (Beat w)) (past : History w)
    → ((k : ℕ) → block_granted sink burst past ≡ Some k → ⊥)
    → ((y : BeatD w) (older : List (Beat w)) → burst ≡ Beat.D y ∷ older → is_grant y.opcode ≡ true
    → request_of y.source past ≡ None → ⊥) → given_by_grant sink burst ≡ None
given-unsaid sink block [] past none some = refl
given-unsaid sink block (Beat.A z ∷ rest) past none some = refl
given-unsaid sink block (Beat.B z ∷ rest) past none some = refl
given-unsaid sink block (Beat.C z ∷ rest) past none some = refl
given-unsaid {w} sink block (Beat.D z ∷ rest) past none some =
    go (is_grant z.opcode) refl (z.sink == sink) (request_of z.source past) refl none
  where
    go : (grant : Bool) → is_grant z.opcode ≡ grant → (own : Bool) → (o : Option (BeatA w)) → request_of z.source past ≡ o
        → ((k : ℕ) → (if grant && own then block_requested o else None) ≡ Some k → ⊥)
        → ◌≡◌ {A = Option Perm} (if grant && (own && not z.denied) then Some (capped z.param) else None) None
    go true g true None e none = absurd (some z rest refl g e)
    go true g true (Some v) e none = absurd (none (block_at v.address) refl)
    go true g false o e none = refl
    go false g own o e none = refl
given-unsaid sink block (Beat.E z ∷ rest) past none some = refl

-- a GrantAck bears on the block of a Grant that isn't complete
grant-ack-borne : {w : ℕ} (block : ℕ) (link : Link) (y : BeatE) (t : Trace w) → AreInside t → IsLegalAck {w = w} link.0 y t
    → (block_granted y.sink (unfinished Channel.D (on_link link.0 t)) (on_link link.0 t) ≡ Some block → ⊥)
    → PassesBy block (link, Beat.E y) t
grant-ack-borne {w} block link y t inside is other =
    ack-passes block link y t inside (λ own. given-unsaid y.sink block burst (on_link link.0 t)
    (λ k e. other (e ∙ ap Some (is.one block k e own))) is.asked)
  where
    burst : List (Beat w)
    burst = unfinished Channel.D (on_link link.0 t)

-- a response bears on the block of its request
pub response-there : {w : ℕ} (link : ℕ) (y : BeatD w) (asked : Request) (t : Trace w) → IsResponse link y asked t
    → is_release_ack y.opcode ≡ false → block_borne (Beat.D y) (on_link link t) ≡ Some asked.block
response-there {w} link y asked t is bare = elim (cases_Bool (comes_in_request y.source burst)) [
  | inl comes ↦
      let c = is.coming (rw (bare, comes) refl) in
      rw (bare, comes) (ap block_coming c.burst_is ∙ ap Some (sym c.block_is))
  | inr whole ↦
      rw bare (picked (comes_in_request y.source burst) (block_coming burst) _ whole
      ∙ ap block_asked (open-whole y.source asked (on_link link t) (record { kept = is.kept; complete = whole })))
]
  where
    burst : List (Beat w)
    burst = unfinished Channel.A (on_link link t)

-- each other block is left as it is
pub passes : {w : ℕ} (block : ℕ) (link : Link) (y : Beat w) (t : Trace w) → AreInside t
    → IsLegalBeat link.0 y t → (block_borne y (on_link link.0 t) ≡ Some block → ⊥) → PassesBy block (link, y) t
passes block link (Beat.A y) t inside is other =
    request-passes block link y t (request-inside link y t is inside.inside) inside.reach_inside is.continued is.outran
    (other-than (block_at y.address) block other)
passes block link (Beat.B y) t inside is other = probe-passes block link y t inside
passes block link (Beat.C y) t inside is other =
    report-passes block link y t inside (other-than (block_at y.address) block other)
passes block link (Beat.D y) t inside is other = elim (cases_Bool (is_release_ack y.opcode)) [
  | inl ack ↦ ack-borne block link y t inside ack is (rw ack at other)
  | inr bare ↦
      let one = is.answer bare in
      other-passes block link y one.0 t inside one.1
      (other-than one.0.block block (λ e. other (response-there link.0 y one.0 t one.1 bare ∙ e)))
]
passes block link (Beat.E y) t inside is other = grant-ack-borne block link y t inside is other

-- ---- a ReleaseAck of a Release that isn't complete

released-of : {w : ℕ} (block source : ℕ) (burst : List (Beat w)) → block_released source burst ≡ Some block
    → is_release_of block source burst ≡ true
released-of block source [] e = absurd cc
released-of block source (Beat.A z ∷ rest) e = absurd cc
released-of block source (Beat.B z ∷ rest) e = absurd cc
released-of block source (Beat.C z ∷ rest) e = go (is_release z.opcode && (z.source == source)) e
  where
    same : {a b : ℕ} → Some a ≡ Some b → a ≡ b
    same e = cc

    go : (b : Bool) → ◌≡◌ {A = Option ℕ} (if b then Some (block_at z.address) else None) (Some block)
        → (b && (block_at z.address == block)) ≡ true
    go true e = eq-eqb (block_at z.address) block (same e)
    go false e = absurd cc
released-of block source (Beat.D z ∷ rest) e = absurd cc
released-of block source (Beat.E z ∷ rest) e = absurd cc

pub ack-tells : {w : ℕ} (block : ℕ) (link : Link) (y : BeatD w) (t : Trace w) → is_release_ack y.opcode ≡ true
    → block_released y.source (unfinished Channel.C (on_link link.0 t)) ≡ Some block
    → ends (Beat.D y) (on_link link.0 t) ≡ true → tells block (Beat.D y) (on_link link.0 t) ≡ true
ack-tells block link y t ack there over =
    rw (over, ack, released-of block y.source (unfinished Channel.C (on_link link.0 t)) there) refl

pub ack-stays : {w : ℕ} (link : Link) (y : BeatD w) (t : Trace w) → is_release_ack y.opcode ≡ true
    → pending_accesses ((link, Beat.D y) ∷ t) ≡ pending_accesses t
unfolding pending_accesses
ack-stays link y t ack = rw ack refl

pub ack-outrun : {w : ℕ} (block : ℕ) (link : Link) (y : BeatD w) (t : Trace w) → is_release_ack y.opcode ≡ true
    → AllReachInside (outrun_accesses t) → LeavesOutrun block (link, Beat.D y) t
ack-outrun block link y t ack inside = (ack-settles block link y t inside ack).outrun

pub ack-carried : {w : ℕ} (values : KnownBytes) (link : Link) (y : BeatD w) (t : Trace w)
    → is_release_ack y.opcode ≡ true → HasBytes values (unfinished Channel.C (on_link link.0 t))
    → AreCarried values (link, Beat.D y) t
ack-carried values link y t ack has = rw ack has
