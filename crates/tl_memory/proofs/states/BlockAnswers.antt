-- What a response that breaks no rule tells of blocks, by the request that it answers.
use Rattle.tl_memory.proofs.Imports.{BeatA, BeatD, Link, OpA, OpD, History, open_request, request_fields, Request}
use Rattle.tl_memory.proofs.Imports.{unfinished, Trace, answers, on_link, block_at, ends, is_grant, is_release_ack}
use Rattle.tl_memory.proofs.Imports.{request_of, Access, ends_request, is_access, is_of, pending_accesses, tells}
use Rattle.tl_memory.proofs.Imports.{IsElsewhere, PassesBy, IsResponse, AnyIsTo, Beat, all_liberties}
use Rattle.tl_memory.proofs.lawful.Open.{open-whole}
use Rattle.std.proofs.Common.{◌≡◌, ◌⊎◌, ℕ, Bool, true, false, not, ◌&&◌, ◌/◌, ◌∷◌, List, [], refl, sym, ap, ◌∙◌, inl}
use Rattle.std.proofs.Common.{inr, ◌||◌, ◌+◌, ◌*◌}
use Rattle.std.specs.Prelude.{filter, find, if◌then◌else◌, None, Option, Some, ◌==◌}
use Rattle.tl_beat.specs.declared.channel.Channel.{Channel}
use Rattle.std.proofs.lemmas.Bool.{and_parts, cases_Bool, eq-eqb}
use Rattle.tl_rules.{specs.code.Tables.kept_request, specs.statement.History.asks_for, specs.statement.History.grants}
use Rattle.tl_rules.specs.statement.Conformance.{comes_in_request}
use Rattle.tl_bytes.specs.statement.Bytes.{leaves_pending, is_put}
use Rattle.tl_bytes.specs.statement.Early.{Outrun, is_outrun_of, is_overtaken, outruns, reaches_byte, settled_by}
use Rattle.tl_bytes.specs.statement.Early.{without}
unfoldable use Rattle.tl_bytes.specs.statement.Early.{outrun_accesses}
use Rattle.tl_memory.specs.code.Elsewhere.{LeavesOutrun}
use Rattle.tl_bytes.specs.statement.Known.{NoneSettled}
use Rattle.tl_memory.specs.statement.Known.{AllReachInside, AreInside, outruns_in}
use Rattle.tl_memory.proofs.lawful.OutrunNames.{outruns-parts, settled-d}
use Rattle.tl_memory.proofs.lawful.OutrunRequests.{kept-fields}
use Rattle.tl_forgiving.proofs.Implied.{not-true}
use Rattle.tl_memory.specs.code.{Early.is_in_doubt, Passing.changes_held, Taking.IsOrdered}
use Rattle.tl_memory.specs.declared.early.Granting.{Granting}
use Rattle.tl_memory.specs.statement.Links.{KnowsGranting}
use Rattle.tl_memory.proofs.messages.EarlyMessages.{doubt-is}
use Rattle.tl_memory.{specs.code.Elsewhere.NoneIsTo, specs.code.Taking.AreAsked, specs.code.Taking.tells_block}
use Rattle.tl_memory.{specs.code.Taking.tells_response, specs.statement.Known.IsNoPut}
use Rattle.tl_memory.proofs.lawful.Responses.{grants_no_access, none-answered, response-tells}
use Rattle.tl_memory.proofs.states.Leaving.{SettlesElsewhere, leaves-response, leaves-still, none-out, reach-left}
use Rattle.tl_memory.proofs.states.Leaving.{settles-none, settles-other}
use Rattle.tl_memory.proofs.states.Bearing.{none_of_both, none_of_three, response-elsewhere, response-passes}
use Rattle.tl_memory.proofs.Plain.{true_false}

-- ---- the request

-- the first beat of the request that a response answers
first-beat : {w : ℕ} (o : Option (BeatA w)) (asked : Request) → request_fields o ≡ Some asked
    → (first : BeatA w) × (o ≡ Some first) × (block_at first.address ≡ asked.block) × (first.opcode ≡ asked.opcode)
first-beat None asked e = absurd cc
first-beat (Some first) asked e = (first, refl, ap (λ r. r.block) (same e), ap (λ r. r.opcode) (same e))
  where
    same : {x y : Request} → Some x ≡ Some y → x ≡ y
    same e = cc

pub asked-first : {w : ℕ} (s : ℕ) (past : History w) (asked : Request) → kept_request s past ≡ Some asked
    → (first : BeatA w) × (request_of s past ≡ Some first) × (block_at first.address ≡ asked.block)
    × (first.opcode ≡ asked.opcode)
asked-first s past asked e = first-beat (request_of s past) asked (kept-fields s asked past e)

-- it grants its block alone
pub grants-asked : {w : ℕ} (block : ℕ) (y : BeatD w) (past : History w) (asked : Request)
    → kept_request y.source past ≡ Some asked → grants block y past ≡ (is_grant y.opcode && (asked.block == block))
grants-asked block y past asked e =
    let first = asked-first y.source past asked e in
    ap (λ o. is_grant y.opcode && asks_for block o) first.1
    ∙ ap (λ k. is_grant y.opcode && (k == block)) first.2

-- ---- the accesses that are pending

none-there : {w : ℕ} (link source block : ℕ) (asked : Request) (accesses : List (Access w))
    → AreAsked link source asked accesses → (asked.block == block) ≡ false → NoneIsTo link source block accesses
none-there link source block asked [] are other = tt
none-there link source block asked (access ∷ accesses) are other = (
  λ own. ap (λ k. k == block) (are.0 own).2 ∙ other,
  none-there link source block asked accesses are.1 other,
)

-- where no access was asked for, none has its source
none-asked : {w : ℕ} (link source : ℕ) (asked : Request) (access : Access w) → is_access asked.opcode ≡ false
    → (is_of link source access ≡ true
    → (is_access access.request.opcode ≡ true) × (access.request.opcode ≡ asked.opcode)
    × (block_at access.request.address ≡ asked.block)) → is_of link source access ≡ false
none-asked link source asked access bare is = elim (cases_Bool (is_of link source access)) [
  | inl own ↦ true_false (sym (is own).0 ∙ ap is_access (is own).1 ∙ bare)
  | inr other ↦ other
]

none-of : {w : ℕ} (link source block : ℕ) (asked : Request) (accesses : List (Access w))
    → AreAsked link source asked accesses → is_access asked.opcode ≡ false → NoneIsTo link source block accesses
none-of link source block asked [] are bare = tt
none-of link source block asked (access ∷ accesses) are bare = (
  λ own. true_false (sym own ∙ none-asked link source asked access bare are.0),
  none-of link source block asked accesses are.1 bare,
)

pub none-found : {w : ℕ} (link source : ℕ) (asked : Request) (accesses : List (Access w))
    → AreAsked link source asked accesses → is_access asked.opcode ≡ false → find (is_of link source) accesses ≡ None
none-found link source asked [] are bare = refl
none-found link source asked (access ∷ accesses) are bare =
    rw (none-asked link source asked access bare are.0) (none-found link source asked accesses are.1 bare)

-- the access that is answered, where there is one, is to the block of the request
pub answered-there : {w : ℕ} (link source block : ℕ) (asked : Request) (accesses : List (Access w))
    → AreAsked link source asked accesses → asked.block ≡ block → AnyIsTo block (find (is_of link source) accesses)
answered-there link source block asked [] are here = tt
answered-there link source block asked (access ∷ accesses) are here = elim (cases_Bool (is_of link source access)) [
  | inl own ↦ rw own (eq-eqb (access.request.address / 64) block ((are.0 own).2 ∙ here))
  | inr other ↦ rw other (answered-there link source block asked accesses are.1 here)
]

-- what is answered with data is no Put
pub answered-no_put : {w : ℕ} (link : ℕ) (y : BeatD w) (asked : Request) (accesses : List (Access w))
    → AreAsked link y.source asked accesses → answers y.opcode asked.opcode ≡ true → y.opcode ≡ OpD.AccessAckData
    → IsNoPut (find (is_of link y.source) accesses)
answered-no_put link y asked [] are admitted brings = tt
answered-no_put {w} link y asked (access ∷ accesses) are admitted brings =
    elim (cases_Bool (is_of link y.source access)) [
      | inl own ↦ rw own (ap is_put (are.0 own).1 ∙ go asked.opcode (rw brings at admitted))
      | inr other ↦ rw other (answered-no_put link y asked accesses are.1 admitted brings)
    ]
  where
    go : (opcode : OpA) → answers OpD.AccessAckData opcode ≡ true → is_put opcode ≡ false
    go OpA.PutFullData e = absurd cc
    go OpA.PutPartialData e = absurd cc
    go v e = refl

-- ---- opcodes

-- what answers a request ends no Release
pub answer-ends : (opcode : OpD) (asked : OpA) → answers opcode asked ≡ true → is_release_ack opcode ≡ false
answer-ends OpD.ReleaseAck asked e = absurd cc
answer-ends v asked e = refl

-- what tells of a block is a Grant
tells-grant : (opcode : OpD) (asked : OpA) → tells_block opcode asked ≡ true → is_grant opcode ≡ true
tells-grant OpD.Grant asked e = refl
tells-grant OpD.GrantData asked e = refl
tells-grant v asked e = absurd cc

-- and answers no access
tells-bare : (opcode : OpD) (asked : OpA) → answers opcode asked ≡ true → tells_block opcode asked ≡ true
    → is_access asked ≡ false
tells-bare opcode asked e told = elim (cases_Bool (is_access asked)) [
  | inr bare ↦ bare
  | inl access ↦ true_false (sym (tells-grant opcode asked told) ∙ grants_no_access opcode asked e access)
]

-- ---- accesses that answers outran

-- with a response that doesn't outrun its request one is settled only if it is complete
settles-later : {w : ℕ} (link : ℕ) (y : BeatD w) (past : History w) (out : List Outrun) → ends (Beat.D y) past ≡ false
    → settled_by link (Beat.D y) past out ≡ None
settles-later link y past out more = rw more (go (is_release_ack y.opcode))
  where
    go : (ack : Bool) → ◌≡◌ {A = Option Outrun}
        (if (not ack && false) && not (comes_in_request y.source (unfinished Channel.A past))
        then find (is_outrun_of link y.source) out else None) None
    go true = refl
    go false = refl

-- no access is settled with the answer to what is none
pub settles-bare : {w : ℕ} (link : Link) (y : BeatD w) (asked : Request) (t : Trace w) → IsResponse link.0 y asked t
    → is_access asked.opcode ≡ false
    → settled_by link.0 (Beat.D y) (on_link link.0 t) (outrun_accesses t) ≡ None
settles-bare link y asked t is bare = rw (is.bare bare) (go (ends_request y (on_link link.0 t)))
  where
    go : (last : Bool) → ◌≡◌ {A = Option Outrun} (if last then None else None) None
    go true = refl
    go false = refl

-- or with one that outruns it
pub settles-coming : {w : ℕ} (link : ℕ) (y : BeatD w) (past : History w) (out : List Outrun) → outruns y past ≡ true
    → settled_by link (Beat.D y) past out ≡ None
settles-coming link y past out e =
    let parts = outruns-parts y past e in rw (parts.0, parts.1) (go (ends (Beat.D y) past))
  where
    go : (last : Bool) → ◌≡◌ {A = Option Outrun} (if last && false then find (is_outrun_of link y.source) out else None) None
    go true = refl
    go false = refl

-- it isn't complete with a response that has more to come, and doesn't outrun its request
stays-later : {w : ℕ} (y : BeatD w) (past : History w) → ends (Beat.D y) past ≡ false → outruns y past ≡ false
    → leaves_pending y past ≡ false
stays-later y past more late =
    rw (late, more) (go (is_release_ack y.opcode) (comes_in_request y.source (unfinished Channel.A past)))
  where
    go : (ack comes : Bool) → (((not ack && false) && not comes) || false) ≡ false
    go true comes = refl
    go false comes = refl

-- the access that is new among those that answers outran
abbrev pub out-new : {w : ℕ} → Link → BeatA w → Bool → Outrun
out-new link z answered =
    record { link = link.0; source = z.source; address = z.address; size = z.size; answered = answered }

pub leaves-coming : {w : ℕ} (link : Link) (y : BeatD w) (t : Trace w) (z : BeatA w) (older : List (Beat w))
    → outruns y (on_link link.0 t) ≡ true → unfinished Channel.A (on_link link.0 t) ≡ Beat.A z ∷ older
    → outrun_accesses ((link, Beat.D y) ∷ t)
    ≡ out-new link z (ends (Beat.D y) (on_link link.0 t)) ∷ without link.0 y.source (outrun_accesses t)
unfolding outrun_accesses
leaves-coming link y t z older outrun burst = rw (outrun, burst) refl

settles-response : {w : ℕ} (block : ℕ) (link : Link) (y : BeatD w) (asked : Request) (t : Trace w)
    → IsResponse link.0 y asked t → (asked.block == block) ≡ false → AllReachInside (outrun_accesses t)
    → SettlesElsewhere block (link, Beat.D y) t
settles-response {w} block link y asked t is other reach = elim (cases_Bool (outruns y (on_link link.0 t))) [
  | inr late ↦ settles-other block asked.block y.source (link, Beat.D y) t _ refl
      (λ a e. settled-d link.0 y (on_link link.0 t) (outrun_accesses t) a e)
      (leaves-response link y t _ late refl) is.outran other reach
  | inl outrun ↦
      let c = is.coming outrun in
      let same = leaves-coming link y t c.first c.older outrun c.burst_is in
      let away : outruns_in block (out-new link c.first (ends (Beat.D y) (on_link link.0 t))) ≡ false =
      ap (λ k. k == block) (sym c.block_is) ∙ other in
      record {
        unsettled = λ place lt.
            ap (reaches_byte (64 * block + place)) (settles-coming link.0 y (on_link link.0 t) (outrun_accesses t) outrun);
        outrun = record {
          stay = ap (filter (outruns_in block)) same
              ∙ rw away (none-out link.0 y.source block asked.block (outrun_accesses t) is.outran other);
          reach_inside = rw same (
            c.inside,
            reach-left (λ a. not (is_outrun_of link.0 y.source a)) (outrun_accesses t) reach,
          );
        };
      }
]

-- ---- blocks that a response leaves

-- a response to a request of another block
pub other-passes : {w : ℕ} (block : ℕ) (link : Link) (y : BeatD w) (asked : Request) (t : Trace w)
    → AreInside t → IsResponse link.0 y asked t → (asked.block == block) ≡ false → PassesBy block (link, Beat.D y) t
other-passes block link y asked t inside is other =
    response-passes block link y t inside.inside (answer-ends y.opcode asked.opcode is.answers_it)
    (grants-asked block y (on_link link.0 t) asked is.kept
    ∙ none_of_both (is_grant y.opcode) (asked.block == block) other)
    (λ over. none-there link.0 y.source block asked (pending_accesses t) is.are_asked other)
    (settles-response block link y asked t is other inside.reach_inside)

tells-off : {w : ℕ} (block : ℕ) (y : BeatD w) (past : History w) (asked : Request)
    → kept_request y.source past ≡ Some asked → is_release_ack y.opcode ≡ false → (ends (Beat.D y) past ≡ false)
    ⊎ ((tells_response y asked.opcode && not (is_overtaken block y past)) ≡ false)
    → tells block (Beat.D y) past ≡ false
tells-off block y past asked e bare off = response-tells block y asked past (kept-fields y.source asked past e) bare
    ∙ elim off [
      | inl goes_on ↦ rw goes_on refl
      | inr silent ↦ none_of_three (ends (Beat.D y) past) (asked.block == block) _ silent
    ]

-- a response with more to come
pub begun-elsewhere : {w : ℕ} (block : ℕ) (link : Link) (y : BeatD w) (asked : Request) (t : Trace w)
    → AreInside t → IsResponse link.0 y asked t → outruns y (on_link link.0 t) ≡ false
    → ends (Beat.D y) (on_link link.0 t) ≡ false → IsElsewhere block (link, Beat.D y) t
begun-elsewhere block link y asked t inside is late goes_on =
    let past = on_link link.0 t in
    let none = settles-later link.0 y past (outrun_accesses t) goes_on in
    response-elsewhere block link y t inside.inside
    (tells-off block y past asked is.kept (answer-ends y.opcode asked.opcode is.answers_it) (inl goes_on))
    (λ over. true_false (sym over ∙ stays-later y past goes_on late))
    (settles-none block (link, Beat.D y) t none (leaves-response link y t None late none) inside.reach_inside)

-- a response that tells nothing, to what is no access
pub told-elsewhere : {w : ℕ} (block : ℕ) (link : Link) (y : BeatD w) (asked : Request) (t : Trace w)
    → AreInside t → IsResponse link.0 y asked t → outruns y (on_link link.0 t) ≡ false
    → (tells_response y asked.opcode && not (is_overtaken block y (on_link link.0 t))) ≡ false
    → is_access asked.opcode ≡ false → IsElsewhere block (link, Beat.D y) t
told-elsewhere block link y asked t inside is late silent bare =
    let none = settles-bare link y asked t is bare in
    response-elsewhere block link y t inside.inside
    (tells-off block y (on_link link.0 t) asked is.kept (answer-ends y.opcode asked.opcode is.answers_it) (inr silent))
    (λ over. none-of link.0 y.source block asked (pending_accesses t) is.are_asked bare)
    (settles-none block (link, Beat.D y) t none (leaves-response link y t None late none) inside.reach_inside)

-- ---- what it changes of its own block

-- a Grant that tells what the block has
pub grant-tells : {w : ℕ} (block : ℕ) (y : BeatD w) (past : History w) (asked : Request)
    → kept_request y.source past ≡ Some asked → is_release_ack y.opcode ≡ false → asked.block ≡ block
    → ends (Beat.D y) past ≡ true → tells_response y asked.opcode ≡ true → is_overtaken block y past ≡ false
    → tells block (Beat.D y) past ≡ true
grant-tells block y past asked e bare here over told late =
    response-tells block y asked past (kept-fields y.source asked past e) bare
    ∙ rw (over, eq-eqb asked.block block here, told, late) refl

-- it answers no access
pub grant-bare : {w : ℕ} (link : Link) (y : BeatD w) (asked : Request) (t : Trace w) → IsResponse link.0 y asked t
    → tells_response y asked.opcode ≡ true → is_access asked.opcode ≡ false
grant-bare link y asked t is told =
    tells-bare y.opcode asked.opcode is.answers_it (and_parts (not y.denied) (tells_block y.opcode asked.opcode) told).1

-- with it the same accesses are pending
pub grant-stays : {w : ℕ} (link : Link) (y : BeatD w) (asked : Request) (t : Trace w) → IsResponse link.0 y asked t
    → tells_response y asked.opcode ≡ true → pending_accesses ((link, Beat.D y) ∷ t) ≡ pending_accesses t
grant-stays link y asked t is told =
    none-answered link y t (none-found link.0 y.source asked (pending_accesses t) is.are_asked
    (grant-bare link y asked t is told))

-- and none is settled
pub bare-leaves : {w : ℕ} (block : ℕ) (link : Link) (y : BeatD w) (asked : Request) (t : Trace w)
    → IsResponse link.0 y asked t → outruns y (on_link link.0 t) ≡ false → is_access asked.opcode ≡ false
    → AllReachInside (outrun_accesses t) → LeavesOutrun block (link, Beat.D y) t
bare-leaves block link y asked t is late bare reach =
    leaves-still block (link, Beat.D y) t (leaves-response link y t None late (settles-bare link y asked t is bare)) reach

pub answer-over : {w : ℕ} (link : Link) (y : BeatD w) (asked : Request) (t : Trace w) → IsResponse link.0 y asked t
    → outruns y (on_link link.0 t) ≡ false → ends (Beat.D y) (on_link link.0 t) ≡ true
    → ends_request y (on_link link.0 t) ≡ true
answer-over link y asked t is late over =
    rw (answer-ends y.opcode asked.opcode is.answers_it, over, is.complete late) refl

-- the request of a Grant is complete
pub grant-open : {w : ℕ} (link : ℕ) (y : BeatD w) (asked : Request) (t : Trace w) → IsResponse link y asked t
    → is_grant y.opcode ≡ true → open_request y.source (on_link link t) ≡ Some asked
grant-open link y asked t is grant = elim (cases_Bool (outruns y (on_link link t))) [
  | inr late ↦
      open-whole y.source asked (on_link link t) (record { kept = is.kept; complete = is.complete late })
  | inl outrun ↦
      true_false (sym grant ∙ grants_no_access y.opcode asked.opcode is.answers_it (is.coming outrun).accesses)
]

-- the answer to an access that none outran settles none
settles-unless : {w : ℕ} (link : ℕ) (y : BeatD w) (past : History w) (out : List Outrun)
    → find (is_outrun_of link y.source) out ≡ None → settled_by link (Beat.D y) past out ≡ None
settles-unless link y past out none = rw none (go (ends_request y past))
  where
    go : (last : Bool) → ◌≡◌ {A = Option Outrun} (if last then None else None) None
    go true = refl
    go false = refl

pub unsettled-answer : {w : ℕ} (block : ℕ) (link : Link) (y : BeatD w) (t : Trace w)
    → find (is_outrun_of link.0 y.source) (outrun_accesses t) ≡ None → NoneSettled block (link, Beat.D y) t
unsettled-answer block link y t none place lt =
    ap (reaches_byte (64 * block + place)) (settles-unless link.0 y (on_link link.0 t) (outrun_accesses t) none)

pub unsettles-answer : {w : ℕ} (block : ℕ) (link : Link) (y : BeatD w) (t : Trace w)
    → outruns y (on_link link.0 t) ≡ false → find (is_outrun_of link.0 y.source) (outrun_accesses t) ≡ None
    → AllReachInside (outrun_accesses t) → LeavesOutrun block (link, Beat.D y) t
unsettles-answer block link y t late none reach =
    leaves-still block (link, Beat.D y) t
    (leaves-response link y t None late (settles-unless link.0 y (on_link link.0 t) (outrun_accesses t) none)) reach

-- ---- Grants that may be in doubt

pub tells-given : {w : ℕ} (y : BeatD w) (asked : OpA) → tells_response y asked ≡ true → is_grant y.opcode ≡ true
tells-given y asked told = tells-grant y.opcode asked (and_parts (not y.denied) (tells_block y.opcode asked) told).1

-- a Grant that sets bytes is overtaken, where that is kept
told-doubt : {w : ℕ} (block : ℕ) (link : Link) (y : BeatD w) (asked : Request) (t : Trace w) (o : Option Granting)
    → IsResponse link.0 y asked t → asked.block ≡ block → KnowsGranting o (on_link link.0 t) → IsOrdered link.0 (Beat.D y) t
    → tells_response y asked.opcode ≡ true → is_overtaken block y (on_link link.0 t) ≡ is_in_doubt o
told-doubt block link y asked t o is here known ordered told =
    let request = asked-first y.source (on_link link.0 t) asked is.kept in
    doubt-is all_liberties o y block (on_link link.0 t) ordered known (tells-given y asked.opcode told)
    (ap (asks_for block) request.1 ∙ eq-eqb (request.0.address / 64) block (request.2 ∙ here))

pub told-sure : {w : ℕ} (block : ℕ) (link : Link) (y : BeatD w) (asked : Request) (t : Trace w) (o : Option Granting)
    → IsResponse link.0 y asked t → asked.block ≡ block → KnowsGranting o (on_link link.0 t) → IsOrdered link.0 (Beat.D y) t
    → tells_response y asked.opcode ≡ true → not (is_in_doubt o) ≡ true
    → is_overtaken block y (on_link link.0 t) ≡ false
told-sure block link y asked t o is here known ordered told sure =
    told-doubt block link y asked t o is here known ordered told ∙ not-true (is_in_doubt o) sure

pub told-or : {w : ℕ} (block : ℕ) (link : Link) (y : BeatD w) (asked : Request) (t : Trace w) (o : Option Granting)
    → IsResponse link.0 y asked t → asked.block ≡ block → KnowsGranting o (on_link link.0 t) → IsOrdered link.0 (Beat.D y) t
    → (tells_response y asked.opcode && not (is_in_doubt o)) ≡ false
    → (tells_response y asked.opcode && not (is_overtaken block y (on_link link.0 t))) ≡ false
told-or block link y asked t o is here known ordered less = elim (cases_Bool (tells_response y asked.opcode)) [
  | inr silent ↦ rw silent refl
  | inl told ↦ rw (told, told-doubt block link y asked t o is here known ordered told) (rw told at less)
]

-- until its last beat a response that is no ReleaseAck leaves what its link holds
pub calm-until : {w : ℕ} (y : BeatD w) (past : History w) → is_release_ack y.opcode ≡ false
    → ends (Beat.D y) past ≡ false → changes_held (Beat.D y) past ≡ false
calm-until y past bare more = rw (bare, more) (either (is_grant y.opcode))
  where
    either : (b : Bool) → (b && false) ≡ false
    either true = refl
    either false = refl
