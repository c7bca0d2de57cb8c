-- The requests of the accesses whose answers outran them, where no beat broke a rule.
use Rattle.tl_memory.proofs.Imports.{Beat, BeatA, BeatD, History, Level, Trace, a_carries_data, breaks_burst}
use Rattle.tl_memory.proofs.Imports.{all_liberties, broken_after_under, is_legal_under, begins, ends, block_at}
use Rattle.tl_memory.proofs.Imports.{is_empty, is_release_ack, on_link, request_of, same_control, control_a, unfinished}
use Rattle.tl_memory.proofs.Imports.{AreLegal, IsWidth, Request, data_beats, is_access, request_fields, OpA}
use Rattle.std.proofs.Common.{◌≡◌, ℕ, suc, Bool, true, false, not, cond, ◌&&◌, List, [], ◌∷◌, length, refl, sym, ap}
use Rattle.std.proofs.Common.{◌∙◌, ◌<◌, arith, inl, inr, subst}
use Rattle.std.specs.Prelude.{◌==◌, if◌then◌else◌, is_some, Some, None}
use Rattle.std.proofs.lemmas.Bool.{cases_Bool, cases_eq, eq-eqb, eqb-true, not-false}
use Rattle.tl_beat.specs.declared.channel.Channel.{Channel}
use Rattle.tl_params.specs.declared.key.Key.TheVariants.{RequestSource}
use Rattle.tl_params.specs.declared.rule.Rule.TheVariants.{H1}
use Rattle.tl_rules.specs.code.Tables.{kept_request}
use Rattle.tl_rules.specs.statement.Conformance.{comes_in_request}
unfoldable use Rattle.tl_rules.specs.statement.History.{pending}
use Rattle.tl_rules.specs.statement.Liberties.{broken_order_under}
use Rattle.tl_rules.{proofs.Bursts.next_rule, proofs.Sent.pending-closed, proofs.Sent.pending-quiet}
use Rattle.tl_rules.{proofs.Tables.pending-request}
use Rattle.tl_bytes.specs.statement.Early.{Outrun, ends_request, outruns}
unfoldable use Rattle.tl_bytes.specs.statement.Early.{outrun_accesses}
use Rattle.tl_memory.proofs.lawful.Answering.{fields_of, is-answering, last-request}
use Rattle.tl_memory.proofs.lawful.Lawful.{begun_in_order, goes_on}
use Rattle.tl_memory.proofs.lawful.Histories.{IsFine, is-fine, legal-on, other-link, own-link}
use Rattle.tl_memory.proofs.lawful.Unfinished.{AreBegun, are-begun}
use Rattle.tl_memory.proofs.lawful.OutrunNames.{IsOut, comes-parts, outruns-parts}
use Rattle.tl_memory.proofs.lawful.OutrunSteps.{StaysBy, IsOutNow, out-before}
use Rattle.tl_memory.proofs.Plain.{true_false, none-some}

-- The request of such an access: the last one with its source on its link. Until its answer is complete that is pending,
-- and then its last beat is to come.
pub record IsFrom {w : ℕ} (s : ℕ) (a : Outrun) (past : History w) : Type 0 where
  pub fields : Request
  pub request_is : request_fields (request_of s past) ≡ Some fields
  pub block_is : fields.block ≡ block_at a.address
  pub accesses : is_access fields.opcode ≡ true
  pub waits : a.answered ≡ false → pending (RequestSource s) past ≡ true
  pub comes : a.answered ≡ true → comes_in_request s (unfinished Channel.A past) ≡ true

pub kept-pending : {w : ℕ} (s : ℕ) (asked : Request) (past : History w) → kept_request s past ≡ Some asked
    → pending (RequestSource s) past ≡ true
kept-pending s asked past kept = pending-request s past ∙ ap is_some kept

-- what is kept of a request is what it asks for
pub kept-fields : {w : ℕ} (s : ℕ) (asked : Request) (past : History w) → kept_request s past ≡ Some asked
    → request_fields (request_of s past) ≡ Some asked
kept-fields s asked past kept = rw (kept-pending s asked past kept) at kept

module _ {w : ℕ} (l : Level) (past : History w) (legal : is_legal_under all_liberties l past ≡ true) where
  -- a beat of channel A begins no request with the source of one that is pending, or whose beats are to come
  pub apart-from : (s : ℕ) (a : Outrun) (y : BeatA w) → broken_after_under all_liberties l (Beat.A y) past ≡ None
      → IsFrom s a past → begins (Beat.A y) past ≡ true → (y.source == s) ≡ false
  unfolding broken_order_under all_liberties
  apart-from s a y fine k first = elim (cases_Bool (y.source == s)) [
    | inr other ↦ other
    | inl own ↦ elim (cases_Bool a.answered) [
      | inr more ↦ true_false (sym (k.waits more)
          ∙ ap (λ n. pending (RequestSource n) past) (sym (eqb-true y.source s own))
          ∙ (next_rule (pending (RequestSource y.source) past) H1 _ (begun_in_order l (Beat.A y) past fine first)).0)
      | inl over ↦
          let z = comes-parts s (unfinished Channel.A past) (k.comes over) in
          true_false (sym first ∙ ap is_empty z.2)
    ]
  ]

  -- a beat of channel A goes on with the request that is unfinished
  goes-on-with : (s : ℕ) (y : BeatA w) → broken_after_under all_liberties l (Beat.A y) past ≡ None
      → comes_in_request s (unfinished Channel.A past) ≡ true → y.source ≡ s
  goes-on-with s y fine comes =
      let z = comes-parts s (unfinished Channel.A past) comes in
      let cont : breaks_burst (Beat.A y) (Beat.A z.0 ∷ z.1) ≡ false = rw z.2 at (goes_on l (Beat.A y) past fine) in
      let same = control_a y z.0 (not-false (same_control (Beat.A y) (Beat.A z.0)) cont) in
      same.3 ∙ z.3

  -- a request that is pending is so with a beat of channel A
  pub still-waits : (s : ℕ) (y : BeatA w) → pending (RequestSource s) past ≡ true
      → pending (RequestSource s) (Beat.A y ∷ past) ≡ true
  unfolding pending
  still-waits s y e = go (begins (Beat.A y) past && (y.source == s)) (ends (Beat.A y) past)
    where
      go : (b c : Bool) → (if b then true else if c && false then false else pending (RequestSource s) past) ≡ true
      go true c = refl
      go false true = e
      go false false = e

  from-a : (s : ℕ) (a : Outrun) (y : BeatA w) → broken_after_under all_liberties l (Beat.A y) past ≡ None
      → (y.source ≡ s → ends (Beat.A y) past ≡ true → a.answered ≡ true → ⊥) → IsFrom s a past
      → IsFrom s a (Beat.A y ∷ past)
  unfolding request_of unfinished
  from-a s a y fine stays k = record {
    fields = k.fields;
    request_is = rw off k.request_is;
    block_is = k.block_is;
    accesses = k.accesses;
    waits = λ more. still-waits s y (k.waits more);
    comes = λ over. comes over (ends (Beat.A y) past) refl;
  }
    where
      off : (begins (Beat.A y) past && (y.source == s)) ≡ false
      off = elim (cases_Bool (begins (Beat.A y) past)) [
        | inl first ↦ rw first (apart-from s a y fine k first)
        | inr later ↦ rw later refl
      ]

      comes : a.answered ≡ true → (last : Bool) → ends (Beat.A y) past ≡ last
          → comes_in_request s (if last then [] else Beat.A y ∷ unfinished Channel.A past) ≡ true
      comes over true e = absurd (stays (goes-on-with s y fine (k.comes over)) e over)
      comes over false e = eq-eqb y.source s (goes-on-with s y fine (k.comes over))

  from-d : (s : ℕ) (a : Outrun) (y : BeatD w) → broken_after_under all_liberties l (Beat.D y) past ≡ None
      → (y.source ≡ s → (ends_request y past ≡ false) × (outruns y past ≡ false)) → IsFrom s a past
      → IsFrom s a (Beat.D y ∷ past)
  unfolding request_of unfinished
  from-d s a y fine stays k = record {
    fields = k.fields;
    request_is = k.request_is;
    block_is = k.block_is;
    accesses = k.accesses;
    waits = λ more. pending-closed (RequestSource s) (Beat.D y) past refl
        ∙ open-yet (ends (Beat.D y) past) (is_release_ack y.opcode) (y.source == s)
        (comes_in_request y.source (unfinished Channel.A past)) refl (λ own. stays (eqb-true y.source s own))
        (k.waits more);
    comes = k.comes;
  }
    where
      open-yet : (last ack own comes : Bool) → comes_in_request y.source (unfinished Channel.A past) ≡ comes
          → (own ≡ true → (((not ack && last) && not comes) ≡ false) × ((not ack && comes) ≡ false))
          → pending (RequestSource s) past ≡ true
          → cond (last && (not ack && own)) false (pending (RequestSource s) past) ≡ true
      open-yet true false true true e stays before = true_false (stays refl).1
      open-yet true false true false e stays before = true_false (stays refl).0
      open-yet true false false comes e stays before = before
      open-yet true true own comes e stays before = before
      open-yet false ack own comes e stays before = before

  from-still : (s : ℕ) (a : Outrun) (b : Beat w) → broken_after_under all_liberties l b past ≡ None → StaysBy s a b past
      → IsFrom s a past → IsFrom s a (b ∷ past)
  unfolding request_of unfinished
  from-still s a (Beat.A y) fine stays k = from-a s a y fine stays k
  from-still s a (Beat.D y) fine stays k = from-d s a y fine stays k
  from-still s a (Beat.B y) fine stays k = record {
    fields = k.fields;
    request_is = k.request_is;
    block_is = k.block_is;
    accesses = k.accesses;
    waits = λ more. pending-quiet (RequestSource s) (Beat.B y) past refl refl ∙ k.waits more;
    comes = k.comes;
  }
  from-still s a (Beat.C y) fine stays k = record {
    fields = k.fields;
    request_is = k.request_is;
    block_is = k.block_is;
    accesses = k.accesses;
    waits = λ more. pending-quiet (RequestSource s) (Beat.C y) past refl refl ∙ k.waits more;
    comes = k.comes;
  }
  from-still s a (Beat.E y) fine stays k = record {
    fields = k.fields;
    request_is = k.request_is;
    block_is = k.block_is;
    accesses = k.accesses;
    waits = λ more. pending-quiet (RequestSource s) (Beat.E y) past refl refl ∙ k.waits more;
    comes = k.comes;
  }

-- a request that isn't complete is one with data
pub begun-access : {w : ℕ} (l : Level) (past : History w) → IsWidth w → is_legal_under all_liberties l past ≡ true
    → (z : BeatA w) (older : List (Beat w)) → unfinished Channel.A past ≡ Beat.A z ∷ older
    → is_access z.opcode ≡ true
begun-access {w} l past is legal z older burst =
    let begun : AreBegun l Channel.A (Beat.A z ∷ older) = rw burst at (are-begun l Channel.A past is legal) in
    go z.opcode (λ none. one (a_carries_data z.opcode) none begun.3)
  where
    one : (b : Bool) → b ≡ false → suc (length older) < (if b then data_beats w z.size else 1) → ⊥
    one true e lt = true_false e
    one false e lt = absurd (omega (arith, lt))

    go : (opcode : OpA) → (a_carries_data opcode ≡ false → ⊥) → is_access opcode ≡ true
    go OpA.Intent e = absurd (e refl)
    go OpA.AcquireBlock e = absurd (e refl)
    go OpA.AcquirePerm e = absurd (e refl)
    go v e = refl

-- what is known of each of these accesses
pub outrun-from : {w : ℕ} (levels : List Level) (is : IsWidth w) (c s : ℕ) (a : Outrun) (t : Trace w) → AreLegal levels t
    → IsOut c s a t → IsFrom s a (on_link c t)
unfolding outrun_accesses request_of unfinished
outrun-from levels is c s a [] legal out = none-some out
outrun-from {w} levels is c s a (x ∷ t) legal out = elim (out-before c s a x t out) [
  | inl old ↦ later (outrun-from levels is c s a t legal.1 old.0) old.1
  | inr now ↦ new now
]
  where
    f : IsFine all_liberties levels x t
    f = is-fine _ levels x t legal.0

    past-legal : is_legal_under all_liberties f.level (on_link x.0.0 t) ≡ true
    past-legal = legal-on _ levels x.0.0 f.level t f.has_level legal.1

    later : IsFrom s a (on_link c t) → (c ≡ x.0.0 → StaysBy s a x.1 (on_link x.0.0 t)) → IsFrom s a (on_link c (x ∷ t))
    later k stays = elim (cases_eq x.0.0 c) [
      | inr other ↦ rw (other-link c x t other) k
      | inl own ↦
          let here : IsFrom s a (on_link x.0.0 t) = rw own k in
          rw (own-link c x t own, ← own)
          (from-still f.level (on_link x.0.0 t) past-legal s a x.1 f.fine (stays (sym own)) here)
    ]

    new : IsOutNow c s a x t → IsFrom s a (on_link c (x ∷ t))
    new now =
        let past = on_link x.0.0 t in
        let y = now.answer in
        let z = now.first in
        let fine : broken_after_under all_liberties f.level (Beat.D y) past ≡ None =
        ap (λ b. broken_after_under all_liberties f.level b past) (sym now.beat_is) ∙ f.fine in
        let history : on_link c (x ∷ t) ≡ Beat.D y ∷ past =
        ap (λ n. on_link n (x ∷ t)) now.link_is ∙ own-link x.0.0 x t refl ∙ ap (λ b. b ∷ past) now.beat_is in
        let parts = outruns-parts y past now.outruns_it in
        let answering = is-answering f.level y past past-legal fine parts.0 in
        let source : s ≡ z.source = now.source_is ∙ sym now.same_source in
        subst (λ h. IsFrom s a h) (sym history) (record {
          fields = fields_of z;
          request_is = ap (λ n. request_fields (request_of n past)) source
              ∙ last-request f.level past z now.older past-legal now.burst_is;
          block_is = ap (λ (o : Outrun). block_at o.address) (sym now.access_is);
          accesses = begun-access f.level past is past-legal z now.older now.burst_is;
          waits = λ more.
              let last : ends (Beat.D y) past ≡ false = ap (λ (o : Outrun). o.answered) (sym now.access_is) ∙ more in
              pending-closed (RequestSource s) (Beat.D y) past refl
              ∙ rw last (ap (λ n. pending (RequestSource n) past) now.source_is
              ∙ kept-pending y.source answering.asked past answering.kept);
          comes = λ over. ap (λ n. comes_in_request n (unfinished Channel.A past)) now.source_is ∙ parts.1;
        })
