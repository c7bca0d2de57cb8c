-- Which requests are open on a link where no beat broke a rule: those that responses answer.
use Rattle.tl_memory.proofs.Imports.{Beat, BeatA, BeatD, OpD, data_beats, History, breaks_burst, burst_length, grown}
use Rattle.tl_memory.proofs.Imports.{same_control, unfinished, is_empty, control_a, control_d, Level}
use Rattle.tl_memory.proofs.Imports.{open_request, request_fields, Request, answers, all_liberties, broken_after_under, begins, block_at}
use Rattle.tl_memory.proofs.Imports.{ends, is_release_ack, request_of}
use Rattle.std.proofs.Common.{◌≡◌, ℕ, Bool, true, false, not, ◌&&◌, List, [], ◌∷◌, length, Option, Some, None, refl}
use Rattle.std.proofs.Common.{sym, ap, ◌∙◌, inl, inr}
use Rattle.std.specs.Prelude.{if◌then◌else◌, is_some, ◌==◌, ◌+◌}
use Rattle.std.proofs.lemmas.Bool.{and_parts, cases_eq, eqb-true, ne_eqb, not-false}
use Rattle.tl_beat.{specs.declared.channel.Channel.Channel, specs.statement.Opcode.d_carries_data}
use Rattle.tl_params.specs.declared.key.Key.TheVariants.{RequestSource}
use Rattle.tl_params.specs.declared.rule.Rule.TheVariants.{H1, H2, H3}
use Rattle.tl_rules.{specs.code.Tables.kept_request, specs.statement.History.pending, proofs.Bursts.next_rule}
use Rattle.tl_rules.{proofs.Tables.pending-request, proofs.Tables.request-next}
use Rattle.tl_rules.specs.statement.Conformance.{admits, comes_in_request, size_asked}
use Rattle.tl_rules.specs.statement.Conformance.{size_of_request}
use Rattle.tl_rules.specs.statement.Liberties.{broken_order_under, has_request_under}
use Rattle.tl_memory.proofs.lawful.Lawful.{begun_in_order, goes_on}

-- the request with this source is pending and complete
pub record IsOpen {w : ℕ} (s : ℕ) (asked : Request) (t : History w) : Type 0 where
  pub kept : kept_request s t ≡ Some asked
  pub complete : comes_in_request s (unfinished Channel.A t) ≡ false

pub open-parts : {w : ℕ} (s : ℕ) (asked : Request) (t : History w) → open_request s t ≡ Some asked → IsOpen s asked t
open-parts s asked t e = go (pending (RequestSource s) t) (comes_in_request s (unfinished Channel.A t))
    (request_fields (request_of s t)) refl refl refl e
  where
    go : (before comes : Bool) (o : Option Request) → pending (RequestSource s) t ≡ before
        → comes_in_request s (unfinished Channel.A t) ≡ comes → request_fields (request_of s t) ≡ o
        → (if before && not comes then o else None) ≡ Some asked → IsOpen s asked t
    go true false o f g h e = record { kept = rw (f, h) e; complete = g }
    go v u o f g h e = absurd cc

pub open-whole : {w : ℕ} (s : ℕ) (asked : Request) (t : History w) → IsOpen s asked t → open_request s t ≡ Some asked
open-whole s asked t o = rw o.complete (go (pending (RequestSource s) t) (request_fields (request_of s t)) o.kept)
  where
    go : (before : Bool) (q : Option Request) → (if before then q else None) ≡ Some asked
        → (if before && true then q else None) ≡ Some asked
    go true q e = e
    go false q e = e

-- ---- one more beat

-- the beat completes an answer to the request with this source
abbrev pub completes_answer : {w : ℕ} → ℕ → Beat w → History w → Bool
completes_answer s (Beat.D y) t = ends (Beat.D y) t && (not (is_release_ack y.opcode) && (y.source == s))
completes_answer s _ t = false

-- a beat of channel A that goes on as a burst that doesn't come with a source hasn't it
other_source : {w : ℕ} (s : ℕ) (y : BeatA w) (z : Beat w) (burst : List (Beat w))
    → breaks_burst (Beat.A y) (z ∷ burst) ≡ false → comes_in_request s (z ∷ burst) ≡ false → (y.source == s) ≡ false
other_source s y (Beat.A z) burst e apart =
    let same = control_a y z (not-false (same_control (Beat.A y) (Beat.A z)) e) in rw same.3 apart
other_source s y v burst e apart = absurd cc

-- where a request is open no beat of channel A has its source
pub fresh : {w : ℕ} (l : Level) (s : ℕ) (asked : Request) (y : BeatA w) (t : History w)
    → broken_after_under all_liberties l (Beat.A y) t ≡ None → IsOpen s asked t → (y.source == s) ≡ false
unfolding broken_order_under all_liberties
fresh {w} l s asked y t fine o =
    go (unfinished Channel.A t) (goes_on l (Beat.A y) t fine) o.complete
    (λ first. (next_rule (pending (RequestSource y.source) t) H1 _ (begun_in_order l (Beat.A y) t fine first)).0)
  where
    no : true ≡ false → ⊥
    no e = cc

    go : (burst : List (Beat w)) → breaks_burst (Beat.A y) burst ≡ false → comes_in_request s burst ≡ false
        → (is_empty burst ≡ true → pending (RequestSource y.source) t ≡ false) → (y.source == s) ≡ false
    go (z ∷ burst) e apart free = other_source s y z burst e apart
    go [] e apart free = elim (cases_eq y.source s) [
      | inr ne ↦ ne_eqb y.source s ne
      | inl same ↦ absurd (no (sym (ap is_some o.kept) ∙ sym (pending-request s t)
          ∙ ap (λ n. pending (RequestSource n) t) (sym same) ∙ free refl))
    ]

-- a request is kept until its answer is complete
pub kept-still : {w : ℕ} (l : Level) (s : ℕ) (asked : Request) (x : Beat w) (t : History w)
    → broken_after_under all_liberties l x t ≡ None → kept_request s t ≡ Some asked → completes_answer s x t ≡ false
    → kept_request s (x ∷ t) ≡ Some asked
unfolding broken_order_under all_liberties
kept-still {w} l s asked (Beat.A y) t fine kept unended =
    request-next s (Beat.A y) t ∙ go (begins (Beat.A y) t) (y.source == s) refl refl
  where
    no : true ≡ false → ⊥
    no e = cc

    go : (first own : Bool) → begins (Beat.A y) t ≡ first → (y.source == s) ≡ own
        → (if first && own then request_fields (Some y) else kept_request s t) ≡ Some asked
    go true true first own = absurd (no (sym (ap is_some kept) ∙ sym (pending-request s t)
        ∙ ap (λ n. pending (RequestSource n) t) (sym (eqb-true y.source s own))
        ∙ (next_rule (pending (RequestSource y.source) t) H1 _ (begun_in_order l (Beat.A y) t fine first)).0))
    go true false first own = kept
    go false own first is = kept
kept-still l s asked (Beat.D y) t fine kept unended = request-next s (Beat.D y) t ∙ rw unended kept
kept-still l s asked (Beat.B y) t fine kept unended = request-next s (Beat.B y) t ∙ kept
kept-still l s asked (Beat.C y) t fine kept unended = request-next s (Beat.C y) t ∙ kept
kept-still l s asked (Beat.E y) t fine kept unended = request-next s (Beat.E y) t ∙ kept

grown_other : {w : ℕ} (s : ℕ) (y : BeatA w) (burst : List (Beat w)) → (y.source == s) ≡ false
    → comes_in_request s (grown (Beat.A y) burst) ≡ false
grown_other {w} s y burst e = go (length burst + 1 == burst_length (Beat.A y))
  where
    go : (b : Bool) → comes_in_request s (if b then [] else Beat.A y ∷ burst) ≡ false
    go true = refl
    go false = e

-- a request stays open until its answer is complete
pub open-still : {w : ℕ} (l : Level) (s : ℕ) (asked : Request) (x : Beat w) (t : History w)
    → broken_after_under all_liberties l x t ≡ None → IsOpen s asked t → completes_answer s x t ≡ false → IsOpen s asked (x ∷ t)
unfolding unfinished
open-still l s asked (Beat.A y) t fine o unended = record {
  kept = kept-still l s asked (Beat.A y) t fine o.kept unended;
  complete = grown_other s y (unfinished Channel.A t) (fresh l s asked y t fine o);
}
open-still l s asked v t fine o unended =
    record { kept = kept-still l s asked v t fine o.kept unended; complete = o.complete }

-- ---- responses

-- the response answers a request that is pending, complete or not
pub record IsAnswering {w : ℕ} (y : BeatD w) (t : History w) : Type 0 where
  pub asked : Request
  pub kept : kept_request y.source t ≡ Some asked
  pub admitted : answers y.opcode asked.opcode ≡ true
  pub sized : y.size ≡ asked.size

admitted_by : {w : ℕ} (y : BeatD w) (t : History w) (o : Option (BeatA w)) → request_of y.source t ≡ o
    → pending (RequestSource y.source) t ≡ true
    → admits y.opcode o ≡ true → (y.size == size_of_request o) ≡ true → IsAnswering y t
admitted_by y t None is before e sized = absurd cc
admitted_by y t (Some x) is before e sized = record {
  asked = record { opcode = x.opcode; param = x.param; size = x.size; block = block_at x.address };
  kept = rw (before, is) refl;
  admitted = e;
  sized = eqb-true y.size x.size sized;
}

pub begun-answering : {w : ℕ} (l : Level) (y : BeatD w) (t : History w)
    → broken_after_under all_liberties l (Beat.D y) t ≡ None → begins (Beat.D y) t ≡ true → is_release_ack y.opcode ≡ false
    → IsAnswering y t
unfolding broken_order_under all_liberties
begun-answering {w} l y t fine first other =
    let two = next_rule (not (has_request_under all_liberties y t)) H2 _ (begun_in_order l (Beat.D y) t fine first) in
    let three = next_rule (not (y.size == size_asked y t)) H3 _ two.1 in
    let has = not-false (has_request_under all_liberties y t) two.0 in
    let size : (y.size == size_of_request (request_of y.source t)) ≡ true =
    rw other at (not-false (y.size == size_asked y t) three.0) in
    let parts = of_request _ _ (is_release_ack y.opcode) other has in
    let before = and_parts (pending (RequestSource y.source) t) _ parts in
    admitted_by y t (request_of y.source t) refl before.0 before.1 size
  where
    of_request : (one two ack : Bool) → ack ≡ false → (if ack then one else two) ≡ true → two ≡ true
    of_request one two true e f = absurd cc
    of_request one two false e f = f

-- the beats of one burst answer one request
pub as_before : {w : ℕ} (y z : BeatD w) (burst : List (Beat w)) (t : History w)
    → breaks_burst (Beat.D y) (Beat.D z ∷ burst) ≡ false → IsAnswering z t → IsAnswering y t
as_before y z burst t e k =
    let same = control_d y z (not-false (same_control (Beat.D y) (Beat.D z)) e) in
    record { asked = k.asked; kept = rw same.3 k.kept; admitted = rw same.0 k.admitted; sized = same.2 ∙ k.sized }

-- a ReleaseAck has one beat
pub ack-whole : {w : ℕ} (y : BeatD w) → is_release_ack y.opcode ≡ true → burst_length (Beat.D y) ≡ 1
ack-whole {w} y e = go y.opcode e
  where
    go : (opcode : OpD) → is_release_ack opcode ≡ true → (if d_carries_data opcode then data_beats w y.size else 1) ≡ 1
    go OpD.ReleaseAck e = refl
    go v e = absurd cc
