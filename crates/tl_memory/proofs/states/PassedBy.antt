-- Beats that pass each block by, and those that change what their link holds.
use Rattle.tl_memory.proofs.Imports.{Beat, BeatC, BeatD, Link, History, is_empty, Trace, on_link, begins, ends}
use Rattle.tl_memory.proofs.Imports.{is_access, is_grant, is_release_ack, LeavesHeld, PassesBy, unfinished}
use Rattle.tl_memory.proofs.Imports.{all_liberties, answers, ExpectsLater, IsLegalBeat, IsResponse, OpA, OpD, Request}
use Rattle.std.proofs.Common.{◌≡◌, ℕ, Bool, true, false, not, ◌&&◌, ◌||◌, List, [], ◌∷◌, length, refl, sym, ap, ◌∙◌}
use Rattle.std.proofs.Common.{arith, inl, inr}
use Rattle.std.{specs.Prelude.None, specs.Prelude.◌==◌, specs.Prelude.if◌then◌else◌}
use Rattle.std.proofs.lemmas.Bool.{and_parts, cases_Bool, ne_eqb}
use Rattle.tl_beat.specs.declared.channel.Channel.{Channel}
use Rattle.tl_rules.specs.statement.Conformance.{comes_in_grant, comes_in_release}
use Rattle.tl_bytes.specs.statement.{Bytes.asks, Bytes.leaves_pending, Early.outruns, Shown.shows}
use Rattle.tl_memory.specs.code.Taking.{IsLegalResponse}
use Rattle.tl_memory.specs.statement.Known.{AreInside}
use Rattle.tl_memory.proofs.{states.BlockAnswers.begun-elsewhere, lawful.Responses.grants_no_access}
use Rattle.tl_memory.specs.code.Changing.{ExpectsAlong, ExpectsBegun}
use Rattle.tl_memory.specs.code.Passing.{acquires_from_none, changes_held, is_answer, passes_by}
use Rattle.tl_memory.{proofs.states.Elsewhere.held-kept}
use Rattle.tl_memory.proofs.states.Bearing.{ack-leaves, ack-passes, ack-settles, given-none, grants-none, left-none}
use Rattle.tl_memory.proofs.states.Bearing.{probe-passes, report-elsewhere, response-elsewhere, response-leaves}
use Rattle.tl_memory.proofs.states.AskingElsewhere.{request-leaves, unasked-elsewhere}
use Rattle.tl_memory.proofs.Plain.{true_false}

is_false : (b : Bool) → not b ≡ true → b ≡ false
is_false true e = absurd cc
is_false false e = refl

neither : (a b : Bool) → not (a || b) ≡ true → (a ≡ false) × (b ≡ false)
neither true b e = absurd cc
neither false b e = (refl, is_false b e)

-- a response that passes by neither begins nor ends
unbound : {w : ℕ} (y : BeatD w) (past : History w) → passes_by (Beat.D y) past ≡ true
    → not (begins (Beat.D y) past || ends (Beat.D y) past) ≡ true
unbound y past passing =
    ap not (neither (begins (Beat.D y) past || ends (Beat.D y) past) (is_answer y.opcode) passing).0

-- ---- the blocks

report-goes_on : {w : ℕ} (block : ℕ) (link : Link) (y : BeatC w) (t : Trace w) → AreInside t
    → ends (Beat.C y) (on_link link.0 t) ≡ false → PassesBy block (link, Beat.C y) t
report-goes_on block link y t inside goes_on = record {
  elsewhere = report-elsewhere block link y t inside (rw goes_on refl);
  held_is = held-kept block (Beat.C y) (on_link link.0 t) (λ over. true_false (sym over ∙ goes_on));
  unshown = rw goes_on refl;
}

-- what answers an access is one of these
answer-kind : (opcode : OpD) (asked : OpA) → answers opcode asked ≡ true → is_access asked ≡ true → is_answer opcode ≡ true
answer-kind OpD.AccessAck asked e access = refl
answer-kind OpD.AccessAckData asked e access = refl
answer-kind OpD.HintAck OpA.Intent e access = absurd cc
answer-kind OpD.HintAck _ e access = absurd cc
answer-kind OpD.ReleaseAck asked e access = absurd cc
answer-kind OpD.Grant asked e access = true_false (grants_no_access OpD.Grant asked e access)
answer-kind OpD.GrantData asked e access = true_false (grants_no_access OpD.GrantData asked e access)

-- a response that answers no access doesn't outrun its request
on-time : {w : ℕ} (link : ℕ) (y : BeatD w) (asked : Request) (t : Trace w) → IsResponse link y asked t
    → is_answer y.opcode ≡ false → outruns y (on_link link t) ≡ false
on-time link y asked t is other = elim (cases_Bool (outruns y (on_link link t))) [
  | inr late ↦ late
  | inl outrun ↦ true_false (sym (answer-kind y.opcode asked.opcode is.answers_it (is.coming outrun).accesses) ∙ other)
]

response-goes_on : {w : ℕ} (block : ℕ) (link : Link) (y : BeatD w) (t : Trace w) → AreInside t
    → IsLegalResponse link.0 y t → is_answer y.opcode ≡ false
    → ends (Beat.D y) (on_link link.0 t) ≡ false → PassesBy block (link, Beat.D y) t
response-goes_on block link y t inside is other goes_on = record {
  elsewhere = elim (cases_Bool (is_release_ack y.opcode)) [
    | inl ack ↦ response-elsewhere block link y t inside.inside (rw goes_on refl)
        (λ over. let never : leaves_pending y (on_link link.0 t) ≡ false = rw ack refl in
        true_false (sym over ∙ never)) (ack-settles block link y t inside.reach_inside ack)
    | inr bare ↦
        let one = is.answer bare in
        begun-elsewhere block link y one.0 t inside one.1 (on-time link.0 y one.0 t one.1 other) goes_on
  ];
  held_is = held-kept block (Beat.D y) (on_link link.0 t) (λ over. true_false (sym over ∙ goes_on));
  unshown = refl;
}

-- such a beat leaves each block as it is, if it breaks no rule
pub passed-by : {w : ℕ} (block : ℕ) (link : Link) (x : Beat w) (t : Trace w) → AreInside t → IsLegalBeat link.0 x t
    → passes_by x (on_link link.0 t) ≡ true → PassesBy block (link, x) t
passed-by block link (Beat.A y) t inside is passing =
    let both = and_parts (not (acquires_from_none y)) _ passing in
    let none = is_false (asks y (on_link link.0 t)) both.1 in
    record {
      elsewhere = unasked-elsewhere block link y t inside none (is.unsettled none);
      held_is = request-leaves block link y t
          (λ acquires. true_false (sym acquires ∙ is_false (acquires_from_none y) both.0));
      unshown = refl;
    }
passed-by block link (Beat.B y) t inside is passing = probe-passes block link y t inside
passed-by block link (Beat.C y) t inside is passing =
    report-goes_on block link y t inside (is_false (ends (Beat.C y) (on_link link.0 t)) passing)
passed-by block link (Beat.D y) t inside is passing =
    let parts = neither (begins (Beat.D y) (on_link link.0 t) || ends (Beat.D y) (on_link link.0 t)) (is_answer y.opcode)
    passing in
    response-goes_on block link y t inside is parts.1
    (neither (begins (Beat.D y) (on_link link.0 t)) (ends (Beat.D y) (on_link link.0 t))
    (unbound y (on_link link.0 t) passing)).1
passed-by block link (Beat.E y) t inside is passing =
    ack-passes block link y t inside (λ own. given-none y.sink (unfinished Channel.D (on_link link.0 t))
    (is_false (comes_in_grant y.sink (unfinished Channel.D (on_link link.0 t))) passing))

-- and no response begins with it
pub none-begins : {w : ℕ} (n : ℕ) (link : Link) (x : Beat w) (t : Trace w)
    → passes_by x (on_link link.0 t) ≡ true → ExpectsBegun None n (link, x) t
none-begins n link x t passing y is first =
    let d = unbound y (on_link link.0 t) (rw is at passing) in
    true_false (sym first ∙ (neither (begins (Beat.D y) (on_link link.0 t)) (ends (Beat.D y) (on_link link.0 t)) d).0)

-- nothing is said anew of other responses
pub none-later : {w : ℕ} (opcode : OpD) (n link source : ℕ) (t : Trace w) → is_answer opcode ≡ false
    → ExpectsLater None n link opcode source t
none-later OpD.AccessAckData n link source t other = absurd cc
none-later v n link source t other = refl

-- nor does it bring what an access finds
pub none-along : {w : ℕ} (n : ℕ) (link : Link) (x : Beat w) (t : Trace w)
    → passes_by x (on_link link.0 t) ≡ true → ExpectsAlong None n (link, x) t
none-along n link x t passing y is later =
    none-later y.opcode n link.0 y.source t (neither (begins (Beat.D y) (on_link link.0 t)
    || ends (Beat.D y) (on_link link.0 t)) (is_answer y.opcode) (rw is at passing)).1

-- ---- what is held

response-held : {w : ℕ} (block : ℕ) (link : Link) (y : BeatD w) (t : Trace w) (ack grant : Bool)
    → is_release_ack y.opcode ≡ ack → is_grant y.opcode ≡ grant
    → (if ack then comes_in_release y.source (unfinished Channel.C (on_link link.0 t))
    else grant && ends (Beat.D y) (on_link link.0 t)) ≡ false → LeavesHeld block (link, Beat.D y) t
response-held block link y t true grant a g none =
    response-leaves block link y t (rw (grants-none y.opcode a) refl)
    (λ ack own. left-none y.source (unfinished Channel.C (on_link link.0 t)) none)
response-held block link y t false true a g goes_on =
    held-kept block (Beat.D y) (on_link link.0 t) (λ over. true_false (sym over ∙ goes_on))
response-held block link y t false false a g e =
    response-leaves block link y t (rw g refl) (λ ack. true_false (sym ack ∙ a))

-- the other beats leave it
pub held-left : {w : ℕ} (block : ℕ) (link : Link) (x : Beat w) (t : Trace w)
    → changes_held x (on_link link.0 t) ≡ false → LeavesHeld block (link, x) t
unfolding all_liberties
held-left block link (Beat.A y) t e = request-leaves block link y t (λ acquires. true_false (sym acquires ∙ e))
held-left block link (Beat.B y) t e = held-kept block (Beat.B y) (on_link link.0 t) (λ over. refl)
held-left block link (Beat.C y) t goes_on =
    held-kept block (Beat.C y) (on_link link.0 t) (λ over. true_false (sym over ∙ goes_on))
held-left block link (Beat.D y) t e = response-held block link y t (is_release_ack y.opcode) (is_grant y.opcode) refl refl e
held-left block link (Beat.E y) t e =
    ack-leaves block link y t (λ own. given-none y.sink (unfinished Channel.D (on_link link.0 t)) e)

-- and show nothing
pub held-unshown : {w : ℕ} (block : ℕ) (link : Link) (x : Beat w) (t : Trace w)
    → changes_held x (on_link link.0 t) ≡ false → shows block x (on_link link.0 t) ≡ false
held-unshown block link (Beat.A y) t e = refl
held-unshown block link (Beat.B y) t e = refl
held-unshown block link (Beat.C y) t goes_on = rw goes_on refl
held-unshown block link (Beat.D y) t e = refl
held-unshown block link (Beat.E y) t e = refl

-- ---- which beats they are

-- so many came before the beat that begins a message
pub none-before : {w : ℕ} (n : ℕ) (burst : List (Beat w)) → n ≡ length burst → (n == 0) ≡ is_empty burst
none-before n [] e = rw e refl
none-before n (x ∷ burst) e = ne_eqb n 0 (λ none. absurd (omega (arith, e, none)))
