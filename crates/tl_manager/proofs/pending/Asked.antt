-- What is pending after a beat of a request.
use Rattle.tl_manager.proofs.Imports.{a_carries_data, Beat, BeatA, OpA, first_if, History, unfinished, breaks_burst}
use Rattle.tl_manager.proofs.Imports.{same_control, is_empty, RequestSource, Profile, S1, broken_in_order, broken_order}
use Rattle.tl_manager.proofs.Imports.{comes_in_request, begins, ends, is_acquire, pending, request_of, next_rule}
use Rattle.tl_manager.proofs.Imports.{one_if, HasFields, IsBegun}
use Rattle.std.proofs.Common.{◌≡◌, ℕ, ◌+◌, ◌==◌, Bool, true, false, not, ◌&&◌, List, [], ◌∷◌, Option, Some, None, refl}
use Rattle.std.proofs.Common.{sym, ap, subst, ◌∙◌, arith}
use Rattle.std.specs.Prelude.{if◌then◌else◌}
use Rattle.std.proofs.lemmas.Bool.{eqb-true, eq-eqb, not-false}
use Rattle.tl_beat.specs.declared.channel.Channel.{Channel}
use Rattle.tl_burst.proofs.ControlFields.{control_a}
use Rattle.tl_params.specs.declared.rule.Rule.TheVariants.{H1}
use Rattle.tl_manager.proofs.pending.LinkHistories.{pending-opened}

-- ---- the first beat and the later ones

-- what a beat of channel A is that breaks no rule of order: the first of a request whose source is free, or one that
-- has
-- the control fields of those before it
pub data Place {w : ℕ} (x : BeatA w) (t : History w) : Type 0 where
  First : unfinished Channel.A t ≡ [] → pending (RequestSource x.source) t ≡ false → Place x t
  Later : (y : BeatA w) (burst : List (Beat w)) → unfinished Channel.A t ≡ Beat.A y ∷ burst
      → IsBegun t (Beat.A y ∷ burst)
      → (x.opcode ≡ y.opcode) × (x.param ≡ y.param) × (x.size ≡ y.size) × (x.source ≡ y.source)
      × (x.address ≡ y.address) → Place x t

pub placed : {w : ℕ} (p : Profile) (x : BeatA w) (t : History w) → broken_in_order p (Beat.A x) t ≡ None
    → IsBegun t (unfinished Channel.A t) → Place x t
unfolding broken_order
placed {w} p x t order begun = go (unfinished Channel.A t) refl order begun
  where
    go : (burst : List (Beat w)) → unfinished Channel.A t ≡ burst
        → (if is_empty burst then broken_order p (Beat.A x) t else first_if (breaks_burst (Beat.A x) burst) S1 None)
        ≡ None
        → IsBegun t burst → Place x t
    go [] e f ok = First e (next_rule (pending (RequestSource x.source) t) H1 _ f).0
    go (Beat.A y ∷ burst) e f ok =
        let same = not-false (same_control (Beat.A x) (Beat.A y)) (next_rule (not (same_control (Beat.A x) (Beat.A y)))
        S1 None f).0 in
        Later y burst e ok (control_a x y (rw same refl))
    go v e f ok = absurd ok

-- ---- the request that it is of

-- with fields that are the same
fields-same : {w : ℕ} (x y : BeatA w) (o : Option (BeatA w)) → (x.opcode ≡ y.opcode) × (x.param ≡ y.param)
    × (x.size ≡ y.size) × (x.source ≡ y.source) × (x.address ≡ y.address)
    → HasFields y.opcode y.param y.size y.source y.address o → HasFields x.opcode x.param x.size x.source x.address o
fields-same x y None same ok = absurd ok
fields-same x y (Some z) same ok =
    (ok.0 ∙ sym same.0, ok.1 ∙ sym same.1, ok.2 ∙ sym same.2, ok.3 ∙ sym same.3, ok.4 ∙ sym same.4)

pub fields-now : {w : ℕ} (x : BeatA w) (t : History w) → Place x t
    → HasFields x.opcode x.param x.size x.source x.address (request_of x.source (Beat.A x ∷ t))
unfolding request_of
fields-now {w} x t (First none free) = rw (none, eq-eqb x.source x.source refl) (refl, refl, refl, refl, refl)
fields-now {w} x t (Later y burst is begun same) =
    rw is (subst (λ (s : ℕ). HasFields x.opcode x.param x.size x.source x.address (request_of s t)) (sym same.3)
    (fields-same x y (request_of y.source t) same begun.1))

-- an Acquire is one beat
pub acquire_alone : (opcode : OpA) → is_acquire opcode ≡ true → a_carries_data opcode ≡ false
acquire_alone OpA.PutFullData e = absurd cc
acquire_alone OpA.PutPartialData e = absurd cc
acquire_alone OpA.ArithmeticData e = absurd cc
acquire_alone OpA.LogicalData e = absurd cc
acquire_alone v e = refl

pub acquire_first : {w : ℕ} (x : BeatA w) (t : History w) → Place x t → is_acquire x.opcode ≡ true
    → unfinished Channel.A t ≡ []
acquire_first x t (First none free) e = none
acquire_first x t (Later y burst is begun same) e =
    absurd (let no : is_acquire x.opcode ≡ false = ap is_acquire same.0 ∙ begun.0 in cc)

pub acquire_whole : {w : ℕ} (x : BeatA w) (t : History w) → Place x t → is_acquire x.opcode ≡ true
    → (begins (Beat.A x) t ≡ true) × (ends (Beat.A x) t ≡ true)
acquire_whole x t place e = rw (acquire_first x t place e, acquire_alone x.opcode e) (refl, refl)

-- ---- the unfinished request

pub unfinished-last : {w : ℕ} (x : BeatA w) (t : History w) → ends (Beat.A x) t ≡ true
    → unfinished Channel.A (Beat.A x ∷ t) ≡ []
unfolding unfinished
unfinished-last x t e = rw e refl

pub unfinished-more : {w : ℕ} (x : BeatA w) (t : History w) → ends (Beat.A x) t ≡ false
    → unfinished Channel.A (Beat.A x ∷ t) ≡ Beat.A x ∷ unfinished Channel.A t
unfolding unfinished
unfinished-more x t e = rw e refl

pub begun-now : {w : ℕ} (x : BeatA w) (t : History w) → Place x t
    → IsBegun (Beat.A x ∷ t) (unfinished Channel.A (Beat.A x ∷ t))
begun-now {w} x t place = go (ends (Beat.A x) t) refl
  where
    access : (b : Bool) → is_acquire x.opcode ≡ b → ends (Beat.A x) t ≡ false → b ≡ false
    access true e f = absurd (let whole = acquire_whole x t place e in let last : ends (Beat.A x) t ≡ true = whole.1 in
        cc)
    access false e f = refl

    go : (b : Bool) → ends (Beat.A x) t ≡ b → IsBegun (Beat.A x ∷ t) (unfinished Channel.A (Beat.A x ∷ t))
    go true e = subst (IsBegun (Beat.A x ∷ t)) (sym (unfinished-last x t e)) tt
    go false e = subst (IsBegun (Beat.A x ∷ t)) (sym (unfinished-more x t e))
        (access (is_acquire x.opcode) refl e, fields-now x t place)

-- ---- its source

-- with this many services that ask with a source, the beat is one more that does
pub source-now : {w : ℕ} (x : BeatA w) (t : History w) (q n : ℕ) → Place x t
    → one_if (comes_in_request q (unfinished Channel.A t)) + n ≡ one_if (pending (RequestSource q) t)
    → one_if (x.source == q) + n ≡ one_if (pending (RequestSource q) (Beat.A x ∷ t))
source-now {w} x t q n (First none free) before =
    let count : 0 + n ≡ one_if (pending (RequestSource q) t) = rw none at before in
    rw (pending-opened (RequestSource q) (Beat.A x) t refl, none) (go (x.source == q) refl count)
  where
    go : (b : Bool) → (x.source == q) ≡ b → 0 + n ≡ one_if (pending (RequestSource q) t)
        → one_if b + n ≡ one_if (if b then true else pending (RequestSource q) t)
    go true e count =
        let same : x.source ≡ q = eqb-true x.source q e in
        let no : pending (RequestSource q) t ≡ false = ap (λ i. pending (RequestSource i) t) (sym same) ∙ free in
        let none_asks : one_if (pending (RequestSource q) t) ≡ 0 = ap one_if no in
        omega (arith, count, none_asks)
    go false e count = count
source-now {w} x t q n (Later y burst is begun same) before =
    rw (pending-opened (RequestSource q) (Beat.A x) t refl, is, same.3) (rw is at before)

-- what comes of the source once the beat is taken
pub comes-now : {w : ℕ} (x : BeatA w) (t : History w) (q : ℕ)
    → comes_in_request q (unfinished Channel.A (Beat.A x ∷ t)) ≡ (not (ends (Beat.A x) t) && (x.source == q))
comes-now {w} x t q = go (ends (Beat.A x) t) refl
  where
    go : (b : Bool) → ends (Beat.A x) t ≡ b
        → comes_in_request q (unfinished Channel.A (Beat.A x ∷ t)) ≡ (not b && (x.source == q))
    go true e = ap (comes_in_request q) (unfinished-last x t e)
    go false e = ap (comes_in_request q) (unfinished-more x t e)
