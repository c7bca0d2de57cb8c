-- What responses answer on a link where no beat broke a rule, and what its complete requests ask for.
use Rattle.tl_memory.proofs.Imports.{Beat, BeatA, BeatD, History, breaks_burst, burst_length, same_control, unfinished}
use Rattle.tl_memory.proofs.Imports.{is_empty, control_a, Level, request_fields, Request}
use Rattle.tl_memory.proofs.Imports.{all_liberties, broken_after_under, is_legal_under, block_at, ends, is_release_ack}
use Rattle.std.proofs.Common.{◌≡◌, ℕ, Bool, true, false, ◌&&◌, List, [], ◌∷◌, length, Some, None, refl, sym, ap}
use Rattle.std.specs.Prelude.{is_some}
use Rattle.std.proofs.Common.{◌∙◌, ◌⊎◌, inl, inr, subst}
use Rattle.std.specs.Prelude.{if◌then◌else◌, ◌==◌, ◌+◌}
use Rattle.std.proofs.lemmas.Bool.{eq-eqb, not-false}
use Rattle.tl_beat.specs.declared.channel.Channel.{Channel}
use Rattle.tl_rules.{specs.code.Tables.kept_request, proofs.Tables.pending-request}
use Rattle.tl_params.specs.declared.key.Key.TheVariants.{RequestSource}
use Rattle.tl_rules.specs.statement.History.{pending}
use Rattle.tl_memory.proofs.Imports.{request_of}
use Rattle.tl_memory.proofs.lawful.Lawful.{goes_on, legal-parts}
use Rattle.tl_memory.proofs.lawful.Open.{IsAnswering, ack-whole, as_before, begun-answering, completes_answer}
use Rattle.tl_memory.proofs.lawful.Open.{kept-still}

-- ---- responses

pub same_head : {X : Type 0} (x y : X) (xs ys : List X) → x ∷ xs ≡ y ∷ ys → x ≡ y
same_head x y xs ys e = cc

pub same_d : {w : ℕ} (y z : BeatD w) → Beat.D z ≡ Beat.D y → z ≡ y
same_d y z e = cc

-- the beats of a burst of channel D are of channel D
pub goes_on_d : {w : ℕ} (y : BeatD w) (z : Beat w) (burst : List (Beat w))
    → breaks_burst (Beat.D y) (z ∷ burst) ≡ false → (v : BeatD w) × (z ≡ Beat.D v)
goes_on_d y (Beat.D z) burst e = (z, refl)
goes_on_d y v burst e = absurd cc

-- a beat of a response that isn't a ReleaseAck answers an open request
answering-from : {w : ℕ} (l : Level) (y : BeatD w) (t : History w) → broken_after_under all_liberties l (Beat.D y) t ≡ None
    → ((z : BeatD w) (older : List (Beat w)) → unfinished Channel.D t ≡ Beat.D z ∷ older → IsAnswering z t)
    → (is_release_ack y.opcode ≡ false) ⊎ (is_empty (unfinished Channel.D t) ≡ false) → IsAnswering y t
answering-from {w} l y t fine before either = go (unfinished Channel.D t) refl (goes_on l (Beat.D y) t fine) either
  where
    go : (burst : List (Beat w)) → unfinished Channel.D t ≡ burst → breaks_burst (Beat.D y) burst ≡ false
        → (is_release_ack y.opcode ≡ false) ⊎ (is_empty burst ≡ false) → IsAnswering y t
    go [] is e (inl other) = begun-answering l y t fine (ap is_empty is) other
    go [] is e (inr some) = absurd cc
    go (z ∷ burst) is e either =
        let of_d = goes_on_d y z burst e in
        as_before y of_d.0 burst t (rw of_d.1 at e) (before of_d.0 burst (rw of_d.1 at is))

pub unended : {w : ℕ} (y : BeatD w) (t : History w) → ends (Beat.D y) t ≡ false
    → completes_answer y.source (Beat.D y) t ≡ false
unended y t e = rw e refl

-- a ReleaseAck is complete with its first beat
later : {w : ℕ} (z : BeatD w) (t : History w) → ends (Beat.D z) t ≡ false → (ack : Bool) → is_release_ack z.opcode ≡ ack
    → (burst : List (Beat w)) → unfinished Channel.D t ≡ burst
    → (is_release_ack z.opcode ≡ false) ⊎ (is_empty (unfinished Channel.D t) ≡ false)
later z t last false e burst f = inl e
later z t last true e (v ∷ burst) f = inr (ap is_empty f)
later z t last true e [] f =
    let whole : (length (unfinished Channel.D t) + 1 == burst_length (Beat.D z)) ≡ true = rw (f, ack-whole z e) refl in
    absurd (let no : true ≡ false = sym whole ∙ last in cc)

-- so does one that isn't complete, with one more beat
answering-more : {w : ℕ} (l : Level) (x : Beat w) (t : History w) → broken_after_under all_liberties l x t ≡ None
    → ((z : BeatD w) (older : List (Beat w)) → unfinished Channel.D t ≡ Beat.D z ∷ older → IsAnswering z t)
    → (y : BeatD w) (older : List (Beat w)) → unfinished Channel.D (x ∷ t) ≡ Beat.D y ∷ older → IsAnswering y (x ∷ t)
unfolding unfinished
answering-more {w} l x t fine before y older is = go x fine is
  where
    still : (x : Beat w) (y : BeatD w) → broken_after_under all_liberties l x t ≡ None → completes_answer y.source x t ≡ false
        → IsAnswering y t → IsAnswering y (x ∷ t)
    still x y fine e k = record {
      asked = k.asked;
      kept = kept-still l y.source k.asked x t fine k.kept e;
      admitted = k.admitted;
      sized = k.sized;
    }

    goes : (z : BeatD w) → broken_after_under all_liberties l (Beat.D z) t ≡ None → ends (Beat.D z) t ≡ false
        → IsAnswering z (Beat.D z ∷ t)
    goes z fine last = still (Beat.D z) z fine (unended z t last) (answering-from l z t fine before
        (later z t last (is_release_ack z.opcode) refl (unfinished Channel.D t) refl))

    more : (z : BeatD w) → broken_after_under all_liberties l (Beat.D z) t ≡ None → (last : Bool) → ends (Beat.D z) t ≡ last
        → (if last then [] else Beat.D z ∷ unfinished Channel.D t) ≡ Beat.D y ∷ older → IsAnswering y (Beat.D z ∷ t)
    more z fine true last is = absurd cc
    more z fine false last is =
        let same : z ≡ y = same_d y z (same_head (Beat.D z) (Beat.D y) (unfinished Channel.D t) older is) in
        subst (λ v. IsAnswering v (Beat.D z ∷ t)) same (goes z fine last)

    go : (x : Beat w) → broken_after_under all_liberties l x t ≡ None → unfinished Channel.D (x ∷ t) ≡ Beat.D y ∷ older
        → IsAnswering y (x ∷ t)
    go (Beat.D z) fine is = more z fine (ends (Beat.D z) t) refl is
    go (Beat.A z) fine is = still (Beat.A z) y fine refl (before y older is)
    go (Beat.B z) fine is = still (Beat.B z) y fine refl (before y older is)
    go (Beat.C z) fine is = still (Beat.C z) y fine refl (before y older is)
    go (Beat.E z) fine is = still (Beat.E z) y fine refl (before y older is)

pub answering : {w : ℕ} (l : Level) (t : History w) (y : BeatD w) (older : List (Beat w))
    → is_legal_under all_liberties l t ≡ true → unfinished Channel.D t ≡ Beat.D y ∷ older → IsAnswering y t
unfolding unfinished
answering l [] y older legal is = absurd cc
answering l (x ∷ t) y older legal is =
    let parts = legal-parts l x t legal in
    answering-more l x t parts.0 (λ z earlier e. answering l t z earlier parts.1 e) y older is

-- each beat of a response that isn't a ReleaseAck does
pub is-answering : {w : ℕ} (l : Level) (y : BeatD w) (t : History w) → is_legal_under all_liberties l t ≡ true
    → broken_after_under all_liberties l (Beat.D y) t ≡ None → is_release_ack y.opcode ≡ false → IsAnswering y t
is-answering l y t legal fine other =
    answering-from l y t fine (λ z older e. answering l t z older legal e) (inl other)

-- and each that isn't the last
pub answering-unended : {w : ℕ} (l : Level) (y : BeatD w) (t : History w) → is_legal_under all_liberties l t ≡ true
    → broken_after_under all_liberties l (Beat.D y) t ≡ None → ends (Beat.D y) t ≡ false → IsAnswering y t
answering-unended l y t legal fine last =
    answering-from l y t fine (λ z older e. answering l t z older legal e)
    (later y t last (is_release_ack y.opcode) refl (unfinished Channel.D t) refl)

-- ---- requests

same_a : {w : ℕ} (y z : BeatA w) → Beat.A z ≡ Beat.A y → z ≡ y
same_a y z e = cc

same_fields : {w : ℕ} (x y : BeatA w) → same_control (Beat.A x) (Beat.A y) ≡ true
    → request_fields (Some y) ≡ request_fields (Some x)
same_fields x y e = let same = control_a x y e in rw (same.0, same.1, same.2, same.4) refl

-- the request whose beats are unfinished on channel A is the last one with its source
abbrev pub IsLast : {w : ℕ} → BeatA w → History w → Type 0
IsLast y t = request_fields (request_of y.source t) ≡ request_fields (Some y)

-- so it is with a beat of channel A
with_request : {w : ℕ} (l : Level) (x : BeatA w) (t : History w) → broken_after_under all_liberties l (Beat.A x) t ≡ None
    → ((y : BeatA w) (older : List (Beat w)) → unfinished Channel.A t ≡ Beat.A y ∷ older → IsLast y t)
    → IsLast x (Beat.A x ∷ t)
unfolding request_of
with_request {w} l x t fine before = go (unfinished Channel.A t) refl (goes_on l (Beat.A x) t fine)
  where
    go : (burst : List (Beat w)) → unfinished Channel.A t ≡ burst → breaks_burst (Beat.A x) burst ≡ false
        → request_fields (if is_empty burst && (x.source == x.source) then Some x else request_of x.source t)
        ≡ request_fields (Some x)
    go [] is e = rw (eq-eqb x.source x.source refl) refl
    go (Beat.A y ∷ older) is e =
        let goes = not-false (same_control (Beat.A x) (Beat.A y)) e in
        let same = control_a x y goes in
        rw same.3 (before y older is) ∙ same_fields x y goes
    go v is e = absurd cc

last-more : {w : ℕ} (l : Level) (x : Beat w) (t : History w) → broken_after_under all_liberties l x t ≡ None
    → ((z : BeatA w) (older : List (Beat w)) → unfinished Channel.A t ≡ Beat.A z ∷ older → IsLast z t)
    → (y : BeatA w) (older : List (Beat w)) → unfinished Channel.A (x ∷ t) ≡ Beat.A y ∷ older → IsLast y (x ∷ t)
unfolding unfinished request_of
last-more {w} l (Beat.A z) t fine before y older is = more (ends (Beat.A z) t) is
  where
    more : (last : Bool) → (if last then [] else Beat.A z ∷ unfinished Channel.A t) ≡ Beat.A y ∷ older
        → IsLast y (Beat.A z ∷ t)
    more true is = absurd cc
    more false is =
        let same : z ≡ y = same_a y z (same_head (Beat.A z) (Beat.A y) (unfinished Channel.A t) older is) in
        subst (λ v. IsLast v (Beat.A z ∷ t)) same (with_request l z t fine before)
last-more l (Beat.B z) t fine before y older is = before y older is
last-more l (Beat.C z) t fine before y older is = before y older is
last-more l (Beat.D z) t fine before y older is = before y older is
last-more l (Beat.E z) t fine before y older is = before y older is

pub last-request : {w : ℕ} (l : Level) (t : History w) (y : BeatA w) (older : List (Beat w))
    → is_legal_under all_liberties l t ≡ true → unfinished Channel.A t ≡ Beat.A y ∷ older → IsLast y t
unfolding unfinished
last-request l [] y older legal is = absurd cc
last-request l (x ∷ t) y older legal is =
    let parts = legal-parts l x t legal in
    last-more l x t parts.0 (λ z earlier e. last-request l t z earlier parts.1 e) y older is

-- the request that these fields stand for
abbrev pub fields_of : {w : ℕ} → BeatA w → Request
fields_of x = record { opcode = x.opcode; param = x.param; size = x.size; block = block_at x.address }

-- with a beat of channel A its request is the last one
pub last-now : {w : ℕ} (l : Level) (x : BeatA w) (t : History w) → is_legal_under all_liberties l t ≡ true
    → broken_after_under all_liberties l (Beat.A x) t ≡ None → IsLast x (Beat.A x ∷ t)
last-now l x t legal fine = with_request l x t fine (λ y older e. last-request l t y older legal e)

-- so that it is kept if it is pending
pub kept-now : {w : ℕ} (l : Level) (x : BeatA w) (t : History w) → is_legal_under all_liberties l t ≡ true
    → broken_after_under all_liberties l (Beat.A x) t ≡ None → pending (RequestSource x.source) (Beat.A x ∷ t) ≡ true
    → kept_request x.source (Beat.A x ∷ t) ≡ Some (fields_of x)
kept-now l x t legal fine waits = rw waits (last-now l x t legal fine)

-- so it was where one with its source was kept before
pub kept-same : {w : ℕ} (l : Level) (x : BeatA w) (asked : Request) (t : History w)
    → is_legal_under all_liberties l t ≡ true → broken_after_under all_liberties l (Beat.A x) t ≡ None
    → kept_request x.source t ≡ Some asked → asked ≡ fields_of x
kept-same l x asked t legal fine kept =
    let now = kept-still l x.source asked (Beat.A x) t fine kept refl in
    same_request (sym now ∙ kept-now l x t legal fine (pending-request x.source (Beat.A x ∷ t) ∙ ap is_some now))
  where
    same_request : {a b : Request} → Some a ≡ Some b → a ≡ b
    same_request e = cc
