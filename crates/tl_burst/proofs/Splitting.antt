-- The beats of a channel split into messages and a rest in one way.
use Rattle.std.proofs.Common.{◌≡◌, ℕ, zero, suc, Bool, true, false, List, [], ◌∷◌, ◌++◌, length, take, drop, ◌+◌, ◌/◌}
use Rattle.std.proofs.Common.{◌<◌, ◌^◌, ◌==◌, refl, sym, ap, ap₂, ◌∙◌, arith, cond, inl, inr, nat_lt}
use Rattle.std.specs.Prelude.{if◌then◌else◌}
use Rattle.std.proofs.lemmas.Bool.{ltb-true, eq-eqb, ne_eqb}
use Rattle.std.proofs.lemmas.List.{take_at, drop_at, append_cancel_left}
use Rattle.std.proofs.lemmas.Nat.{le-div}
use Rattle.std.proofs.lemmas.Bool.{eqb-true, true≢false}
use Rattle.std.specs.Prelude.{Option, Some, None, Result, Ok}
use Rattle.std.specs.Bool.{beq}
use Rattle.tl_beat.specs.statement.Opcode.{a_code, b_code, c_code, d_code}
use Rattle.tl_burst.specs.statement.Burst.{IsBlankAfter}
use Rattle.tl_burst.specs.statement.Messages.{same_control, breaks_burst}
use Rattle.tl_burst.specs.statement.Part.{completes}
use Rattle.tl_burst.specs.declared.part.Broken.{Broken}
use Rattle.tl_beat.specs.statement.Width.{IsWidth}
use Rattle.tl_beat.specs.statement.Opcode.{a_carries_data, b_carries_data, c_carries_data, d_carries_data}
use Rattle.tl_beat.specs.declared.beat.Beat.{Beat}
use Rattle.tl_beat.specs.declared.channel.Channel.{Channel}
use Rattle.tl_burst.specs.declared.message.Message.{Message}
use Rattle.tl_burst.specs.declared.message.Message.TheVariants.{A, B, C, D, E}
use Rattle.tl_burst.specs.statement.Burst.{data_beats, beats_of, beat_of, begun, burst_of, IsBurst}
use Rattle.tl_burst.specs.statement.Messages.{History, burst_length, grown, unfinished, carried_on, on, bursts}
use Rattle.tl_burst.specs.statement.Messages.{AllWhole, Splits}
use Rattle.tl_burst.proofs.Begun.{length-begun}
use Rattle.tl_burst.proofs.Whole.{burst_decides}

some_beats : (w n : ℕ) (more : Bool) → IsWidth w → nat_lt w n ≡ more → 0 < cond more (n / w) 1
some_beats w n false width e = omega arith
some_beats w n true width e = le-div 1 n w (positive w width) (omega (arith, ltb-true w n e))
  where
    positive : (w : ℕ) → IsWidth w → 0 < w
    positive w (inl e) = omega arith
    positive w (inr (inl e)) = omega arith
    positive w (inr (inr e)) = omega arith

pub some_data_beats : (w size : ℕ) (carries : Bool) → IsWidth w → 0 < cond carries (data_beats w size) 1
some_data_beats w size true width = some_beats w (2 ^ size) (nat_lt w (2 ^ size)) width refl
some_data_beats w size false width = omega arith

pub beats-positive : {w : ℕ} (m : Message w) → IsWidth w → 0 < beats_of m
beats-positive {w} (A m) width = some_data_beats w m.size (a_carries_data m.opcode) width
beats-positive {w} (B m) width = some_data_beats w m.size (b_carries_data m.opcode) width
beats-positive {w} (C m) width = some_data_beats w m.size (c_carries_data m.opcode) width
beats-positive {w} (D m) width = some_data_beats w m.size (d_carries_data m.opcode) width
beats-positive (E m) width = omega arith

pub length-of_beat : {w : ℕ} (m : Message w) (i : ℕ) → burst_length (beat_of m i) ≡ beats_of m
length-of_beat (A m) i = refl
length-of_beat (B m) i = refl
length-of_beat (C m) i = refl
length-of_beat (D m) i = refl
length-of_beat (E m) i = refl

-- what is unfinished of the beats of one channel
abbrev rest_of : {w : ℕ} → List (Beat w) → List (Beat w)
rest_of [] = []
rest_of (x ∷ t) = grown x (rest_of t)

rest-carried_on : {w : ℕ} (ch : Channel) (t : History w) → rest_of (carried_on ch t) ≡ unfinished ch t
unfolding carried_on unfinished
rest-carried_on ch [] = refl
rest-carried_on ch (x ∷ t) = go (on ch x) (rest-carried_on ch t)
  where
    go : (here : Bool) → rest_of (carried_on ch t) ≡ unfinished ch t
        → rest_of (if here then x ∷ carried_on ch t else carried_on ch t) ≡ (if here then grown x (unfinished ch t) else
        unfinished ch t)
    go true e = ap (grown x) e
    go false e = e

-- the beats of a message before its last, after whole messages
rest-begun : {w : ℕ} (m : Message w) (t : List (Beat w)) (n : ℕ) → rest_of t ≡ [] → n < beats_of m
    → rest_of (begun m n ++ t) ≡ begun m n
rest-begun m t zero none lt = none
rest-begun m t (suc n) none lt =
    let before : rest_of (begun m n ++ t) ≡ begun m n = rest-begun m t n none (omega arith) in
    let open_still : (length (begun m n) + 1 == burst_length (beat_of m n)) ≡ false =
    rw (length-begun m n, length-of_beat m n) (ne_eqb (n + 1) (beats_of m) (λ e. omega arith)) in
    ap (grown (beat_of m n)) before ∙ rw open_still refl

rest-burst : {w : ℕ} (m : Message w) (t : List (Beat w)) (n : ℕ) → rest_of t ≡ [] → beats_of m ≡ suc n
    → rest_of (begun m (suc n) ++ t) ≡ []
rest-burst m t n none len =
    let before : rest_of (begun m n ++ t) ≡ begun m n = rest-begun m t n none (omega arith) in
    let closed : (length (begun m n) + 1 == burst_length (beat_of m n)) ≡ true =
    rw (length-begun m n, length-of_beat m n) (eq-eqb (n + 1) (beats_of m) (omega arith)) in
    ap (grown (beat_of m n)) before ∙ rw closed refl

rest-whole : {w : ℕ} (m : Message w) (t : List (Beat w)) (n : ℕ) → n ≡ beats_of m → rest_of t ≡ []
    → rest_of (begun m n ++ t) ≡ []
rest-whole m t zero len none = none
rest-whole m t (suc n) len none = rest-burst m t n none (sym len)

rest-bursts : {w : ℕ} (ms : List (Message w)) → rest_of (bursts ms) ≡ []
unfolding bursts
rest-bursts [] = refl
rest-bursts (m ∷ ms) = rest-whole m (bursts ms) (beats_of m) refl (rest-bursts ms)

rest-split : {w : ℕ} (beats : List (Beat w)) (ms : List (Message w)) (rest : List (Beat w)) → Splits beats ms rest
    → rest_of beats ≡ rest
rest-split beats ms rest s =
    let begins = s.rest_begins in
    rw (s.whole, begins.3) (rest-begun begins.0 (bursts ms) begins.1 (rest-bursts ms) begins.2)

-- the rest is what is unfinished on the channel
pub split-unfinished : {w : ℕ} (ch : Channel) (t : History w) (ms : List (Message w)) (rest : List (Beat w))
    → Splits (carried_on ch t) ms rest → rest ≡ unfinished ch t
split-unfinished ch t ms rest s = sym (rest-split (carried_on ch t) ms rest s) ∙ rest-carried_on ch t

-- bursts that begin with one beat have one length
same_lengths : {w : ℕ} (m k : Message w) (xs ys : List (Beat w)) (n l : ℕ) → n ≡ beats_of m → l ≡ beats_of k → 0 < n
    → 0 < l → begun m n ++ xs ≡ begun k l ++ ys → n ≡ l
same_lengths m k xs ys zero l a b p q e = absurd (omega arith)
same_lengths m k xs ys (suc n) zero a b p q e = absurd (omega arith)
same_lengths m k xs ys (suc n) (suc l) a b p q e =
    let heads : beat_of m n ≡ beat_of k l = cc in
    a ∙ sym (length-of_beat m n) ∙ ap burst_length heads ∙ length-of_beat k l ∙ sym b

same_messages : {w : ℕ} (ms ks : List (Message w)) → IsWidth w → bursts ms ≡ bursts ks → AllWhole ms → AllWhole ks
    → ms ≡ ks
unfolding bursts
same_messages [] [] width e a b = refl
same_messages [] (k ∷ ks) width e a b = absurd (no_burst k (bursts ks) (beats_of k) (beats-positive k width) e)
  where
    no_burst : {w : ℕ} (m : Message w) (t : List (Beat w)) (n : ℕ) → 0 < n → [] ≡ begun m n ++ t → ⊥
    no_burst m t zero some e = omega arith
    no_burst m t (suc n) some e = cc
same_messages (m ∷ ms) [] width e a b = absurd (no_burst m (bursts ms) (beats_of m) (beats-positive m width) (sym e))
  where
    no_burst : {w : ℕ} (m : Message w) (t : List (Beat w)) (n : ℕ) → 0 < n → [] ≡ begun m n ++ t → ⊥
    no_burst m t zero some e = omega arith
    no_burst m t (suc n) some e = cc
same_messages (m ∷ ms) (k ∷ ks) width e a b =
    let len : beats_of m ≡ beats_of k = same_lengths m k (bursts ms) (bursts ks) (beats_of m) (beats_of k) refl refl
    (beats-positive m width) (beats-positive k width) e in
    let len_m = length-begun m (beats_of m) in
    let len_k : length (burst_of k) ≡ beats_of m = length-begun k (beats_of k) ∙ sym len in
    let first : burst_of m ≡ burst_of k = sym (take_at (burst_of m) (bursts ms) (beats_of m) len_m) ∙ ap
    (take (beats_of m)) e ∙ take_at (burst_of k) (bursts ks) (beats_of m) len_k in
    let others : bursts ms ≡ bursts ks = sym (drop_at (burst_of m) (bursts ms) (beats_of m) len_m) ∙ ap
    (drop (beats_of m)) e ∙ drop_at (burst_of k) (bursts ks) (beats_of m) len_k in
    let is_k : IsBurst k (burst_of m) = (first, b.0.1) in
    ap₂ (λ x xs. x ∷ xs) (burst_decides m k (burst_of m) (beats-positive m width) a.0 is_k)
    (same_messages ms ks width others a.1 b.1)

-- one list of beats splits in one way
pub split_once : {w : ℕ} (beats : List (Beat w)) (ms ks : List (Message w)) (rest other : List (Beat w)) → IsWidth w
    → Splits beats ms rest → Splits beats ks other → (ms ≡ ks) × (rest ≡ other)
split_once beats ms ks rest other width s t =
    let rests : rest ≡ other = sym (rest-split beats ms rest s) ∙ rest-split beats ks other t in
    let wholes : bursts ms ≡ bursts ks =
    append_cancel_left rest (bursts ms) (bursts ks) (sym s.whole ∙ t.whole ∙ ap (λ r. r ++ bursts ks) (sym rests))
    in
    (same_messages ms ks width wholes s.messages_are_whole t.messages_are_whole, rests)

-- A whole message that has come as far as beat i, and what its next beat makes of it.
pub split_grows : {w : ℕ} (beats : List (Beat w)) (ms : List (Message w)) (rest : List (Beat w)) (m : Message w)
    (x : Beat w) (n : ℕ) → x ∷ rest ≡ begun m n → n < beats_of m
    → Splits beats ms rest → Splits (x ∷ beats) ms (x ∷ rest)
split_grows beats ms rest m x n begun_is lt s = record {
  whole = ap (λ t. x ∷ t) s.whole;
  messages_are_whole = s.messages_are_whole;
  rest_begins = (m, n, lt, begun_is);
}

pub split_closes : {w : ℕ} (beats : List (Beat w)) (ms : List (Message w)) (rest : List (Beat w)) (m : Message w)
    (x : Beat w) → IsWidth w → IsBurst m (x ∷ rest) → Splits beats ms rest
    → Splits (x ∷ beats) (m ∷ ms) []
unfolding bursts
split_closes beats ms rest m x width is_m s = record {
  whole = ap (λ t. x ∷ t) s.whole ∙ ap (λ t. t ++ bursts ms) is_m.0;
  messages_are_whole = ((refl, is_m.1), s.messages_are_whole);
  rest_begins = (m, 0, beats-positive m width, refl);
}

pub control_own : {w : ℕ} (m : Message w) (i k : ℕ) → same_control (beat_of m i) (beat_of m k) ≡ true
control_own (A m) i k =
    rw (
      eq-eqb (a_code m.opcode) (a_code m.opcode) refl,
      eq-eqb m.param m.param refl,
      eq-eqb m.size m.size refl,
      eq-eqb
          m.source m.source refl,
      eq-eqb m.address m.address refl,
    ) refl
control_own (B m) i k =
    rw (
      eq-eqb (b_code m.opcode) (b_code m.opcode) refl,
      eq-eqb m.param m.param refl,
      eq-eqb m.size m.size refl,
      eq-eqb
          m.source m.source refl,
      eq-eqb m.address m.address refl,
    ) refl
control_own (C m) i k =
    rw (
      eq-eqb (c_code m.opcode) (c_code m.opcode) refl,
      eq-eqb m.param m.param refl,
      eq-eqb m.size m.size refl,
      eq-eqb
          m.source m.source refl,
      eq-eqb m.address m.address refl,
    ) refl
control_own (D m) i k =
    rw (
      eq-eqb (d_code m.opcode) (d_code m.opcode) refl,
      eq-eqb m.param m.param refl,
      eq-eqb m.size m.size refl,
      eq-eqb
          m.source m.source refl,
      eq-eqb m.sink m.sink refl,
    ) (same_with_self m.denied)
  where
    same_with_self : (b : Bool) → beq b b ≡ true
    same_with_self true = refl
    same_with_self false = refl
control_own (E m) i k = eq-eqb m.sink m.sink refl

-- a message's next beat continues its burst
own_continues : {w : ℕ} (m : Message w) (i : ℕ) → breaks_burst (beat_of m i) (begun m i) ≡ false
own_continues m zero = refl
own_continues m (suc i) = rw (control_own m (suc i) i) refl

own_completes : {w : ℕ} (m : Message w) (i : ℕ) → completes (beat_of m i) (begun m i) ≡ (i + 1 == beats_of m)
own_completes m i = rw (length-begun m i, length-of_beat m i) refl

-- What an assembler answers to the next beat of a whole message.
abbrev pub answer_for : {w : ℕ} → Message w → ℕ → Result (Option (Message w)) Broken
answer_for m i = Ok (if i + 1 == beats_of m then Some m else None)

pub own-refused : {w : ℕ} (burst : List (Beat w)) (x : Beat w) (m : Message w) (i : ℕ) → breaks_burst x burst ≡ true
    → burst ≡ begun m i → x ≡ beat_of m i → ⊥
own-refused burst x m i breaks begun_is beat_is =
    let same : breaks_burst x burst ≡ false = rw (begun_is, beat_is) (own_continues m i) in
    true≢false (sym breaks ∙ same)

pub own-not_yet : {w : ℕ} (burst : List (Beat w)) (x : Beat w) (m : Message w) (i : ℕ) → completes x burst ≡ false
    → burst ≡ begun m i → x ≡ beat_of m i → Ok None ≡ answer_for m i
own-not_yet burst x m i open_still begun_is beat_is =
    let same : (i + 1 == beats_of m) ≡ false = sym (own_completes m i) ∙ rw (begun_is, beat_is) at open_still in
    rw same refl

pub own-now : {w : ℕ} (burst : List (Beat w)) (x : Beat w) (k m : Message w) (i : ℕ) → IsWidth w
    → completes x burst ≡ true → IsBurst k (x ∷ burst) → burst ≡ begun m i → x ≡ beat_of m i
    → IsBlankAfter (beats_of m) m → Ok (Some k) ≡ answer_for m i
own-now burst x k m i width closes is_k begun_is beat_is blank =
    let same : (i + 1 == beats_of m) ≡ true = sym (own_completes m i) ∙ rw (begun_is, beat_is) at closes in
    let last : suc i ≡ beats_of m = (let e = eqb-true (i + 1) (beats_of m) same in omega (arith, e)) in
    let is_m : IsBurst m (x ∷ burst) = (ap₂ (λ y ys. y ∷ ys) beat_is begun_is ∙ ap (begun m) last, blank) in
    rw same (ap (λ l. Ok (Some l)) (burst_decides k m (x ∷ burst) (beats-positive k width) is_k is_m))
