-- What is kept of unfinished bursts, with one more beat.
use Rattle.std.proofs.Common.{◌≡◌, ℕ, zero, suc, ◌≢◌, ◌<◌, ◌+◌, ◌-◌, Bool, true, false, refl, sym, ap, ◌∙◌, arith, inl}
use Rattle.std.proofs.Common.{inr}
use Rattle.std.specs.Prelude.{if◌then◌else◌, [], ◌∷◌, ◌==◌, nat_le, length, List, Option, Some, None, is_none, IsTrue}
use Rattle.std.proofs.lemmas.Bool.{cases_Bool, cases_eq, eq-eqb, ne_eqb, lt-leb, not-false}
use Rattle.tl_beat.specs.statement.Width.{IsWidth}
use Rattle.tl_beat.specs.declared.beat.Beat.{Beat}
use Rattle.tl_beat.specs.declared.beat.Beat.TheVariants.{A, B, C, D, E}
use Rattle.tl_beat.specs.declared.channel.Channel.{Channel}
use Rattle.tl_beat.specs.declared.channel.Channel.TheVariants as channel
use Rattle.tl_burst.specs.statement.Messages.{History, channel_of, on, unfinished, grown, breaks_burst, same_control}
use Rattle.tl_burst.specs.statement.Messages.{burst_length}
use Rattle.tl_burst.specs.statement.Part.{is_empty, completes}
use Rattle.tl_burst.proofs.ControlFields.{control_a, control_b, control_c, control_d}
use Rattle.tl_burst.proofs.Splitting.{some_data_beats}
use Rattle.tl_beat.specs.statement.Opcode.{a_carries_data, b_carries_data, c_carries_data, d_carries_data}
use Rattle.tl_beat.specs.statement.Control.{control_of}
use Rattle.tl_monitor.specs.code.Bursts.{IsOf, beside_first, is_last, left_after, burst_next, burst_with}
use Rattle.tl_monitor.specs.declared.bursts.Unfinished.{Unfinished}

-- ---- how long bursts are

pub burst-positive : {w : ℕ} (x : Beat w) → IsWidth w → 0 < burst_length x
burst-positive {w} (A x) width = some_data_beats w x.size (a_carries_data x.opcode) width
burst-positive {w} (B x) width = some_data_beats w x.size (b_carries_data x.opcode) width
burst-positive {w} (C x) width = some_data_beats w x.size (c_carries_data x.opcode) width
burst-positive {w} (D x) width = some_data_beats w x.size (d_carries_data x.opcode) width
burst-positive (E x) width = omega arith

is_true : (b : Bool) → b ≡ true → IsTrue b
is_true true e = refl
is_true false e = absurd cc

-- beats with the same control fields are of bursts of the same length
pub burst-same : {w : ℕ} (x y : Beat w) → same_control x y ≡ true → burst_length x ≡ burst_length y
burst-same (A x) (A y) e = let c = control_a x y (is_true (same_control (A x) (A y)) e) in rw (c.0, c.2) refl
burst-same (B x) (B y) e = let c = control_b x y (is_true (same_control (B x) (B y)) e) in rw (c.0, c.2) refl
burst-same (C x) (C y) e = let c = control_c x y (is_true (same_control (C x) (C y)) e) in rw (c.0, c.2) refl
burst-same (D x) (D y) e = let c = control_d x y (is_true (same_control (D x) (D y)) e) in rw (c.0, c.2) refl
burst-same (E x) (E y) e = refl
burst-same (A x) (B y) e = absurd cc
burst-same (A x) (C y) e = absurd cc
burst-same (A x) (D y) e = absurd cc
burst-same (A x) (E y) e = absurd cc
burst-same (B x) (A y) e = absurd cc
burst-same (B x) (C y) e = absurd cc
burst-same (B x) (D y) e = absurd cc
burst-same (B x) (E y) e = absurd cc
burst-same (C x) (A y) e = absurd cc
burst-same (C x) (B y) e = absurd cc
burst-same (C x) (D y) e = absurd cc
burst-same (C x) (E y) e = absurd cc
burst-same (D x) (A y) e = absurd cc
burst-same (D x) (B y) e = absurd cc
burst-same (D x) (C y) e = absurd cc
burst-same (D x) (E y) e = absurd cc
burst-same (E x) (A y) e = absurd cc
burst-same (E x) (B y) e = absurd cc
burst-same (E x) (C y) e = absurd cc
burst-same (E x) (D y) e = absurd cc

-- a beat continues a burst: they have the same control fields, where there is one
pub same-length : {w : ℕ} (x y : Beat w) (beats : List (Beat w)) → breaks_burst x (y ∷ beats) ≡ false
    → burst_length x ≡ burst_length y
same-length x y beats e = burst-same x y (not-false (same_control x y) e)

-- ---- first and last beats

pub first-is : {w : ℕ} {P : Type 0} (u : Option (Unfinished P)) (beats : List (Beat w)) → IsOf u beats → is_empty beats ≡ is_none u
first-is None beats e = rw e refl
first-is (Some u) beats (x, earlier, e, same, long, more) = rw e refl

last-length : {w : ℕ} {P : Type 0} (x : Beat w) (u : Option (Unfinished P)) (beats : List (Beat w)) → IsWidth w → IsOf u beats
    → breaks_burst x beats ≡ false → length beats + suc (left_after x u) ≡ burst_length x
last-length x None beats width e cont = let p = burst-positive x width in let z : length beats ≡ 0 = ap length e in
    omega (arith, p, z)
last-length {w} x (Some u) beats width (y, earlier, e, same, long, more) cont =
    let cont' : breaks_burst x (y ∷ earlier) ≡ false = rw e at cont in
    let l = same-length x y earlier cont' in
    omega (arith, l, long, more)

ends_where : (n left length : ℕ) → n + suc left ≡ length → (n + 1 == length) ≡ (left == 0)
ends_where n left length e = elim (cases_eq left 0) [
  | inl none ↦ let here : n + 1 ≡ length = omega (arith, none) in eq-eqb (n + 1) length here ∙ sym (eq-eqb left 0 none)
  | inr some ↦ let apart : n + 1 ≢ length = λ here. some (omega (arith, here)) in
      ne_eqb (n + 1) length apart ∙ sym (ne_eqb left 0 some)
]

at_most : (n : ℕ) → nat_le n 1 ≡ (n - 1 == 0)
at_most zero = refl
at_most (suc zero) = refl
at_most (suc (suc n)) = leb-false' n
  where
    leb-false' : (n : ℕ) → nat_le (suc (suc n)) 1 ≡ (suc (suc n) - 1 == 0)
    leb-false' n = let apart : suc (suc n) - 1 ≢ 0 = λ e. omega (arith, e) in
        lt-leb (suc (suc n)) 1 (omega arith) ∙ sym (ne_eqb (suc (suc n) - 1) 0 apart)

last-is_zero : {w : ℕ} {P : Type 0} (x : Beat w) (u : Option (Unfinished P)) → is_last x u ≡ (left_after x u == 0)
last-is_zero x None = at_most (burst_length x)
last-is_zero x (Some u) = at_most u.left

pub last-is : {w : ℕ} {P : Type 0} (x : Beat w) (u : Option (Unfinished P)) (beats : List (Beat w)) → IsWidth w → IsOf u beats
    → breaks_burst x beats ≡ false → completes x beats ≡ is_last x u
last-is x u beats width of cont = ends_where (length beats) (left_after x u) (burst_length x)
    (last-length x u beats width of cont) ∙ sym (last-is_zero x u)

-- ---- the burst with one more beat

of_next : {w : ℕ} {P : Type 0} (x : Beat w) (p : P) (beats : List (Beat w)) (left : ℕ) (done : Bool)
    → length beats + suc left ≡ burst_length x → done ≡ (left == 0)
    → IsOf (if left == 0 then None else Some (record { control = control_of x; left = left; beside = p }))
    (if done then [] else x ∷ beats)
of_next x p beats left done long e = elim (cases_eq left 0) [
  | inl none ↦ rw (e, eq-eqb left 0 none) refl
  | inr some ↦ rw (e, ne_eqb left 0 some) (x, beats, refl, refl, omega arith, omega (arith, some))
]

pub of-next : {w : ℕ} {P : Type 0} (x : Beat w) (p : P) (u : Option (Unfinished P)) (beats : List (Beat w)) → IsWidth w → IsOf u beats
    → breaks_burst x beats ≡ false → IsOf (burst_next x p u) (grown x beats)
of-next x p u beats width of cont =
    let long = last-length x u beats width of cont in
    of_next x (beside_first p u) beats (left_after x u) (completes x beats) long
    (ends_where (length beats) (left_after x u) (burst_length x) long)

of_with : {w : ℕ} {P : Type 0} (ch : Channel) (x : Beat w) (p : P) (u : Option (Unfinished P)) (beats : List (Beat w)) → IsOf u beats
    → (on ch x ≡ true → IsOf (burst_next x p u) (grown x beats))
    → IsOf (burst_with ch x p u) (if on ch x then grown x beats else beats)
of_with ch x p u beats of next = elim (cases_Bool (on ch x)) [
  | inl here ↦ rw here (next here)
  | inr other ↦ rw other of
]

pub own-channel : {w : ℕ} (ch : Channel) (x : Beat w) → on ch x ≡ true → ch ≡ channel_of x
own-channel channel.A (A x) e = refl
own-channel channel.B (B x) e = refl
own-channel channel.C (C x) e = refl
own-channel channel.D (D x) e = refl
own-channel channel.E (E x) e = refl
own-channel channel.A (B x) e = absurd cc
own-channel channel.A (C x) e = absurd cc
own-channel channel.A (D x) e = absurd cc
own-channel channel.A (E x) e = absurd cc
own-channel channel.B (A x) e = absurd cc
own-channel channel.B (C x) e = absurd cc
own-channel channel.B (D x) e = absurd cc
own-channel channel.B (E x) e = absurd cc
own-channel channel.C (A x) e = absurd cc
own-channel channel.C (B x) e = absurd cc
own-channel channel.C (D x) e = absurd cc
own-channel channel.C (E x) e = absurd cc
own-channel channel.D (A x) e = absurd cc
own-channel channel.D (B x) e = absurd cc
own-channel channel.D (C x) e = absurd cc
own-channel channel.D (E x) e = absurd cc
own-channel channel.E (A x) e = absurd cc
own-channel channel.E (B x) e = absurd cc
own-channel channel.E (C x) e = absurd cc
own-channel channel.E (D x) e = absurd cc

-- what is kept of each channel's burst, with one more beat
pub bursts-next : {w : ℕ} {P : Type 0} (ch : Channel) (x : Beat w) (p : P) (t : History w) (u : Option (Unfinished P)) → IsWidth w
    → IsOf u (unfinished ch t) → breaks_burst x (unfinished (channel_of x) t) ≡ false
    → IsOf (burst_with ch x p u) (unfinished ch (x ∷ t))
unfolding unfinished
bursts-next ch x p t u width of cont = of_with ch x p u (unfinished ch t) of (λ here.
    let own : ch ≡ channel_of x = own-channel ch x here in
    let cont' : breaks_burst x (unfinished ch t) ≡ false = ap (λ c. breaks_burst x (unfinished c t)) own ∙ cont in
    of-next x p u (unfinished ch t) width of cont')
