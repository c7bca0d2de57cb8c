-- The beats of a burst that has begun.
use Rattle.std.proofs.Common.{◌≡◌, ℕ, zero, suc, Bool, true, false, not, List, [], ◌∷◌, length, ◌+◌, ◌<◌, refl, sym, ap}
use Rattle.std.proofs.Common.{ap₂, ◌∙◌, subst, arith, IsTrue, add-one}
use Rattle.std.proofs.lemmas.Bool.{ne_eqb, eq-eqb}
use Rattle.std.proofs.lemmas.Bool.Decides.{nat_tests}
use Rattle.std.specs.Prelude.{Ok, Err, ◌==◌, if◌then◌else◌, nat_lt}
use Rattle.tl_beat.specs.declared.beat.Beat.{Beat}
use Rattle.tl_beat.specs.declared.beat.Beat.TheVariants as beat
use Rattle.tl_burst.specs.declared.message.Message.{Message}
use Rattle.tl_burst.specs.declared.message.Message.TheVariants.{A, B, C, D, E}
use Rattle.tl_burst.specs.statement.Burst.{beats_of, beat_of, begun, IsBlankAfter, IsBurst, a_beat_of, b_beat_of}
use Rattle.tl_burst.specs.statement.Burst.{c_beat_of, d_beat_of}
use Rattle.tl_burst.specs.statement.Messages.{same_control, breaks_burst, burst_length, grown}
use Rattle.tl_burst.specs.statement.Part.{completes, is_empty, is_middle, part_of, place}
use Rattle.tl_burst.specs.declared.part.Broken.TheVariants.{S1}
use Rattle.tl_burst.proofs.ControlFields.{control_a, control_b, control_c, control_d}

-- the control fields are those of any beat of the message
pub control_anywhere : {w : ℕ} (x : Beat w) (m : Message w) (i : ℕ)
    → same_control x (beat_of m i) ≡ same_control x (beat_of m 0)
control_anywhere (beat.A x) (A m) i = refl
control_anywhere (beat.B x) (B m) i = refl
control_anywhere (beat.C x) (C m) i = refl
control_anywhere (beat.D x) (D m) i = refl
control_anywhere (beat.E x) (E m) i = refl
control_anywhere _ _ i = refl

not-not : (b : Bool) → not (not b) ≡ b
not-not true = refl
not-not false = refl

-- a beat with the message's control fields continues its burst
pub continues_begun : {w : ℕ} (x : Beat w) (m : Message w) (n : ℕ) → 0 < n
    → same_control x (beat_of m 0) ≡ not (breaks_burst x (begun m n))
continues_begun x m zero some = absurd (omega arith)
continues_begun x m (suc n) some = sym (control_anywhere x m n) ∙ sym (not-not (same_control x (beat_of m n)))

pub length-begun : {w : ℕ} (m : Message w) (n : ℕ) → length (begun m n) ≡ n
length-begun m zero = refl
length-begun m (suc n) = ap suc (length-begun m n)

pub begun_kept : {w : ℕ} (m m' : Message w) (n : ℕ) → ((k : ℕ) → k < n → beat_of m' k ≡ beat_of m k)
    → begun m' n ≡ begun m n
begun_kept m m' zero same = refl
begun_kept m m' (suc n) same =
    ap₂ (λ x xs. x ∷ xs) (same n (omega arith)) (begun_kept m m' n (λ k lt. same k (omega arith)))

begun-add_one : {w : ℕ} (m : Message w) (n : ℕ) → begun m (n + 1) ≡ beat_of m n ∷ begun m n
begun-add_one m n = rw add-one refl

-- m2 is m1 with the beat written at its place n, and m1 has the beats that m0 had before
pub begun_more : {w : ℕ} (m0 m1 m2 : Message w) (burst : List (Beat w)) (x : Beat w) (n : ℕ) → begun m0 n ≡ burst
    → begun m1 n ≡ begun m0 n → beat_of m2 n ≡ x
    → ((k : ℕ) → k < n → beat_of m2 k ≡ beat_of m1 k) → begun m2 (n + 1) ≡ x ∷ burst
begun_more m0 m1 m2 burst x n view kept here earlier =
    begun-add_one m2 n ∙ ap₂ (λ y ys. y ∷ ys) here (begun_kept m1 m2 n earlier ∙ kept ∙ view)

pub burst_length-is : {w : ℕ} (m : Message w) (x : Beat w) → IsTrue (same_control x (beat_of m 0))
    → burst_length x ≡ beats_of m
burst_length-is {w} (A m) (beat.A x) same = let c = control_a x (a_beat_of m 0) same in rw (c.0, c.2) refl
burst_length-is {w} (B m) (beat.B x) same = let c = control_b x (b_beat_of m 0) same in rw (c.0, c.2) refl
burst_length-is {w} (C m) (beat.C x) same = let c = control_c x (c_beat_of m 0) same in rw (c.0, c.2) refl
burst_length-is {w} (D m) (beat.D x) same = let c = control_d x (d_beat_of m 0) same in rw (c.0, c.2) refl
burst_length-is (E m) (beat.E x) same = refl
burst_length-is _ _ same = absurd cc

length_of_view : {w : ℕ} (m : Message w) (burst : List (Beat w)) (n : ℕ) → begun m n ≡ burst → length burst ≡ n
length_of_view m burst n view = ap length (sym view) ∙ length-begun m n

completes_at : {w : ℕ} (m0 m1 : Message w) (burst : List (Beat w)) (x : Beat w) (n : ℕ) → begun m0 n ≡ burst
    → IsTrue (same_control x (beat_of m1 0)) → completes x burst ≡ (n + 1 == beats_of m1)
completes_at m0 m1 burst x n view same = rw (length_of_view m0 burst n view, burst_length-is m1 x same) refl

-- a beat that isn't the last of its burst
pub completes-not_yet : {w : ℕ} (m0 m1 : Message w) (burst : List (Beat w)) (x : Beat w) (n : ℕ) → begun m0 n ≡ burst
    → IsTrue (same_control x (beat_of m1 0)) → n + 1 < beats_of m1
    → completes x burst ≡ false
completes-not_yet m0 m1 burst x n view same more = completes_at m0 m1 burst x n view same ∙ ne_eqb (n + 1) (beats_of m1)
    (λ e. omega arith)

pub completes-now : {w : ℕ} (m0 m1 : Message w) (burst : List (Beat w)) (x : Beat w) (n : ℕ) → begun m0 n ≡ burst
    → IsTrue (same_control x (beat_of m1 0)) → n + 1 ≡ beats_of m1
    → completes x burst ≡ true
completes-now m0 m1 burst x n view same last = completes_at m0 m1 burst x n view same ∙ eq-eqb (n + 1) (beats_of m1)
    last

pub grown-not_yet : {w : ℕ} (burst : List (Beat w)) (x : Beat w) → completes x burst ≡ false → grown x burst ≡ x ∷ burst
grown-not_yet burst x e = rw e refl

pub grown-now : {w : ℕ} (burst : List (Beat w)) (x : Beat w) → completes x burst ≡ true → grown x burst ≡ []
grown-now burst x e = rw e refl

-- what a beat is to a burst that has begun
pub part-later : {w : ℕ} (m : Message w) (burst : List (Beat w)) (x : Beat w) (n k : ℕ) (last : Bool)
    → begun m n ≡ burst → 0 < n → k ≡ burst_length x → (n + 1 == k) ≡ last
    → IsTrue (same_control x (beat_of m 0)) → part_of x burst ≡ Ok (place false last)
part-later m burst x zero k last view some length_is e same = absurd (omega arith)
part-later m burst x (suc n) k last view some length_is e same =
    let follows : breaks_burst x (begun m (suc n)) ≡ false = rw (control_anywhere x m n, same) refl in
    let ends : completes x (begun m (suc n)) ≡ last = rw (length-begun m (suc n), ← length_is) e in
    rw (← view, follows, ends) refl

-- a beat before which no burst has begun is the first of its own
pub part-first : {w : ℕ} (m : Message w) (burst : List (Beat w)) (x : Beat w) (n : ℕ) → begun m n ≡ burst → n ≡ 0
    → is_middle (part_of x burst) ≡ false
part-first m burst x n view none =
    let nothing : [] ≡ burst = ap (begun m) (sym none) ∙ view in
    rw (← nothing) (go (completes x []))
  where
    go : (last : Bool) → is_middle (Ok (place true last)) ≡ false
    go true = refl
    go false = refl

pub has-begun : {w : ℕ} (m : Message w) (burst : List (Beat w)) (n : ℕ) → begun m n ≡ burst
    → nat_lt 0 n ≡ not (is_empty burst)
has-begun m burst zero view = rw (← view) refl
has-begun m burst (suc n) view =
    let some : nat_lt 0 (suc n) ≡ true = grind (arith, nat_tests) in
    rw (← view, some) refl

pub part-refused : {w : ℕ} (m : Message w) (burst : List (Beat w)) (x : Beat w) (n : ℕ) → begun m n ≡ burst → 0 < n
    → same_control x (beat_of m 0) ≡ false → part_of x burst ≡ Err S1
part-refused m burst x zero view some differs = absurd (omega arith)
part-refused m burst x (suc n) view some differs =
    let breaks : breaks_burst x (begun m (suc n)) ≡ true = rw (control_anywhere x m n, differs) refl in
    rw (← view, breaks) refl

-- the beats and one more are the whole burst
pub one_more_burst : {w : ℕ} (m : Message w) (beats : List (Beat w)) (n : ℕ) → n ≡ beats_of m → begun m n ≡ beats
    → IsBlankAfter n m → IsBurst m beats
one_more_burst m beats n last burst blank = (sym burst ∙ ap (begun m) last, subst (λ k. IsBlankAfter k m) last blank)

pub is_broken : {w : ℕ} (m : Message w) (burst : List (Beat w)) (n : ℕ) (x : Beat w) → begun m n ≡ burst
    → false ≡ not (breaks_burst x (begun m n)) → breaks_burst x burst ≡ true
is_broken m burst n x view negated = rw (← view) (go (breaks_burst x (begun m n)) negated)
  where
    go : (b : Bool) → false ≡ not b → b ≡ true
    go true e = refl
    go false e = e

-- a beat that goes on with a burst continues it, and doesn't complete it
pub record GoesOn {w : ℕ} (x : Beat w) (burst : List (Beat w)) : Type 0 where
  pub begun_before : is_empty burst ≡ false
  pub continues : breaks_burst x burst ≡ false
  pub leaves_more : completes x burst ≡ false

pub middle-goes_on : {w : ℕ} (x : Beat w) (burst : List (Beat w)) → is_middle (part_of x burst) ≡ true → GoesOn x burst
middle-goes_on {w} x burst is = go (breaks_burst x burst) refl (is_empty burst) refl (completes x burst) refl is
  where
    go : (b : Bool) → breaks_burst x burst ≡ b → (m : Bool) → is_empty burst ≡ m → (l : Bool) → completes x burst ≡ l
        → is_middle (if b then Err S1 else Ok (place m l)) ≡ true → GoesOn x burst
    go true broken m begins l last e = absurd cc
    go false broken true begins true last e = absurd cc
    go false broken true begins false last e = absurd cc
    go false broken false begins true last e = absurd cc
    go false broken false begins false last e = record { begun_before = begins; continues = broken; leaves_more = last }
