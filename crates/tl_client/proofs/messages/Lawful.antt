-- A beat that goes on with a response that breaks no rule by itself breaks none.
use Rattle.tl_client.proofs.Imports.{Beat, BeatD, Channel, Level, A3, L1, first_if, ok_unless, illegal}
use Rattle.tl_client.proofs.Imports.{is_sent_on, same_control, next_rule}
use Rattle.std.proofs.Common.{◌≡◌, ℕ, Bool, true, false, List, [], ◌∷◌, None, refl, sym}
use Rattle.std.specs.Prelude.{Ok, not, ◌||◌, ◌&&◌}
use Rattle.std.specs.Bool.{OnTrue}
use Rattle.std.proofs.lemmas.Bool.{not-false}
use Rattle.tl_beat.specs.declared.beat.Beat.TheVariants as beat
use Rattle.tl_beat.specs.declared.channel.Channel.TheVariants as channel
use Rattle.tl_burst.specs.statement.Part.{is_middle, part_of}
use Rattle.tl_burst.proofs.Begun.{GoesOn, middle-goes_on}
use Rattle.tl_burst.proofs.ControlFields.{control_d}
use Rattle.tl_params.specs.declared.rule.Rule.TheVariants.{L2, L3}
use Rattle.tl_params.proofs.Refusals.{none_broken}
use Rattle.tl_rules.specs.statement.Admission.{is_spoiled}
use Rattle.tl_rules.specs.statement.Legality.{d_of_level, d_has_param, d_has_sink, d_has_size}
use Rattle.tl_client.specs.code.Lawful.{is_lawful}
use Rattle.tl_client.proofs.messages.Sound.{none_of}

-- ---- a beat that goes on with the response

both_false : (a b : Bool) → (a || b) ≡ false → (a ≡ false) × (b ≡ false)
both_false false b e = (refl, e)
both_false true b e = absurd cc

lawful_later : {w : ℕ} (l : Level) (x y : BeatD w) → illegal l channel.D (beat.D y) ≡ None
    → same_control (beat.D x) (beat.D y) ≡ true → is_spoiled (beat.D x) ≡ false
    → illegal l channel.D (beat.D x) ≡ None
unfolding illegal
lawful_later {w} l x y legal same clean =
    let k = control_d x y same in
    let bits = both_false x.corrupt x.denied clean in
    let one = next_rule (not (d_of_level l y.opcode)) L1 _ legal in
    let two = next_rule (not (d_has_param y.opcode y.param && d_has_sink y.opcode y.sink)) L2 _ one.1 in
    let three = next_rule (not (d_has_size w l y.opcode y.size)) L3 _ two.1 in
    rw (bits.0, bits.1, k.0, k.1, k.2, k.4, one.0, two.0, three.0) refl

lawful_next : {w : ℕ} (l : Level) (x : BeatD w) (burst : List (Beat w)) → GoesOn (beat.D x) burst
    → is_spoiled (beat.D x) ≡ false → is_lawful l burst ≡ true → illegal l channel.D (beat.D x) ≡ None
lawful_next l x [] goes clean lawful = let e = goes.begun_before in absurd cc
lawful_next l x (beat.D y ∷ burst) goes clean lawful =
    lawful_later l x y (none_of (illegal l channel.D (beat.D y)) lawful)
    (not-false (same_control (beat.D x) (beat.D y)) goes.continues) clean
lawful_next l x (beat.A y ∷ burst) goes clean lawful = let e = goes.continues in absurd cc
lawful_next l x (beat.B y ∷ burst) goes clean lawful = let e = goes.continues in absurd cc
lawful_next l x (beat.C y ∷ burst) goes clean lawful = let e = goes.continues in absurd cc
lawful_next l x (beat.E y ∷ burst) goes clean lawful = let e = goes.continues in absurd cc

-- what a middle beat is, where it isn't spoiled
pub lawful-middle : {w : ℕ} (x : Beat w) (y : BeatD w) (burst : List (Beat w)) (b : Bool) → x ≡ beat.D y
    → is_spoiled x ≡ false → b ≡ is_middle (part_of x burst)
    → OnTrue b ((l : Level) → is_lawful l burst ≡ true → illegal l channel.D x ≡ None)
lawful-middle x y burst true is clean middle = λ l lawful.
    rw is (lawful_next l y burst (middle-goes_on (beat.D y) burst (sym (rw is at middle))) (rw is at clean) lawful)
lawful-middle x y burst false is clean middle = tt

-- the same at the client's level
pub lawful-here : {w : ℕ} (l : Level) (x : Beat w) (burst : List (Beat w)) (b : Bool) → is_lawful l burst ≡ true
    → OnTrue b ((k : Level) → is_lawful k burst ≡ true → illegal k channel.D x ≡ None)
    → OnTrue b (illegal l channel.D x ≡ None)
lawful-here l x burst true lawful middle = middle l lawful
lawful-here l x burst false lawful middle = tt

-- ---- a beat that breaks no rule whatever passed before

on_d : {w : ℕ} (l : Level) (ch : Channel) (x : BeatD w) → illegal l ch (beat.D x) ≡ None
    → illegal l channel.D (beat.D x) ≡ None
unfolding illegal
on_d l channel.A x e = absurd cc
on_d l channel.B x e = absurd cc
on_d l channel.C x e = absurd cc
on_d l channel.D x e = e
on_d l channel.E x e = absurd cc

pub lawful-alone : {w : ℕ} (closed : Bool) (l : Level) (ch : Channel) (x : Beat w) (y : BeatD w)
    → Ok tt ≡ ok_unless (first_if closed A3 (first_if (is_sent_on ch) L1 (illegal l ch x))) → x ≡ beat.D y
    → illegal l channel.D x ≡ None
lawful-alone closed l ch x y passes is =
    let live = next_rule closed A3 _ (none_broken _ passes) in
    let comes = next_rule (is_sent_on ch) L1 _ live.1 in
    rw is (on_d l ch y (rw is at comes.1))
