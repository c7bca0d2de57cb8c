-- A beat in the middle of a response breaks no rule.
use Rattle.std.proofs.Common.{◌≡◌, ℕ, Bool, true, false, Some, None, refl, sym, ap, List, length, ◌<◌, arith, ◌∙◌}
use Rattle.std.proofs.lemmas.Bool.{or_parts}
use Rattle.std.proofs.lemmas.List.{length-map}
use Rattle.std.specs.Prelude.{not, ◌&&◌, ◌||◌, Result, Ok, Err, Option, if◌then◌else◌, ◌==◌, slice_index_or, ⊤}
use Rattle.tl_beat.specs.declared.beat.Beat.{Beat}
use Rattle.tl_beat.specs.declared.beat.Beat.TheVariants as beat
use Rattle.tl_beat.specs.declared.beat.BeatD.{BeatD}
use Rattle.tl_beat.specs.declared.channel.Channel.{Channel}
use Rattle.tl_beat.specs.declared.channel.Channel.TheVariants as channel
use Rattle.tl_beat.specs.statement.Control.{control_of, has_control}
use Rattle.tl_burst.specs.statement.Messages.{History, channel_of, unfinished, same_control}
use Rattle.tl_burst.proofs.ControlFields.{control_d}
use Rattle.tl_params.specs.declared.level.Level.{Level}
use Rattle.tl_params.specs.declared.liberties.Liberties.{Liberties}
use Rattle.tl_params.specs.declared.rule.Rule.{Rule}
use Rattle.tl_params.specs.declared.rule.Rule.TheVariants.{L1, L2, L3}
use Rattle.tl_params.specs.statement.Refusal.{ok_unless}
use Rattle.tl_params.proofs.Refusals.{none_broken}
use Rattle.tl_rules.specs.statement.Liberties.{broken_after_under, illegal_under}
use Rattle.tl_rules.specs.statement.Legality.{d_of_level, d_has_param, d_has_sink, d_has_size}
use Rattle.tl_rules.proofs.Bursts.{next_rule}
use Rattle.tl_monitor.specs.code.Bursts.{IsOf, beside_first, burst_next, burst_with, left_after}
use Rattle.tl_monitor.specs.code.Keeps.{Keeps, TakesBeat}
use Rattle.tl_monitor.specs.code.Lawful.{IsLawful, AreLawful}
use Rattle.tl_monitor.specs.declared.bursts.Unfinished.{Unfinished}
use Rattle.tl_monitor.specs.declared.link_state.LinkState.{LinkState}
use Rattle.tl_monitor.specs.declared.monitor.MonitoredLink.{MonitoredLink}
use Rattle.tl_monitor.specs.code.Fresh.{AreEmpty}

-- a beat that goes on with a response that breaks no rule by itself breaks none by itself
lawful_later : {w : ℕ} (lib : Liberties) (l : Level) (x y : BeatD w) → illegal_under lib l channel.D (beat.D y) ≡ None
    → same_control (beat.D x) (beat.D y) ≡ true → x.corrupt ≡ false → x.denied ≡ false
    → illegal_under lib l channel.D (beat.D x) ≡ None
unfolding illegal_under
lawful_later {w} lib l x y legal same clean granted =
    let k = control_d x y same in
    let one = next_rule (not (d_of_level l y.opcode)) L1 _ legal in
    let two = next_rule (not (d_has_param y.opcode y.param && (lib.sinks || d_has_sink y.opcode y.sink))) L2 _ one.1 in
    let three = next_rule (not (d_has_size w l y.opcode y.size)) L3 _ two.1 in
    rw (clean, granted, k.0, k.1, k.2, k.4, one.0, two.0, three.0) refl

-- nor after what has passed
pub middle-passes : {w : ℕ} (k : LinkState) (lib : Liberties) (l : Level) (x : Beat w) (y : BeatD w) (u : Unfinished ⊤)
    (t : History w) → x ≡ beat.D y → k.bursts.d ≡ Some u → has_control x u.control ≡ true → y.corrupt ≡ false
    → y.denied ≡ false → IsLawful w lib l k.bursts.d → Keeps lib k t → None ≡ broken_after_under lib l x t
unfolding broken_after_under
middle-passes {w} k lib l x y u t own some same clean granted lawful keeps =
    let of : IsOf (Some u) (unfinished channel.D t) = rw some at (keeps.bursts_are channel.D) in
    let (z, earlier, beats, control, long, more) = of in
    let like : has_control (beat.D y) u.control ≡ true = rw own at same in
    let passes : illegal_under lib l channel.D (beat.D y) ≡ None = lawful u some y like (rw (clean, granted) refl) in
    rw (own, passes, beats, ← control, like) refl

next_lawful : {w : ℕ} (lib : Liberties) (l : Level) (y : BeatD w) (u : Option (Unfinished ⊤)) → illegal_under lib l channel.D (beat.D y) ≡ None
    → IsLawful w lib l (burst_next (beat.D y) tt u)
next_lawful {w} lib l y u legal = go (left_after (beat.D y) u == 0)
  where
    go : (done : Bool)
        → IsLawful w lib l (if done then None else Some (record { control = control_of (beat.D y); left = left_after (beat.D y) u; beside = beside_first tt u }))
    go true = λ v is x same clean. absurd cc
    go false = λ v is x same clean.
        let one : record { control = control_of (beat.D y); left = left_after (beat.D y) u; beside = beside_first tt u } ≡ v = cc in
        let bits = or_parts x.corrupt x.denied clean in
        lawful_later lib l x y legal (rw (← ap (λ (b : Unfinished ⊤). b.control) one) at same) bits.0 bits.1

with_lawful : {w : ℕ} (lib : Liberties) (l : Level) (x : Beat w) (u : Option (Unfinished ⊤)) → illegal_under lib l (channel_of x) x ≡ None
    → IsLawful w lib l u → IsLawful w lib l (burst_with channel.D x tt u)
with_lawful lib l (beat.A x) u legal lawful = lawful
with_lawful lib l (beat.B x) u legal lawful = lawful
with_lawful lib l (beat.C x) u legal lawful = lawful
with_lawful lib l (beat.D x) u legal lawful = next_lawful lib l x u legal
with_lawful lib l (beat.E x) u legal lawful = lawful

-- what is unfinished after a beat that breaks no rule by itself is lawful as before
pub lawful-taken : {w : ℕ} {E : Type 0} (lib : Liberties) (old new : LinkState) (l : Level) (ch : Channel) (x : Beat w)
    (r : Result (Option Rule) E) → Ok tt ≡ ok_unless (illegal_under lib l ch x) → ch ≡ channel_of x → TakesBeat lib old x new r
    → IsLawful w lib l old.bursts.d → IsLawful w lib l new.bursts.d
lawful-taken {w} lib old new l ch x (Ok None) passes own takes lawful =
    let legal : illegal_under lib l (channel_of x) x ≡ None = rw own at (none_broken (illegal_under lib l ch x) passes) in
    rw (takes.bursts_are channel.D) (with_lawful lib l x old.bursts.d legal lawful)
lawful-taken lib old new l ch x (Ok (Some rule)) passes own takes lawful = rw takes lawful
lawful-taken lib old new l ch x (Err e) passes own takes lawful = rw takes.0 lawful

-- ---- of the links of a monitor

pub lawful-of : {w : ℕ} (lib : Liberties) (links : List MonitoredLink) (n : ℕ) (link : MonitoredLink) → n < length links
    → link ≡ slice_index_or links n link → AreLawful w lib links → IsLawful w lib link.level link.state.bursts.d
lawful-of lib links n link lt is lawful = rw is (lawful n link lt)

pub lawful-new : {w : ℕ} (lib : Liberties) (levels : List Level) (links : List MonitoredLink) → AreEmpty levels links → AreLawful w lib links
lawful-new lib levels links empty n d lt u some =
    let count : length links ≡ length levels = sym (length-map links (λ link. link.level)) ∙ ap length empty.levels_are in
    absurd (let none = (empty.all_empty n d (omega (arith, count))).no_burst channel.D in cc)
