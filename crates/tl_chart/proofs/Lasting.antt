-- Before the window nothing is let go behind a beat that asks.
use Rattle.std.proofs.Common.{◌≡◌, ◌<◌, ◌≤◌, ◌&&◌, ◌==◌, ℕ, Bool, true, false, not, List, [], ◌∷◌, ◌++◌}
use Rattle.std.proofs.Common.{refl, sym, ap, ap₂, arith, map, ◌∙◌}
use Rattle.std.proofs.lemmas.Bool.{cond_both, le-ltb, lt-ltb, not-false}
use Rattle.std.proofs.lemmas.List.Elements.{All-head, All-map, All-nil, All-push, All-same, All-tail, All-weaker}
use Rattle.std.proofs.lemmas.List.Elements.{filter_passes}
use Rattle.std.specs.Prelude.{All, filter, if◌then◌else◌, length, nat_lt, Option, ◌||◌}
use Rattle.tl_beat.specs.declared.beat.Beat.{Beat}
use Rattle.tl_beat.specs.declared.beat.Beat.TheVariants as beat
use Rattle.tl_beat.specs.declared.beat.Link.{Link}
use Rattle.tl_beat.specs.declared.control.Control.{Control}
use Rattle.tl_beat.specs.declared.control.Control.TheVariants as control
use Rattle.tl_beat.specs.declared.opcode.OpC.{OpC}
use Rattle.tl_beat.specs.declared.opcode.OpC.TheVariants as c
use Rattle.tl_beat.specs.statement.Control.{control_of}
use Rattle.tl_chart.specs.code.Gathered.{Gathers}
use Rattle.tl_chart.specs.code.Lasting.{AreLasting, asks, lets_go}
use Rattle.tl_chart.specs.code.Moment.{IsMoment}
use Rattle.tl_chart.specs.declared.arrow.Arrow.{Arrow}
use Rattle.tl_chart.specs.declared.arrow.Moment.{Moment}
use Rattle.tl_chart.specs.declared.gatherer.Gatherer.{Gatherer}
use Rattle.tl_chart.specs.declared.window.Window.{Window}
use Rattle.tl_chart.specs.statement.Drawn.{Drawn, Holding, answers, closes, drawn, drawn_more, is_open, noted}
use Rattle.tl_chart.specs.statement.Drawn.{noted_by, skipped, starts, wants_answer, with_beat, within}
use Rattle.tl_chart.specs.statement.Messages.{continued, is_of, message_block, message_from}
use Rattle.tl_explain.specs.statement.Evidence.{next_line}
use Rattle.tl_rules.specs.statement.Conformance.{Trace, on_link}
use Rattle.tl_rules.specs.statement.History.{begins, ends, is_probe_ack, is_release}

abbrev Last : List Arrow → Type 0
Last arrows = All (λ m. is_open m ≡ true) arrows

-- a list of which each passes a test
filter_all : {X : Type 0} (p : X → Bool) (xs : List X) → All (λ x. p x ≡ true) xs → filter p xs ≡ xs
filter_all p [] all = refl
filter_all p (x ∷ xs) all =
    rw (All-head (λ y. p y ≡ true) x xs all)
    (ap (λ ys. x ∷ ys) (filter_all p xs (All-tail (λ y. p y ≡ true) x xs all)))

-- ---- a beat that asks

release_asks : (o : OpC) → is_release o ≡ true → is_probe_ack o ≡ false
release_asks c.Release e = refl
release_asks c.ReleaseData e = refl
release_asks c.AccessAck e = absurd cc
release_asks c.AccessAckData e = absurd cc
release_asks c.HintAck e = absurd cc
release_asks c.ProbeAck e = absurd cc
release_asks c.ProbeAckData e = absurd cc

asks_only : {w : ℕ} (x : Beat w) (block : Option ℕ) (m : Control) (of : Option ℕ) → asks x ≡ true
    → answers x block m of ≡ false
asks_only (beat.A x) block m of e = refl
asks_only (beat.B x) block m of e = refl
asks_only (beat.C x) block (control.A y) of e = refl
asks_only (beat.C x) block (control.B y) of e = rw (release_asks x.opcode e) refl
asks_only (beat.C x) block (control.C y) of e = refl
asks_only (beat.C x) block (control.D y) of e = refl
asks_only (beat.C x) block (control.E y) of e = refl
asks_only (beat.D x) block m of e = absurd cc
asks_only (beat.E x) block m of e = absurd cc

asks_wants : {w : ℕ} (x : Beat w) → asks x ≡ true → wants_answer (control_of x) ≡ true
asks_wants (beat.A x) e = refl
asks_wants (beat.B x) e = e
asks_wants (beat.C x) e = e
asks_wants (beat.D x) e = absurd cc
asks_wants (beat.E x) e = absurd cc

-- ---- a beat that lets nothing go

none_answered : {w : ℕ} (first last : Bool) (x : Beat w) (block : Option ℕ) (m : Control) (of : Option ℕ)
    → (last && not (first && asks x)) ≡ false → (last && answers x block m of) ≡ false
none_answered first false x block m of e = refl
none_answered true true x block m of e = asks_only x block m of (not-false (asks x) e)
none_answered false true x block m of e = absurd cc

begun_lasts : {w : ℕ} (last : Bool) (x : Beat w) → (last && not (asks x)) ≡ false
    → (not last || (wants_answer (control_of x) && true)) ≡ true
begun_lasts false x e = refl
begun_lasts true x e = rw (asks_wants x (not-false (asks x) e)) refl

continued_lasts : {w : ℕ} (x : Link × Beat w) (t : Trace w) (m : Arrow) → ends x.1 (on_link x.0.0 t) ≡ false
    → is_open m ≡ true → is_open (continued x t m) ≡ true
continued_lasts x t m over lasts =
    cond_both (is_of x m) (record m { last = next_line t; complete = ends x.1 (on_link x.0.0 t) }) m
    (λ n. is_open n ≡ true) (λ is. rw over refl) (λ is. lasts)

-- what is drawn lasts behind it
all_with : {w : ℕ} (win : Window) (x : Link × Beat w) (t : Trace w) (arrows : List Arrow)
    → (ends x.1 (on_link x.0.0 t) && not (begins x.1 (on_link x.0.0 t) && asks x.1)) ≡ false → Last arrows
    → Last (with_beat win x t arrows)
all_with win x t arrows none lasting =
    go (begins x.1 (on_link x.0.0 t)) (ends x.1 (on_link x.0.0 t))
    (starts win x t && nat_lt (length arrows) win.most) refl none
  where
    go : (first last shown : Bool) → ends x.1 (on_link x.0.0 t) ≡ last → (last && not (first && asks x.1)) ≡ false
        → Last (if first then (if shown then arrows ++ message_from x t ∷ [] else arrows) else
        map (continued x t) arrows)
    go true last true is e =
        let begun : is_open (message_from x t) ≡ true = rw is (begun_lasts last x.1 e) in
        All-push (λ m. is_open m ≡ true) arrows (message_from x t) lasting begun
    go true last false is e = lasting
    go false false shown is e =
        All-map (λ m. is_open m ≡ true) (continued x t) arrows
        (All-weaker (λ m. is_open m ≡ true) (λ m. is_open (continued x t m) ≡ true)
        (λ m lasts. continued_lasts x t m is lasts) arrows lasting)
    go false true shown is e = absurd cc

unanswered : (before same : Bool) → (before || (same && false)) ≡ before
unanswered true same = refl
unanswered false true = refl
unanswered false false = refl

-- a message that a beat doesn't answer is as it was
noted_not : {w : ℕ} (link : Link) (last : Bool) (x : Beat w) (block : Option ℕ) (m : Arrow)
    → (last && answers x block m.control m.block) ≡ false → noted_by link last x block m ≡ m
noted_not link last x block m none = rw (none, unanswered m.answered (m.link.0 == link.0)) refl

map_none : {X : Type 0} (f : X → X) (xs : List X) → ((x : X) → f x ≡ x) → map f xs ≡ xs
map_none f [] same = refl
map_none f (x ∷ xs) same = ap₂ (λ y ys. y ∷ ys) (same x) (map_none f xs same)

-- so all of it stays
pub all_stays : {w : ℕ} (win : Window) (m : Moment) (x : Link × Beat w) (t : Trace w) (arrows : List Arrow)
    → IsMoment m x t → lets_go m x.1 ≡ false → m.line < win.first → AreLasting win m.line arrows
    → with_beat win x t arrows ≡ within win x t (with_beat win x t arrows)
all_stays win m x t arrows is nothing before lasting =
    let none : (ends x.1 (on_link x.0.0 t) && not (begins x.1 (on_link x.0.0 t) && asks x.1)) ≡ false =
    sym (ap₂ (λ (first last : Bool). last && not (first && asks x.1)) is.first_is is.last_is) ∙ nothing in
    let early : nat_lt (next_line t) win.first ≡ true = rw (← is.line_is) (lt-ltb m.line win.first before) in
    let as_were : map (noted x t) (with_beat win x t arrows) ≡ with_beat win x t arrows =
    map_none (noted x t) (with_beat win x t arrows)
    (λ n. noted_not x.0 (ends x.1 (on_link x.0.0 t)) x.1 (message_block x.1 (on_link x.0.0 t)) n
    (none_answered (begins x.1 (on_link x.0.0 t)) (ends x.1 (on_link x.0.0 t)) x.1
    (message_block x.1 (on_link x.0.0 t)) n.control n.block none)) in
    rw (early, as_were)
    (sym (filter_all is_open (with_beat win x t arrows) (all_with win x t arrows none (lasting before))))

-- from the window's first line on all of it stays
pub all_inside : {w : ℕ} (win : Window) (m : Moment) (x : Link × Beat w) (t : Trace w) (arrows : List Arrow)
    → IsMoment m x t → win.first ≤ m.line → arrows ≡ within win x t arrows
all_inside win m x t arrows is inside =
    let late : nat_lt (next_line t) win.first ≡ false = rw (← is.line_is) (le-ltb m.line win.first inside) in
    rw late refl

-- ---- what is drawn before the window

all_within : {w : ℕ} (win : Window) (x : Link × Beat w) (t : Trace w) (arrows : List Arrow)
    → next_line t < win.first → Last (within win x t arrows)
all_within win x t arrows before =
    rw (lt-ltb (next_line t) win.first before) (filter_passes is_open (map (noted x t) arrows))

all_last : {w : ℕ} (held : Holding w) (win : Window) (t : Trace w) → next_line t ≤ win.first
    → Last (drawn held win t).arrows
unfolding drawn
all_last held win [] le = All-nil (λ m. is_open m ≡ true)
all_last held win (x ∷ t) le =
    let before : next_line t < win.first = omega (arith, le) in
    cond_both (closes win (drawn held win t) (next_line t) (starts win x t))
    (skipped (starts win x t) (drawn held win t)) (drawn_more held win x t (drawn held win t))
    (λ (d : Drawn). Last d.arrows) (λ closed. all_last held win t (omega (arith, le)))
    (λ on. all_within win x t (with_beat win x t (drawn held win t).arrows) before)

pub gathered_last : {w : ℕ} (held : Holding w) (g : Gatherer) (t : Trace w) (line : ℕ) → line ≡ next_line t
    → Gathers held g t → AreLasting g.window line g.arrows.items
gathered_last held g t line is had = λ before.
    let same : g.arrows.items ≡ (drawn held g.window t).arrows = ap (λ (d : Drawn). d.arrows) had.drawn_is in
    All-same (λ m. is_open m ≡ true) g.arrows.items (drawn held g.window t).arrows same
    (all_last held g.window t (omega (arith, is, before)))
