-- What is drawn, with one more beat.
use Rattle.std.proofs.Common.{◌≡◌, ◌≤◌, ℕ, Bool, true, false, List, [], ◌∷◌, refl, sym, ap, ◌∙◌, Result, Ok, Err}
use Rattle.std.proofs.lemmas.Bool.{le-ltb}
use Rattle.std.specs.Prelude.{nat_lt, OnOk, ◌||◌, ◌&&◌, Option, Some, None, if◌then◌else◌, is_none}
use Rattle.tl_beat.specs.declared.beat.Beat.{Beat}
use Rattle.tl_beat.specs.declared.beat.Link.{Link}
use Rattle.tl_chart.specs.code.Gathered.{CarryAll, Gathers, KnowLinks, drawn_of, is_over, watched}
use Rattle.tl_chart.specs.code.Moment.{change_of}
use Rattle.tl_chart.specs.declared.arrow.Arrow.{Arrow}
use Rattle.tl_chart.specs.declared.blocks.LinkBlocks.{LinkBlocks}
use Rattle.tl_chart.specs.declared.gatherer.Gatherer.{Gatherer}
use Rattle.tl_chart.specs.declared.window.Window.{Window}
use Rattle.tl_chart.specs.statement.Drawn.{Drawn, Holding, closes, drawn, drawn_more, drawn_next, fault_drawn, skipped}
use Rattle.tl_chart.specs.statement.Drawn.{starts}
use Rattle.tl_chart.specs.statement.Messages.{fault_from}
use Rattle.tl_explain.specs.statement.Evidence.{next_line}
use Rattle.tl_explain.proofs.Plain.{both_true}
use Rattle.tl_params.specs.declared.perm.Perm.{Perm}
use Rattle.tl_rules.specs.statement.Conformance.{Trace, on_link}
use Rattle.tl_rules.specs.statement.History.{begins}

pub on_ok : {A E : Type 0} {P Q : Type 0} (r : Result A E) → (P → Q) → OnOk r P → OnOk r Q
on_ok (Ok x) f p = f p
on_ok (Err e) f p = tt

drawn_step : {w : ℕ} (held : Holding w) (win : Window) (x : Link × Beat w) (t : Trace w)
    → drawn held win (x ∷ t) ≡ drawn_next held win x t (drawn held win t)
unfolding drawn
drawn_step held win x t = refl

next_skipped : {w : ℕ} (held : Holding w) (win : Window) (x : Link × Beat w) (t : Trace w) (d : Drawn) (line : ℕ)
    (begins : Bool) → line ≡ next_line t → begins ≡ starts win x t → closes win d line begins ≡ true
    → skipped begins d ≡ drawn_next held win x t d
next_skipped held win x t d line begins of is close = rw (← is, ← of, close) refl

next_drawn : {w : ℕ} (held : Holding w) (win : Window) (x : Link × Beat w) (t : Trace w) (d : Drawn) (line : ℕ)
    (begins : Bool) → line ≡ next_line t → begins ≡ starts win x t → closes win d line begins ≡ false
    → drawn_more held win x t d ≡ drawn_next held win x t d
next_drawn held win x t d line begins of is close = rw (← is, ← of, close) refl

-- what has been gathered is what is drawn of the longer trace
gathered : {w : ℕ} (held : Holding w) (g h : Gatherer) (x : Link × Beat w) (t : Trace w) → Gathers held g t
    → h.window ≡ g.window → drawn_of h ≡ drawn_next held g.window x t (drawn_of g)
    → drawn_of h ≡ drawn held h.window (x ∷ t)
gathered held g h x t had window is =
    is ∙ ap (λ (d : Drawn). drawn_next held g.window x t d) had.drawn_is ∙ sym (drawn_step held g.window x t)
    ∙ ap (λ (win : Window). drawn held win (x ∷ t)) (sym window)

-- nothing is drawn of no beats
pub gathers_none : (w : ℕ) (held : Holding w) (g : Gatherer) → g.arrows.items ≡ [] → g.marks.items ≡ [] → g.more ≡ 0
    → g.end ≡ 1 → g.closed ≡ false → KnowLinks {w = w} g.links.items [] → Gathers held g []
unfolding drawn on_link
gathers_none w held g arrows marks more end closed links = record {
  drawn_is = rw (arrows, marks, more, end, closed) refl;
  links_are = λ goes_on. links;
  carry_all = λ goes_on n le. refl;
}

pub gathers_skipped : {w : ℕ} (held : Holding w) (g h : Gatherer) (x : Link × Beat w) (t : Trace w) (line : ℕ)
    (begins : Bool) (links : List LinkBlocks) → Gathers held g t → h.window ≡ g.window → line ≡ next_line t
    → begins ≡ starts g.window x t → closes g.window (drawn_of g) line begins ≡ true
    → drawn_of h ≡ skipped begins (drawn_of g) → h.links.items ≡ links → KnowLinks links (x ∷ t)
    → CarryAll links (x ∷ t) → Gathers held h (x ∷ t)
gathers_skipped held g h x t line begins links had window of is close so same know all = record {
  drawn_is = gathered held g h x t had window (so ∙ next_skipped held g.window x t (drawn_of g) line begins of is close);
  links_are = λ goes_on. rw same know;
  carry_all = λ goes_on. rw same all;
}

-- what isn't closed by a line hasn't been before
pub open_before : (win : Window) (d : Drawn) (line : ℕ) (begins : Bool) → closes win d line begins ≡ false
    → d.closed ≡ false
open_before win d line begins close = go d.closed _ close
  where
    go : (a b : Bool) → (a || b) ≡ false → a ≡ false
    go false b e = refl
    go true b e = absurd cc

pub gathers_drawn : {w : ℕ} (held : Holding w) (g h : Gatherer) (x : Link × Beat w) (t : Trace w) (line : ℕ)
    (begins : Bool) (links : List LinkBlocks) → Gathers held g t → h.window ≡ g.window → line ≡ next_line t
    → begins ≡ starts g.window x t → closes g.window (drawn_of g) line begins ≡ false
    → drawn_of h ≡ drawn_more held g.window x t (drawn_of g) → h.links.items ≡ links → KnowLinks links (x ∷ t)
    → CarryAll links (x ∷ t) → Gathers held h (x ∷ t)
gathers_drawn held g h x t line begins links had window of is close so same know all = record {
  drawn_is = gathered held g h x t had window (so ∙ next_drawn held g.window x t (drawn_of g) line begins of is close);
  links_are = λ goes_on. rw same know;
  carry_all = λ goes_on. rw same all;
}

-- ---- where nothing is drawn any more

none_is : {A : Type 0} (o : Option A) → is_none o ≡ true → o ≡ None
none_is None e = refl
none_is (Some x) e = absurd cc

all_start : (b : Bool) → b ≡ (b && true)
all_start true = refl
all_start false = refl

-- a message is counted, whatever its block
pub gathers_counted : {w : ℕ} (held : Holding w) (g h : Gatherer) (x : Link × Beat w) (t : Trace w) (first : Bool)
    → is_over g ≡ true → first ≡ begins x.1 (on_link x.0.0 t) → Gathers held g t → h.window ≡ g.window
    → drawn_of h ≡ skipped first (drawn_of g) → Gathers held h (x ∷ t)
gathers_counted {w} held g h x t first over is had window so =
    let both = both_true g.closed (is_none g.window.block) over in
    let every : g.window.block ≡ None = none_is g.window.block both.1 in
    let of : first ≡ starts g.window x t = rw every (is ∙ all_start (begins x.1 (on_link x.0.0 t))) in
    let close : closes g.window (drawn_of g) (next_line t) first ≡ true = rw both.0 refl in
    let closed : h.closed ≡ true = ap (λ (d : Drawn). d.closed) so in
    let still : is_over h ≡ true = rw (closed, window, every) refl in
    record {
      drawn_is = gathered held g h x t had window (so ∙ next_skipped held g.window x t (drawn_of g) (next_line t) first
          refl of close);
      links_are = λ goes_on. absurd (over_twice (is_over h) still goes_on);
      carry_all = λ goes_on. absurd (over_twice (is_over h) still goes_on);
    }
  where
    over_twice : (b : Bool) → b ≡ true → b ≡ false → ⊥
    over_twice b e f = cc

-- what is drawn goes on where it isn't closed
pub goes_on : (g : Gatherer) → g.closed ≡ false → is_over g ≡ false
goes_on g closed = rw closed refl

-- then that which is held of the block that is asked for
pub watched_on : {w : ℕ} (held : Holding w) (g : Gatherer) (x : Link × Beat w) (t : Trace w) (change : Option Perm)
    → g.closed ≡ false → change ≡ change_of held (watched g) x t → change ≡ change_of held g.window.block x t
watched_on held g x t change closed is =
    is ∙ ap (λ (b : Bool). change_of held (if b then None else g.window.block) x t) closed

-- ---- a beat at fault

-- it is drawn in a window that isn't closed
pub fault_shown : {w : ℕ} (held : Holding w) (g : Gatherer) (x : Link × Beat w) (t : Trace w) (line : ℕ) (m : Arrow)
    → line ≡ next_line t → Gathers held g t → closes g.window (drawn_of g) line false ≡ false → g.window.first ≤ line
    → m ≡ fault_from x t → Some m ≡ fault_drawn held g.window x t
fault_shown held g x t line m of had shut within is =
    let still : closes g.window (drawn held g.window t) (next_line t) false ≡ false =
    rw (← had.drawn_is, ← of) shut in
    let inside : nat_lt (next_line t) g.window.first ≡ false = rw (← of) (le-ltb line g.window.first within) in
    rw (still, inside, is) refl
