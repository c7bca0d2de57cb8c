-- Which messages stay among those that are drawn before the window.
use Rattle.std.specs.Prelude.{ℕ, Bool, true, false, not, List, ◌≡◌, ◌<◌, ◌&&◌, All}
use Rattle.tl_beat.specs.declared.beat.Beat.{Beat}
use Rattle.tl_beat.specs.declared.beat.Beat.TheVariants as beat
use Rattle.tl_chart.specs.declared.arrow.Arrow.{Arrow}
use Rattle.tl_chart.specs.declared.arrow.Moment.{Moment}
use Rattle.tl_chart.specs.declared.window.Window.{Window}
use Rattle.tl_chart.specs.statement.Drawn.{is_open}
use Rattle.tl_rules.specs.statement.History.{is_probe, is_release}

-- the beat is of a message that wants an answer, and answers nothing
abbrev pub asks : {w : ℕ} → Beat w → Bool
asks (beat.A x) = true
asks (beat.B x) = is_probe x.opcode
asks (beat.C x) = is_release x.opcode
asks (beat.D x) = false
asks (beat.E x) = false

-- something may be let go after a beat: a message is complete with it, but not one that is this beat alone and asks
abbrev pub lets_go : {w : ℕ} → Moment → Beat w → Bool
lets_go m x = m.last && not (m.first && asks x)

-- before the window each of these messages is open
abbrev pub AreLasting : Window → ℕ → List Arrow → Type 0
AreLasting win line arrows = line < win.first → All (λ m. is_open m ≡ true) arrows
