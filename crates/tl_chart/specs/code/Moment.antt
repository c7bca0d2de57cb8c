-- What is known of a beat when it comes.
use Rattle.std.specs.Prelude.{ℕ, ◌≡◌, ◌∷◌, if◌then◌else◌, Option, Some, None}
use Rattle.tl_beat.specs.declared.beat.Beat.{Beat}
use Rattle.tl_beat.specs.declared.beat.Link.{Link}
use Rattle.tl_chart.specs.declared.arrow.Moment.{Moment}
use Rattle.tl_chart.specs.statement.Drawn.{Holding, holds}
use Rattle.tl_explain.specs.statement.Evidence.{next_line}
use Rattle.tl_params.specs.declared.perm.Perm.{Perm}
use Rattle.tl_rules.specs.statement.Conformance.{Trace, on_link, same_perm}
use Rattle.tl_rules.specs.statement.History.{begins, ends}

-- the moment is that of the beat x after t
pub record IsMoment {w : ℕ} (m : Moment) (x : Link × Beat w) (t : Trace w) : Type 0 where
  pub link_is : m.link ≡ x.0
  pub line_is : m.line ≡ next_line t
  pub first_is : m.first ≡ begins x.1 (on_link x.0.0 t)
  pub last_is : m.last ≡ ends x.1 (on_link x.0.0 t)

-- what the link of the beat x after t holds of a block with it, if that is another permission than before it
abbrev pub change_of : {w : ℕ} → Holding w → Option ℕ → Link × Beat w → Trace w → Option Perm
change_of held block x t =
    if same_perm (holds held block x.0 t) (holds held block x.0 (x ∷ t)) then None else
    Some (holds held block x.0 (x ∷ t))
