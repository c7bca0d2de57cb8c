-- The unfinished message on channel C, by the table and by the history of its link.
use Rattle.std.proofs.Common.{◌≡◌, ◌<◌, ℕ, Bool, List, ◌∷◌, length, ap, sym, ◌∙◌, refl}
use Rattle.std.specs.Prelude.{Option, Some, None}
use Rattle.tl_beat.specs.declared.beat.Beat.{Beat}
use Rattle.tl_beat.specs.declared.channel.Channel.TheVariants as channel
use Rattle.tl_beat.specs.declared.control.ControlC.{ControlC}
use Rattle.tl_burst.specs.statement.Messages.{History, unfinished}
use Rattle.tl_params.specs.declared.liberties.Liberties.{Liberties}
use Rattle.tl_monitor.specs.code.Bursts.{IsOf}
use Rattle.tl_monitor.specs.code.Keeps.{Keeps}
use Rattle.tl_monitor.specs.code.Reporting.{report_by}
use Rattle.tl_monitor.specs.declared.bursts.Unfinished.{Unfinished}
use Rattle.tl_monitor.specs.declared.link_state.LinkState.{LinkState}
use Rattle.tl_monitor.specs.statement.Reporting.{if_report, report_of}

report-by : {w : ℕ} {P : Type 0} (o : Option (Unfinished P)) (beats : List (Beat w)) → IsOf o beats
    → report_by o ≡ report_of beats
report-by None beats is = rw is refl
report-by (Some u) beats (x, earlier, is, control, count, left) = rw (control, is) refl

pub report-is : {w : ℕ} (l : Liberties) (state : LinkState) (t : History w) → Keeps l state t
    → report_by state.bursts.c ≡ report_of (unfinished channel.C t)
report-is l state t keeps = report-by state.bursts.c (unfinished channel.C t) (keeps.bursts_are channel.C)
