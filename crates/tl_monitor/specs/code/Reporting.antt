-- The unfinished message on channel C, by the table of its link.
use Rattle.std.specs.Prelude.{Option, Some, None}
use Rattle.tl_beat.specs.declared.control.ControlC.{ControlC}
use Rattle.tl_monitor.specs.declared.bursts.Unfinished.{Unfinished}
use Rattle.tl_monitor.specs.statement.Reporting.{if_report}

abbrev pub report_by : {P : Type 0} → Option (Unfinished P) → Option ControlC
report_by None = None
report_by (Some u) = if_report u.control
