-- The unfinished message on channel C of a link, by its control fields.
use Rattle.std.specs.Prelude.{ℕ, [], ◌∷◌, if◌then◌else◌, List, length, nat_lt, Option, Some, None}
use Rattle.tl_beat.specs.declared.beat.Beat.{Beat}
use Rattle.tl_beat.specs.declared.beat.Link.{Link}
use Rattle.tl_beat.specs.declared.channel.Channel.TheVariants as channel
use Rattle.tl_beat.specs.declared.control.Control.{Control}
use Rattle.tl_beat.specs.declared.control.Control.TheVariants as control
use Rattle.tl_beat.specs.declared.control.ControlC.{ControlC}
use Rattle.tl_beat.specs.statement.Control.{control_of}
use Rattle.tl_burst.specs.statement.Messages.{unfinished}
use Rattle.tl_params.specs.declared.level.Level.{Level}
use Rattle.tl_rules.specs.statement.Conformance.{Trace, on_link}

-- the control fields are of channel C
abbrev pub if_report : Control → Option ControlC
if_report (control.C x) = Some x
if_report _ = None

-- the control fields of a message on channel C with these beats
abbrev pub report_of : {w : ℕ} → List (Beat w) → Option ControlC
report_of [] = None
report_of (x ∷ burst) = if_report (control_of x)

-- those of the unfinished message on channel C of a link; none on a link without a level
abbrev pub report_on : {w : ℕ} → List Level → Link → Trace w → Option ControlC
report_on levels link t = if nat_lt link.0 (length levels) then report_of (unfinished channel.C (on_link link.0 t)) else None
