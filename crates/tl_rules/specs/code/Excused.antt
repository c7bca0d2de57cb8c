-- Fields of a beat, those that a liberty excuses as the first profile wants them.
use Rattle.std.specs.Prelude.{ℕ, Bool, false, not, ◌==◌, ◌&&◌, if◌then◌else◌, is_some}
use Rattle.tl_beat.specs.declared.opcode.OpC.{OpC}
use Rattle.tl_beat.specs.declared.opcode.OpC.TheVariants as c
use Rattle.tl_beat.specs.declared.opcode.OpD.{OpD}
use Rattle.tl_beat.specs.declared.opcode.OpD.TheVariants as d
use Rattle.tl_params.specs.declared.liberties.Liberties.{Liberties}
use Rattle.tl_params.specs.declared.param.Prune.TheVariants as prune
use Rattle.tl_params.specs.declared.param.Report.TheVariants as report
use Rattle.tl_params.specs.statement.Param.{prune_code, report_code, report_named}

abbrev pub excused_probe_source : Liberties → ℕ → ℕ
excused_probe_source l source = if l.ids then 0 else source

abbrev pub excused_source : Liberties → OpC → ℕ → ℕ
excused_source l c.ProbeAck source = if l.ids then 0 else source
excused_source l c.ProbeAckData source = if l.ids then 0 else source
excused_source l opcode source = source

abbrev pub excused_param : Liberties → OpC → ℕ → ℕ
excused_param l c.Release param = if l.reports && is_some (report_named param) then prune_code prune.BtoN else param
excused_param l c.ReleaseData param = if l.reports && (param == report_code report.TtoT) then prune_code prune.TtoN else
    param
excused_param l opcode param = param

abbrev pub excused_sink : Liberties → ℕ → ℕ
excused_sink l sink = if l.sinks then 0 else sink

-- the response may be denied under the liberties alone
abbrev pub is_allowed_denied : Liberties → OpD → Bool → Bool
is_allowed_denied l d.AccessAckData corrupt = l.uncorrupt
is_allowed_denied l d.Grant corrupt = l.denied
is_allowed_denied l d.GrantData corrupt = l.denied && corrupt
is_allowed_denied l opcode corrupt = false

abbrev pub excused_denied : Liberties → OpD → Bool → Bool → Bool
excused_denied l opcode denied corrupt = denied && not (is_allowed_denied l opcode corrupt)
