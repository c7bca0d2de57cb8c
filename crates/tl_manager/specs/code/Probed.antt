-- The Probe for a request.
use Rattle.std.specs.Prelude.{ℕ, Option, Some, None}
use Rattle.tl_beat.specs.declared.opcode.OpB.TheVariants.{ProbeBlock}
use Rattle.tl_burst.specs.declared.message.MessageA.{MessageA}
use Rattle.tl_params.specs.declared.param.Cap.{Cap}
use Rattle.tl_params.specs.statement.Param.{cap_code}
use Rattle.tl_rules.specs.declared.past.Probe.{Probe}
use Rattle.tl_manager.specs.statement.Holders.{cap_probed}

abbrev pub probe_with : Option Cap → Option Probe
probe_with None = None
probe_with (Some cap) = Some (record { opcode = ProbeBlock; param = cap_code cap })

-- what a ProbeAck depends on of it
abbrev pub probe_in : {w : ℕ} → Option (MessageA w) → Option Probe
probe_in None = None
probe_in (Some request) = probe_with (cap_probed request.opcode request.param)
