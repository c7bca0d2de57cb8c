-- The answer of few bytes that stands for a verdict and a message, and its bytes.
use Rattle.std.specs.Prelude.{ℕ, List, Option, Some, unwrap_or}
use Rattle.tl_beat.specs.declared.opcode.OpB.TheVariants as b
use Rattle.tl_beat.specs.declared.opcode.OpC.{OpC}
use Rattle.tl_beat.specs.declared.opcode.OpC.TheVariants as c
use Rattle.tl_burst.specs.declared.message.Message.{Message}
use Rattle.tl_burst.specs.declared.message.Message.TheVariants as message
use Rattle.tl_burst.specs.declared.message.MessageC.{MessageC}
use Rattle.tl_params.specs.declared.param.Report.{Report}
use Rattle.tl_params.specs.declared.param.Report.TheVariants as report
use Rattle.tl_params.specs.declared.perm.Perm.TheVariants as perm
use Rattle.tl_params.specs.statement.Param.{report_named}
use Rattle.tl_client.specs.declared.answer.Answer.{Answer}
use Rattle.tl_client.specs.declared.answer.Answer.TheVariants.{Probed, Granted, Ended}
use Rattle.tl_client.specs.declared.answer.Ending.TheVariants as ending
use Rattle.tl_client.specs.declared.verdict.Finish.{Finish}
use Rattle.tl_client.specs.declared.verdict.Finish.TheVariants as finish

abbrev pub probed_with : OpC → Report → ℕ → Answer
probed_with c.ProbeAckData r address = Probed b.ProbeBlock perm.Trunk r address
probed_with _ r address = Probed b.ProbePerm perm.None r address

-- that of a Probe which is answered so
abbrev pub probed_by : {w : ℕ} → MessageC w → Answer
probed_by m = probed_with m.opcode (unwrap_or (report_named m.param) report.NtoN) m.address

-- the sink of a GrantAck
abbrev pub sink_in : {w : ℕ} → Option (Message w) → ℕ
sink_in (Some (message.E m)) = m.sink
sink_in _ = 0

-- that of a response which ends so
abbrev pub done_by : {w : ℕ} → ℕ → Finish → Option (Message w) → Answer
done_by source finish.Ack m = Ended source ending.Ack
done_by source finish.Hint m = Ended source ending.Hint
done_by source (finish.Data size bytes) m = Ended source (ending.Data size)
done_by source (finish.Granted p) m = Granted source p (sink_in m)
done_by source finish.Released m = Ended source ending.Released

-- its bytes
abbrev pub bytes_of : Finish → List ℕ → List ℕ
bytes_of (finish.Data size bytes) old = bytes
bytes_of _ old = old
