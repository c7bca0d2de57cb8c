-- The verdict and the message of a compact answer, whose bytes are kept apart from it.
use Rattle.std.specs.Prelude.{ℕ, List, ◌≡◌, Option, Some, None, Result, Ok, Err}
use Rattle.tl_burst.specs.declared.message.Message.{Message}
use Rattle.tl_params.specs.declared.rule.Rule.{Rule}
use Rattle.tl_client.specs.declared.answer.Answer.{Answer}
use Rattle.tl_client.specs.declared.answer.Answer.TheVariants as answer
use Rattle.tl_client.specs.declared.answer.Ending.{Ending}
use Rattle.tl_client.specs.declared.answer.Ending.TheVariants as ending
use Rattle.tl_client.specs.declared.reply.Reply.{Reply}
use Rattle.tl_client.specs.declared.reply.Reply.TheVariants as reply
use Rattle.tl_client.specs.declared.verdict.Finish.{Finish}
use Rattle.tl_client.specs.declared.verdict.Finish.TheVariants as finish
use Rattle.tl_client.specs.declared.verdict.Verdict.{Verdict}
use Rattle.tl_client.specs.declared.verdict.Verdict.TheVariants as verdict
use Rattle.tl_rules.specs.statement.History.{block_at}
use Rattle.tl_client.specs.statement.Send.{probe_ack, grant_ack}

-- the result of an operation other than an Acquire, with these bytes
abbrev pub finish_of_ending : Ending → List ℕ → Finish
finish_of_ending ending.Ack bytes = finish.Ack
finish_of_ending ending.Hint bytes = finish.Hint
finish_of_ending (ending.Data size) bytes = finish.Data size bytes
finish_of_ending ending.Released bytes = finish.Released

-- the verdict of a compact answer, with these bytes
abbrev pub verdict_of : Answer → List ℕ → Verdict
verdict_of answer.Stalled bytes = verdict.Stalled
verdict_of answer.Taken bytes = verdict.Taken
verdict_of (answer.Probed opcode held report address) bytes = verdict.Taken
verdict_of (answer.Granted source perm sink) bytes = verdict.Done source (finish.Granted perm)
verdict_of (answer.Ended source e) bytes = verdict.Done source (finish_of_ending e bytes)

-- the message that a compact answer hands out, with these bytes
abbrev pub message_of : {w : ℕ} → Answer → List ℕ → Option (Message w)
message_of answer.Stalled bytes = None
message_of answer.Taken bytes = None
message_of (answer.Probed opcode held report address) bytes =
    Some (probe_ack opcode held report (block_at address) bytes)
message_of (answer.Granted source perm sink) bytes = Some (grant_ack sink)
message_of (answer.Ended source e) bytes = None

-- the verdict and the message of a compact answer
abbrev pub told : {w : ℕ} → Answer → List ℕ → Verdict × Option (Message w)
told a bytes = (verdict_of a bytes, message_of a bytes)

-- some compact answer, with some bytes, has this verdict and this message
abbrev pub IsTellable : {w : ℕ} → Verdict → Option (Message w) → Type 0
IsTellable v m = (a : Answer) × (bytes : List ℕ) × (told a bytes ≡ (v, m))

-- the verdict and the message of a compact answer, or the rule that refuses the beat
abbrev pub told_by : {w : ℕ} → Result Answer Rule → List ℕ → Result (Verdict × Option (Message w)) Rule
told_by (Ok a) bytes = Ok (told a bytes)
told_by (Err rule) bytes = Err rule

-- the message that is handed out with a reply: m, if the operation started
abbrev pub handed : {w : ℕ} → Reply → Message w → Option (Message w)
handed (reply.Started source) m = Some m
handed (reply.Value number) m = None
handed reply.Stored m = None
handed reply.Miss m = None
handed (reply.Busy why) m = None

-- the reply, and the message that is handed out with it
abbrev pub replied : {w : ℕ} → Reply → Message w → Reply × Option (Message w)
replied r m = (r, handed r m)
