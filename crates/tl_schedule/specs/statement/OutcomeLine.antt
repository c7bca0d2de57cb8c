-- The line of an outcome, and the line of its beat in a trace.
use Rattle.std.specs.Prelude.{ℕ, ◌^◌, List, [], ◌∷◌, ◌++◌, take, codes, ⊤, Option, Some, None}
use Rattle.std.specs.Fmt.{decimal}
use Rattle.std.specs.Int.{to_le_bytes, w64}
use Rattle.tl_beat.specs.declared.beat.Link.{Link}
use Rattle.tl_beat.specs.statement.Digits.{digits, lane_digits}
use Rattle.tl_beat.specs.statement.Line.{IsWritable, fields_of, line_of, spaced}
use Rattle.tl_params.specs.declared.perm.Perm.{Perm}
use Rattle.tl_params.specs.declared.perm.Perm.TheVariants as perm
use Rattle.tl_client.specs.declared.busy.Busy.{Busy}
use Rattle.tl_client.specs.declared.busy.Busy.TheVariants.{B1, B2, B3, B4, B5}
use Rattle.tl_client.specs.declared.operation.Op.{Op}
use Rattle.tl_client.specs.declared.operation.Op.TheVariants.{Load}
use Rattle.tl_client.specs.declared.reply.Reply.{Reply}
use Rattle.tl_client.specs.declared.reply.Reply.TheVariants as reply
use Rattle.tl_client.specs.declared.verdict.Finish.{Finish}
use Rattle.tl_client.specs.declared.verdict.Finish.TheVariants as finish
use Rattle.tl_coherence.specs.declared.event.Event.{Event}
use Rattle.tl_coherence.specs.declared.event.Event.TheVariants.{Ask, Deliver}
use Rattle.tl_coherence.specs.declared.event.Outcome.{Outcome}
use Rattle.tl_coherence.specs.declared.event.Outcome.TheVariants as outcome

-- the digits of the first 2^size bytes, the byte of the highest address first
abbrev pub data_text : ℕ → List ℕ → List ℕ
data_text size bytes = lane_digits (take (2 ^ size) bytes)

-- the size of a Load; 0 for other operations, whose replies have no value
abbrev pub load_size : {w : ℕ} → Op w → ℕ
load_size (Load address size) = size
load_size _ = 0

-- the size of the value that the event asks for
abbrev pub asked_size : {w : ℕ} → Event w → ℕ
asked_size (Ask client operation) = load_size operation
asked_size (Deliver link channel) = 0

-- the name of a Busy reply
abbrev pub busy_name : Busy → List ℕ
busy_name B1 = codes "B1"
busy_name B2 = codes "B2"
busy_name B3 = codes "B3"
busy_name B4 = codes "B4"
busy_name B5 = codes "B5"

-- the text of a reply
abbrev pub reply_text : ℕ → Reply → List ℕ
reply_text size (reply.Value value) = codes "value " ++ data_text size (to_le_bytes w64 value)
reply_text size reply.Stored = codes "stored"
reply_text size reply.Miss = codes "miss"
reply_text size (reply.Started source) = codes "started " ++ digits 2 source
reply_text size (reply.Busy busy) = codes "busy " ++ busy_name busy

-- the letter of a permission
abbrev pub perm_name : Perm → List ℕ
perm_name perm.None = codes "N"
perm_name perm.Branch = codes "B"
perm_name perm.Trunk = codes "T"

-- the text of the result of an operation
abbrev pub finish_text : Finish → List ℕ
finish_text finish.Ack = codes "ack"
finish_text finish.Hint = codes "hint"
finish_text (finish.Data size bytes) = codes "data " ++ data_text size bytes
finish_text (finish.Granted perm) = codes "granted " ++ perm_name perm
finish_text finish.Released = codes "released"

-- the link of a delivery, or of the client that is asked
abbrev pub link_of : {w : ℕ} → Event w → Link
link_of (Ask client operation) = record { 0 = client }
link_of (Deliver link channel) = link

-- the text after a beat that ends an operation: its source and result
abbrev pub done_text : ℕ → Finish → List ℕ
done_text source finish = codes " done " ++ digits 2 source ++ codes " " ++ finish_text finish

-- the text of an outcome
abbrev pub outcome_text : {w : ℕ} → Event w → Outcome w → List ℕ
outcome_text event (outcome.Replied reply) = reply_text (asked_size event) reply
outcome_text event outcome.Empty = codes "empty"
outcome_text event outcome.Stalled = codes "stalled"
outcome_text event (outcome.Moved beat) = spaced (fields_of (link_of event) beat)
outcome_text event (outcome.Done beat source finish) = spaced (fields_of (link_of event) beat) ++ done_text source
    finish
outcome_text event outcome.NoSuchClient = codes "no client"

-- the line of an outcome
abbrev pub outcome_line : {w : ℕ} → Event w → Outcome w → List ℕ
outcome_line event outcome = outcome_text event outcome ++ 10 ∷ []

-- the line of a client's reply to a Load of this size or to a Store, or that there is no such client
abbrev pub answer_line : ℕ → Option Reply → List ℕ
answer_line size None = codes "no client\n"
answer_line size (Some reply) = reply_text size reply ++ 10 ∷ []

-- the line of the beat that was taken, if one was, in a trace
abbrev pub trace_text : {w : ℕ} → Event w → Outcome w → List ℕ
trace_text event (outcome.Moved beat) = line_of (link_of event) beat
trace_text event (outcome.Done beat source finish) = line_of (link_of event) beat
trace_text event _ = []

-- the line after this many deliveries of a drain
abbrev pub drained_line : ℕ → List ℕ
drained_line count = codes "drained " ++ decimal count ++ codes "\n"

-- the beat that was taken, if one was, fits its line
abbrev pub HasLine : {w : ℕ} → Outcome w → Type 0
HasLine (outcome.Moved beat) = IsWritable beat
HasLine (outcome.Done beat source finish) = IsWritable beat
HasLine _ = ⊤
