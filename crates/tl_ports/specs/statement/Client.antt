-- A client with the beats that it has still to send, by the definition of a client's end of its link.
use Rattle.std.specs.Prelude.{ℕ, List, [], ◌≡◌, ◌++◌, drop, slice_get, Option, Some, None, Result, Ok, Err}
use Rattle.std.specs.Prelude.{if◌then◌else◌}
use Rattle.tl_beat.specs.declared.beat.Beat.{Beat}
use Rattle.tl_beat.specs.declared.channel.Channel.{Channel}
use Rattle.tl_burst.specs.declared.message.Message.{Message}
use Rattle.tl_params.specs.declared.config.ClientConfig.{ClientConfig}
use Rattle.tl_params.specs.declared.config.NewFault.{NewFault}
use Rattle.tl_params.specs.declared.perm.Perm.{Perm}
use Rattle.tl_params.specs.declared.profile.Profile.{Profile}
use Rattle.tl_params.specs.declared.rule.Rule.{Rule}
use Rattle.tl_params.specs.statement.Config.{client_fault}
use Rattle.tl_rules.specs.statement.History.{held}
use Rattle.tl_client.specs.code.KnowsAny.{KnowsAny, any_terms}
use Rattle.tl_client.specs.declared.operation.Op.{Op}
use Rattle.tl_client.specs.declared.reply.Reply.{Reply}
use Rattle.tl_client.specs.declared.verdict.Verdict.{Verdict}
use Rattle.tl_client.specs.statement.Ask.{asked}
use Rattle.tl_client.specs.statement.Endpoint.{Endpoint, fresh}
use Rattle.tl_client.specs.statement.Fault.{IsFaultAt}
use Rattle.tl_client.specs.statement.Offer.{offered}
use Rattle.tl_ports.specs.declared.client.ClientPort.{ClientPort}
use Rattle.tl_ports.specs.statement.Waiting.{waiting, handed_on, same_channel}

-- the beats that wait on a channel, the oldest first
abbrev pub to_send : {w : ℕ} → Channel → ClientPort w → List (Beat w)
to_send ch port = waiting 0 ch port.outgoing

-- the next beat to send on a channel
abbrev pub next_beat : {w : ℕ} → Channel → ClientPort w → Option (Beat w)
next_beat ch port = slice_get (to_send ch port) 0

-- the beats that a message adds to a channel, if there is a message: all of its beats to its own channel
abbrev pub added : {w : ℕ} → Channel → Option (Message w) → List (Beat w)
added ch None = []
added ch (Some m) = handed_on 0 ch (record { 0 = 0 }) m

-- the message was handed out, if there is one: its beats wait after those that waited
abbrev pub HandedOut : {w : ℕ} → Option (Message w) → ClientPort w → ClientPort w → Type 0
HandedOut {w} m old new = (ch : Channel) → to_send ch new ≡ to_send ch old ++ added ch m

-- the client and its waiting beats are as they were
abbrev pub Unchanged : {w : ℕ} → ClientPort w → ClientPort w → Type 0
Unchanged old new = (new.client ≡ old.client) × ((ch : Channel) → to_send ch new ≡ to_send ch old)

-- the client now has this end, and its configuration stays
abbrev pub Moves : {w : ℕ} → ClientPort w → ClientPort w → Endpoint w → Type 0
Moves old new e = KnowsAny new.client e × (any_terms new.client ≡ any_terms old.client)

-- The result of `ask`: the definition's reply, and its message is handed out. The error means that there is no memory;
-- then nothing changes.
abbrev pub AskTold : {w : ℕ} {E : Type 0} → ClientPort w → ClientPort w → Op w → Result Reply E → Type 0
AskTold old new op (Err error) = Unchanged old new
AskTold {w} old new op (Ok reply) = (e : Endpoint w) → KnowsAny old.client e →
    (reply ≡ (asked (any_terms old.client) op e).reply)
    × HandedOut (asked (any_terms old.client) op e).message old new
    × Moves old new (asked (any_terms old.client) op e).after

-- the verdict or the rule of a client's answer, and the message that it hands out
abbrev pub verdict_in : {w : ℕ} → Result (Verdict × Option (Message w)) Rule → Result Verdict Rule
verdict_in (Ok x) = Ok x.0
verdict_in (Err rule) = Err rule

-- the message that is handed out with an answer, if there is one
abbrev pub message_in : {w : ℕ} → Result (Verdict × Option (Message w)) Rule → Option (Message w)
message_in (Ok x) = x.1
message_in (Err rule) = None

-- The result of `offer`: the definition's answer, and its message is handed out. The error means that there is no
-- memory; then nothing changes.
abbrev pub OfferTold : {w : ℕ} {E : Type 0} → ClientPort w → ClientPort w → Channel → Beat w
    → Result (Result Verdict Rule) E
    → Type 0
OfferTold old new ch x (Err error) = Unchanged old new
OfferTold {w} old new ch x (Ok told) = (e : Endpoint w) → KnowsAny old.client e →
    (told ≡ verdict_in (offered (any_terms old.client) ch x e).answer)
    × HandedOut (message_in (offered (any_terms old.client) ch x e).answer) old new
    × Moves old new (offered (any_terms old.client) ch x e).after

-- the first beat of the channel is removed, and nothing else changes
abbrev pub Popped : {w : ℕ} → Channel → ClientPort w → ClientPort w → Type 0
Popped ch old new =
    (new.client ≡ old.client)
    × ((c : Channel) → to_send c new ≡ (if same_channel c ch then drop 1 (to_send c old) else to_send c old))

-- the permission that a client holds of a block
abbrev pub held_of : {w : ℕ} → ℕ → Endpoint w → Perm
held_of block e = held block e.past

-- a new client has sent and taken nothing, and no beat waits
abbrev pub IsNewPort : {w : ℕ} → ClientConfig → ℕ → Profile → Result (ClientPort w) NewFault → Type 0
IsNewPort config blocks profile (Ok port) =
    (client_fault config blocks ≡ None)
    × KnowsAny port.client fresh
    × (any_terms port.client
    ≡ record { level = config.level; profile = profile; sources = config.sources; blocks = blocks })
    × ((ch : Channel) → to_send ch port ≡ [])
IsNewPort config blocks profile (Err fault) = IsFaultAt config.level (client_fault config blocks) fault
