-- What a tracker says of the requests in service.
use Rattle.std.specs.Prelude.{ℕ, Bool, true, false, ◌==◌, ◌&&◌, Option, Some, None}
use Rattle.std.specs.Int.{bit_at}
use Rattle.tl_burst.specs.declared.message.MessageA.{MessageA}
use Rattle.tl_rules.specs.statement.History.{block_at, is_acquire}
use Rattle.tl_manager.specs.declared.manager.tracker.Tracker.{Tracker}
use Rattle.tl_manager.specs.declared.manager.tracker.Tracker.TheVariants.{Free, Probing, Granted}

abbrev pub is_free : {w : ℕ} → Tracker w → Bool
is_free Free = true
is_free _ = false

-- its request is of the block
abbrev pub is_of : {w : ℕ} → ℕ → Tracker w → Bool
is_of block Free = false
is_of block (Probing link request missing) = block_at request.address == block
is_of block (Granted link granted) = granted == block

-- its request came from this client with this source, and isn't answered
abbrev pub serves_source : {w : ℕ} → ℕ → ℕ → Tracker w → Bool
serves_source client source (Probing link request missing) = (link.0 == client) && (request.source == source)
serves_source client source _ = false

abbrev pub request_in : {w : ℕ} → Tracker w → Option (MessageA w)
request_in (Probing link request missing) = Some request
request_in _ = None

-- it is an Acquire of this client, which isn't granted
abbrev pub awaits_grant : {w : ℕ} → ℕ → Tracker w → Bool
awaits_grant client (Probing link request missing) = is_acquire request.opcode && (link.0 == client)
awaits_grant client _ = false

-- it waits for the GrantAck of this client
abbrev pub awaits_grant_ack : {w : ℕ} → ℕ → Tracker w → Bool
awaits_grant_ack client (Granted link block) = link.0 == client
awaits_grant_ack client _ = false

-- it waits for the ProbeAck of this client
abbrev pub awaits_probe_ack : {w : ℕ} → ℕ → Tracker w → Bool
awaits_probe_ack client (Probing link request missing) = bit_at missing client == 1
awaits_probe_ack client _ = false
