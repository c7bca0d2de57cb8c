-- The history of one end of a link, the A rules, and the data of a message.
use Rattle.std.specs.Prelude.{ℕ, Bool, false, List, [], ◌∷◌, ◌++◌, ◌||◌, ◌-◌, length, nat_le, replicate, unwrap_or}
use Rattle.std.specs.Prelude.{Option, Some, None}
use Rattle.tl_beat.specs.declared.beat.Beat.{Beat}
use Rattle.tl_beat.specs.declared.beat.Beat.TheVariants as beat
use Rattle.tl_burst.specs.declared.message.Message.{Message}
use Rattle.tl_burst.specs.statement.Burst.{burst_of}
use Rattle.tl_burst.specs.statement.Messages.{History}
use Rattle.tl_rules.specs.statement.History.{block_at}

-- The history of an agent's end has the beats that it took and the messages that it handed out. A message is there with
-- all of its beats from the moment at which it was handed out.

-- the history after a message was handed out
abbrev pub sent : {w : ℕ} → Message w → History w → History w
sent m t = burst_of m ++ t

-- the history after a message was handed out, if there was one
abbrev pub sent_if_any : {w : ℕ} → Option (Message w) → History w → History w
sent_if_any None t = t
sent_if_any (Some m) t = sent m t

-- ---- the A rules: an agent judges by them a beat that breaks no L, S or H rule

-- A1: the address is outside a map of this many blocks
abbrev pub is_outside : {w : ℕ} → ℕ → Beat w → Bool
is_outside blocks (beat.A x) = nat_le blocks (block_at x.address)
is_outside blocks (beat.B x) = nat_le blocks (block_at x.address)
is_outside blocks (beat.C x) = nat_le blocks (block_at x.address)
is_outside blocks _ = false

-- A2: corrupt or denied is set
abbrev pub is_spoiled : {w : ℕ} → Beat w → Bool
is_spoiled (beat.A x) = x.corrupt
is_spoiled (beat.B x) = x.corrupt
is_spoiled (beat.C x) = x.corrupt
is_spoiled (beat.D x) = x.corrupt || x.denied
is_spoiled (beat.E x) = false

-- ---- the data of a message, from its beats

-- the data lanes of a beat; none if it carries no data
abbrev pub lanes_of : {w : ℕ} → Beat w → List ℕ
lanes_of (beat.A x) = unwrap_or x.lanes []
lanes_of (beat.B x) = unwrap_or x.lanes []
lanes_of (beat.C x) = unwrap_or x.lanes []
lanes_of (beat.D x) = unwrap_or x.lanes []
lanes_of (beat.E x) = []

-- the bytes that these beats carry, for a list with the newest beat first
unfoldable pub bytes_carried : {w : ℕ} → List (Beat w) → List ℕ
bytes_carried [] = []
bytes_carried (x ∷ beats) = bytes_carried beats ++ lanes_of x

-- the payload of the message with these beats: their bytes, then zeros up to 64
abbrev pub payload_of : {w : ℕ} → List (Beat w) → List ℕ
payload_of beats = bytes_carried beats ++ replicate (64 - length (bytes_carried beats)) 0
