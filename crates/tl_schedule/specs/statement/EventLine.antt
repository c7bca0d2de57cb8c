-- The line of an event in a schedule.
use Rattle.std.specs.Prelude.{◌≡◌, ◌≤◌, ◌<◌, ℕ, ◌-◌, ◌*◌, ◌/◌, ◌%◌, ◌^◌, List, [], ◌∷◌, ◌++◌, length, take, replicate}
use Rattle.std.specs.Prelude.{codes, All, nat_lt, not, ◌||◌, if◌then◌else◌, ⊤}
use Rattle.std.specs.Io.BufRead.{ends_with_byte}
use Rattle.tl_beat.specs.declared.channel.Channel.{Channel}
use Rattle.tl_beat.specs.declared.opcode.OpA.{OpA}
use Rattle.tl_beat.specs.declared.opcode.OpA.TheVariants as a
use Rattle.tl_beat.specs.statement.Digits.{digits, lane_digits}
use Rattle.tl_beat.specs.statement.Line.{letter, spaced}
use Rattle.tl_burst.specs.declared.message.Message.TheVariants as message
use Rattle.tl_burst.specs.declared.message.MessageA.{MessageA}
use Rattle.tl_burst.specs.statement.Burst.{data_beats}
use Rattle.tl_params.specs.declared.param.Arithmetic.{Arithmetic}
use Rattle.tl_params.specs.declared.param.Grow.{Grow}
use Rattle.tl_params.specs.declared.param.Intent.{Intent}
use Rattle.tl_params.specs.declared.param.Logical.{Logical}
use Rattle.tl_params.specs.declared.param.Prune.{Prune}
use Rattle.tl_params.specs.statement.Names.{arithmetic_name, grow_name, intent_name, logical_name, prune_name}
use Rattle.tl_params.specs.statement.Param.{arithmetic_code, intent_code, logical_code}
use Rattle.tl_client.specs.declared.operation.Op.TheVariants as op
use Rattle.tl_client.specs.statement.Offer.{padded}
use Rattle.tl_coherence.specs.declared.event.Event.{Event}
use Rattle.tl_coherence.specs.declared.event.Event.TheVariants as event
use Rattle.tl_schedule.specs.declared.line.EventFault.{EventFault}
use Rattle.tl_schedule.specs.declared.line.EventFault.TheVariants.{F1, F8}
use Rattle.tl_schedule.specs.declared.line.Line.{Line}
use Rattle.tl_schedule.specs.declared.line.Line.TheVariants as line_of

-- ---- the content of a line

-- the kind of an access, with its data
pub data Asked : Type 0 where
  Get : Asked
  Put : (bytes : List ℕ) → Asked
  Part : (mask : ℕ) → (bytes : List ℕ) → Asked
  Arith : (operation : Arithmetic) → (bytes : List ℕ) → Asked
  Logic : (operation : Logical) → (bytes : List ℕ) → Asked
  Hint : (intent : Intent) → Asked

-- an operation of a client, or a delivery
pub data Said : Type 0 where
  Load : (client size address : ℕ) → Said
  Store : (client size address value : ℕ) → Said
  Acquire : (client block : ℕ) → (grow : Grow) → Said
  Whole : (client block : ℕ) → (bytes : List ℕ) → Said
  Release : (client block : ℕ) → (prune : Prune) → Said
  Access : (client size address : ℕ) → (asked : Asked) → Said
  Deliver : (link : ℕ) → (channel : Channel) → Said

-- ---- its only spelling

-- the word for an access in a line
abbrev pub asked_name : Asked → List ℕ
asked_name Get = codes "get"
asked_name (Put bytes) = codes "put"
asked_name (Part mask bytes) = codes "part"
asked_name (Arith operation bytes) = codes "arith"
asked_name (Logic operation bytes) = codes "logic"
asked_name (Hint intent) = codes "intent"

-- the number of digits of a mask: a bit for each lane of each beat, the last beat first
abbrev pub mask_digits : ℕ → ℕ → ℕ
mask_digits w size = w / 4 * data_beats w size

-- the fields after an access's address; data have the byte of the highest address first
abbrev pub asked_fields : ℕ → ℕ → Asked → List (List ℕ)
asked_fields w size Get = []
asked_fields w size (Put bytes) = lane_digits bytes ∷ []
asked_fields w size (Part mask bytes) = digits (mask_digits w size) mask ∷ lane_digits bytes ∷ []
asked_fields w size (Arith operation bytes) = arithmetic_name operation ∷ lane_digits bytes ∷ []
asked_fields w size (Logic operation bytes) = logical_name operation ∷ lane_digits bytes ∷ []
asked_fields w size (Hint intent) = intent_name intent ∷ []

-- the fields of a line, for beats of w bytes
abbrev pub said_fields : ℕ → Said → List (List ℕ)
said_fields w (Load client size address) = digits 2 client ∷ codes "load" ∷ digits 1 size ∷ digits 8 address ∷ []
said_fields w (Store client size address value) = digits 2 client ∷ codes "store" ∷ digits 1 size ∷ digits 8
    address ∷ digits (2 * 2 ^ size) value ∷ []
said_fields w (Acquire client block grow) = digits 2 client ∷ codes "acquire" ∷ digits 3 block ∷ grow_name grow ∷ []
said_fields w (Whole client block bytes) = digits 2 client ∷ codes "whole" ∷ digits 3 block ∷ lane_digits bytes ∷ []
said_fields w (Release client block prune) = digits 2 client ∷ codes "release" ∷ digits 3 block ∷ prune_name prune ∷ []
said_fields w (Access client size address asked) = digits 2 client ∷ asked_name asked ∷ digits 1 size ∷ digits 8
    address ∷ asked_fields w size asked
said_fields w (Deliver link channel) = digits 2 link ∷ codes "deliver" ∷ letter channel ∷ []

-- the only line with this content: its fields with a space between each two, and a line feed
abbrev pub event_line : ℕ → Said → List ℕ
event_line w said = spaced (said_fields w said) ++ 10 ∷ []

-- the line that drains the world
abbrev pub drain_line : List ℕ
drain_line = codes "drain\n"

-- ---- within its fields

-- the number fits n hexadecimal digits
abbrev pub HasRoom : ℕ → ℕ → Type 0
HasRoom n number = number < 2 ^ (4 * n)

-- a list of n bytes
abbrev pub AreBytes : ℕ → List ℕ → Type 0
AreBytes n bytes = (length bytes ≡ n) × All (λ byte. byte < 2 ^ 8) bytes

-- the data and the mask of an access have its size
abbrev pub AskedFits : ℕ → ℕ → Asked → Type 0
AskedFits w size Get = ⊤
AskedFits w size (Put bytes) = AreBytes (2 ^ size) bytes
AskedFits w size (Part mask bytes) = HasRoom (mask_digits w size) mask × AreBytes (2 ^ size) bytes
AskedFits w size (Arith operation bytes) = AreBytes (2 ^ size) bytes
AskedFits w size (Logic operation bytes) = AreBytes (2 ^ size) bytes
AskedFits w size (Hint intent) = ⊤

-- Each part fits its field. The size of a Load or Store is at most 3, that of an access at most 6.
abbrev pub Fits : ℕ → Said → Type 0
Fits w (Load client size address) = HasRoom 2 client × (size ≤ 3) × HasRoom 8 address
Fits w (Store client size address value) = HasRoom 2 client × (size ≤ 3) × HasRoom 8 address
    × HasRoom (2 * 2 ^ size) value
Fits w (Acquire client block grow) = HasRoom 2 client × HasRoom 3 block
Fits w (Whole client block bytes) = HasRoom 2 client × HasRoom 3 block × AreBytes 64 bytes
Fits w (Release client block prune) = HasRoom 2 client × HasRoom 3 block
Fits w (Access client size address asked) = HasRoom 2 client × (size ≤ 6) × HasRoom 8 address × AskedFits w size asked
Fits w (Deliver link channel) = HasRoom 2 link

-- ---- the event of a line

-- 64 bytes on their lanes. The bytes of an access of less than a beat are on the lanes from its address on; those after
-- the last lane are dropped.
abbrev pub placed : ℕ → ℕ → ℕ → List ℕ → List ℕ
placed w size address bytes =
    if nat_lt (2 ^ size) w
    then replicate (address % w) 0 ++ (take (w - address % w) bytes ++ replicate (64 - w) 0)
    else bytes

-- the payload of an access with these bytes
abbrev pub payload_of : ℕ → ℕ → ℕ → List ℕ → List ℕ
payload_of w size address bytes = placed w size address (padded bytes)

-- the mask of the lanes that carry a byte of an access with this number of beats
abbrev pub lanes_of : ℕ → ℕ → ℕ → ℕ → ℕ
lanes_of w size address beats =
    if nat_lt (2 ^ size) w
    then (2 ^ 2 ^ size - 1) * 2 ^ (address % w) % 2 ^ w
    else 2 ^ (w * beats) - 1

-- the opcode of an access in a line
abbrev pub asked_opcode : Asked → OpA
asked_opcode Get = a.Get
asked_opcode (Put bytes) = a.PutFullData
asked_opcode (Part mask bytes) = a.PutPartialData
asked_opcode (Arith operation bytes) = a.ArithmeticData
asked_opcode (Logic operation bytes) = a.LogicalData
asked_opcode (Hint intent) = a.Intent

-- the param of an access in a line
abbrev pub asked_param : Asked → ℕ
asked_param (Arith operation bytes) = arithmetic_code operation
asked_param (Logic operation bytes) = logical_code operation
asked_param (Hint intent) = intent_code intent
asked_param _ = 0

-- the payload of an access in a line, with its bytes on the lanes of the address
abbrev pub asked_payload : ℕ → ℕ → ℕ → Asked → List ℕ
asked_payload w size address Get = replicate 64 0
asked_payload w size address (Put bytes) = payload_of w size address bytes
asked_payload w size address (Part mask bytes) = payload_of w size address bytes
asked_payload w size address (Arith operation bytes) = payload_of w size address bytes
asked_payload w size address (Logic operation bytes) = payload_of w size address bytes
asked_payload w size address (Hint intent) = replicate 64 0

-- the mask of an access in a line
abbrev pub asked_mask : ℕ → ℕ → ℕ → Asked → ℕ
asked_mask w size address Get = lanes_of w size address 1
asked_mask w size address (Part mask bytes) = mask
asked_mask w size address (Hint intent) = lanes_of w size address 1
asked_mask w size address _ = lanes_of w size address (data_beats w size)

-- the message of an access; the client replaces its source
abbrev pub message_of : {w : ℕ} (size address : ℕ) → Asked → size ≤ 6 → MessageA w
message_of {w} size address asked small = record {
  opcode = asked_opcode asked;
  param = asked_param asked;
  size = size;
  source = 0;
  address = address;
  payload = asked_payload w size address asked;
  mask = asked_mask w size address asked;
  corrupt = 0;
  small = small;
}

-- the event of a line
abbrev pub event_of : {w : ℕ} (said : Said) → Fits w said → Event w
event_of (Load client size address) fits = event.Ask client (op.Load address size)
event_of (Store client size address value) fits = event.Ask client (op.Store address size value)
event_of (Acquire client block grow) fits = event.Ask client (op.Acquire block grow)
event_of (Whole client block bytes) fits = event.Ask client (op.AcquireWhole block bytes)
event_of (Release client block prune) fits = event.Ask client (op.Release block prune)
event_of (Access client size address asked) fits =
    event.Ask client (op.Access (message.A (message_of size address asked fits.1)))
event_of (Deliver link channel) fits = event.Deliver (record { 0 = link }) channel

-- the line spells this event
pub record SpellsEvent {w : ℕ} (line : List ℕ) (e : Event w) : Type 0 where
  pub said : Said
  pub fits : Fits w said
  pub is_line : line ≡ event_line w said
  pub means : event_of said fits ≡ e

-- the line spells this event, or `drain`
abbrev pub SpellsLine : {w : ℕ} → List ℕ → Line w → Type 0
SpellsLine line (line_of.Event e) = SpellsEvent line e
SpellsLine line line_of.Drain = line ≡ drain_line

-- the fault of a line that spells neither
abbrev pub event_fault : List ℕ → EventFault
event_fault line = if nat_lt 256 (length line) || not (ends_with_byte 10 line) then F1 else F8
