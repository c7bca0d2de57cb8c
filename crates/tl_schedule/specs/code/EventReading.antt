-- The line of an event read from left to right, as the code goes; only private clauses cite this.
use Rattle.std.specs.Prelude.{◌≡◌, ◌≤◌, ℕ, ◌*◌, ◌-◌, ◌^◌, Bool, true, false, not, ◌||◌, List, length, take, codes}
use Rattle.std.specs.Prelude.{bytes_eq, nat_le, nat_lt, refl}
use Rattle.std.specs.Prelude.{if◌then◌else◌, Option, Some, None, option_map, Result, Err, ok_or}
use Rattle.std.specs.Io.BufRead.{ends_with_byte}
use Rattle.std.proofs.lemmas.Bool.{leb-true}
use Rattle.tl_beat.specs.declared.opcode.OpA.{OpA}
use Rattle.tl_beat.specs.statement.Line.{channel_named, pieces}
use Rattle.tl_burst.specs.declared.message.Message.TheVariants as message
use Rattle.tl_client.specs.declared.operation.Op.TheVariants as op
use Rattle.tl_coherence.specs.declared.event.Event.{Event}
use Rattle.tl_coherence.specs.declared.event.Event.TheVariants as event
use Rattle.tl_schedule.specs.declared.access.Request.{Request}
use Rattle.tl_schedule.specs.declared.line.EventFault.{EventFault}
use Rattle.tl_schedule.specs.declared.line.EventFault.TheVariants.{F1, F8}
use Rattle.tl_schedule.specs.declared.line.Line.{Line}
use Rattle.tl_schedule.specs.declared.line.Line.TheVariants as line
use Rattle.tl_schedule.specs.declared.name.Word.{Word}
use Rattle.tl_schedule.specs.declared.name.Word.TheVariants as word
use Rattle.tl_schedule.specs.statement.EventLine.{Asked, Said, Get, Put, Part, Arith, Logic, Hint, Load, Store, Acquire}
use Rattle.tl_schedule.specs.statement.EventLine.{Whole, Release, Access, Deliver, asked_mask}
use Rattle.tl_schedule.specs.statement.EventLine.{asked_opcode, asked_param, asked_payload, mask_digits, message_of}
use Rattle.tl_schedule.specs.statement.EventLine.{payload_of}
use Rattle.tl_schedule.specs.code.FieldReading.{at_end, bytes_in, front, last, number_in, size_in}
use Rattle.tl_schedule.specs.code.NameReading.{arithmetic_in, grow_in, intent_in, logical_in, prune_in, word_in}
use Rattle.tl_schedule.specs.code.Then.{◌>>=◌}

-- ---- what an access asks for

abbrev pub get_at : List (List ℕ) → Option Asked
get_at fields = at_end fields Get

abbrev pub put_at : ℕ → List (List ℕ) → Option Asked
put_at size fields = option_map (λ d. Put d) (last (bytes_in (2 ^ size)) fields)

abbrev pub part_at : ℕ → ℕ → List (List ℕ) → Option Asked
part_at w size fields = front (number_in 0 (mask_digits w size)) fields >>= λ m. option_map (λ d. Part m.0 d)
    (last (bytes_in (2 ^ size)) m.1)

abbrev pub arith_at : ℕ → List (List ℕ) → Option Asked
arith_at size fields = front arithmetic_in fields >>= λ o. option_map (λ d. Arith o.0 d)
    (last (bytes_in (2 ^ size)) o.1)

abbrev pub logic_at : ℕ → List (List ℕ) → Option Asked
logic_at size fields = front logical_in fields >>= λ o. option_map (λ d. Logic o.0 d) (last (bytes_in (2 ^ size)) o.1)

abbrev pub hint_at : List (List ℕ) → Option Asked
hint_at fields = front intent_in fields >>= λ i. at_end i.1 (Hint i.0)

-- what the fields after an access's address say
abbrev pub asked_at : ℕ → Word → ℕ → List (List ℕ) → Option Asked
asked_at w word.Get size fields = get_at fields
asked_at w word.Put size fields = put_at size fields
asked_at w word.Part size fields = part_at w size fields
asked_at w word.Arith size fields = arith_at size fields
asked_at w word.Logic size fields = logic_at size fields
asked_at w word.Hint size fields = hint_at fields
asked_at w _ size fields = None

-- a request of an opcode with data
abbrev pub data_request : ℕ → ℕ → ℕ → OpA → ℕ → ℕ → List ℕ → Request
data_request w size address opcode param mask bytes = record {
  opcode = opcode;
  param = param;
  payload =
      payload_of w size address bytes;
  mask = mask;
}

abbrev pub request_of : ℕ → ℕ → ℕ → Asked → Request
request_of w size address asked = record {
  opcode = asked_opcode asked;
  param = asked_param asked;
  payload = asked_payload w size address asked;
  mask = asked_mask w size address asked;
}

-- ---- what a client is asked for

abbrev pub load_at : ℕ → List (List ℕ) → Option Said
load_at client fields = front (size_in 3) fields >>= λ s. front (number_in 0 8) s.1 >>= λ a. at_end a.1
    (Load client s.0 a.0)

abbrev pub store_at : ℕ → List (List ℕ) → Option Said
store_at client fields =
    front (size_in 3) fields >>= λ s. front (number_in 0 8) s.1 >>= λ a. front (number_in 0 (2 * 2 ^ s.0)) a.1 >>= λ v.
    at_end v.1 (Store client s.0 a.0 v.0)

abbrev pub acquire_at : ℕ → List (List ℕ) → Option Said
acquire_at client fields = front (number_in 0 3) fields >>= λ b. front grow_in b.1 >>= λ g. at_end g.1
    (Acquire client b.0 g.0)

abbrev pub whole_at : ℕ → List (List ℕ) → Option Said
whole_at client fields = front (number_in 0 3) fields >>= λ b. option_map (λ d. Whole client b.0 d)
    (last (bytes_in 64) b.1)

abbrev pub release_at : ℕ → List (List ℕ) → Option Said
release_at client fields = front (number_in 0 3) fields >>= λ b. front prune_in b.1 >>= λ p. at_end p.1
    (Release client b.0 p.0)

abbrev pub access_at : ℕ → Word → ℕ → List (List ℕ) → Option Said
access_at w k client fields =
    front (size_in 6) fields >>= λ s. front (number_in 0 8) s.1 >>= λ a. option_map (λ x. Access client s.0 a.0 x)
    (asked_at w k s.0 a.1)

abbrev pub deliver_at : ℕ → List (List ℕ) → Option Said
deliver_at link fields = front channel_named fields >>= λ c. at_end c.1 (Deliver link c.0)

abbrev pub said_at : ℕ → Word → ℕ → List (List ℕ) → Option Said
said_at w word.Load client fields = load_at client fields
said_at w word.Store client fields = store_at client fields
said_at w word.Acquire client fields = acquire_at client fields
said_at w word.Whole client fields = whole_at client fields
said_at w word.Release client fields = release_at client fields
said_at w word.Deliver client fields = deliver_at client fields
said_at w k client fields = access_at w k client fields

-- the fields of a line
abbrev pub ask_at : ℕ → List (List ℕ) → Option Said
ask_at w fields = front (number_in 0 2) fields >>= λ c. front word_in c.1 >>= λ k. said_at w k.0 c.0 k.1

-- ---- the event that is meant

abbrev pub size_if : (n : ℕ) (fits : Bool) → nat_le n 6 ≡ fits → Option (n ≤ 6)
size_if n false fits = None
size_if n true fits = Some (leb-true n 6 fits)

-- that the size is one of a message
abbrev pub small_size : (n : ℕ) → Option (n ≤ 6)
small_size n = size_if n (nat_le n 6) refl

abbrev pub meant : {w : ℕ} → Said → Option (Event w)
meant (Load client size address) = Some (event.Ask client (op.Load address size))
meant (Store client size address value) = Some (event.Ask client (op.Store address size value))
meant (Acquire client block grow) = Some (event.Ask client (op.Acquire block grow))
meant (Whole client block bytes) = Some (event.Ask client (op.AcquireWhole block bytes))
meant (Release client block prune) = Some (event.Ask client (op.Release block prune))
meant (Access client size address asked) =
    small_size size >>= λ small. Some (event.Ask client (op.Access (message.A (message_of size address asked small))))
meant (Deliver link channel) = Some (event.Deliver (record { 0 = link }) channel)

abbrev pub meant_by : {w : ℕ} → Option Said → Option (Event w)
meant_by None = None
meant_by (Some said) = meant said

-- a line without its line feed
abbrev pub line_at : {w : ℕ} → List ℕ → Option (Line w)
line_at {w} body = if bytes_eq body (codes "drain") then Some line.Drain else option_map (λ e. line.Event e)
    (meant_by (ask_at w (pieces body)))

-- a line with its line feed
abbrev pub event_at : {w : ℕ} → List ℕ → Result (Line w) EventFault
event_at line = if nat_lt 256 (length line) || not (ends_with_byte 10 line) then Err F1 else ok_or
    (line_at (take (length line - 1) line)) F8
