-- The words of rows: what happens to a client, the beats, and what it answers.
use Rattle.tl_client.proofs.Imports.{Beat, Channel, OpA, OpC, Message, Perm, Rule}
use Rattle.tl_client.proofs.Imports.{Op, Load, Store, Access, Reply, Verdict}
use Rattle.tl_client.proofs.Imports.{Taken, Done, asked, EndConfig, Endpoint}
use Rattle.tl_client.proofs.Imports.{offered}
use Rattle.std.proofs.Common.{◌≤◌, refl, lit≤}
use Rattle.std.specs.Prelude.{ℕ, false, List, [], ◌∷◌, ◌++◌, ◌-◌, Option, Some, None, Result, Ok, Err, replicate}
use Rattle.tl_beat.specs.declared.beat.Beat.TheVariants.{B, D}
use Rattle.tl_beat.specs.declared.channel.Channel.TheVariants as channel
use Rattle.tl_beat.specs.declared.opcode.OpA.TheVariants as a
use Rattle.tl_beat.specs.declared.opcode.OpB.TheVariants as b
use Rattle.tl_beat.specs.declared.opcode.OpC.TheVariants as c
use Rattle.tl_beat.specs.declared.opcode.OpD.TheVariants as d
use Rattle.tl_burst.specs.declared.message.Message.TheVariants as message
use Rattle.tl_params.specs.declared.level.Level.TheVariants as level
use Rattle.tl_params.specs.declared.profile.Profile.TheVariants as profile
use Rattle.tl_client.specs.declared.reply.Reply.TheVariants.{Started}
use Rattle.tl_client.specs.declared.verdict.Finish.TheVariants.{Granted}

-- ---- what happens to a client, and what it answers

pub data Event (w : ℕ) : Type 0 where
  Ask : Op w → Event w
  Offer : Channel → Beat w → Event w

-- a reply, or the answer to a beat, with the message that is handed out
pub data Answer (w : ℕ) : Type 0 where
  Replied : Reply → Option (Message w) → Answer w
  Judged : Verdict → Option (Message w) → Answer w
  Refused : Rule → Answer w

abbrev pub answer_to_beat : {w : ℕ} → Result (Verdict × Option (Message w)) Rule → Answer w
answer_to_beat (Ok v) = Judged v.0 v.1
answer_to_beat (Err rule) = Refused rule

-- the answers to events, one after another
unfoldable pub plays : {w : ℕ} → EndConfig → Endpoint w → List (Event w) → List (Answer w)
plays terms e [] = []
plays terms e (Ask op ∷ events) = Replied (asked terms op e).reply (asked terms op e).message ∷ plays terms
    (asked terms op e).after events
plays terms e (Offer ch x ∷ events) = answer_to_beat (offered terms ch x e).answer ∷ plays terms
    (offered terms ch x e).after events

abbrev pub plain : EndConfig
plain = record { level = level.UL; profile = profile.One; sources = 1; blocks = 1 }

abbrev pub caching : ℕ → EndConfig
caching blocks = record { level = level.C; profile = profile.One; sources = 1; blocks = blocks }

-- ---- beats and messages

-- this many bytes, of which the first is this one
abbrev pub first_of : ℕ → ℕ → List ℕ
first_of count byte = byte ∷ replicate (count - 1) 0

abbrev pub request : OpA → ℕ → Message 8
request opcode param = message.A (record {
  opcode = opcode;
  param = param;
  size = 6;
  source = 0;
  address = 0;
  payload =
      replicate 64 0;
  mask = 255;
  corrupt = 0;
  small = lit≤ tt;
})

abbrev pub on_c : OpC → ℕ → ℕ → Message 8
on_c opcode param byte =
    message.C (record {
      opcode = opcode;
      param = param;
      size = 6;
      source = 0;
      address = 0;
      payload =
          first_of 64 byte;
      corrupt = 0;
      small = lit≤ tt;
    })

-- AcquireBlock and AcquirePerm of block 0 (0 NtoB, 1 NtoT, 2 BtoT)
abbrev pub acquire : ℕ → Option (Message 8)
acquire grow = Some (request a.AcquireBlock grow)

abbrev pub acquire_perm : ℕ → Option (Message 8)
acquire_perm grow = Some (request a.AcquirePerm grow)

-- ProbeAck and ProbeAckData of block 0 (0 TtoB, 1 TtoN, 2 BtoN, 5 NtoN), these data's first byte
abbrev pub probe_ack : ℕ → Option (Message 8)
probe_ack report = Some (on_c c.ProbeAck report 0)

abbrev pub probe_ack_data : ℕ → ℕ → Option (Message 8)
probe_ack_data report byte = Some (on_c c.ProbeAckData report byte)

-- Release BtoN and ReleaseData TtoN of block 0
abbrev pub release : Option (Message 8)
release = Some (on_c c.Release 2 0)

abbrev pub release_data : ℕ → Option (Message 8)
release_data byte = Some (on_c c.ReleaseData 1 byte)

abbrev pub grant_ack : Option (Message 8)
grant_ack = Some (message.E (record { sink = 0 }))

-- a Get of 2 ^ size bytes at 0
abbrev pub get_from : ℕ → (size : ℕ) → size ≤ 6 → Message 8
get_from source size small =
    message.A (record {
      opcode = a.Get;
      param = 0;
      size = size;
      source = source;
      address = 0;
      payload =
          replicate 64 0;
      mask = 255;
      corrupt = 0;
      small = small;
    })

-- ---- what is asked and what is offered

abbrev pub load : Event 8
load = Ask (Load 0 0)

abbrev pub store : ℕ → Event 8
store byte = Ask (Store 0 0 byte)

-- an access, the source of which is replaced
abbrev pub get : (size : ℕ) → size ≤ 6 → Event 8
get size small = Ask (Access (get_from 5 size small))

-- a PutPartialData of two bytes at 7, of which one has a lane
abbrev pub part : Event 8
part =
    Ask (Access (message.A (record {
      opcode = a.PutPartialData;
      param = 0;
      size = 1;
      source = 0;
      address = 7;
      payload = replicate 7 0
          ++ 17 ∷ replicate 56 0;
      mask = 128;
      corrupt = 0;
      small = lit≤ tt;
    })))

-- a ProbeBlock (0 toT, 1 toB, 2 toN)
abbrev pub probe : ℕ → ℕ → Event 8
probe cap address = Offer channel.B
    (B (record {
      opcode = b.ProbeBlock;
      param = cap;
      size = 6;
      source = 0;
      address = address;
      mask = 255;
      lanes =
          None;
      corrupt = false;
      carries = refl;
    }))

abbrev pub forwarded_get : Event 8
forwarded_get = Offer channel.B
    (B (record {
      opcode = b.Get;
      param = 0;
      size = 3;
      source = 0;
      address = 0;
      mask = 255;
      lanes = None;
      corrupt =
          false;
      carries = refl;
    }))

abbrev pub release_ack : Event 8
release_ack = Offer channel.D
    (D (record {
      opcode = d.ReleaseAck;
      param = 0;
      size = 6;
      source = 0;
      sink = 0;
      denied = false;
      lanes =
          None;
      corrupt = false;
      carries = refl;
    }))

-- a Grant (0 toT, 1 toB)
abbrev pub grant : ℕ → Event 8
grant cap = Offer channel.D
    (D (record {
      opcode = d.Grant;
      param = cap;
      size = 6;
      source = 0;
      sink = 0;
      denied = false;
      lanes = None;
      corrupt =
          false;
      carries = refl;
    }))

abbrev pub grant_data : ℕ → ℕ → ℕ → Event 8
grant_data cap source byte =
    Offer channel.D (D (record {
      opcode = d.GrantData;
      param = cap;
      size = 6;
      source = source;
      sink = 0;
      denied =
          false;
      lanes = Some (first_of 8 byte);
      corrupt = false;
      carries = refl;
    }))

-- the data of a Grant beat by beat
abbrev pub grants : ℕ → ℕ → List (Event 8)
grants cap byte = grant_data cap 0 byte ∷ replicate 7 (grant_data cap 0 0)

abbrev pub access_data : ℕ → Event 8
access_data size = Offer channel.D
    (D (record {
      opcode = d.AccessAckData;
      param = 0;
      size = size;
      source = 0;
      sink = 0;
      denied = false;
      lanes =
          Some (first_of 8 0);
      corrupt = false;
      carries = refl;
    }))

-- ---- the answers

abbrev pub started : Option (Message 8) → Answer 8
started m = Replied (Started 0) m

abbrev pub says : Reply → Answer 8
says reply = Replied reply None

-- the answers to a burst of eight beats that grants this
abbrev pub granted : Perm → List (Answer 8)
granted p = replicate 7 (Judged Taken None) ++ Judged (Done 0 (Granted p)) grant_ack ∷ []
