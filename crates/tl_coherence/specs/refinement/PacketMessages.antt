-- Which message a token stands for: a function of its kind, and of what the block, or the source, has.
use Rattle.std.specs.Prelude.{ℕ, true, false, List, ◌*◌, ◌-◌, ◌^◌, if◌then◌else◌, map}
use Rattle.tl_beat.specs.declared.beat.BeatB.{BeatB}
use Rattle.std.proofs.Common.{lit≤}
use Rattle.tl_beat.specs.declared.channel.Channel.{Channel}
use Rattle.tl_beat.specs.declared.opcode.OpA.TheVariants as a
use Rattle.tl_beat.specs.declared.opcode.OpB.TheVariants as opb
use Rattle.tl_burst.specs.declared.message.Message.{Message}
use Rattle.tl_burst.specs.declared.message.Message.TheVariants as message
use Rattle.tl_burst.specs.declared.message.MessageB.{MessageB}
use Rattle.tl_burst.specs.statement.Burst.{b_beat_of}
use Rattle.tl_params.specs.declared.param.Cap.{Cap}
use Rattle.tl_params.specs.declared.param.Cap.TheVariants as cap
use Rattle.tl_params.specs.declared.param.Grow.TheVariants as grow
use Rattle.tl_params.specs.declared.param.Prune.{Prune}
use Rattle.tl_params.specs.declared.param.Prune.TheVariants as prune
use Rattle.tl_params.specs.declared.param.Report.{Report}
use Rattle.tl_params.specs.declared.param.Report.TheVariants as report
use Rattle.tl_params.specs.statement.Param.{cap_code, report_left}
use Rattle.tl_client.specs.statement.Send.{acquire, release, probe_ack, grant_ack}
use Rattle.tl_manager.specs.statement.Handing.{probe_of_block, release_ack, grant_opcode, no_payload}
use Rattle.tl_coherence.specs.protocol.Phase.{ProbePhase, ProbeSent, ProbeAnswered, ReleasePhase, ReleaseSent}
use Rattle.tl_coherence.specs.protocol.Phase.{AcquirePhase, AcquireOpen}
use Rattle.tl_coherence.specs.protocol.Packet.{Kind, Request, Acquire, Probe, ProbeAck, Release, Answer, Grant}
use Rattle.tl_coherence.specs.protocol.Packet.{ReleaseAck, GrantAck, Packet}
use Rattle.tl_coherence.specs.protocol.Protocol.{Service, GrantSent, Block, State, packets_on}

-- ---- parts, with a default where there is none

abbrev pub cap_sent : ProbePhase → Cap
cap_sent (ProbeSent k) = k
cap_sent _ = cap.ToN

abbrev pub report_told : ProbePhase → Report
report_told (ProbeAnswered r) = r
report_told _ = report.NtoN

abbrev pub prune_told : ReleasePhase → Prune
prune_told (ReleaseSent r) = r
prune_told _ = prune.BtoN

abbrev pub acquire_of : {w : ℕ} → AcquirePhase → ℕ → ℕ → Message w
acquire_of (AcquireOpen true g) source n = acquire a.AcquirePerm g source n
acquire_of (AcquireOpen false g) source n = acquire a.AcquireBlock g source n
acquire_of _ source n = acquire a.AcquireBlock grow.NtoB source n

abbrev pub grant_of : {w : ℕ} → Service → ℕ → ℕ → List ℕ → Message w
grant_of (GrantSent q d k) source sink payload = message.D (record {
  opcode = grant_opcode d;
  param = cap_code k;
  size = 6;
  source = source;
  sink = sink;
  denied = false;
  payload = if d then payload else no_payload;
  corrupt = 0;
  small = lit≤ tt;
})
grant_of _ source sink payload = release_ack source

-- ---- messages

-- the message of a kind that client c and block n have in flight
unfoldable pub block_message : {w : ℕ} → Kind → ℕ → ℕ → Block (List ℕ) → Message w
block_message Acquire c n b = acquire_of (b.pair c).acquiring (b.source c) n
block_message Probe c n b = probe_of_block n (cap_sent (b.pair c).probing)
block_message ProbeAck c n b = probe_ack opb.ProbeBlock (report_left (report_told (b.pair c).probing))
    (report_told (b.pair c).probing) n b.truth
block_message Release c n b = release (prune_told (b.pair c).letting) (b.release_source c) n b.truth
block_message Grant c n b = grant_of b.service (b.source c) b.tracker b.truth
block_message ReleaseAck c n b = release_ack (b.release_source c)
block_message GrantAck c n b = grant_ack b.tracker
block_message _ c n b = grant_ack 0

-- the one beat of a Probe that the manager hands out
abbrev pub probe_beat : {w : ℕ} → ℕ → Cap → BeatB w
probe_beat {w} n k = b_beat_of (probe_message n k) 0
  where
    probe_message : ℕ → Cap → MessageB w
    probe_message i j = record {
      opcode = opb.ProbeBlock;
      param = cap_code j;
      size = 6;
      source = 0;
      address =
          64 * i;
      payload = no_payload;
      mask = 2 ^ w - 1;
      corrupt = 0;
      small = lit≤ tt;
    }

-- the accesses and their answers, by client and source
pub record AccessMessages (w : ℕ) : Type 0 where
  pub request : ℕ → ℕ → Message w
  pub answer : ℕ → ℕ → Message w

abbrev pub message_of_kind : {w : ℕ} → Kind → AccessMessages w → State (List ℕ) → ℕ → ℕ → Message w
message_of_kind Request mail s c n = mail.request c n
message_of_kind Answer mail s c n = mail.answer c n
message_of_kind k mail s c n = block_message k c n (s.block n)

abbrev pub message_of : {w : ℕ} → AccessMessages w → State (List ℕ) → ℕ → Packet → Message w
message_of mail s c x = message_of_kind x.kind mail s c x.number

-- the messages of a channel of client c's link, the next to be taken first
abbrev pub messages_on : {w : ℕ} → Channel → AccessMessages w → State (List ℕ) → ℕ → List (Message w)
messages_on ch mail s c = map (message_of mail s c) (packets_on ch (s.link c))
