-- The messages that a client hands out. The parts of one that no beat carries are zero.
use Rattle.std.specs.Prelude.{ℕ, List, ◌-◌, ◌*◌, ◌^◌}
use Rattle.std.proofs.Common.{lit≤}
use Rattle.tl_beat.specs.declared.opcode.OpA.{OpA}
use Rattle.tl_beat.specs.declared.opcode.OpB.{OpB}
use Rattle.tl_beat.specs.declared.opcode.OpB.TheVariants as b
use Rattle.tl_beat.specs.declared.opcode.OpC.{OpC}
use Rattle.tl_beat.specs.declared.opcode.OpC.TheVariants as c
use Rattle.tl_burst.specs.declared.message.Message.{Message}
use Rattle.tl_burst.specs.declared.message.Message.TheVariants as message
use Rattle.tl_burst.specs.declared.message.MessageA.{MessageA}
use Rattle.tl_burst.specs.declared.message.MessageC.{MessageC}
use Rattle.tl_params.specs.declared.param.Grow.{Grow}
use Rattle.tl_params.specs.declared.param.Prune.{Prune}
use Rattle.tl_params.specs.declared.param.Prune.TheVariants as prune
use Rattle.tl_params.specs.declared.param.Report.{Report}
use Rattle.tl_params.specs.declared.perm.Perm.{Perm}
use Rattle.tl_params.specs.declared.perm.Perm.TheVariants as perm
use Rattle.tl_params.specs.statement.Param.{grow_code, prune_code, report_code}
use Rattle.tl_client.specs.statement.Endpoint.{zeros}

-- the access with this source in place of its own
abbrev pub sourced : {w : ℕ} → ℕ → MessageA w → MessageA w
sourced source m = record m { source = source }

-- the message of that access
abbrev pub access : {w : ℕ} → ℕ → MessageA w → Message w
access source m = message.A (sourced source m)

-- an Acquire of a block
abbrev pub acquisition : {w : ℕ} → OpA → Grow → ℕ → ℕ → MessageA w
acquisition {w} opcode grow source block = record {
  opcode = opcode;
  param = grow_code grow;
  size = 6;
  source = source;
  address = 64 * block;
  payload = zeros;
  mask = 2 ^ w - 1;
  corrupt = 0;
  small = lit≤ tt;
}

-- an Acquire of a block with this source
abbrev pub acquire : {w : ℕ} → OpA → Grow → ℕ → ℕ → Message w
acquire opcode grow source block = message.A (acquisition opcode grow source block)

-- a message of channel C about a block, with these bytes as its payload
abbrev pub about : {w : ℕ} → OpC → ℕ → ℕ → ℕ → List ℕ → MessageC w
about opcode param source block payload = record {
  opcode = opcode;
  param = param;
  size = 6;
  source = source;
  address = 64 * block;
  payload = payload;
  corrupt = 0;
  small = lit≤ tt;
}

-- a message of channel C about a block
abbrev pub on_c : {w : ℕ} → OpC → ℕ → ℕ → ℕ → List ℕ → Message w
on_c opcode param source block payload = message.C (about opcode param source block payload)

-- a Release; it carries the copy if its prune starts from Trunk
abbrev pub release : {w : ℕ} → Prune → ℕ → ℕ → List ℕ → Message w
release prune.TtoB source block copy = on_c c.ReleaseData (prune_code prune.TtoB) source block copy
release prune.TtoN source block copy = on_c c.ReleaseData (prune_code prune.TtoN) source block copy
release prune.BtoN source block copy = on_c c.Release (prune_code prune.BtoN) source block zeros

-- a ProbeAck; it carries the copy if it answers a ProbeBlock and Trunk is held
abbrev pub probe_ack : {w : ℕ} → OpB → Perm → Report → ℕ → List ℕ → Message w
probe_ack b.ProbeBlock perm.Trunk report block copy = on_c c.ProbeAckData (report_code report) 0 block copy
probe_ack _ _ report block copy = on_c c.ProbeAck (report_code report) 0 block zeros

-- the GrantAck of a Grant with this sink
abbrev pub grant_ack : {w : ℕ} → ℕ → Message w
grant_ack sink = message.E (record { sink = sink })
