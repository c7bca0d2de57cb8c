-- The requests and Probes that are open at an end of a link.
use Rattle.std.specs.Prelude.{ℕ, not, ◌&&◌, if◌then◌else◌, Option, Some, None}
use Rattle.tl_beat.specs.declared.beat.BeatA.{BeatA}
use Rattle.tl_beat.specs.declared.beat.BeatB.{BeatB}
use Rattle.tl_beat.specs.declared.channel.Channel.TheVariants as channel
use Rattle.tl_burst.specs.statement.Messages.{History, unfinished}
use Rattle.tl_params.specs.declared.key.Key.TheVariants.{RequestSource, ProbeOf}
use Rattle.tl_rules.specs.declared.past.Request.{Request}
use Rattle.tl_rules.specs.declared.past.Probe.{Probe}
use Rattle.tl_rules.specs.statement.History.{block_at, request_of, probe_of, pending}
use Rattle.tl_rules.specs.statement.Conformance.{comes_in_request}

-- the fields of a request that later messages depend on
abbrev pub request_fields : {w : ℕ} → Option (BeatA w) → Option Request
request_fields None = None
request_fields (Some x) =
    Some (record { opcode = x.opcode; param = x.param; size = x.size; block = block_at x.address })

-- the fields of a Probe that later messages depend on
abbrev pub probe_fields : {w : ℕ} → Option (BeatB w) → Option Probe
probe_fields None = None
probe_fields (Some x) = Some (record { opcode = x.opcode; param = x.param })

-- the request with this source that is pending and complete
abbrev pub open_request : {w : ℕ} → ℕ → History w → Option Request
open_request s t = if pending (RequestSource s) t && not (comes_in_request s (unfinished channel.A t)) then
    request_fields (request_of s t) else None

-- the Probe of the block that is pending
abbrev pub open_probe : {w : ℕ} → ℕ → History w → Option Probe
open_probe k t = if pending (ProbeOf k) t then probe_fields (probe_of k t) else None
