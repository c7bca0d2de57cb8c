-- The sources of Probes and ProbeAcks.
use Rattle.std.specs.Prelude.{ℕ, Bool, false, not, ◌==◌, ◌&&◌, if◌then◌else◌, map, slice_index_or}
use Rattle.tl_beat.specs.declared.beat.Beat.{Beat}
use Rattle.tl_beat.specs.declared.beat.Beat.TheVariants as beat
use Rattle.tl_beat.specs.declared.beat.BeatC.{BeatC}
use Rattle.tl_beat.specs.declared.beat.Link.{Link}
use Rattle.tl_burst.specs.declared.message.Message.{Message}
use Rattle.tl_burst.specs.declared.message.Message.TheVariants as message
use Rattle.tl_burst.specs.declared.message.MessageB.{MessageB}
use Rattle.tl_rules.specs.statement.History.{is_probe_ack}
use Rattle.tl_manager.specs.statement.Handing.{Handed}
use Rattle.tl_partner.specs.declared.terms.Terms.{Terms}

-- the source of the Probes of a link
abbrev pub probe_source : Terms → ℕ → ℕ
probe_source terms link = slice_index_or terms.sources link 0

-- the Probe with this source
abbrev pub with_source : {w : ℕ} → ℕ → MessageB w → MessageB w
with_source source m = record {
  opcode = m.opcode;
  param = m.param;
  size = m.size;
  source = source;
  address = m.address;
  payload = m.payload;
  mask = m.mask;
  corrupt = m.corrupt;
  small = m.small;
}

-- the message as it is handed out on a link: under `ids` a Probe has the source of the link's Probes
abbrev pub named : {w : ℕ} → Terms → Link → Message w → Message w
named terms link (message.B m) =
    if terms.ids then message.B (with_source (probe_source terms link.0) m) else message.B m
named terms link m = m

-- the same for several messages
abbrev pub all_named : {w : ℕ} → Terms → Handed w → Handed w
all_named terms handed = map (λ x. (x.0, named terms x.0 x.1)) handed

-- under `ids` the beat is a ProbeAck with another source than the Probes of its link
abbrev pub is_misnamed : {w : ℕ} → Terms → Link → Beat w → Bool
is_misnamed terms link (beat.C x) =
    terms.ids && (is_probe_ack x.opcode && not (x.source == probe_source terms link.0))
is_misnamed terms link x = false

-- the beat with source 0
abbrev pub from_zero : {w : ℕ} → BeatC w → BeatC w
from_zero x = record {
  opcode = x.opcode;
  param = x.param;
  size = x.size;
  source = 0;
  address = x.address;
  lanes = x.lanes;
  corrupt = x.corrupt;
  carries = x.carries;
}

-- the beat as the first profile has it: under `ids` a ProbeAck gets source 0
abbrev pub plain : {w : ℕ} → Terms → Beat w → Beat w
plain terms (beat.C x) = if terms.ids && is_probe_ack x.opcode then beat.C (from_zero x) else beat.C x
plain terms x = x
