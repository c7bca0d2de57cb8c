-- Dropped copies: those that a client gave up without a message (`drops`).
use Rattle.std.specs.Prelude.{ℕ, Bool, true, false, not, None, ◌&&◌, ◌*◌, refl}
use Rattle.tl_beat.specs.declared.beat.Beat.{Beat}
use Rattle.tl_beat.specs.declared.beat.Beat.TheVariants as beat
use Rattle.tl_beat.specs.declared.beat.BeatC.{BeatC}
use Rattle.tl_beat.specs.declared.beat.Link.{Link}
use Rattle.tl_beat.specs.declared.channel.Channel.{Channel}
use Rattle.tl_beat.specs.declared.channel.Channel.TheVariants as channel
use Rattle.tl_beat.specs.declared.opcode.OpC.TheVariants as c
use Rattle.tl_burst.specs.statement.Messages.{unfinished}
use Rattle.tl_burst.specs.statement.Part.{is_empty}
use Rattle.tl_params.specs.declared.config.Config.{Config}
use Rattle.tl_params.specs.declared.param.Prune.{Prune}
use Rattle.tl_params.specs.declared.param.Prune.TheVariants as prune
use Rattle.tl_params.specs.declared.perm.Perm.{Perm}
use Rattle.tl_params.specs.declared.perm.Perm.TheVariants as perm
use Rattle.tl_params.specs.declared.rule.Rule.TheVariants.{H5, H12}
use Rattle.tl_params.specs.statement.Param.{prune_code}
use Rattle.tl_rules.specs.statement.Conformance.{Trace, on_link}
use Rattle.tl_rules.specs.statement.History.{block_at, is_acquire, is_probe_ack}
use Rattle.tl_rules.specs.statement.Liberties.{grows_from_none, reports_none}
use Rattle.tl_manager.specs.statement.End.{End}
use Rattle.tl_manager.specs.statement.Holders.{recorded}
use Rattle.tl_manager.specs.statement.Offer.{Judgement, Breaks, judged, offered}
use Rattle.tl_partner.specs.declared.terms.Terms.{Terms}

-- the beat says that its client holds None of its block: an Acquire NtoB or NtoT, or a ProbeAck NtoN
abbrev pub says_none : {w : ℕ} → Beat w → Bool
says_none (beat.A x) = is_acquire x.opcode && grows_from_none x.param
says_none (beat.C x) = is_probe_ack x.opcode && reports_none x.param
says_none x = false

-- the block of a beat; 0 for a beat without address
abbrev pub block_of : {w : ℕ} → Beat w → ℕ
block_of (beat.A x) = block_at x.address
block_of (beat.B x) = block_at x.address
block_of (beat.C x) = block_at x.address
block_of (beat.D x) = 0
block_of (beat.E x) = 0

-- the first rule that the message breaks is H5 or H12, which depend on the permission recorded
abbrev pub is_by_record : Judgement → Bool
is_by_record (Breaks H5) = true
is_by_record (Breaks H12) = true
is_by_record j = false

-- under `drops` the beat shows that its client dropped a copy which the manager has recorded
abbrev pub is_drop : {w : ℕ} → Terms → Config → Link → Channel → Beat w → End w → Bool
is_drop terms config link ch x e =
    terms.drops && (says_none x && is_by_record (judged config link ch x e))

-- the prune of a Release that gives up this permission
abbrev pub prune_from : Perm → Prune
prune_from perm.Trunk = prune.TtoN
prune_from p = prune.BtoN

-- the Release without data by which a client gives up this permission of a block
abbrev pub release_of : {w : ℕ} → ℕ → Perm → BeatC w
release_of block p = record {
  opcode = c.Release;
  param = prune_code (prune_from p);
  size = 6;
  source = 0;
  address = 64 * block;
  lanes = None;
  corrupt = false;
  carries = refl;
}

-- the same as a beat of any channel
abbrev pub release_beat : {w : ℕ} → ℕ → Perm → Beat w
release_beat block p = beat.C (release_of block p)

-- the manager's end after it took this Release for the client, with the permission recorded
abbrev pub after_drop : {w : ℕ} → Config → Link → ℕ → End w → End w
after_drop config link block e =
    (offered config link channel.C (release_beat block (recorded link.0 block e.trace)) e).1

-- a message of channel C is unfinished on the link, so the Release can't come now
abbrev pub is_reporting : {w : ℕ} → Link → Trace w → Bool
is_reporting link t = not (is_empty (unfinished channel.C (on_link link.0 t)))
