-- The manager's answer to each beat of clients with the liberties `drops` and `ids`. Its end is that of a manager under
-- the first profile, as if each client had sent a Release for each drop, and its ProbeAcks with source 0.
use Rattle.std.specs.Prelude.{ℕ, Bool, false, if◌then◌else◌, Option, Some, None, unwrap_or}
use Rattle.tl_beat.specs.declared.beat.Beat.{Beat}
use Rattle.tl_beat.specs.declared.beat.Link.{Link}
use Rattle.tl_beat.specs.declared.channel.Channel.{Channel}
use Rattle.tl_params.specs.declared.config.Config.{Config}
use Rattle.tl_params.specs.declared.level.Level.{Level}
use Rattle.tl_params.specs.declared.rule.Rule.{Rule}
use Rattle.tl_params.specs.declared.rule.Rule.TheVariants.{S1, H10, A3}
use Rattle.tl_rules.specs.statement.Legality.{illegal}
use Rattle.tl_manager.specs.statement.End.{End}
use Rattle.tl_manager.specs.statement.Offer.{Reception, Refused, Stalled, Sent, offered, open_level, refused, stalls}
use Rattle.tl_partner.specs.declared.terms.Terms.{Terms}
use Rattle.tl_partner.specs.statement.Dropping.{after_drop, block_of, is_drop, is_reporting}
use Rattle.tl_partner.specs.statement.Naming.{all_named, is_misnamed, plain}

-- the rule that a ProbeAck with another source breaks: A3 or an L rule; S1 within a message; otherwise H10
abbrev pub misnamed_rule : {w : ℕ} → Option Level → Channel → Beat w → Bool → Rule
misnamed_rule None ch x within = A3
misnamed_rule (Some l) ch x within = unwrap_or (illegal l ch x) (if within then S1 else H10)

-- the answer with each Probe from the source of its link
abbrev pub answer_named : {w : ℕ} → Terms → Reception w → Reception w
answer_named terms (Refused rule) = Refused rule
answer_named terms Stalled = Stalled
answer_named terms (Sent handed) = Sent (all_named terms handed)

-- the same for an answer and the end after it
abbrev pub received : {w : ℕ} → Terms → Reception w × End w → Reception w × End w
received terms r = (answer_named terms r.0, r.1)

-- The answer to a beat in the form of the first profile. If the beat shows a drop, the manager first takes the Release
-- for it; while a message of channel C is unfinished on the link, the beat is stalled.
abbrev pub offered_plain : {w : ℕ} → Terms → Config → Link → Channel → Beat w → End w → Reception w × End w
offered_plain terms config link ch x e =
    if is_drop terms config link ch x e
    then (if is_reporting link e.trace
    then (Stalled, e)
    else received terms (offered config link ch x (after_drop config link (block_of x) e)))
    else received terms (offered config link ch x e)

-- the manager's answer to a beat on this channel of a link, and its end afterwards
unfoldable pub offered_lenient : {w : ℕ} → Terms → Config → Link → Channel → Beat w → End w → Reception w × End w
offered_lenient terms config link ch x e =
    if is_misnamed terms link x
    then (
      Refused
          (misnamed_rule (open_level config link e) ch (plain terms x) (is_reporting link e.trace)),
      refused link e,
    )
    else offered_plain terms config link ch (plain terms x) e

-- the manager would stall a beat in the form of the first profile
abbrev pub stalls_plain : {w : ℕ} → Terms → Config → Link → Channel → Beat w → End w → Bool
stalls_plain terms config link ch x e =
    if is_drop terms config link ch x e then is_reporting link e.trace else stalls config link ch x e

-- the manager would stall the beat
unfoldable pub stalls_lenient : {w : ℕ} → Terms → Config → Link → Channel → Beat w → End w → Bool
stalls_lenient terms config link ch x e =
    if is_misnamed terms link x then false else stalls_plain terms config link ch (plain terms x) e
