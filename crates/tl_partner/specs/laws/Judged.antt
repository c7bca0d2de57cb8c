-- The rule that a beat breaks at a manager whose clients have liberties, by the beats that the links carried.
use Rattle.std.specs.Prelude.{ℕ, ◌≡◌, if◌then◌else◌, Option, Some, None}
use Rattle.std.specs.Option.{option_or}
use Rattle.tl_beat.specs.declared.beat.Beat.{Beat}
use Rattle.tl_beat.specs.declared.beat.Link.{Link}
use Rattle.tl_beat.specs.declared.channel.Channel.{Channel}
use Rattle.tl_beat.specs.statement.First.{first_if}
use Rattle.tl_params.specs.declared.config.Config.{Config}
use Rattle.tl_params.specs.declared.level.Level.{Level}
use Rattle.tl_params.specs.declared.liberties.Liberties.{Liberties}
use Rattle.tl_params.specs.declared.rule.Rule.{Rule}
use Rattle.tl_params.specs.declared.rule.Rule.TheVariants.{L1, A1, A2, A3}
use Rattle.tl_rules.specs.statement.Admission.{is_outside, is_spoiled}
use Rattle.tl_rules.specs.statement.Conformance.{Trace, on_link}
use Rattle.tl_rules.specs.statement.Liberties.{broken_in_order_under, illegal_under}
use Rattle.tl_manager.specs.statement.Offer.{Reception, Refused, Sent, Stalled, before_stall, is_from_client}

-- the L rule that a beat on this channel breaks; L1 if clients don't send it
abbrev pub unlawful_under : {w : ℕ} → Liberties → Level → Channel → Beat w → Option Rule
unlawful_under l level ch x = if is_from_client x then illegal_under l level ch x else Some L1

-- The first rule that a beat breaks on a link with this level and these liberties, after the trace t: L, S and H rules,
-- then A1 and A2. A link without a level is closed or doesn't exist: A3.
abbrev pub first_rule : {w : ℕ} → Liberties → Config → Option Level → Link → Channel → Beat w → Trace w → Option Rule
first_rule l config None link ch x t = Some A3
first_rule l config (Some level) link ch x t =
    option_or (unlawful_under l level ch x)
    (option_or (broken_in_order_under l x (on_link link.0 t))
    (first_if (is_outside config.blocks x) A1 (first_if (is_spoiled x) A2 None)))

-- the same for the rules that are judged before a stall: L, S1 and H1
abbrev pub early_rule : {w : ℕ} → Liberties → Option Level → Link → Channel → Beat w → Trace w → Option Rule
early_rule l None link ch x t = Some A3
early_rule l (Some level) link ch x t =
    option_or (unlawful_under l level ch x) (before_stall (broken_in_order_under l x (on_link link.0 t)))

-- A refusal names the first rule. A beat that is taken breaks none, and one that is stalled breaks none of the early
-- rules.
abbrev pub NamesRule : {w : ℕ} → Reception w → Option Rule → Option Rule → Type 0
NamesRule (Refused rule) first early = first ≡ Some rule
NamesRule Stalled first early = early ≡ None
NamesRule (Sent handed) first early = first ≡ None
