-- How a plain client changes its state.
use Rattle.std.specs.Prelude.{ℕ, Bool, true, false, not, List, ◌∷◌, ◌==◌, ◌&&◌, ◌||◌, if◌then◌else◌, Option, Some, None}
use Rattle.std.specs.Option.{option_or}
use Rattle.tl_beat.specs.declared.beat.Beat.{Beat}
use Rattle.tl_beat.specs.declared.beat.Beat.TheVariants as beat
use Rattle.tl_beat.specs.declared.beat.BeatD.{BeatD}
use Rattle.tl_beat.specs.declared.channel.Channel.{Channel}
use Rattle.tl_beat.specs.declared.channel.Channel.TheVariants as channel
use Rattle.tl_beat.specs.statement.First.{first_if}
use Rattle.tl_burst.specs.declared.message.Message.TheVariants as message
use Rattle.tl_burst.specs.declared.message.MessageA.{MessageA}
use Rattle.tl_burst.specs.statement.Messages.{breaks_burst}
use Rattle.tl_burst.specs.statement.Part.{is_empty, completes}
use Rattle.tl_params.specs.declared.level.Level.{Level}
use Rattle.tl_params.specs.declared.rule.Rule.{Rule}
use Rattle.tl_params.specs.declared.rule.Rule.TheVariants.{L1, S1, H2, H3, A2, A3}
use Rattle.tl_rules.specs.statement.Admission.{payload_of}
use Rattle.tl_rules.specs.statement.Conformance.{answers}
use Rattle.tl_rules.specs.statement.Legality.{illegal}
use Rattle.tl_client.specs.declared.operation.Op.{Op}
use Rattle.tl_client.specs.declared.operation.Op.TheVariants.{Access}
use Rattle.tl_client.specs.declared.request.Request.{Request}
use Rattle.tl_client.specs.declared.verdict.Verdict.{Verdict}
use Rattle.tl_client.specs.declared.verdict.Verdict.TheVariants as verdict
use Rattle.tl_client.specs.statement.Offer.{finish_of}

-- ---- operations

-- the access that an operation asks for
abbrev pub access_in : {w : ℕ} → Op w → Option (MessageA w)
access_in (Access (message.A m)) = Some m
access_in _ = None

-- ---- beats, given the asked requests and the unfinished burst of channel D

-- the H rule that the first beat of a response to this request breaks
abbrev pub response_rule : {w : ℕ} → BeatD w → Option Request → Option Rule
response_rule x None = Some H2
response_rule x (Some r) = first_if (not (answers x.opcode r.opcode)) H2 (first_if (not (x.size == r.size)) H3 None)

-- the rule that a beat breaks which breaks no L rule
abbrev pub order_rule : {w : ℕ} → BeatD w → Option Request → List (Beat w) → Option Rule
order_rule x request burst =
    option_or (if is_empty burst then response_rule x request else first_if (breaks_burst (beat.D x) burst) S1 None)
    (first_if (x.corrupt || x.denied) A2 None)

-- the first rule that a beat breaks at a client that has no channel B and sends on A, C and E itself
abbrev pub plain_rule : {w : ℕ} → Level → (ℕ → Option Request) → List (Beat w) → Bool → Channel → Beat w → Option Rule
plain_rule l asked burst true ch x = Some A3
plain_rule l asked burst false channel.D (beat.D x) =
    option_or (illegal l channel.D (beat.D x)) (order_rule x (asked x.source) burst)
plain_rule l asked burst false _ _ = Some L1

abbrev pub address_in : Option Request → ℕ
address_in None = 0
address_in (Some r) = r.address

-- the answer to a beat that breaks none
abbrev pub plain_verdict : {w : ℕ} → (ℕ → Option Request) → List (Beat w) → Beat w → Verdict
plain_verdict {w} asked burst (beat.D x) =
    if completes (beat.D x) burst
    then verdict.Done x.source (finish_of w x.opcode x.param x.size (address_in (asked x.source))
    (payload_of (beat.D x ∷ burst)))
    else verdict.Taken
plain_verdict asked burst _ = verdict.Taken

-- the beat closes the request with this source
abbrev pub ends_request : {w : ℕ} → List (Beat w) → Beat w → ℕ → Bool
ends_request burst (beat.D x) s = completes (beat.D x) burst && (x.source == s)
ends_request burst _ s = false
