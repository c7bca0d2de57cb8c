-- A response as its message and as its beats say it.
use Rattle.std.specs.Prelude.{ℕ, List, ◌∷◌, ◌≡◌, Option, Some, None, ⊤}
use Rattle.tl_beat.specs.declared.beat.Beat.{Beat}
use Rattle.tl_beat.specs.declared.beat.Beat.TheVariants as beat
use Rattle.tl_beat.specs.declared.beat.BeatD.{BeatD}
use Rattle.tl_beat.specs.declared.opcode.OpD.{OpD}
use Rattle.tl_burst.specs.declared.message.Message.{Message}
use Rattle.tl_burst.specs.declared.message.Message.TheVariants as message
use Rattle.tl_burst.specs.declared.message.MessageD.{MessageD}
use Rattle.tl_rules.specs.statement.Admission.{payload_of}
use Rattle.tl_client.specs.declared.request.Request.{Request}
use Rattle.tl_client.specs.declared.verdict.Verdict.{Verdict}
use Rattle.tl_client.specs.declared.verdict.Verdict.TheVariants.{Done}
use Rattle.tl_client.specs.statement.Offer.{finish_of}
use Rattle.tl_client.specs.code.Plain.{address_in}

pub record Response : Type 0 where
  pub opcode : OpD
  pub param : ℕ
  pub size : ℕ
  pub source : ℕ
  pub sink : ℕ
  pub payload : List ℕ

-- the message, if it is one of channel D
abbrev pub d_of : {w : ℕ} → Message w → Option (MessageD w)
d_of (message.D m) = Some m
d_of _ = None

-- that of a last beat and its payload
abbrev pub with_payload : {w : ℕ} → BeatD w → List ℕ → Response
with_payload x payload = record {
  opcode = x.opcode;
  param = x.param;
  size = x.size;
  source = x.source;
  sink = x.sink;
  payload = payload;
}

-- that of a burst whose last beat is this one
abbrev pub in_beats : {w : ℕ} → BeatD w → List (Beat w) → Response
in_beats x burst = with_payload x (payload_of (beat.D x ∷ burst))

-- these bytes are the payload of the response of which this is the last beat
abbrev pub IsFilled : {w : ℕ} → List ℕ → Beat w → List (Beat w) → Type 0
IsFilled payload (beat.D x) burst = payload ≡ payload_of (beat.D x ∷ burst)
IsFilled payload _ burst = ⊤

-- the answer to a response that is complete, to this request
abbrev pub done_with : Response → ℕ → Option Request → Verdict
done_with m w request = Done m.source (finish_of w m.opcode m.param m.size (address_in request) m.payload)
