-- The calls of C on a client and its beats to send, as the crate of ports states them. Bad input changes nothing.
use Rattle.std.specs.Prelude.{ℕ, List, ◌≡◌, ⊤, Option, Some, None, Result, Ok, Err}
use Rattle.tl_beat.specs.declared.beat.Beat.{Beat}
use Rattle.tl_beat.specs.declared.channel.Channel.{Channel}
use Rattle.tl_burst.specs.statement.Messages.{channel_of}
use Rattle.tl_params.specs.declared.rule.Rule.{Rule}
use Rattle.tl_client.specs.code.KnowsAny.{KnowsAny, any_terms}
use Rattle.tl_client.specs.declared.operation.Op.{Op}
use Rattle.tl_client.specs.declared.reply.Reply.{Reply}
use Rattle.tl_client.specs.declared.verdict.Verdict.{Verdict}
use Rattle.tl_client.specs.statement.Endpoint.{Endpoint}
use Rattle.tl_client.specs.statement.Offer as offer
use Rattle.tl_ports.specs.declared.client.ClientPort.{ClientPort}
use Rattle.tl_ports.specs.statement.Client.{AskTold, OfferTold, Popped, next_beat, held_of}
use Rattle.tl_pictures.specs.declared.answer.Answer.{Answer}
use Rattle.tl_pictures.specs.declared.operation.Operation.{Operation}
use Rattle.tl_pictures.specs.declared.outcome.Outcome.{Outcome}
use Rattle.tl_pictures.specs.declared.outcome.Reception.{Reception}
use Rattle.tl_pictures.specs.declared.picture.Picture.{Picture}
use Rattle.tl_pictures.specs.statement.Answer.{ok, bad, broken, no_memory, nothing}
use Rattle.tl_pictures.specs.statement.Codes.{channel_at}
use Rattle.tl_pictures.specs.statement.Depicted.{flag, ShowsBeat}
use Rattle.tl_pictures.specs.statement.Operation.{asked_for}
use Rattle.tl_pictures.specs.statement.Outcome.{outcome_of, reception_of, perm_number}
use Rattle.tl_pictures.specs.statement.Picture.{shown}

-- ---- operations

-- the answer to an operation: ok, or out of memory
abbrev pub ask_answer : {E : Type 0} → Result Reply E → Answer
ask_answer (Ok reply) = ok
ask_answer (Err error) = no_memory

-- the outcome after an operation: the reply, or the earlier outcome if there is no reply
abbrev pub outcome_in : {E : Type 0} → Result Reply E → Outcome → Outcome
outcome_in (Ok reply) was = outcome_of reply
outcome_in (Err error) was = was

-- the client was asked for the operation, and C gets the answer and the outcome
pub record IsAsked {w : ℕ} {E : Type 0} (old new : ClientPort w) (op : Op w) (was outcome : Outcome) (answer : Answer)
    (told : Result Reply E) : Type 0 where
  pub asks : AskTold old new op told
  pub answers : answer ≡ ask_answer told
  pub outcome_is : outcome ≡ outcome_in told was

-- C asks for the operation that the fields describe; None is bad input
abbrev pub AskedFor : {w : ℕ} → ClientPort w → ClientPort w → Option (Op w) → Outcome → Outcome → Answer → Type 0
AskedFor old new None was outcome answer = (answer ≡ bad) × (new ≡ old) × (outcome ≡ was)
AskedFor old new (Some op) was outcome answer = (told : Result Reply ⊤) × IsAsked old new op was outcome answer told

-- C asks a client for an operation with these fields
abbrev pub Asked : (w : ℕ) → ClientPort w → ClientPort w → Operation → Outcome → Outcome → Answer → Type 0
Asked w old new x was outcome answer = AskedFor old new (asked_for w x) was outcome answer

-- ---- beats

-- the answer to an offered beat: ok, the broken rule, or out of memory
abbrev pub offer_answer : {E : Type 0} → Result (Result Verdict Rule) E → Answer
offer_answer (Ok (Ok verdict)) = ok
offer_answer (Ok (Err rule)) = broken rule
offer_answer (Err error) = no_memory

-- the reception after an offer: the verdict, or the earlier reception if there is no verdict
abbrev pub reception_in : {E : Type 0} → Result (Result Verdict Rule) E → Reception → Reception
reception_in (Ok (Ok verdict)) was = reception_of verdict
reception_in (Ok (Err rule)) was = was
reception_in (Err error) was = was

-- the beat was offered on its channel, and C gets the answer and the reception
pub record IsOffered {w : ℕ} {E : Type 0} (old new : ClientPort w) (x : Beat w) (was reception : Reception)
    (answer : Answer) (told : Result (Result Verdict Rule) E) : Type 0 where
  pub offers : OfferTold old new (channel_of x) x told
  pub answers : answer ≡ offer_answer told
  pub reception_is : reception ≡ reception_in told was

-- C offers the beat that a picture shows; None is bad input
abbrev pub OfferedBeat : {w : ℕ} → ClientPort w → ClientPort w → Option (Beat w) → Reception → Reception → Answer
    → Type 0
OfferedBeat old new None was reception answer = (answer ≡ bad) × (new ≡ old) × (reception ≡ was)
OfferedBeat old new (Some x) was reception answer =
    (told : Result (Result Verdict Rule) ⊤) × IsOffered old new x was reception answer told

-- C offers a client the beat of this picture
abbrev pub OfferedOf : (w : ℕ) → ClientPort w → ClientPort w → Picture → Reception → Reception → Answer → Type 0
OfferedOf w old new x was reception answer = OfferedBeat old new (shown w x) was reception answer

-- the client would stall the beat, as a flag; None is bad input
abbrev pub StallsBeat : {w : ℕ} → ClientPort w → Option (Beat w) → ℕ → ℕ → Answer → Type 0
StallsBeat port None was stalled answer = (answer ≡ bad) × (stalled ≡ was)
StallsBeat {w} port (Some x) was stalled answer = (answer ≡ ok)
    × ((e : Endpoint w) → KnowsAny port.client e
    → stalled ≡ flag (offer.stalls (any_terms port.client) (channel_of x) x e))

-- the client would stall the beat of this picture, as a flag
abbrev pub Stalls : (w : ℕ) → ClientPort w → Picture → ℕ → ℕ → Answer → Type 0
Stalls w port x was stalled answer = StallsBeat port (shown w x) was stalled answer

-- ---- beats to send

-- the picture shows the next beat to send on the channel; None is bad input
abbrev pub ShowsOn : {w : ℕ} → ClientPort w → Option Channel → Picture → Picture → Answer → Type 0
ShowsOn port None was picture answer = (answer ≡ bad) × (picture ≡ was)
ShowsOn port (Some ch) was picture answer = ShowsBeat (next_beat ch port) was picture answer

-- the picture shows the next beat to send on the channel with this code
abbrev pub Shows : (w : ℕ) → ClientPort w → ℕ → Picture → Picture → Answer → Type 0
Shows w port code was picture answer = ShowsOn port (channel_at code) was picture answer

-- the first beat to send on the channel is removed; None changes nothing
abbrev pub PopsOn : {w : ℕ} → ClientPort w → ClientPort w → Option Channel → Type 0
PopsOn old new None = new ≡ old
PopsOn old new (Some ch) = Popped ch old new

-- the picture shows the next beat to send on the channel with this code, and the beat is removed
abbrev pub Pops : (w : ℕ) → ClientPort w → ClientPort w → ℕ → Picture → Picture → Answer → Type 0
Pops w old new code was picture answer =
    ShowsOn old (channel_at code) was picture answer × PopsOn old new (channel_at code)

-- ---- the state of a client

-- the number is the permission that the client holds of the block
abbrev pub Holds : (w : ℕ) → ClientPort w → ℕ → ℕ → Answer → Type 0
Holds w port block perm answer =
    (answer ≡ ok) × ((e : Endpoint w) → KnowsAny port.client e → perm ≡ perm_number (held_of block e))

-- the bytes are the copy; without a copy the answer is `nothing`, and the bytes stay
abbrev pub BringsCopy : Option (List ℕ) → List ℕ → List ℕ → Answer → Type 0
BringsCopy None was bytes answer = (answer ≡ nothing) × (bytes ≡ was)
BringsCopy (Some copy) was bytes answer = (answer ≡ ok) × (bytes ≡ copy)

-- the bytes are the client's copy of the block
abbrev pub Copies : (w : ℕ) → ClientPort w → ℕ → List ℕ → List ℕ → Answer → Type 0
Copies w port block was bytes answer = (e : Endpoint w) → KnowsAny port.client e
    → BringsCopy (e.copies block) was bytes answer

-- the client is closed, as a flag
abbrev pub Closed : (w : ℕ) → ClientPort w → ℕ → Answer → Type 0
Closed w port closed answer = (answer ≡ ok) × ((e : Endpoint w) → KnowsAny port.client e → closed ≡ flag e.closed)
