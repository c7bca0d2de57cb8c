-- The one-memory machine beside the protocol: its memory is what all copies stand for, and its open operations are
-- those of the sources.
use Rattle.std.specs.Prelude.{ℕ, true, false, List, ◌≡◌, ◌^◌, Option, Some, None, length, ⊤}
use Rattle.tl_burst.specs.declared.message.Message.{Message}
use Rattle.tl_burst.specs.declared.message.Message.TheVariants as message
use Rattle.tl_burst.specs.declared.message.MessageA.{MessageA}
use Rattle.tl_params.specs.declared.param.Prune.{Prune}
use Rattle.tl_rules.specs.statement.Effect as memory
use Rattle.tl_rules.specs.statement.Effect.{IsBlock, answer_of}
use Rattle.tl_client.specs.declared.operation.Op.{Op}
use Rattle.tl_client.specs.declared.operation.Op.TheVariants as op
use Rattle.tl_client.specs.statement.Send.{sourced}
use Rattle.tl_manager.specs.statement.Handing.{access_answer}
use Rattle.tl_coherence.specs.protocol.Phase.{AcquirePhase, AcquireOpen}
use Rattle.tl_coherence.specs.protocol.Protocol.{State, SourceState, SourceFree, Asked, InService, Replied, Acquires}
use Rattle.tl_coherence.specs.statement.Machine.{Machine, Open, Requests, Releases}
use Rattle.tl_coherence.specs.refinement.PacketMessages.{AccessMessages}

-- the operation that opened an Acquire
abbrev pub op_of : {w : ℕ} → AcquirePhase → ℕ → List ℕ → Op w
op_of (AcquireOpen true g) n bytes = op.AcquireWhole n bytes
op_of (AcquireOpen false g) n bytes = op.Acquire n g
op_of _ n bytes = op.AcquireWhole n bytes

-- the access was asked with this message, whose source the client chose, and has this answer
abbrev pub IsAccess : {w : ℕ} → ℕ → Message w → Option memory.AccessResult → Option (Open w) → Type 0
IsAccess {w} source request reply opened =
    (m : MessageA w) × (request ≡ message.A (sourced source m))
    × (opened ≡ Some (record { asked = op.Access (message.A m); answer = reply }))

-- the bytes of a reply are as many as the access reaches
abbrev pub IsReach : {w : ℕ} → MessageA w → memory.AccessResult → Type 0
IsReach m (memory.Bytes bytes) = length bytes ≡ 2 ^ m.size
IsReach m r = ⊤

-- the message that answers the access so
abbrev pub Answers : {w : ℕ} → Message w → memory.AccessResult → Message w → Type 0
Answers (message.A m) r a = (a ≡ access_answer m (answer_of (message.A m) r)) × IsReach m r
Answers _ r a = ⊥

-- what is open with an A source of this use
abbrev pub IsOpened : {w : ℕ} → ℕ → ℕ → AccessMessages w → State (List ℕ) → SourceState → Option (Open w) → Type 0
IsOpened c source mail s SourceFree opened = opened ≡ None
IsOpened c source mail s Asked opened = IsAccess source (mail.request c source) None opened
IsOpened c source mail s (InService n) opened = IsAccess source (mail.request c source) None opened
IsOpened c source mail s Replied opened =
    (r : memory.AccessResult) × IsAccess source (mail.request c source) (Some r) opened
    × Answers (mail.request c source) r (mail.answer c source)
IsOpened c source mail s (Acquires n) opened =
    opened ≡ Some (record { asked = op_of ((s.block n).pair c).acquiring n ((s.block n).waiting c); answer = None })

-- and with a C source that is of this block, or of none
abbrev pub IsLet : {w : ℕ} → Option ℕ → Option (Open w) → Type 0
IsLet None opened = opened ≡ None
IsLet (Some n) opened = (p : Prune) × (opened ≡ Some (record { asked = op.Release n p; answer = None }))

pub record MemoryRelation {w : ℕ} (mail : AccessMessages w) (s : State (List ℕ)) (m : Machine w) : Type 0 where
  pub memory : (n : ℕ) → IsBlock m.memory n (s.block n).truth
  pub requests : (c source : ℕ) → IsOpened c source mail s (s.uses c source) (m.opened c Requests source)
  pub releases : (c source : ℕ) → IsLet (s.lets c source) (m.opened c Releases source)
