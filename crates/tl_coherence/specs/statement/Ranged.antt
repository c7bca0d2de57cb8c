-- Each beat that is delivered has a line in a trace: its numbers are within their types and fit their fields.
use Rattle.std.specs.Prelude.{⊤, ℕ, ◌<◌, ◌^◌, List, [], ◌∷◌, All}
use Rattle.tl_beat.specs.statement.Line.{IsInRange, IsWritable}
use Rattle.tl_burst.specs.declared.message.Message.TheVariants as message
use Rattle.tl_params.specs.declared.config.Config.{Config}
use Rattle.tl_client.specs.declared.operation.Op.{Op}
use Rattle.tl_client.specs.declared.operation.Op.TheVariants.{AcquireWhole, Access}
use Rattle.tl_coherence.specs.declared.event.Event.{Event}
use Rattle.tl_coherence.specs.declared.event.Event.TheVariants.{Ask, Deliver}
use Rattle.tl_coherence.specs.statement.Flow.{flow}
use Rattle.tl_coherence.specs.statement.Headline.{IsGiven}
use Rattle.tl_coherence.specs.statement.Log.{Log}

-- each number is a byte
abbrev pub AreBytes : List ℕ → Type 0
AreBytes bytes = All (λ byte. byte < 2 ^ 8) bytes

-- the data of an operation are bytes
abbrev pub IsRangedOp : {w : ℕ} → Op w → Type 0
IsRangedOp (AcquireWhole block bytes) = AreBytes bytes
IsRangedOp (Access (message.A m)) = AreBytes m.payload
IsRangedOp _ = ⊤

-- the data in an event are bytes
abbrev pub IsRanged : {w : ℕ} → Event w → Type 0
IsRanged (Ask client op) = IsRangedOp op
IsRanged (Deliver link ch) = ⊤

-- the data in each event of a log are bytes
unfoldable pub AreRanged : {w : ℕ} → Log w → Type 0
AreRanged [] = ⊤
AreRanged (x ∷ log) = IsRanged x.0 × AreRanged log

-- each beat delivered on a link fits its line
abbrev pub HaveRoom : ℕ → Type 0
HaveRoom w = (config : Config) (log : Log w) → IsGiven config log → (link : ℕ) → All IsWritable (flow link log)

-- the numbers of each beat delivered on a link are within their types, if clients are given bytes
abbrev pub AreInRange : ℕ → Type 0
AreInRange w = (config : Config) (log : Log w) → IsGiven config log → AreRanged log → (link : ℕ)
    → All IsInRange (flow link log)
