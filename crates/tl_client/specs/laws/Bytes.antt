-- The copies and the waiting bytes of a client are 64 bytes each.
use Rattle.std.specs.Prelude.{ℕ, List, ◌∷◌, ◌≡◌, ◌≤◌, ◌<◌, length, IfSome, Option, ⊤}
use Rattle.tl_beat.specs.declared.beat.Beat.{Beat}
use Rattle.tl_beat.specs.declared.beat.Beat.TheVariants as beat
use Rattle.tl_beat.specs.declared.channel.Channel.TheVariants as channel
use Rattle.tl_burst.specs.statement.Messages.{burst_length, unfinished}
use Rattle.tl_rules.specs.laws.Typed.{AreTyped, HasBlock}
use Rattle.tl_client.specs.declared.operation.Op.{Op}
use Rattle.tl_client.specs.declared.operation.Op.TheVariants.{AcquireWhole, Access}
use Rattle.tl_client.specs.statement.Endpoint.{Endpoint}

-- if there are bytes, they are 64
abbrev pub IsLong : Option (List ℕ) → Type 0
IsLong bytes = IfSome bytes (λ b. length b ≡ 64)

-- the bytes of an operation are 64, by its type
abbrev pub IsTypedOp : {w : ℕ} → Op w → Type 0
IsTypedOp (AcquireWhole block bytes) = length bytes ≡ 64
IsTypedOp (Access m) = HasBlock m
IsTypedOp _ = ⊤

-- the unfinished response is of at most a block, and some of its beats are still to come
abbrev pub IsShort : {w : ℕ} → List (Beat w) → Type 0
IsShort (beat.D x ∷ burst) = (x.size ≤ 6) × (length (beat.D x ∷ burst) < burst_length (beat.D x))
IsShort _ = ⊤

-- copies and waiting bytes are 64 each, and the unfinished response is typed and short
pub record HasBytes {w : ℕ} (e : Endpoint w) : Type 0 where
  pub long_copies : (k : ℕ) → IsLong (e.copies k)
  pub long_waiting : (k : ℕ) → IsLong (e.waiting k)
  pub typed_burst : AreTyped (unfinished channel.D e.past)
  pub short_burst : IsShort (unfinished channel.D e.past)
