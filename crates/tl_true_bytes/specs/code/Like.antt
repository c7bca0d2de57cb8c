-- When two accesses do the same.
use Rattle.std.specs.Prelude.{ℕ, ◌≡◌}
use Rattle.tl_burst.specs.declared.message.Message.TheVariants as message
use Rattle.tl_burst.specs.declared.message.MessageA.{MessageA}
use Rattle.tl_rules.specs.statement.Effect.{Memory, effect}
use Rattle.tl_bytes.specs.statement.Bytes.{writes}

-- the accesses are at the same place, and do the same to each memory
pub record IsLike {w : ℕ} (p m : MessageA w) : Type 0 where
  pub opcode_is : p.opcode ≡ m.opcode
  pub size_is : p.size ≡ m.size
  pub address_is : p.address ≡ m.address
  pub effect_is : (f : Memory) → effect (message.A p) f ≡ effect (message.A m) f
  pub writes_is : (address : ℕ) → writes p.opcode p address ≡ writes m.opcode m address
