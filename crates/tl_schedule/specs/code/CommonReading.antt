-- The fields of the line of a Load, a Store or a delivery; only private clauses cite this.
use Rattle.std.specs.Prelude.{◌≡◌, ℕ, List, [], ◌∷◌, ◌++◌}
use Rattle.tl_schedule.specs.declared.common.Common.{Common}
use Rattle.tl_schedule.specs.declared.common.Common.TheVariants as common
use Rattle.tl_schedule.specs.statement.CommonLine.{SpellsCommon}
use Rattle.tl_schedule.specs.statement.EventLine.{Said, Load, Store, Deliver, Fits, said_fields}

abbrev pub common_said : Common → Said
common_said (common.Load client address size) = Load client size address
common_said (common.Store client address size value) = Store client size address value
common_said (common.Deliver link channel) = Deliver link.0 channel

-- these are the fields of its line
abbrev pub HasFields : List (List ℕ) → Common → Type 0
HasFields fields common = (w : ℕ) → (fields ≡ said_fields w (common_said common)) × Fits w (common_said common)

-- with a line feed after it the line says it
abbrev pub SpellsBody : List ℕ → Common → Type 0
SpellsBody body common = SpellsCommon (body ++ 10 ∷ []) common
