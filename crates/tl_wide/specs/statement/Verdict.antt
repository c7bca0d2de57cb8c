-- The first fault of a wide trace: that of the trace that it becomes, at the wide beat whose part is at fault.
use Rattle.std.specs.Prelude.{ℕ, suc, ◌-◌, if◌then◌else◌, List, [], ◌∷◌, ◌++◌, length, nat_lt, Option, Some, None}
use Rattle.tl_params.specs.declared.level.Level.{Level}
use Rattle.tl_params.specs.declared.liberties.Liberties.{Liberties}
use Rattle.tl_params.specs.declared.rule.Rule.{Rule}
use Rattle.tl_rules.specs.statement.Conformance.{Trace}
use Rattle.tl_rules.specs.statement.Liberties.{first_fault_under}
use Rattle.tl_wide.specs.statement.Naming.{WideTrace}
use Rattle.tl_wide.specs.statement.Narrowed.{narrowed}

-- the fault of a wide beat: a rule that a part of it breaks, or a block, source or sink for which no number is left
pub data WideFault (R : Type 0) : Type 0 where
  Breaks : R → WideFault R
  Beyond : WideFault R

-- traces one after another
unfoldable pub joined : {w : ℕ} → List (Trace w) → Trace w
joined [] = []
joined (beats ∷ rest) = beats ++ joined rest

-- the number of the trace that has place i of the joined traces
unfoldable pub owner : {w : ℕ} → List (Trace w) → ℕ → ℕ
owner [] i = 0
owner (beats ∷ rest) i = if nat_lt i (length beats) then 0 else suc (owner rest (i - length beats))

-- the fault of a trace of `count` wide beats with these parts, given the fault of the joined parts
abbrev pub fault_of_parts : {w : ℕ} {R : Type 0} → List (Trace w) → ℕ → Option (ℕ × R) → Option (ℕ × WideFault R)
fault_of_parts parts count (Some fault) = Some (owner parts fault.0, Breaks fault.1)
fault_of_parts parts count None = if nat_lt (length parts) count then Some (length parts, Beyond) else None

-- the place and the fault of the first wide beat that is at fault
abbrev pub first_wide_fault : {w : ℕ} → Liberties → List Level → WideTrace w → Option (ℕ × WideFault Rule)
first_wide_fault l levels trace =
    fault_of_parts (narrowed trace) (length trace) (first_fault_under l levels (joined (narrowed trace)))
