-- The first fault of a wide trace, beat by beat.
use Rattle.std.specs.Prelude.{◌≡◌, ℕ, Bool, List, [], ◌∷◌, length, Option, Some, None}
use Rattle.tl_lines.specs.declared.fault.Fault.{Fault}
use Rattle.tl_lines.specs.statement.JudgedLinks.{faults_by}
use Rattle.tl_params.specs.declared.level.Level.{Level}
use Rattle.tl_params.specs.declared.liberties.Liberties.{Liberties}
use Rattle.tl_rules.specs.statement.Conformance.{Trace}
use Rattle.tl_wide.specs.statement.Naming.{WideTrace}
use Rattle.tl_wide.specs.statement.Narrowed.{narrowed}
use Rattle.tl_wide.specs.statement.Verdict.{joined}
unfoldable pub use Rattle.tl_wide_lines.specs.statement.Behind.{behind}
pub use Rattle.tl_wide_lines.specs.statement.Behind.{beats_taken, with_parts}

-- ---- a trace

-- this fault at this place, or else the other
abbrev pub fault_here : Option Fault → ℕ → Option (ℕ × Fault) → Option (ℕ × Fault)
fault_here None place other = other
fault_here (Some found) place other = Some (place, found)

-- the least place of a beat at fault, with its fault: `before` has the beats so far, the newest first, and the trace
-- those to come, the next first
unfoldable pub fault_from : {p : ℕ} → Bool → List Level → Liberties → Trace p → Trace p → Option (ℕ × Fault)
fault_from together levels may before [] = None
fault_from {p} together levels may before (x ∷ trace) =
    fault_here (faults_by together p levels may x before) (length before)
    (fault_from together levels may (x ∷ before) trace)

-- a wide trace has no fault: each beat became beats, and none of these is at fault
pub record IsTaken {w : ℕ} (together : Bool) (may : Liberties) (levels : List Level) (trace : WideTrace w) : Type 0
  where
    pub complete : length (narrowed trace) ≡ length trace
    pub good : fault_from together levels may [] (joined (narrowed trace)) ≡ None
