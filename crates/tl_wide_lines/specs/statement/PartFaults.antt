-- The fault of a wide beat, and the parts of it that are taken.
use Rattle.std.specs.Prelude.{ℕ, Bool, List, [], ◌∷◌, Option, Some, None}
use Rattle.tl_beat.specs.declared.beat.Beat.{Beat}
use Rattle.tl_beat.specs.declared.beat.Link.{Link}
use Rattle.tl_lines.specs.declared.fault.Fault.{Fault}
use Rattle.tl_lines.specs.statement.JudgedLinks.{faults_by}
use Rattle.tl_params.specs.declared.level.Level.{Level}
use Rattle.tl_params.specs.declared.liberties.Liberties.{Liberties}
use Rattle.tl_rules.specs.statement.Conformance.{Trace}

-- this fault, or else the other
abbrev pub or_fault : Option Fault → Option Fault → Option Fault
or_fault None other = other
or_fault (Some found) other = Some found

-- the fault of the first of these parts that is at fault, after the beats of t
unfoldable pub part_fault : {p : ℕ} → Bool → List Level → Liberties → Link → List (Beat p) → Trace p → Option Fault
part_fault together levels may link [] t = None
part_fault {p} together levels may link (x ∷ parts) t =
    or_fault (faults_by together p levels may (link, x) t) (part_fault together levels may link parts ((link, x) ∷ t))

-- these beats if there is a fault, or else the others
abbrev pub unless_fault : {p : ℕ} → Option Fault → Trace p → Trace p → Trace p
unless_fault None t more = more
unless_fault (Some found) t more = t

-- the beats of t, and after them the parts before the first that is at fault
unfoldable pub parts_taken : {p : ℕ} → Bool → List Level → Liberties → Link → List (Beat p) → Trace p → Trace p
parts_taken together levels may link [] t = t
parts_taken {p} together levels may link (x ∷ parts) t =
    unless_fault (faults_by together p levels may (link, x) t) t
    (parts_taken together levels may link parts ((link, x) ∷ t))
