-- A report that is under way, by the control fields of its beats.
use Rattle.std.specs.Prelude.{ℕ, Bool, false, not, ◌==◌, ◌&&◌, ◌||◌, Option, Some, None}
use Rattle.tl_beat.specs.declared.control.ControlC.{ControlC}
use Rattle.tl_memory.specs.code.Early.{is_answered}
use Rattle.tl_memory.specs.declared.early.Releasing.{Releasing}
use Rattle.tl_rules.specs.statement.History.{block_at, is_release}

abbrev pub is_given : ControlC → Bool → ℕ → Bool
is_given x released block = (block_at x.address == block) && (not (is_release x.opcode) || not released)

abbrev pub given_with : Option ControlC → Option Releasing → ℕ → Bool
given_with None releasing block = false
given_with (Some x) releasing block = is_given x (is_answered releasing) block
