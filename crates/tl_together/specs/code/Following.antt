-- A monitor that has followed all links of a manager.
use Rattle.std.specs.Prelude.{ℕ, false, List}
use Rattle.tl_params.specs.declared.level.Level.{Level}
use Rattle.tl_params.specs.declared.liberties.Liberties.{Liberties}
use Rattle.tl_rules.specs.statement.Conformance.{Trace}
use Rattle.tl_monitor.specs.declared.monitor.Monitor.{Monitor}
use Rattle.tl_monitor.specs.statement.Knows.{KnowsUnder}
use Rattle.tl_memory.specs.statement.Links.{KeepRules}

-- the monitor knows the trace of links with these levels and liberties; no beat broke a rule of its link
pub record Follows {w : ℕ} (m : Monitor w) (levels : List Level) (l : Liberties) (t : Trace w) : Type 0 where
  pub knows : KnowsUnder m levels l t false
  pub kept : KeepRules l levels t
