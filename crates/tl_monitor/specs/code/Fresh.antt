-- Links that have carried nothing.
use Rattle.std.specs.Prelude.{ℕ, ◌≡◌, ◌<◌, List, length, slice_index_or}
use Rattle.tl_params.specs.declared.level.Level.{Level}
use Rattle.tl_monitor.specs.code.LinkState.{IsEmpty}
use Rattle.tl_monitor.specs.declared.monitor.MonitoredLink.{MonitoredLink}
use Rattle.tl_monitor.specs.statement.Knows.{levels_of}

-- links of these levels that have carried nothing
pub record AreEmpty (levels : List Level) (links : List MonitoredLink) : Type 0 where
  pub levels_are : levels_of links ≡ levels
  pub all_empty : (n : ℕ) (d : MonitoredLink) → n < length levels → IsEmpty (slice_index_or links n d).state
