-- The line of a Load, a Store or a delivery.
use Rattle.std.specs.Prelude.{ℕ, List}
use Rattle.tl_client.specs.declared.operation.Op.TheVariants as op
use Rattle.tl_coherence.specs.declared.event.Event.{Event}
use Rattle.tl_coherence.specs.declared.event.Event.TheVariants as event
use Rattle.tl_schedule.specs.declared.common.Common.{Common}
use Rattle.tl_schedule.specs.declared.common.Common.TheVariants.{Load, Store, Deliver}
use Rattle.tl_schedule.specs.statement.EventLine.{SpellsEvent}

-- the event of the line
abbrev pub common_event : {w : ℕ} → Common → Event w
common_event (Load client address size) = event.Ask client (op.Load address size)
common_event (Store client address size value) = event.Ask client (op.Store address size value)
common_event (Deliver link channel) = event.Deliver link channel

-- the line spells this event, for any width of beats
abbrev pub SpellsCommon : List ℕ → Common → Type 0
SpellsCommon line common = (w : ℕ) → SpellsEvent {w = w} line (common_event common)
