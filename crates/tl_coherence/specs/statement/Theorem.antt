-- All facts about a manager and its clients, with beats of w bytes.
use Rattle.std.specs.Prelude.{ℕ}
use Rattle.tl_coherence.specs.statement.Delivery.{Fifo, Flows, Faultless, CapacityBound, Stalls}
use Rattle.tl_coherence.specs.statement.Draining.{DeliveryBound, DrainsWithinLoad, GrantedIsHeld, LoneAcquire}
use Rattle.tl_coherence.specs.statement.Draining.{LoneAcquireWhole}
use Rattle.tl_coherence.specs.statement.Headline.{Headline}
use Rattle.tl_coherence.specs.statement.Recorded.{Recorded}

-- the facts that are proved of all logs of all configurations, with beats of w bytes
pub record Theorem (w : ℕ) : Type 0 where
  -- One memory, coherent copies, no beat refused, and a delivery that can move a beat exactly while something is
  -- outstanding.
  pub headline : Headline w
  -- Channels lose no beat and keep their order.
  pub carries : Fifo w
  -- The beats delivered on each link break no rule, and those on all links have no first fault.
  pub flows : Flows w
  pub faultless : Faultless w
  -- No channel holds more beats than it has room for.
  pub channels : CapacityBound w
  -- No client holds a higher permission than the manager has recorded.
  pub recorded : Recorded w
  -- The deliveries that find an empty channel, those that stall, and those that move a beat.
  pub stalls : Stalls w
  -- Deliveries move at most as many beats as the load before them, and draining ends with nothing outstanding.
  pub bound : DeliveryBound w
  pub drain : DrainsWithinLoad w
  -- When a Grant ends an Acquire, the client holds its permission. An Acquire alone brings the permission that it asks
  -- for, an AcquireWhole alone brings Trunk.
  pub grants : GrantedIsHeld w
  pub alone : LoneAcquire w
  pub alone_whole : LoneAcquireWhole w
