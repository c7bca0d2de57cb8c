-- What the manager's end knows: the values of its trace are those of the protocol.
use Rattle.std.specs.Prelude.{ℕ, Bool, true, false, not, ◌≡◌, Option, Some, None}
use Rattle.tl_burst.specs.declared.message.MessageA.{MessageA}
use Rattle.tl_params.specs.declared.key.Key.TheVariants.{AcquireOf, ProbeOf}
use Rattle.tl_rules.specs.statement.Conformance.{Trace, on_link}
use Rattle.tl_rules.specs.statement.History.{pending}
use Rattle.tl_manager.specs.statement.Holders.{recorded}
use Rattle.tl_manager.specs.statement.Service as manager
use Rattle.tl_manager.specs.statement.Service.{services, service_of_block}
use Rattle.tl_coherence.specs.protocol.Phase.{View, Own, is_unprobed}
use Rattle.tl_coherence.specs.protocol.Protocol.{Service, Free, Waits, GrantSent, GrantTaken, State, view}

abbrev pub is_own : View → Bool
is_own Own = true
is_own _ = false

-- the client whose request has the block in service
abbrev pub client_in : Service → Option ℕ
client_in Free = None
client_in (Waits r own s k) = Some r
client_in (GrantSent q d k) = Some q
client_in (GrantTaken q) = Some q

abbrev pub service_with : {w : ℕ} → Option ℕ → ℕ → MessageA w → Option (manager.Service w)
service_with None tracker m = None
service_with (Some r) tracker m = Some (record { tracker = tracker; link = record { 0 = r }; request = m })

-- `request` is the request that has each block in service
pub record ManagerRelation {w : ℕ} {X : Type 0} (request : ℕ → MessageA w) (s : State X) (t : Trace w) : Type 0 where
  pub recorded_is : (c n : ℕ) → recorded c n t ≡ ((s.block n).pair c).recorded
  pub probes : (c n : ℕ) → pending (ProbeOf n) (on_link c t) ≡ not (is_unprobed ((s.block n).pair c).probing)
  pub acquires : (c n : ℕ) → pending (AcquireOf n) (on_link c t) ≡ is_own (view (s.block n).service c)
  pub serving_is : (n : ℕ) → service_of_block n (services t) ≡ service_with (client_in (s.block n).service)
      (s.block n).tracker (request n)
