-- What a tracker keeps of the requests in service after a trace.
use Rattle.std.specs.Prelude.{ℕ, false, true, Some, ◌≡◌}
use Rattle.std.specs.Int.{bit_at}
use Rattle.tl_beat.specs.declared.beat.Link.{Link}
use Rattle.tl_burst.specs.declared.message.MessageA.{MessageA}
use Rattle.tl_rules.specs.statement.Conformance.{Trace}
use Rattle.tl_rules.specs.statement.History.{block_at}
use Rattle.tl_rules.specs.statement.Legality.{is_one_of}
use Rattle.tl_manager.specs.code.Bit.{bit_if}
use Rattle.tl_manager.specs.statement.Holders.{is_missing}
use Rattle.tl_manager.specs.laws.Pending.{is_granted}
use Rattle.tl_manager.specs.statement.Service.{Service, services, service_of_block, trackers_of}
use Rattle.tl_manager.specs.declared.manager.tracker.Tracker.{Tracker}
use Rattle.tl_manager.specs.declared.manager.tracker.Tracker.TheVariants.{Free, Probing, Granted}

abbrev pub service_with : {w : ℕ} → ℕ → Link → MessageA w → Service w
service_with n link request = record { tracker = n; link = link; request = request }

-- the bits are those of the clients whose ProbeAck of the block is missing
abbrev pub AreMissing : {w : ℕ} → ℕ → ℕ → Trace w → Type 0
AreMissing bits block t = (client : ℕ) → bit_at bits client ≡ bit_if (is_missing client block t)

-- the request is in service with this tracker, and isn't answered
pub record IsProbing {w : ℕ} (n : ℕ) (link : Link) (request : MessageA w) (missing : ℕ) (t : Trace w) : Type 0 where
  pub serves : service_of_block (block_at request.address) (services t) ≡ Some (service_with n link request)
  pub unanswered : is_granted t (service_with n link request) ≡ false
  pub bits : AreMissing missing (block_at request.address) t

-- a request for the block is in service with this tracker, and its Grant was handed out
pub record IsGranting {w : ℕ} (n : ℕ) (link : Link) (block : ℕ) (t : Trace w) : Type 0 where
  pub request : MessageA w
  pub block_is : block_at request.address ≡ block
  pub serves : service_of_block block (services t) ≡ Some (service_with n link request)
  pub granted : is_granted t (service_with n link request) ≡ true

-- the tracker with this number keeps what is true of its service
abbrev pub IsTracked : {w : ℕ} → ℕ → Tracker w → Trace w → Type 0
IsTracked n Free t = is_one_of n (trackers_of (services t)) ≡ false
IsTracked n (Probing link request missing) t = IsProbing n link request missing t
IsTracked n (Granted link block) t = IsGranting n link block t
