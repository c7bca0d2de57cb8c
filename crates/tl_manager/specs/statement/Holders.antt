-- The permissions that the manager has recorded, and the clients that a request probes.
use Rattle.std.specs.Prelude.{ℕ, zero, suc, Bool, true, false, not, List, [], ◌∷◌, ◌==◌, ◌&&◌, ◌+◌, if◌then◌else◌}
use Rattle.std.specs.Prelude.{length, Option, Some, None}
use Rattle.tl_beat.specs.declared.opcode.OpA.{OpA}
use Rattle.tl_beat.specs.declared.opcode.OpA.TheVariants as a
use Rattle.tl_params.specs.declared.config.Config.{Config}
use Rattle.tl_params.specs.declared.key.Key.TheVariants.{ProbeOf}
use Rattle.tl_params.specs.declared.param.Cap.{Cap}
use Rattle.tl_params.specs.declared.param.Cap.TheVariants as cap
use Rattle.tl_params.specs.declared.param.Grow.TheVariants as grow
use Rattle.tl_params.specs.declared.perm.Perm.{Perm}
use Rattle.tl_params.specs.declared.perm.Perm.TheVariants as perm
use Rattle.tl_params.specs.statement.Param.{grow_code}
use Rattle.tl_rules.specs.statement.History.{block_at, is_acquire, pending, held}
use Rattle.tl_rules.specs.statement.Conformance.{Trace, on_link}
use Rattle.tl_manager.specs.statement.Service.{Service}

-- the permission that the client of a link is recorded with for a block
abbrev pub recorded : {w : ℕ} → ℕ → ℕ → Trace w → Perm
recorded client block t = held block (on_link client t)

-- the client has not yet answered a Probe of the block
abbrev pub is_missing : {w : ℕ} → ℕ → ℕ → Trace w → Bool
is_missing client block t = pending (ProbeOf block) (on_link client t)

-- of the n clients from `first` on, those for which the test is true, in rising order
unfoldable pub clients_from : ℕ → ℕ → (ℕ → Bool) → List ℕ
clients_from first zero test = []
clients_from first (suc n) test = if test first then first ∷ clients_from (first + 1) n test else clients_from
    (first + 1) n test

-- the clients for which the test is true, in rising order
abbrev pub clients_where : Config → (ℕ → Bool) → List ℕ
clients_where config test = clients_from 0 (length config.clients.items) test

-- the list has no client
abbrev pub is_nobody : List ℕ → Bool
is_nobody [] = true
is_nobody (client ∷ clients) = false

-- the permission is Branch or Trunk
abbrev pub has_copy : Perm → Bool
has_copy perm.None = false
has_copy perm.Branch = true
has_copy perm.Trunk = true

-- no client is recorded with a copy of the block
abbrev pub is_unheld : {w : ℕ} → Config → ℕ → Trace w → Bool
is_unheld config block t = is_nobody (clients_where config (λ client. has_copy (recorded client block t)))

-- no ProbeAck of the block is missing
abbrev pub is_settled : {w : ℕ} → Config → ℕ → Trace w → Bool
is_settled config block t = is_nobody (clients_where config (λ client. is_missing client block t))

-- the cap with which a request probes other clients, by its opcode and param; an Intent probes none
abbrev pub cap_probed : OpA → ℕ → Option Cap
cap_probed a.Get param = Some cap.ToB
cap_probed a.Intent param = None
cap_probed a.AcquireBlock param = Some (if param == grow_code grow.NtoB then cap.ToB else cap.ToN)
cap_probed a.AcquirePerm param = Some (if param == grow_code grow.NtoB then cap.ToB else cap.ToN)
cap_probed _ param = Some cap.ToN

-- a Probe with this cap goes to a client with this permission: toN to each with a copy, toB to one with Trunk
abbrev pub is_above : Cap → Perm → Bool
is_above cap.ToN held = has_copy held
is_above cap.ToB perm.Trunk = true
is_above _ _ = false

-- an Acquire doesn't probe the client that sent it
abbrev pub is_spared : {w : ℕ} → Service w → ℕ → Bool
is_spared s client = is_acquire s.request.opcode && (s.link.0 == client)

-- the clients that the request probes with this cap, in rising order
abbrev pub probed : {w : ℕ} → Config → Service w → Cap → Trace w → List ℕ
probed config s cap t =
    clients_where config (λ client. is_above cap (recorded client (block_at s.request.address) t) && not
    (is_spared s client))
