-- The state of the one-memory machine after a log: an access is performed when the manager answers it.
use Rattle.std.specs.Prelude.{ℕ, List, [], ◌∷◌, if◌then◌else◌, unwrap_or}
use Rattle.tl_beat.specs.declared.beat.Link.{Link}
use Rattle.tl_burst.specs.declared.message.Message.{Message}
use Rattle.tl_burst.specs.declared.message.Message.TheVariants as message
use Rattle.tl_params.specs.declared.config.Config.{Config}
use Rattle.tl_manager.specs.statement.Handing.{Handed}
use Rattle.tl_manager.specs.statement.Service.{is_access_answer}
use Rattle.tl_coherence.specs.statement.Log.{Log, system_after}
use Rattle.tl_coherence.specs.statement.Machine.{Machine, first, moved, performed}
use Rattle.tl_coherence.specs.statement.Step.{stepped}

-- the access that a message answers, by link and source, and then the rest
abbrev pub with_access : {w : ℕ} → Link → Message w → List (ℕ × ℕ) → List (ℕ × ℕ)
with_access link (message.D m) rest = if is_access_answer m.opcode then (link.0, m.source) ∷ rest else rest
with_access link _ rest = rest

-- the accesses that these messages answer, by client and source
unfoldable pub accesses_answered : {w : ℕ} → Handed w → List (ℕ × ℕ)
accesses_answered [] = []
accesses_answered (x ∷ handed) = with_access x.0 x.1 (accesses_answered handed)

-- the machine after these accesses are performed
unfoldable pub performing : {w : ℕ} → List (ℕ × ℕ) → Machine w → Machine w
performing [] m = m
performing (x ∷ accesses) m = performing accesses (unwrap_or (performed x.0 x.1 m) m)

-- the machine after a log
unfoldable pub one_memory_after : {w : ℕ} → Config → Log w → Machine w
one_memory_after config [] = first
one_memory_after config (x ∷ log) =
    performing (accesses_answered (stepped config x.0 (system_after config log)).handed)
    (moved x.0 x.1 (one_memory_after config log))
