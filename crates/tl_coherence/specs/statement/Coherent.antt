-- The clients' copies agree with one memory.
use Rattle.std.specs.Prelude.{ℕ, [], ◌∷◌, ◌≡◌, ◌≢◌, ◌==◌, ◌&&◌, if◌then◌else◌, List, Option, Some, None, is_some}
use Rattle.std.specs.Prelude.{option_map}
use Rattle.tl_params.specs.declared.perm.Perm.TheVariants as perm
use Rattle.tl_rules.specs.statement.Effect.{IsBlock}
use Rattle.tl_client.specs.declared.operation.Op.{Op}
use Rattle.tl_client.specs.declared.reply.Reply.TheVariants.{Started}
use Rattle.tl_client.specs.statement.Endpoint.{held_at}
use Rattle.tl_client.specs.statement.EndpointInvariant.{holds}
use Rattle.tl_coherence.specs.declared.event.Event.{Event}
use Rattle.tl_coherence.specs.declared.event.Event.TheVariants.{Ask, Deliver}
use Rattle.tl_coherence.specs.declared.event.Outcome.{Outcome}
use Rattle.tl_coherence.specs.declared.event.Outcome.TheVariants.{Replied, Done}
use Rattle.tl_coherence.specs.statement.Log.{Log}
use Rattle.tl_coherence.specs.statement.Machine.{Machine, Pool, pool_of, pool_of_op, same_pool}
use Rattle.tl_coherence.specs.statement.System.{System}

-- The pending operation with this source of client c after one more event. `before` is the one before the event. The
-- event may start one, end it, or leave it.
abbrev pub started_at : {w : ℕ} → Event w → Outcome w → ℕ → Pool → ℕ → Option (Op w) → Option (Op w)
started_at (Ask client op) (Replied (Started n)) c pool source before =
    if (client == c) && (same_pool (pool_of_op op) pool && (n == source)) then Some op else before
started_at (Deliver link ch) (Done x n f) c pool source before =
    if (link.0 == c) && (same_pool (pool_of f) pool && (n == source)) then None else before
started_at _ _ c pool source before = before

-- the operation of a client that was started with this source and hasn't ended
unfoldable pub started : {w : ℕ} → ℕ → Pool → ℕ → Log w → Option (Op w)
started c pool source [] = None
started c pool source (x ∷ log) = started_at x.0 x.1 c pool source (started c pool source log)

-- copies agree with one memory, and the open operations are those that the log started and didn't end
pub record IsCoherent {w : ℕ} (s : System w) (log : Log w) (m : Machine w) : Type 0 where
  -- while one client holds Trunk of a block, no other has a copy
  pub one_writer : (c d block : ℕ) → c ≢ d → held_at (s.clients c) block ≡ perm.Trunk
      → held_at (s.clients d) block ≡ perm.None
  -- a copy has the bytes of the block in the one memory
  pub copies : (c block : ℕ) (bytes : List ℕ) → (s.clients c).copies block ≡ Some bytes → IsBlock m.memory block bytes
  -- there is a copy exactly if the permission held isn't None
  pub kept : (c block : ℕ) → is_some ((s.clients c).copies block) ≡ holds (held_at (s.clients c) block)
  -- the open operations are those that were started and haven't ended
  pub opened : (c : ℕ) (pool : Pool) (source : ℕ) → option_map (λ o. o.asked) (m.opened c pool source) ≡ started c pool
      source log
