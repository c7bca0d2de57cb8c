-- What a manager knows of its end.
use Rattle.std.specs.Prelude.{ℕ, Some, None, ◌≡◌, ◌≤◌, length, slice_get}
use Rattle.tl_beat.specs.statement.Width.{IsWidth}
use Rattle.tl_params.specs.declared.config.Config.{Config}
use Rattle.tl_params.specs.declared.perm.Perm.{Perm}
use Rattle.tl_params.specs.statement.Config.{config_fault}
use Rattle.tl_manager.specs.code.BlockState.{IsBlockState}
use Rattle.tl_manager.specs.code.Kept.{IsKept}
use Rattle.tl_manager.specs.statement.End.{End}
use Rattle.tl_manager.specs.code.LinkState.{IsLinkState}
use Rattle.tl_manager.specs.declared.manager.state.ManagerState.{ManagerState}
use Rattle.tl_manager.specs.declared.manager.link_state.LinkState.{LinkState}

-- its trackers, directory and bytes, and its links, are those of the end, which it may have come to
pub record Knows {w : ℕ} {M : Type 0} (perm_of : M → ℕ → ℕ → Perm) (state : ManagerState w M) (config : Config)
    (e : End w) : Type 0 where
  pub fits : config_fault config ≡ None
  pub kept : IsKept config e
  pub block_state : IsBlockState perm_of config state.block_state e.trace e.memory
  pub size : length state.block_state.blocks.bytes.items ≡ config.blocks
  pub count : length state.link_states.items ≡ length config.clients.items
  pub link_states : (client : ℕ) (link_state : LinkState w) → slice_get state.link_states.items client ≡ Some link_state
      → IsLinkState config link_state client e

-- it knows some end, and its directory covers blocks and clients
pub record IsManager {w : ℕ} {M : Type 0} (perm_of : M → ℕ → ℕ → Perm) (blocks_of clients_of : M → ℕ)
    (state : ManagerState w M) : Type 0 where
  pub width : IsWidth w
  pub blocks : length state.block_state.blocks.bytes.items ≤ blocks_of state.block_state.directory
  pub clients : length state.link_states.items ≤ clients_of state.block_state.directory
  pub config : Config
  pub end : End w
  pub knows : Knows perm_of state config end
