-- What a manager knows after a block of its memory was replaced.
use Rattle.tl_manager.proofs.Imports.{AreBlocks, Config, End, Knows, ManagerState, Memory, Perm}
use Rattle.std.proofs.Common.{◌≡◌, ◌∙◌, ℕ, ap, length}
use Rattle.tl_manager.{specs.statement.End.with_memory, specs.code.Knows.IsManager}
use Rattle.tl_manager.proofs.judging.Refusing.{kept-beside}

pub knows-written : {w : ℕ} {M : Type 0} (perm_of : M → ℕ → ℕ → Perm) (old new : ManagerState w M) (config : Config)
    (memory : Memory) (e : End w) → new.link_states ≡ old.link_states
    → new.block_state.profile ≡ old.block_state.profile → new.block_state.trackers ≡ old.block_state.trackers
    → new.block_state.directory ≡ old.block_state.directory
    → length new.block_state.blocks.bytes.items ≡ length old.block_state.blocks.bytes.items
    → AreBlocks new.block_state.blocks.bytes.items memory
    → Knows perm_of old config e → Knows perm_of new config (with_memory memory e)
knows-written perm_of old new config memory e link_states profile trackers directory size bytes k = record {
  fits = k.fits;
  kept = kept-beside config e.closed memory e k.kept;
  block_state = record {
    profile = profile ∙ k.block_state.profile;
    count = ap (λ t. t.count) trackers ∙ k.block_state.count;
    tracked = λ n other. rw trackers (k.block_state.tracked n other);
    records = λ block client. rw directory (k.block_state.records block client);
    bytes = bytes;
  };
  size = size ∙ k.size;
  count = ap (λ all. length all.items) link_states ∙ k.count;
  link_states = λ client link_state found.
      let is = k.link_states client link_state (rw link_states at found) in
      record { level = is.level; closed = is.closed; carried = is.carried };
}

-- and it is one then
pub manager-written : {w : ℕ} {M : Type 0} (perm_of : M → ℕ → ℕ → Perm) (blocks_of clients_of : M → ℕ)
    (old new : ManagerState w M) (e : End w) → (known : IsManager perm_of blocks_of clients_of old)
    → new.block_state.directory ≡ old.block_state.directory
    → length new.block_state.blocks.bytes.items ≡ length old.block_state.blocks.bytes.items
    → new.link_states ≡ old.link_states → Knows perm_of new known.config e
    → IsManager perm_of blocks_of clients_of new
manager-written perm_of blocks_of clients_of old new e known directory size link_states k = record {
  width = known.width;
  blocks = rw (size, directory) known.blocks;
  clients = rw (link_states, directory) known.clients;
  config = known.config;
  end = e;
  knows = k;
}
