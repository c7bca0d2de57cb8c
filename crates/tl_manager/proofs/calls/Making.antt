-- A new manager knows the end that has taken nothing.
use Rattle.tl_manager.proofs.Imports.{Config, Perm, unfinished, on_link, held, AreBlocks, Knows, services, fresh}
use Rattle.tl_manager.proofs.Imports.{tracker_at, IsTracked, IsLinkState, ManagerState, Tracker, Free, LinkState}
use Rattle.std.proofs.Common.{◌≡◌, ℕ, zero, suc, List, [], ◌∷◌, length, map, Some, None, refl, ap, ◌∙◌}
use Rattle.std.{specs.Prelude.slice_get, specs.Prelude.option_map, proofs.lemmas.List.length-map}
use Rattle.tl_params.{specs.declared.config.ClientConfig.ClientConfig, specs.statement.Config.config_fault}
use Rattle.tl_manager.{specs.code.Fresh.fresh_link_state, proofs.calls.Keeping.fresh-kept}

mapped : {X Y : Type 0} (f : X → Y) (xs : List X) (i : ℕ) (y : Y) → slice_get (map f xs) i ≡ Some y
    → (x : X) × (slice_get xs i ≡ Some x) × (y ≡ f x)
mapped f [] i y e = absurd cc
mapped f (x ∷ xs) zero y e = (x, refl, cc)
mapped f (x ∷ xs) (suc i) y e = mapped f xs i y e

free-tracked : {w : ℕ} (n : ℕ) (tracker : Tracker w) → tracker ≡ Free → IsTracked n tracker []
unfolding services
free-tracked n tracker e = rw e refl

link_state-fresh : {w : ℕ} (config : Config) (client : ℕ) (link_state : LinkState w)
    → slice_get (map (λ (c : ClientConfig). fresh_link_state {w = w} c.level) config.clients.items) client ≡ Some
    link_state → IsLinkState config link_state client fresh
unfolding on_link unfinished
link_state-fresh {w} config client link_state found =
    let p = mapped (λ (c : ClientConfig). fresh_link_state {w = w} c.level) config.clients.items client link_state found
    in
    rw p.2 (record {
      level = ap (option_map (λ c. c.level)) p.1;
      closed = refl;
      carried =
          record { requests = refl; reports = refl };
    })

pub knows-fresh : {w : ℕ} {M : Type 0} (perm_of : M → ℕ → ℕ → Perm) (state : ManagerState w M) (config : Config)
    → config_fault config ≡ None
    → state.link_states.items ≡ map (λ (c : ClientConfig). fresh_link_state c.level) config.clients.items
    → state.block_state.profile ≡ config.profile → state.block_state.trackers.count ≡ config.trackers
    → ((n : ℕ) → tracker_at state.block_state.trackers n ≡ Free)
    → ((block client : ℕ) → perm_of state.block_state.directory block client ≡ Perm.None)
    → length state.block_state.blocks.bytes.items ≡ config.blocks
    → AreBlocks state.block_state.blocks.bytes.items (λ address. 0) → Knows perm_of state config fresh
unfolding held on_link
knows-fresh {w} perm_of state config fits link_states profile count trackers records size bytes = record {
  fits = fits;
  kept = fresh-kept config;
  block_state = record {
    profile = profile;
    count = count;
    tracked =
        λ n all. free-tracked n (tracker_at state.block_state.trackers n) (trackers n);
    records = records;
    bytes =
        bytes;
  };
  size = size;
  count = ap length link_states ∙ length-map config.clients.items
      (λ (c : ClientConfig). fresh_link_state {w = w} c.level);
  link_states = λ client link_state found. link_state-fresh config client link_state (rw link_states at found);
}
