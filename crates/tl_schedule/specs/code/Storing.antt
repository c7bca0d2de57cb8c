-- What is kept of the stores of whole blocks.
use Rattle.std.specs.Prelude.{ℕ, ◌≡◌, ◌==◌, ◌&&◌, Bool, List, Option, Some, None, option_map}
use Rattle.std.specs.List.{find}
use Rattle.tl_coherence.specs.statement.Log.{Log}
use Rattle.tl_schedule.specs.declared.whole.Begun.{Begun}
use Rattle.tl_schedule.specs.declared.whole.WholeStore.{WholeStore}
use Rattle.tl_schedule.specs.declared.whole.WholeStores.{WholeStores}
use Rattle.tl_schedule.specs.statement.Commits.{store_begun}

-- the request of this client, with this source
abbrev pub is_of : ℕ → ℕ → Begun → Bool
is_of client source begun = (begun.client == client) && (begun.source == source)

-- what the request of this client with this source stores, if there is one
abbrev pub kept_of : ℕ → ℕ → List Begun → Option (Option WholeStore)
kept_of client source all = option_map (λ begun. begun.store) (find (is_of client source) all)

-- the same, nothing without a request
abbrev pub stored : Option (Option WholeStore) → Option WholeStore
stored None = None
stored (Some store) = store

abbrev pub store_of : ℕ → ℕ → List Begun → Option WholeStore
store_of client source all = stored (kept_of client source all)

-- What is kept of each client and each source is what its last request stores.
abbrev pub Remembers : {w : ℕ} → WholeStores → Log w → Type 0
Remembers stores log = (client source : ℕ) → store_of client source stores.begun.items ≡ store_begun client source log
