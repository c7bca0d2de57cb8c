-- What a caller sees of a world.
use Rattle.std.proofs.Common.{◌≡◌, ◌<◌, ◌≤◌, ◌/◌, ℕ, Bool, true, false, List, Option, None, refl, ◌∙◌, inl, inr, length}
use Rattle.std.proofs.Common.{arith}
use Rattle.std.proofs.lemmas.Bool.{cases_lt, lt-ltb, le-ltb}
use Rattle.std.specs.Prelude.{if◌then◌else◌, is_some, nat_lt, slice_index_or}
use Rattle.tl_beat.specs.declared.channel.Channel.{Channel}
use Rattle.tl_params.specs.declared.config.Config.{Config}
use Rattle.tl_params.specs.declared.perm.Perm.{Perm}
use Rattle.tl_params.specs.declared.perm.Perm.TheVariants as perm
use Rattle.tl_client.specs.statement.Endpoint.{EndConfig, Endpoint, held_at}
use Rattle.tl_client.specs.statement.EndpointInvariant.{holds}
use Rattle.tl_coherence.specs.statement.Delivery.{capacity, sources_of}
use Rattle.tl_coherence.specs.statement.System.{terms_at}
use Rattle.tl_world.specs.declared.state.WorldState.{WorldState}
use Rattle.tl_world.specs.declared.ring.Ring.{Ring}
use Rattle.tl_world.specs.code.Carrying.{place}
use Rattle.tl_world.specs.code.Holds.{clients_of}
use Rattle.tl_coherence.specs.statement.Log.{Log, system_after}
use Rattle.tl_world.specs.statement.World.{IsReached, held_by, copy_by, deepest, deepest_by}
use Rattle.tl_world.proofs.Queues.{number-below}
use Rattle.tl_world.proofs.Holding.{member}

module _ {w : ℕ} {A M : Type 0} (knows : A → Endpoint w → Type 0) (terms : A → EndConfig) (perm_of : M → ℕ → ℕ → Perm)
    (config : Config) (state : WorldState w A M)
    (log : Log w) (r : IsReached knows terms perm_of config state log) where
  -- of a client, if there is one
  seen : {B : Type 0} (client : ℕ) (f : Endpoint w → B) (result none : B)
      → ((e : Endpoint w) (d : A) → client < length state.network.clients.items
      → knows (slice_index_or state.network.clients.items client d) e → result ≡ f e)
      → (length state.network.clients.items ≤ client → result ≡ none)
      → result ≡ (if nat_lt client (clients_of config) then f ((system_after config log).clients client) else none)
  seen client f result none there nowhere =
      let many = r.holds.one_client_each in
      elim (cases_lt client (clients_of config)) [
        | inl below ↦
            let inside : client < length state.network.clients.items = omega (arith, below, many) in
            let d = member state.network.clients.items client inside in
            rw (lt-ltb client (clients_of config) below) (there ((system_after config log).clients client) d inside
            (r.holds.clients client d below))
        | inr past ↦ rw (le-ltb client (clients_of config) past) (nowhere (omega (arith, past, many)))
      ]

  pub seen-held : (client block : ℕ) (result : Perm)
      → ((e : Endpoint w) (d : A) → client < length state.network.clients.items
      → knows (slice_index_or state.network.clients.items client d) e → result ≡ held_at e block)
      → (length state.network.clients.items ≤ client → result ≡ perm.None)
      → result ≡ held_by config client block (system_after config log)
  seen-held client block result there nowhere = seen client (λ e. held_at e block) result perm.None there nowhere

  pub seen-copy : (client block : ℕ) (result : Option (List ℕ))
      → ((e : Endpoint w) (d : A) → client < length state.network.clients.items
      → knows (slice_index_or state.network.clients.items client d) e → result ≡ e.copies block)
      → (length state.network.clients.items ≤ client → result ≡ None)
      → result ≡ copy_by config client block (system_after config log)
  seen-copy client block result there nowhere = seen client (λ e. e.copies block) result None there nowhere

  pub seen-deepest : (link : ℕ) (ch : Channel) (result : ℕ)
      → ((d : Ring w) → place link ch < length state.network.rings.all.items
      → result ≡ (slice_index_or state.network.rings.all.items (place link ch) d).deepest)
      → (length state.network.rings.all.items ≤ place link ch → result ≡ 0) → result ≡ deepest_by config log link ch
  seen-deepest link ch result there nowhere =
      let many = r.holds.channels.five_each in
      elim (cases_lt link (clients_of config)) [
        | inl below ↦
            let inside : place link ch < length state.network.rings.all.items =
            omega (arith, below, many, number-below ch) in
            let d = member state.network.rings.all.items (place link ch) inside in
            rw (lt-ltb link (clients_of config) below) (there d inside ∙ r.depths link ch d below)
        | inr past ↦ rw (le-ltb link (clients_of config) past) (nowhere (omega (arith, past, many)))
      ]

  -- a copy exactly where something is held
  pub seen-kept : (client block : ℕ) (result : Option (List ℕ))
      → result ≡ copy_by config client block (system_after config log)
      → is_some result ≡ holds (held_by config client block (system_after config log))
  seen-kept client block result is = rw is (go (nat_lt client (clients_of config)))
    where
      go : (b : Bool) → is_some (if b then ((system_after config log).clients client).copies block else None) ≡ holds
          (if b then held_at ((system_after config log).clients client) block else perm.None)
      go true = (r.theorem.headline config log r.given).coherent.kept client block
      go false = refl

  -- and no more beats than a channel is made for
  pub seen-room : (link : ℕ) (ch : Channel) (result : ℕ) → result ≡ deepest_by config log link ch
      → result ≤ capacity (64 / w) (sources_of (terms_at config link)) config.trackers ch
  seen-room link ch result is = rw is (go (nat_lt link (clients_of config)))
    where
      go : (b : Bool) → (if b then deepest config log link ch else 0) ≤ capacity (64 / w)
          (sources_of (terms_at config link)) config.trackers ch
      go true = r.shallow link ch
      go false = omega arith
