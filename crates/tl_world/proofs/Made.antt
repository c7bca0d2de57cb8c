-- The channels of a new world.
use Rattle.std.proofs.Common.{◌≡◌, ◌<◌, ℕ, List, [], ◌∷◌, ◌++◌, ◌+◌, ◌*◌, ◌/◌, ◌%◌, refl, ap, ◌∙◌, inl, inr, length}
use Rattle.std.proofs.Common.{arith}
use Rattle.std.proofs.lemmas.List.{length-append, get_or_append_left}
use Rattle.std.proofs.Math.Seq.{get_or-append_seam}
use Rattle.std.proofs.lemmas.Option.{slice_get-get_or}
use Rattle.std.proofs.lemmas.Bool.{cases_eq}
use Rattle.std.specs.Prelude.{◌≢◌, slice_index_or}
use Rattle.circular_buffer.specs.Buffer.{Buffer, buffer}
use Rattle.tl_beat.specs.declared.beat.Beat.{Beat}
use Rattle.tl_beat.specs.declared.channel.Channel.{Channel}
use Rattle.tl_params.specs.declared.config.ClientConfig.{ClientConfig}
use Rattle.tl_params.specs.declared.config.Config.{Config}
use Rattle.tl_world.specs.code.Carrying.{number, place, capacity_at, AreClear, AreFresh, Carries}
use Rattle.tl_coherence.specs.statement.Delivery.{capacity, sources_of}
use Rattle.tl_world.specs.code.Holds.{clients_of}
use Rattle.tl_coherence.specs.statement.System.{fresh, terms_at}
use Rattle.tl_world.specs.declared.ring.Ring.{Ring}
use Rattle.tl_world.specs.declared.rings.Rings.{Rings}
use Rattle.tl_world.proofs.Queues.{number-below, back}

-- the sources of a client are those of its configuration
pub sources-at : (config : Config) (k : ℕ) (d : ClientConfig) → k < clients_of config
    → sources_of (terms_at config k) ≡ (slice_index_or config.clients.items k d).sources
sources-at config k d lt = rw (slice_get-get_or config.clients.items k d lt) refl

pub one-more : {w : ℕ} (config : Config) (i : ℕ) (rings new : List (Ring w)) (ring : Ring w) → AreFresh config i rings
    → new ≡ rings ++ ring ∷ []
    → ring.beats ≡ buffer [] (capacity_at w config i) → ring.deepest ≡ 0
    → AreFresh config (i + 1) new
one-more {w} config i rings new ring so_far is made flat = record {
  so_many = ap (λ (xs : List (Ring w)). length xs) is ∙ (let many = so_far.so_many in
      omega (arith, many, length-append rings (ring ∷ [])));
  beats = λ k d lt.
      rw is
      (elim (cases_eq k i) [
        | inl same ↦ rw (same, ← so_far.so_many, get_or-append_seam rings ring [] d) (rw (← so_far.so_many) at made)
        | inr other ↦ rw (get_or_append_left rings (ring ∷ []) d k (before k lt other))
            (so_far.beats k d (omega (arith, lt, other)))
      ]);
  deepest = λ k d lt.
      rw is
      (elim (cases_eq k i) [
        | inl same ↦ rw (same, ← so_far.so_many, get_or-append_seam rings ring [] d) flat
        | inr other ↦ rw (get_or_append_left rings (ring ∷ []) d k (before k lt other))
            (so_far.deepest k d (omega (arith, lt, other)))
      ]);
}
  where
    before : (k : ℕ) → k < i + 1 → k ≢ i → k < length rings
    before k lt other = let many = so_far.so_many in omega (arith, many, lt, other)

module _ {w : ℕ} (config : Config) (rings : Rings w) (are : AreFresh config (5 * clients_of config) rings.all.items)
  where
    at-place : (k : ℕ) (ch : Channel) → k < clients_of config → place k ch < 5 * clients_of config
    at-place k ch lt = omega (arith, lt, number-below ch)

    link-of : (k : ℕ) (ch : Channel) → place k ch / 5 ≡ k
    link-of k ch = omega (arith, number-below ch)

    number-of : (k : ℕ) (ch : Channel) → place k ch % 5 ≡ number ch
    number-of k ch = omega (arith, number-below ch)

    pub made-room : (k : ℕ) (ch : Channel) (d : Ring w) → k < clients_of config
        → (slice_index_or rings.all.items (place k ch) d).beats.capacity ≡ capacity (64 / w)
        (sources_of (terms_at config k)) config.trackers ch
    made-room k ch d lt =
        ap (λ (b : Buffer (Beat w)). b.capacity) (are.beats (place k ch) d (at-place k ch lt)) ∙ rw
        (link-of k ch, number-of k ch, back ch) refl

    pub made-empty : AreClear rings.non_empty → Carries (clients_of config) rings fresh
    made-empty clear = record {
      five_each = are.so_many;
      beats = λ k ch d lt. ap (λ (b : Buffer (Beat w)). b.items) (are.beats (place k ch) d (at-place k ch lt));
      non_empty = λ k ch lt. clear k ch;
    }

    pub made-flat : (k : ℕ) (ch : Channel) (d : Ring w) → k < clients_of config
        → (slice_index_or rings.all.items (place k ch) d).deepest ≡ 0
    made-flat k ch d lt = are.deepest (place k ch) d (at-place k ch lt)
