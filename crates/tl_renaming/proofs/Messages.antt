-- The messages that a renamed history names.
use Rattle.tl_renaming.proofs.Imports.{A, B, C, D, E, BeatA, BeatC, BeatD, History, IsFaithful, Liberties}
use Rattle.tl_renaming.proofs.Imports.{Renaming, begins, block_at, grant_sink, probe_of, release_of, request_of}
use Rattle.tl_renaming.proofs.Imports.{renamed_a, renamed_address, renamed_b, renamed_c, renamed_d, renamed_history}
use Rattle.tl_renaming.{proofs.Addresses.block-of, proofs.Bursts.begins-kept, proofs.Numbers.same-test}
use Rattle.std.proofs.Common.{◌≡◌, ℕ, Bool, true, false, ◌&&◌, [], ◌∷◌, refl, ap, ◌∙◌}
use Rattle.std.specs.Prelude.{if◌then◌else◌, Option, Some, None, option_map, ◌==◌}
use Rattle.tl_rules.specs.statement.History.{asks_for, grants, is_probe, is_release, is_sink, releases}

-- a choice of two renamed values is the renamed choice
pub chosen : {X Y : Type 0} (f : X → Y) (b : Bool) (x : X) (rest : Option X) (other : Option Y)
    → other ≡ option_map f rest → (if b then Some (f x) else other) ≡ option_map f (if b then Some x else rest)
chosen f true x rest other e = refl
chosen f false x rest other e = e

module _ (l : Liberties) (r : Renaming) (faithful : IsFaithful l r) where
  pub source-test : (m n : ℕ) → (r.source m == r.source n) ≡ (m == n)
  source-test m n = same-test r.source faithful.sources_apart m n

  pub sink-test : (m n : ℕ) → (r.sink m == r.sink n) ≡ (m == n)
  sink-test m n = same-test r.sink faithful.sinks_apart m n

  pub block-test : (address k : ℕ) → (block_at (renamed_address r address) == r.block k) ≡ (block_at address == k)
  block-test address k = ap (λ b. b == r.block k) (block-of r.block address)
      ∙ same-test r.block faithful.blocks_apart (block_at address) k

  pub is-sink-kept : (s : ℕ) (o : Option ℕ) → is_sink (r.sink s) (option_map r.sink o) ≡ is_sink s o
  is-sink-kept s None = refl
  is-sink-kept s (Some n) = sink-test n s

module _ {w : ℕ} (l : Liberties) (r : Renaming) (faithful : IsFaithful l r) where
  pub request-kept : (s : ℕ) (t : History w) → request_of (r.source s) (renamed_history r t)
      ≡ option_map (renamed_a r) (request_of s t)
  unfolding request_of
  request-kept s [] = refl
  request-kept s (A x ∷ t) = rw (begins-kept r (A x) t, source-test l r faithful x.source s)
      (chosen (renamed_a r) (begins (A x) t && (x.source == s)) x (request_of s t)
      (request_of (r.source s) (renamed_history r t)) (request-kept s t))
  request-kept s (B x ∷ t) = request-kept s t
  request-kept s (C x ∷ t) = request-kept s t
  request-kept s (D x ∷ t) = request-kept s t
  request-kept s (E x ∷ t) = request-kept s t

  pub release-kept : (s : ℕ) (t : History w) → release_of (r.source s) (renamed_history r t)
      ≡ option_map (renamed_c r) (release_of s t)
  unfolding release_of
  release-kept s [] = refl
  release-kept s (C x ∷ t) = rw (begins-kept r (C x) t, source-test l r faithful x.source s)
      (chosen (renamed_c r) (begins (C x) t && (is_release x.opcode && (x.source == s))) x (release_of s t)
      (release_of (r.source s) (renamed_history r t)) (release-kept s t))
  release-kept s (A x ∷ t) = release-kept s t
  release-kept s (B x ∷ t) = release-kept s t
  release-kept s (D x ∷ t) = release-kept s t
  release-kept s (E x ∷ t) = release-kept s t

  pub probe-kept : (k : ℕ) (t : History w) → probe_of (r.block k) (renamed_history r t)
      ≡ option_map (renamed_b r) (probe_of k t)
  unfolding probe_of
  probe-kept k [] = refl
  probe-kept k (B x ∷ t) = rw (begins-kept r (B x) t, block-test l r faithful x.address k)
      (chosen (renamed_b r) (begins (B x) t && (is_probe x.opcode && (block_at x.address == k))) x (probe_of k t)
      (probe_of (r.block k) (renamed_history r t)) (probe-kept k t))
  probe-kept k (A x ∷ t) = probe-kept k t
  probe-kept k (C x ∷ t) = probe-kept k t
  probe-kept k (D x ∷ t) = probe-kept k t
  probe-kept k (E x ∷ t) = probe-kept k t

  asks-kept : (k : ℕ) (o : Option (BeatA w)) → asks_for (r.block k) (option_map (renamed_a r) o) ≡ asks_for k o
  asks-kept k None = refl
  asks-kept k (Some x) = block-test l r faithful x.address k

  pub releases-kept : (k : ℕ) (o : Option (BeatC w)) → releases (r.block k) (option_map (renamed_c r) o) ≡ releases k o
  releases-kept k None = refl
  releases-kept k (Some x) = block-test l r faithful x.address k

  pub grants-kept : (k : ℕ) (x : BeatD w) (t : History w)
      → grants (r.block k) (renamed_d r x) (renamed_history r t) ≡ grants k x t
  grants-kept k x t = rw (request-kept x.source t, asks-kept k (request_of x.source t)) refl

  pub grant-sink-kept : (k : ℕ) (t : History w) → grant_sink (r.block k) (renamed_history r t)
      ≡ option_map r.sink (grant_sink k t)
  unfolding grant_sink
  grant-sink-kept k [] = refl
  grant-sink-kept k (D x ∷ t) = rw (begins-kept r (D x) t, grants-kept k x t)
      (chosen r.sink (begins (D x) t && grants k x t) x.sink (grant_sink k t)
      (grant_sink (r.block k) (renamed_history r t)) (grant-sink-kept k t))
  grant-sink-kept k (A x ∷ t) = grant-sink-kept k t
  grant-sink-kept k (B x ∷ t) = grant-sink-kept k t
  grant-sink-kept k (C x ∷ t) = grant-sink-kept k t
  grant-sink-kept k (E x ∷ t) = grant-sink-kept k t
