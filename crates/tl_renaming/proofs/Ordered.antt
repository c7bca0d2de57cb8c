-- The order of messages after a renamed history.
use Rattle.tl_renaming.proofs.Imports.{Beat, A, B, C, D, E, BeatA, BeatB, BeatC, BeatD, BeatE, Channel, History}
use Rattle.tl_renaming.proofs.Imports.{unfinished, IsFaithful, Liberties, Renaming, block_at, probe_of}
use Rattle.tl_renaming.proofs.Imports.{release_of, renamed, renamed_a, renamed_b, renamed_c, renamed_d, renamed_e}
use Rattle.tl_renaming.proofs.Imports.{renamed_history, request_of}
use Rattle.tl_renaming.{proofs.Addresses.block-of, proofs.Bursts.unfinished-kept, proofs.Held.held-kept}
use Rattle.tl_renaming.proofs.Messages.{probe-kept, release-kept, request-kept, sink-test, source-test}
use Rattle.tl_renaming.proofs.Pending.{pending-kept}
use Rattle.std.proofs.Common.{◌≡◌, ℕ, List, [], ◌∷◌, map, not, refl, ap}
use Rattle.std.specs.Prelude.{Option, Some, None, option_map}
use Rattle.tl_beat.specs.declared.opcode.OpD.{OpD}
use Rattle.tl_params.specs.declared.key.Key.TheVariants.{RequestSource, ReleaseSource, AcquireOf, ReleaseOf, GrantSink}
use Rattle.tl_params.specs.declared.key.Key.TheVariants.{GrantAckOf, ProbeOf}
use Rattle.tl_params.specs.declared.perm.Perm.{Perm}
use Rattle.tl_rules.specs.statement.Conformance.{admits, answers_wrong_probe, broken_b, comes_in_grant}
use Rattle.tl_rules.specs.statement.Conformance.{comes_in_release, comes_in_request, misreports, size_asked}
use Rattle.tl_rules.specs.statement.Conformance.{size_of_release, size_of_request}
use Rattle.tl_rules.specs.statement.Liberties.{broken_a_under, broken_c_under, broken_d_under, broken_e_under}
use Rattle.tl_rules.specs.statement.Liberties.{broken_order_under, broken_probe_ack_under, broken_release_under, held_under}
use Rattle.tl_rules.specs.statement.Liberties.{has_other_source, has_request_under, misgrants_under}

module _ {w : ℕ} (l : Liberties) (r : Renaming) (faithful : IsFaithful l r) where
  -- ---- bursts that are of a message

  pub in-request-kept : (s : ℕ) (burst : List (Beat w)) → comes_in_request (r.source s) (map (renamed r) burst)
      ≡ comes_in_request s burst
  in-request-kept s [] = refl
  in-request-kept s (A x ∷ burst) = source-test l r faithful x.source s
  in-request-kept s (B x ∷ burst) = refl
  in-request-kept s (C x ∷ burst) = refl
  in-request-kept s (D x ∷ burst) = refl
  in-request-kept s (E x ∷ burst) = refl

  pub in-release-kept : (s : ℕ) (burst : List (Beat w)) → comes_in_release (r.source s) (map (renamed r) burst)
      ≡ comes_in_release s burst
  in-release-kept s [] = refl
  in-release-kept s (C x ∷ burst) = rw (source-test l r faithful x.source s) refl
  in-release-kept s (A x ∷ burst) = refl
  in-release-kept s (B x ∷ burst) = refl
  in-release-kept s (D x ∷ burst) = refl
  in-release-kept s (E x ∷ burst) = refl

  pub in-grant-kept : (s : ℕ) (burst : List (Beat w)) → comes_in_grant (r.sink s) (map (renamed r) burst)
      ≡ comes_in_grant s burst
  in-grant-kept s [] = refl
  in-grant-kept s (D x ∷ burst) = rw (sink-test l r faithful x.sink s) refl
  in-grant-kept s (A x ∷ burst) = refl
  in-grant-kept s (B x ∷ burst) = refl
  in-grant-kept s (C x ∷ burst) = refl
  in-grant-kept s (E x ∷ burst) = refl

  -- ---- channels A and B

  a-kept : (x : BeatA w) (t : History w) → broken_a_under l (renamed_a r x) (renamed_history r t)
      ≡ broken_a_under l x t
  a-kept x t =
      rw (
        block-of r.block x.address,
        pending-kept l r faithful (RequestSource x.source) t,
        pending-kept l r faithful (AcquireOf (block_at x.address)) t,
        pending-kept l r faithful (ReleaseOf (block_at x.address)) t,
        held-kept l r faithful (block_at x.address) t,
      ) refl

  b-kept : (x : BeatB w) (t : History w) → broken_b (renamed_b r x) (renamed_history r t) ≡ broken_b x t
  b-kept x t =
      rw (
        block-of r.block x.address,
        pending-kept l r faithful (ProbeOf (block_at x.address)) t,
        pending-kept l r faithful (GrantAckOf (block_at x.address)) t,
      ) refl

  -- ---- channel C

  other-source-kept : (x : BeatC w) (o : Option (BeatB w))
      → has_other_source (renamed_c r x) (option_map (renamed_b r) o) ≡ has_other_source x o
  other-source-kept x None = refl
  other-source-kept x (Some probe) = ap not (source-test l r faithful x.source probe.source)

  wrong-probe-kept : (x : BeatC w) (o : Option (BeatB w))
      → answers_wrong_probe (renamed_c r x) (option_map (renamed_b r) o) ≡ answers_wrong_probe x o
  wrong-probe-kept x None = refl
  wrong-probe-kept x (Some probe) = refl

  misreports-kept : (x : BeatC w) (o : Option (BeatB w)) (p : Perm)
      → misreports (renamed_c r x) (option_map (renamed_b r) o) p ≡ misreports x o p
  misreports-kept x None p = refl
  misreports-kept x (Some probe) p = refl

  release-order-kept : (x : BeatC w) (t : History w)
      → broken_release_under l (renamed_c r x) (renamed_history r t) ≡ broken_release_under l x t
  release-order-kept x t =
      rw (
        block-of r.block x.address,
        pending-kept l r faithful (ReleaseSource x.source) t,
        pending-kept l r faithful (AcquireOf (block_at x.address)) t,
        pending-kept l r faithful (ReleaseOf (block_at x.address)) t,
        held-kept l r faithful (block_at x.address) t,
      ) refl

  probe-ack-kept : (x : BeatC w) (t : History w)
      → broken_probe_ack_under l (renamed_c r x) (renamed_history r t) ≡ broken_probe_ack_under l x t
  probe-ack-kept x t =
      rw (
        block-of r.block x.address,
        pending-kept l r faithful (ProbeOf (block_at x.address)) t,
        pending-kept l r faithful (ReleaseOf (block_at x.address)) t,
        probe-kept l r faithful (block_at x.address) t,
        held-kept l r faithful (block_at x.address) t,
        other-source-kept x (probe_of (block_at x.address) t),
        wrong-probe-kept x (probe_of (block_at x.address) t),
        misreports-kept x (probe_of (block_at x.address) t) (held_under l (block_at x.address) t),
      ) refl

  c-kept : (x : BeatC w) (t : History w) → broken_c_under l (renamed_c r x) (renamed_history r t)
      ≡ broken_c_under l x t
  c-kept x t = rw (release-order-kept x t, probe-ack-kept x t) refl

  -- ---- channels D and E

  admits-kept : (opcode : OpD) (o : Option (BeatA w)) → admits opcode (option_map (renamed_a r) o) ≡ admits opcode o
  admits-kept opcode None = refl
  admits-kept opcode (Some x) = refl

  has-request-kept : (x : BeatD w) (t : History w)
      → has_request_under l (renamed_d r x) (renamed_history r t) ≡ has_request_under l x t
  has-request-kept x t =
      rw (
        pending-kept l r faithful (ReleaseSource x.source) t,
        pending-kept l r faithful (RequestSource x.source) t,
        unfinished-kept r Channel.C t,
        in-release-kept x.source (unfinished Channel.C t),
        unfinished-kept r Channel.A t,
        in-request-kept x.source (unfinished Channel.A t),
        request-kept l r faithful x.source t,
        admits-kept x.opcode (request_of x.source t),
      ) refl

  request-size-kept : (o : Option (BeatA w)) → size_of_request (option_map (renamed_a r) o) ≡ size_of_request o
  request-size-kept None = refl
  request-size-kept (Some x) = refl

  release-size-kept : (o : Option (BeatC w)) → size_of_release (option_map (renamed_c r) o) ≡ size_of_release o
  release-size-kept None = refl
  release-size-kept (Some x) = refl

  size-kept : (x : BeatD w) (t : History w) → size_asked (renamed_d r x) (renamed_history r t) ≡ size_asked x t
  size-kept x t =
      rw (
        request-kept l r faithful x.source t,
        release-kept l r faithful x.source t,
        request-size-kept (request_of x.source t),
        release-size-kept (release_of x.source t),
      ) refl

  misgrants-kept : (x : BeatD w) (o : Option (BeatA w)) (t : History w)
      → misgrants_under l (renamed_d r x) (option_map (renamed_a r) o) (renamed_history r t) ≡ misgrants_under l x o t
  misgrants-kept x None t = refl
  misgrants-kept x (Some q) t =
      rw (
        block-of r.block q.address,
        pending-kept l r faithful (ProbeOf (block_at q.address)) t,
        held-kept l r faithful (block_at q.address) t,
      ) refl

  d-kept : (x : BeatD w) (t : History w) → broken_d_under l (renamed_d r x) (renamed_history r t)
      ≡ broken_d_under l x t
  d-kept x t =
      rw (
        has-request-kept x t,
        size-kept x t,
        request-kept l r faithful x.source t,
        misgrants-kept x (request_of x.source t) t,
        pending-kept l r faithful (GrantSink x.sink) t,
      ) refl

  e-kept : (x : BeatE) (t : History w) → broken_e_under l (renamed_e r x) (renamed_history r t)
      ≡ broken_e_under l x t
  e-kept x t =
      rw (
        pending-kept l r faithful (GrantSink x.sink) t,
        unfinished-kept r Channel.D t,
        in-grant-kept x.sink (unfinished Channel.D t),
      ) refl

  pub order-kept : (x : Beat w) (t : History w) → broken_order_under l (renamed r x) (renamed_history r t)
      ≡ broken_order_under l x t
  unfolding broken_order_under
  order-kept (A x) t = a-kept x t
  order-kept (B x) t = b-kept x t
  order-kept (C x) t = c-kept x t
  order-kept (D x) t = d-kept x t
  order-kept (E x) t = e-kept x t
