-- Who holds what of a renamed block, and when it is free.
use Rattle.tl_renaming.proofs.Imports.{Beat, A, B, C, D, E, BeatA, BeatB, BeatC, Channel, History, unfinished}
use Rattle.tl_renaming.proofs.Imports.{IsFaithful, Renaming, block_at, pending, probe_of, renamed, renamed_a}
use Rattle.tl_renaming.proofs.Imports.{renamed_b, renamed_c, renamed_history, request_of}
use Rattle.tl_renaming.{proofs.Addresses.block-of, proofs.Held.held-kept, proofs.Ordered.in-request-kept}
use Rattle.tl_renaming.{proofs.Bursts.ends-kept, proofs.Bursts.unfinished-kept, proofs.Pending.pending-kept}
use Rattle.tl_renaming.{proofs.Traces.link-kept}
use Rattle.tl_renaming.proofs.Messages.{block-test, grants-kept, probe-kept, request-kept}
use Rattle.tl_renaming.specs.statement.Renamed.{AreFaithful, Renamings, of_link, renamed_on_link, renamed_trace}
use Rattle.std.proofs.Common.{◌≡◌, ℕ, zero, suc, Bool, true, false, not, ◌&&◌, List, [], ◌∷◌, map, refl}
use Rattle.std.specs.Prelude.{if◌then◌else◌, is_some, Option, Some, None, option_map}
use Rattle.tl_beat.specs.declared.beat.Link.{Link}
use Rattle.tl_bytes.specs.statement.Shown.{had_window, is_window, shows, shows_bytes}
use Rattle.tl_monitor.specs.statement.Granting.{given_by, granted_under}
use Rattle.tl_params.specs.declared.liberties.Liberties.{Liberties}
use Rattle.tl_params.specs.declared.key.Key.TheVariants.{GrantAckOf, ProbeOf, RequestSource}
use Rattle.tl_params.specs.declared.perm.Perm.{Perm}
use Rattle.tl_rules.specs.code.Open.{open_probe, open_request, probe_fields, request_fields}
use Rattle.tl_rules.specs.declared.past.Request.{Request}
use Rattle.tl_rules.specs.statement.Conformance.{Trace, comes_in_request, on_link}
use Rattle.tl_bytes.specs.statement.Free.{all_liberties, is_free, may_hold}
use Rattle.tl_together.specs.statement.Coherence.{is_grantable}

-- what is kept of a request, of a renamed one
abbrev pub renamed_request : Renaming → Request → Request
renamed_request r q = record q { block = r.block q.block }

pub some-kept : {X Y : Type 0} (f : X → Y) (o : Option X) → is_some (option_map f o) ≡ is_some o
some-kept f None = refl
some-kept f (Some x) = refl

-- a renamed value that is wanted, or none
where-wanted : {X Y : Type 0} (f : X → Y) (b : Bool) (o : Option X)
    → (if b then option_map f o else None) ≡ option_map f (if b then o else None)
where-wanted f true o = refl
where-wanted f false o = refl

-- ---- one link

-- what is faithful under some liberties is so where no name is asked to be 0
faithful-most : (l : Liberties) (r : Renaming) → IsFaithful l r → IsFaithful all_liberties r
unfolding all_liberties
faithful-most l r is = record {
  blocks_apart = is.blocks_apart;
  sources_apart = is.sources_apart;
  sinks_apart = is.sinks_apart;
  zero_source = λ e. absurd cc;
  zero_sink = λ e. absurd cc;
}

module _ {w : ℕ} (l : Liberties) (r : Renaming) (faithful : IsFaithful l r) where
  pub may-hold-kept : (k : ℕ) (t : History w) → may_hold (r.block k) (renamed_history r t) ≡ may_hold k t
  may-hold-kept k t = held-kept all_liberties r (faithful-most l r faithful) k t

  given-by-kept : (k : ℕ) (burst : List (Beat w)) (t : History w)
      → given_by (r.block k) (map (renamed r) burst) (renamed_history r t) ≡ given_by k burst t
  given-by-kept k [] t = refl
  given-by-kept k (D x ∷ burst) t = rw (grants-kept l r faithful k x t) refl
  given-by-kept k (A x ∷ burst) t = refl
  given-by-kept k (B x ∷ burst) t = refl
  given-by-kept k (C x ∷ burst) t = refl
  given-by-kept k (E x ∷ burst) t = refl

  pub granted-kept : (k : ℕ) (t : History w)
      → granted_under all_liberties (r.block k) (renamed_history r t) ≡ granted_under all_liberties k t
  granted-kept k t =
      rw (
        pending-kept l r faithful (GrantAckOf k) t,
        unfinished-kept r Channel.D t,
        given-by-kept k (unfinished Channel.D t) t,
        may-hold-kept k t,
      ) refl

  fields-kept : (o : Option (BeatA w)) → request_fields (option_map (renamed_a r) o)
      ≡ option_map (renamed_request r) (request_fields o)
  fields-kept None = refl
  fields-kept (Some x) = rw (block-of r.block x.address) refl

  pub open-request-kept : (s : ℕ) (t : History w) → open_request (r.source s) (renamed_history r t)
      ≡ option_map (renamed_request r) (open_request s t)
  open-request-kept s t =
      rw (
        pending-kept l r faithful (RequestSource s) t,
        unfinished-kept r Channel.A t,
        in-request-kept l r faithful s (unfinished Channel.A t),
        request-kept l r faithful s t,
        fields-kept (request_of s t),
      )
      (where-wanted (renamed_request r) (pending (RequestSource s) t && not
      (comes_in_request s (unfinished Channel.A t))) (request_fields (request_of s t)))

  probe-fields-kept : (o : Option (BeatB w)) → probe_fields (option_map (renamed_b r) o) ≡ probe_fields o
  probe-fields-kept None = refl
  probe-fields-kept (Some x) = refl

  open-probe-kept : (k : ℕ) (t : History w) → open_probe (r.block k) (renamed_history r t) ≡ open_probe k t
  open-probe-kept k t =
      rw (
        pending-kept l r faithful (ProbeOf k) t,
        probe-kept l r faithful k t,
        probe-fields-kept (probe_of k t),
      ) refl

  shows-bytes-kept : (x : BeatC w) (t : History w) → shows_bytes (renamed_c r x) (renamed_history r t)
      ≡ shows_bytes x t
  shows-bytes-kept x t = rw (block-of r.block x.address, open-probe-kept (block_at x.address) t) refl

  pub shows-kept : (k : ℕ) (x : Beat w) (t : History w) → shows (r.block k) (renamed r x) (renamed_history r t)
      ≡ shows k x t
  shows-kept k (C x) t =
      rw (ends-kept r (C x) t, block-test l r faithful x.address k, shows-bytes-kept x t) refl
  shows-kept k (A x) t = refl
  shows-kept k (B x) t = refl
  shows-kept k (D x) t = refl
  shows-kept k (E x) t = refl

-- ---- all links

module _ {w : ℕ} (l : Liberties) (r : Renamings) (faithful : AreFaithful l r) where
  pub free-kept : (n : ℕ) (given : Perm) (block : ℕ) (t : Trace w)
      → is_free n given (r.block block) (renamed_trace r t) ≡ is_free n given block t
  unfolding is_free
  free-kept zero given block t = refl
  free-kept (suc n) given block t =
      rw (
        free-kept n given block t,
        link-kept r n t,
        may-hold-kept l (of_link r n) (faithful n) block (on_link n t),
      ) refl

  pub grantable-kept : (n link : ℕ) (given : Perm) (block : ℕ) (t : Trace w)
      → is_grantable n link given (r.block block) (renamed_trace r t) ≡ is_grantable n link given block t
  unfolding is_grantable
  grantable-kept zero link given block t = refl
  grantable-kept (suc n) link given block t =
      rw (
        grantable-kept n link given block t,
        link-kept r n t,
        granted-kept l (of_link r n) (faithful n) block (on_link n t),
      ) refl

  -- the open request of a link
  pub open-kept : (link source : ℕ) (t : Trace w)
      → open_request (r.sources link source) (on_link link (renamed_trace r t))
      ≡ option_map (renamed_request (of_link r link)) (open_request source (on_link link t))
  open-kept link source t =
      rw (link-kept r link t) (open-request-kept l (of_link r link) (faithful link) source (on_link link t))

  pub window-kept : (n : ℕ) (given : Perm) (block : ℕ) (x : Link × Beat w) (t : Trace w)
      → is_window n given (r.block block) (renamed_on_link r x) (renamed_trace r t) ≡ is_window n given block x t
  window-kept n given block x t =
      rw (
        free-kept n given block (x ∷ t),
        link-kept r x.0.0 t,
        shows-kept l (of_link r x.0.0) (faithful x.0.0) block x.1 (on_link x.0.0 t),
      ) refl

  pub had-window-kept : (n link source : ℕ) (given : Perm) (block : ℕ) (t : Trace w)
      → had_window n link (r.sources link source) given (r.block block) (renamed_trace r t)
      ≡ had_window n link source given block t
  unfolding had_window
  had-window-kept n link source given block [] = refl
  had-window-kept n link source given block (x ∷ t) =
      rw (
        open-kept link source (x ∷ t),
        some-kept (renamed_request (of_link r link))
            (open_request source (on_link link (x ∷ t))),
        window-kept n given block x t,
        had-window-kept n link source given block t,
      ) refl
