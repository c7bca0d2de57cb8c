-- What is pending after a renamed history.
use Rattle.tl_renaming.proofs.Imports.{Beat, A, B, C, D, E, History, IsFaithful, Liberties, Renaming}
use Rattle.tl_renaming.proofs.Imports.{grant_sink, pending, release_of, renamed, renamed_history}
use Rattle.tl_renaming.{proofs.Bursts.begins-kept, proofs.Bursts.ends-kept}
use Rattle.tl_renaming.proofs.Messages.{block-test, grant-sink-kept, grants-kept, is-sink-kept, release-kept}
use Rattle.tl_renaming.proofs.Messages.{releases-kept, sink-test, source-test}
use Rattle.std.proofs.Common.{◌≡◌, ℕ, [], ◌∷◌, refl}
use Rattle.tl_params.specs.declared.key.Key.{Key}
use Rattle.tl_params.specs.declared.key.Key.TheVariants.{RequestSource, ReleaseSource, AcquireOf, ReleaseOf, GrantSink}
use Rattle.tl_params.specs.declared.key.Key.TheVariants.{GrantAckOf, ProbeOf}
use Rattle.tl_rules.specs.statement.History.{closes, opens}

-- what a key becomes
abbrev pub renamed_key : Renaming → Key → Key
renamed_key r (RequestSource s) = RequestSource (r.source s)
renamed_key r (ReleaseSource s) = ReleaseSource (r.source s)
renamed_key r (AcquireOf k) = AcquireOf (r.block k)
renamed_key r (ReleaseOf k) = ReleaseOf (r.block k)
renamed_key r (GrantSink s) = GrantSink (r.sink s)
renamed_key r (GrantAckOf k) = GrantAckOf (r.block k)
renamed_key r (ProbeOf k) = ProbeOf (r.block k)

module _ {w : ℕ} (l : Liberties) (r : Renaming) (faithful : IsFaithful l r) where
  opens-kept : (key : Key) (x : Beat w) (t : History w)
      → opens (renamed_key r key) (renamed r x) (renamed_history r t) ≡ opens key x t
  opens-kept (RequestSource s) (A x) t = source-test l r faithful x.source s
  opens-kept (ReleaseSource s) (C x) t = rw (source-test l r faithful x.source s) refl
  opens-kept (AcquireOf k) (A x) t = rw (block-test l r faithful x.address k) refl
  opens-kept (ReleaseOf k) (C x) t = rw (block-test l r faithful x.address k) refl
  opens-kept (GrantSink s) (D x) t = rw (sink-test l r faithful x.sink s) refl
  opens-kept (GrantAckOf k) (D x) t = grants-kept l r faithful k x t
  opens-kept (ProbeOf k) (B x) t = rw (block-test l r faithful x.address k) refl
  opens-kept _ _ t = refl

  closes-kept : (key : Key) (x : Beat w) (t : History w)
      → closes (renamed_key r key) (renamed r x) (renamed_history r t) ≡ closes key x t
  closes-kept (RequestSource s) (D x) t = rw (source-test l r faithful x.source s) refl
  closes-kept (ReleaseSource s) (D x) t = rw (source-test l r faithful x.source s) refl
  closes-kept (AcquireOf k) (D x) t = grants-kept l r faithful k x t
  closes-kept (ReleaseOf k) (D x) t =
      rw (release-kept l r faithful x.source t, releases-kept l r faithful k (release_of x.source t)) refl
  closes-kept (GrantSink s) (E x) t = sink-test l r faithful x.sink s
  closes-kept (GrantAckOf k) (E x) t =
      rw (grant-sink-kept l r faithful k t) (is-sink-kept l r faithful x.sink (grant_sink k t))
  closes-kept (ProbeOf k) (C x) t = rw (block-test l r faithful x.address k) refl
  closes-kept _ _ t = refl

  pub pending-kept : (key : Key) (t : History w) → pending (renamed_key r key) (renamed_history r t) ≡ pending key t
  unfolding pending
  pending-kept key [] = refl
  pending-kept key (x ∷ t) =
      rw (begins-kept r x t, opens-kept key x t, ends-kept r x t, closes-kept key x t, pending-kept key t) refl
