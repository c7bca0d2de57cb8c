-- What is held after a renamed history.
use Rattle.tl_renaming.proofs.Imports.{Beat, A, B, C, D, E, Channel, History, unfinished, IsFaithful, Liberties, Renaming}
use Rattle.tl_renaming.proofs.Imports.{grant_sink, release_of, renamed, renamed_history}
use Rattle.tl_renaming.{proofs.Bursts.begins-kept, proofs.Bursts.ends-kept, proofs.Bursts.unfinished-kept}
use Rattle.tl_renaming.proofs.Messages.{block-test, grant-sink-kept, grants-kept, is-sink-kept, release-kept}
use Rattle.tl_renaming.proofs.Messages.{releases-kept, sink-test, source-test}
use Rattle.tl_renaming.proofs.Pending.{pending-kept}
use Rattle.std.proofs.Common.{◌≡◌, ℕ, List, [], ◌∷◌, map, refl}
use Rattle.tl_params.specs.declared.key.Key.TheVariants.{GrantAckOf, ReleaseOf}
use Rattle.tl_rules.specs.statement.Liberties.{given_by_grant, held_under, left_by_release, says_held_under}

module _ {w : ℕ} (l : Liberties) (r : Renaming) (faithful : IsFaithful l r) where
  left-kept : (s : ℕ) (burst : List (Beat w)) → left_by_release (r.source s) (map (renamed r) burst)
      ≡ left_by_release s burst
  left-kept s [] = refl
  left-kept s (C x ∷ burst) = rw (source-test l r faithful x.source s) refl
  left-kept s (A x ∷ burst) = refl
  left-kept s (B x ∷ burst) = refl
  left-kept s (D x ∷ burst) = refl
  left-kept s (E x ∷ burst) = refl

  given-kept : (s : ℕ) (burst : List (Beat w)) → given_by_grant (r.sink s) (map (renamed r) burst)
      ≡ given_by_grant s burst
  given-kept s [] = refl
  given-kept s (D x ∷ burst) = rw (sink-test l r faithful x.sink s) refl
  given-kept s (A x ∷ burst) = refl
  given-kept s (B x ∷ burst) = refl
  given-kept s (C x ∷ burst) = refl
  given-kept s (E x ∷ burst) = refl

  says-kept : (k : ℕ) (x : Beat w) (t : History w)
      → says_held_under l (r.block k) (renamed r x) (renamed_history r t) ≡ says_held_under l k x t
  says-kept k (A x) t = rw (begins-kept r (A x) t, block-test l r faithful x.address k) refl
  says-kept k (B x) t = refl
  says-kept k (C x) t = rw (
    begins-kept r (C x) t,
    pending-kept l r faithful (ReleaseOf k) t,
    block-test l r faithful x.address k,
  ) refl
  says-kept k (D x) t =
      rw (
        begins-kept r (D x) t,
        pending-kept l r faithful (GrantAckOf k) t,
        release-kept l r faithful x.source t,
        releases-kept l r faithful k (release_of x.source t),
        unfinished-kept r Channel.C t,
        left-kept x.source (unfinished Channel.C t),
        grants-kept l r faithful k x t,
      ) refl
  says-kept k (E x) t =
      rw (
        pending-kept l r faithful (GrantAckOf k) t,
        grant-sink-kept l r faithful k t,
        is-sink-kept l r faithful x.sink (grant_sink k t),
        unfinished-kept r Channel.D t,
        given-kept x.sink (unfinished Channel.D t),
      ) refl

  pub held-kept : (k : ℕ) (t : History w) → held_under l (r.block k) (renamed_history r t) ≡ held_under l k t
  unfolding held_under
  held-kept k [] = refl
  held-kept k (x ∷ t) = rw (ends-kept r x t, says-kept k x t, held-kept k t) refl
