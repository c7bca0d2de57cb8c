-- Answers that begin before the message that they answer is complete, in renamed histories.
use Rattle.tl_renaming.proofs.Imports.{Beat, A, B, C, D, E, BeatD, Channel, History, unfinished}
use Rattle.tl_renaming.proofs.Imports.{IsFaithful, Liberties, Renaming, renamed, renamed_d, renamed_history}
use Rattle.tl_renaming.{proofs.Bursts.begins-kept, proofs.Bursts.ends-kept}
use Rattle.tl_renaming.proofs.{Bursts.unfinished-kept, Ordered.in-request-kept, Pending.pending-kept}
use Rattle.tl_renaming.proofs.Messages.{block-test, sink-test, source-test}
use Rattle.std.proofs.Common.{◌≡◌, ℕ, Bool, true, false, List, [], ◌∷◌, map, refl, ap}
use Rattle.std.specs.Prelude.{if◌then◌else◌}
use Rattle.tl_bytes.specs.statement.Early.{acknowledges_sink, ends_report, ends_request, is_overtaken, is_release_of}
use Rattle.tl_bytes.specs.statement.Early.{is_released, outruns, telling_beats}
unfoldable use Rattle.tl_bytes.specs.statement.Early.{reported_since}
use Rattle.tl_params.specs.declared.key.Key.TheVariants.{GrantAckOf, ReleaseOf}
use Rattle.tl_rules.specs.statement.History.{is_release_ack}

module _ {w : ℕ} (l : Liberties) (r : Renaming) (faithful : IsFaithful l r) where
  -- ---- accesses

  pub outruns-kept : (x : BeatD w) (t : History w) → outruns (renamed_d r x) (renamed_history r t) ≡ outruns x t
  outruns-kept x t =
      rw (unfinished-kept r Channel.A t, in-request-kept l r faithful x.source (unfinished Channel.A t)) refl

  pub ends-request-kept : (x : BeatD w) (t : History w)
      → ends_request (renamed_d r x) (renamed_history r t) ≡ ends_request x t
  ends-request-kept x t =
      rw (
        ends-kept r (D x) t,
        unfinished-kept r Channel.A t,
        in-request-kept l r faithful x.source (unfinished Channel.A t),
      ) refl

  -- ---- Releases and Grants

  pub release-of-kept : (block s : ℕ) (burst : List (Beat w))
      → is_release_of (r.block block) (r.source s) (map (renamed r) burst) ≡ is_release_of block s burst
  release-of-kept block s [] = refl
  release-of-kept block s (C x ∷ burst) =
      rw (source-test l r faithful x.source s, block-test l r faithful x.address block) refl
  release-of-kept block s (A x ∷ burst) = refl
  release-of-kept block s (B x ∷ burst) = refl
  release-of-kept block s (D x ∷ burst) = refl
  release-of-kept block s (E x ∷ burst) = refl

  pub released-kept : (block : ℕ) (x : Beat w) (t : History w)
      → is_released (r.block block) (renamed r x) (renamed_history r t) ≡ is_released block x t
  released-kept block (C x) t = rw (begins-kept r (C x) t, pending-kept l r faithful (ReleaseOf block) t) refl
  released-kept block (A x) t = refl
  released-kept block (B x) t = refl
  released-kept block (D x) t = refl
  released-kept block (E x) t = refl

  acknowledges-kept : (s : ℕ) (x : Beat w) → acknowledges_sink (r.sink s) (renamed r x) ≡ acknowledges_sink s x
  acknowledges-kept s (E x) = sink-test l r faithful x.sink s
  acknowledges-kept s (A x) = refl
  acknowledges-kept s (B x) = refl
  acknowledges-kept s (C x) = refl
  acknowledges-kept s (D x) = refl

  report-kept : (block : ℕ) (x : Beat w) (t : History w)
      → ends_report (r.block block) (renamed r x) (renamed_history r t) ≡ ends_report block x t
  report-kept block (C x) t = rw (ends-kept r (C x) t, block-test l r faithful x.address block) refl
  report-kept block (A x) t = refl
  report-kept block (B x) t = refl
  report-kept block (D x) t = refl
  report-kept block (E x) t = refl

  reported-kept : (block s : ℕ) (t : History w)
      → reported_since (r.block block) (r.sink s) (renamed_history r t) ≡ reported_since block s t
  unfolding reported_since
  reported-kept block s [] = refl
  reported-kept block s (x ∷ t) =
      rw (acknowledges-kept s x, report-kept block x t, reported-kept block s t) refl

  pub overtaken-kept : (block : ℕ) (x : BeatD w) (t : History w)
      → is_overtaken (r.block block) (renamed_d r x) (renamed_history r t) ≡ is_overtaken block x t
  overtaken-kept block x t =
      rw (
        begins-kept r (D x) t,
        pending-kept l r faithful (GrantAckOf block) t,
        reported-kept block x.sink t,
      ) refl

  -- the beats of the message that sets a block's bytes
  pub telling-kept : (x : Beat w) (t : History w)
      → telling_beats (renamed r x) (renamed_history r t) ≡ map (renamed r) (telling_beats x t)
  telling-kept (D x) t =
      rw (unfinished-kept r Channel.C t, unfinished-kept r Channel.D t) (go (is_release_ack x.opcode))
    where
      go : (b : Bool)
          → (if b then map (renamed r) (unfinished Channel.C t)
          else renamed r (D x) ∷ map (renamed r) (unfinished Channel.D t))
          ≡ map (renamed r) (if b then unfinished Channel.C t else D x ∷ unfinished Channel.D t)
      go true = refl
      go false = refl
  telling-kept (A x) t = ap (λ burst. renamed r (A x) ∷ burst) (unfinished-kept r Channel.A t)
  telling-kept (B x) t = ap (λ burst. renamed r (B x) ∷ burst) (unfinished-kept r Channel.B t)
  telling-kept (C x) t = ap (λ burst. renamed r (C x) ∷ burst) (unfinished-kept r Channel.C t)
  telling-kept (E x) t = ap (λ burst. renamed r (E x) ∷ burst) (unfinished-kept r Channel.E t)
