-- Bursts of renamed beats.
use Rattle.tl_renaming.proofs.Imports.{Beat, A, B, C, D, E, Channel, History, channel_of, unfinished, IsFaithful, Renaming}
use Rattle.tl_renaming.proofs.Imports.{Liberties, begins, ends, renamed, renamed_history}
use Rattle.tl_renaming.{proofs.Addresses.same-address, proofs.Numbers.same-test}
use Rattle.std.proofs.Common.{◌≡◌, ℕ, suc, Bool, true, false, not, List, [], ◌∷◌, length, map, refl, ap}
use Rattle.std.specs.Prelude.{if◌then◌else◌}
use Rattle.tl_burst.specs.statement.Messages.{breaks_burst, burst_length, grown, on, same_control}
use Rattle.tl_burst.specs.statement.Part.{completes, is_empty}

module _ {w : ℕ} (r : Renaming) where
  pub channel-kept : (x : Beat w) → channel_of (renamed r x) ≡ channel_of x
  channel-kept (A x) = refl
  channel-kept (B x) = refl
  channel-kept (C x) = refl
  channel-kept (D x) = refl
  channel-kept (E x) = refl

  pub on-kept : (ch : Channel) (x : Beat w) → on ch (renamed r x) ≡ on ch x
  on-kept Channel.A (A x) = refl
  on-kept Channel.B (B x) = refl
  on-kept Channel.C (C x) = refl
  on-kept Channel.D (D x) = refl
  on-kept Channel.E (E x) = refl
  on-kept _ _ = refl

  pub burst-length-kept : (x : Beat w) → burst_length (renamed r x) ≡ burst_length x
  burst-length-kept (A x) = refl
  burst-length-kept (B x) = refl
  burst-length-kept (C x) = refl
  burst-length-kept (D x) = refl
  burst-length-kept (E x) = refl

  pub length-kept : (xs : List (Beat w)) → length (map (renamed r) xs) ≡ length xs
  length-kept [] = refl
  length-kept (x ∷ xs) = ap suc (length-kept xs)

  pub empty-kept : (xs : List (Beat w)) → is_empty (map (renamed r) xs) ≡ is_empty xs
  empty-kept [] = refl
  empty-kept (x ∷ xs) = refl

  pub completes-kept : (x : Beat w) (xs : List (Beat w)) → completes (renamed r x) (map (renamed r) xs) ≡ completes x xs
  completes-kept x xs = rw (length-kept xs, burst-length-kept x) refl

  grown-kept : (x : Beat w) (xs : List (Beat w)) → grown (renamed r x) (map (renamed r) xs) ≡ map (renamed r) (grown x xs)
  grown-kept x xs = rw (completes-kept x xs) (go (completes x xs))
    where
      go : (last : Bool) → (if last then [] else renamed r x ∷ map (renamed r) xs)
          ≡ map (renamed r) (if last then [] else x ∷ xs)
      go true = refl
      go false = refl

  pub unfinished-kept : (ch : Channel) (t : History w) → unfinished ch (renamed_history r t)
      ≡ map (renamed r) (unfinished ch t)
  unfolding unfinished
  unfinished-kept ch [] = refl
  unfinished-kept ch (x ∷ t) = rw (on-kept ch x, unfinished-kept ch t, grown-kept x (unfinished ch t)) (go (on ch x))
    where
      go : (b : Bool) → (if b then map (renamed r) (grown x (unfinished ch t)) else map (renamed r) (unfinished ch t))
          ≡ map (renamed r) (if b then grown x (unfinished ch t) else unfinished ch t)
      go true = refl
      go false = refl

  pub begins-kept : (x : Beat w) (t : History w) → begins (renamed r x) (renamed_history r t) ≡ begins x t
  begins-kept x t =
      rw (channel-kept x, unfinished-kept (channel_of x) t) (empty-kept (unfinished (channel_of x) t))

  pub ends-kept : (x : Beat w) (t : History w) → ends (renamed r x) (renamed_history r t) ≡ ends x t
  ends-kept x t =
      rw (channel-kept x, unfinished-kept (channel_of x) t) (completes-kept x (unfinished (channel_of x) t))

  module _ (l : Liberties) (faithful : IsFaithful l r) where
    control-kept : (x y : Beat w) → same_control (renamed r x) (renamed r y) ≡ same_control x y
    control-kept (A x) (A y) = rw (
      same-test r.source faithful.sources_apart x.source y.source,
      same-address r.block faithful.blocks_apart x.address y.address,
    ) refl
    control-kept (B x) (B y) = rw (
      same-test r.source faithful.sources_apart x.source y.source,
      same-address r.block faithful.blocks_apart x.address y.address,
    ) refl
    control-kept (C x) (C y) = rw (
      same-test r.source faithful.sources_apart x.source y.source,
      same-address r.block faithful.blocks_apart x.address y.address,
    ) refl
    control-kept (D x) (D y) = rw (
      same-test r.source faithful.sources_apart x.source y.source,
      same-test r.sink faithful.sinks_apart x.sink y.sink,
    ) refl
    control-kept (E x) (E y) = same-test r.sink faithful.sinks_apart x.sink y.sink
    control-kept _ _ = refl

    pub breaks-burst-kept : (x : Beat w) (xs : List (Beat w)) → breaks_burst (renamed r x) (map (renamed r) xs)
        ≡ breaks_burst x xs
    breaks-burst-kept x [] = refl
    breaks-burst-kept x (y ∷ ys) = ap not (control-kept x y)
