-- The cells that hold something, from the first on.
use Rattle.std.proofs.Common.{◌≡◌, ◌<◌, ◌≤◌, ◌+◌, ◌∙◌, ◌++◌, ◌∷◌, ℕ, zero, suc, List, [], ap, append_assoc, arith, drop}
use Rattle.std.proofs.Common.{length, refl, slice_index_or, sym}
use Rattle.std.proofs.lemmas.List.{append-nil, drop_all}
use Rattle.serde_json.specs.Data.{Data}
use Rattle.tl_sign_off.specs.statement.Report.{counted_from, counted_in}

counted_step : (cells : List ℕ) (i k d : ℕ) → i < length cells → counted_from k (drop i cells)
    ≡ counted_in k (slice_index_or cells i d) ++ counted_from (k + 1) (drop (i + 1) cells)
unfolding counted_from
counted_step [] i k d lt = absurd (omega (arith, lt))
counted_step (n ∷ ns) zero k d lt = refl
counted_step (n ∷ ns) (suc i) k d lt =
    let next : suc i + 1 ≡ suc (i + 1) = omega arith in
    rw next (counted_step ns i k d (omega (arith, lt)))

pub counted_on : (listed more : List Data) (cells : List ℕ) (i d : ℕ) → i < length cells
    → more ≡ listed ++ counted_in i (slice_index_or cells i d)
    → listed ++ counted_from i (drop i cells) ≡ counted_from 0 cells
    → more ++ counted_from (i + 1) (drop (i + 1) cells) ≡ counted_from 0 cells
counted_on listed more cells i d lt is so_far =
    ap (λ (ds : List Data). ds ++ counted_from (i + 1) (drop (i + 1) cells)) is
    ∙ append_assoc listed (counted_in i (slice_index_or cells i d)) (counted_from (i + 1) (drop (i + 1) cells))
    ∙ ap (λ (ds : List Data). listed ++ ds) (sym (counted_step cells i i d lt)) ∙ so_far

pub counted_all : (listed : List Data) (cells : List ℕ) (i : ℕ) → length cells ≤ i
    → listed ++ counted_from i (drop i cells) ≡ counted_from 0 cells → listed ≡ counted_from 0 cells
unfolding counted_from
counted_all listed cells i past so_far = rw (drop_all i cells past, append-nil listed) at so_far
