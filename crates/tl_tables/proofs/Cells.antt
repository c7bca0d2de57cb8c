-- The counts of a row, column by column, and the sums of a table of permissions, bin by bin.
use Rattle.std.proofs.Common.{◌≡◌, ◌<◌, ◌≤◌, ℕ, suc, ◌+◌, ◌-◌, List, [], ◌∷◌, ◌++◌, length, drop}
use Rattle.std.proofs.Common.{sym, ap, ◌∙◌, arith, append_assoc}
use Rattle.std.proofs.lemmas.List.{at_drop_more}
use Rattle.std.specs.Prelude.{Option, slice_index_or}
use Rattle.tl_cover.specs.declared.situation.Situation.{Situation}
use Rattle.tl_params.specs.declared.perm.Perm.{Perm}
use Rattle.tl_tables.specs.code.Grid.{sum_from, with_bin}
use Rattle.tl_tables.specs.code.Walk.{cells_from}
use Rattle.tl_tables.specs.declared.grid.Line.{Line}
use Rattle.tl_tables.specs.statement.Tables.{longest}

pub cells_next : (cell : ℕ → Option ℕ) (n i : ℕ) (all now more : List (Option ℕ)) → i < n
    → more ≡ now ++ cell i ∷ [] → now ++ cells_from cell i (n - i) ≡ all
    → more ++ cells_from cell (i + 1) (n - (i + 1)) ≡ all
cells_next cell n i all now more lt said before =
    let left : n - i ≡ suc (n - (i + 1)) = omega (arith, lt) in
    ap (λ (front : List (Option ℕ)). front ++ cells_from cell (i + 1) (n - (i + 1))) said
    ∙ append_assoc now (cell i ∷ []) (cells_from cell (i + 1) (n - (i + 1)))
    ∙ ap (λ (k : ℕ). now ++ cells_from cell i k) (sym left) ∙ before

pub sum_next : (l : Line) (held : Perm) (counts : List (Option ℕ)) (bins : List Situation) (i : ℕ) (d : Situation)
    (sum more all : Option ℕ) → i < length bins → more ≡ with_bin l held counts sum i (slice_index_or bins i d)
    → sum_from l held counts sum i (drop i bins) ≡ all → sum_from l held counts more (i + 1) (drop (i + 1) bins) ≡ all
sum_next l held counts bins i d sum more all lt added before =
    ap (λ (s : Option ℕ). sum_from l held counts s (i + 1) (drop (i + 1) bins)) added
    ∙ sym (at_drop_more (sum_from l held counts sum i) bins i d lt) ∙ before

-- no column is narrower than the heads
pub longest-low : (cells : List (Option ℕ)) → 6 ≤ longest cells
longest-low [] = omega arith
longest-low (cell ∷ cells) = omega (arith, longest-low cells)
