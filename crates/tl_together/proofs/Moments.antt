-- The last moments of blocks, of which those of one change.
use Rattle.std.proofs.Common.{◌≡◌, ℕ, Bool, true, false, refl, sym, ap, ◌∙◌, inl, inr}
use Rattle.std.specs.Prelude.{if◌then◌else◌, ◌==◌, ◌&&◌, is_some, Option, Some, None}
use Rattle.std.proofs.lemmas.Bool.{cases_eq, eq-eqb, ne_eqb}
use Rattle.tl_memory.specs.code.BlockMap.{replaced}
use Rattle.tl_memory.specs.declared.free.Freedom.{Freedom}
use Rattle.tl_memory.specs.statement.BlockMap.{value_in}
use Rattle.tl_together.specs.code.Windows.{Moments, is_noted, latest_window, shown_window, window_in, window_or_none}
use Rattle.tl_together.specs.declared.windows.Window.{Window}

-- these moments of the block are kept
abbrev pub Keeps : Moments → Moments → ℕ → Window → Type 0
Keeps old new block window = (k : ℕ) → value_in new k ≡ (if k == block then Some window else value_in old k)

-- so they are where they are in the place of earlier ones
pub replaced-kept : (old new : Moments) (block : ℕ) (before window : Window) → value_in old block ≡ Some before
    → ((k : ℕ) → value_in new k ≡ (if k == block then replaced window (value_in old k) else value_in old k))
    → Keeps old new block window
replaced-kept old new block before window there changed k = changed k ∙ elim (cases_eq k block) [
  | inl its ↦ rw (its, eq-eqb block block refl, there) refl
  | inr other ↦ rw (ne_eqb k block other) refl
]

window_of : (b : Bool) (window : Window) (o : Option Window)
    → window_or_none (if b then Some window else o) ≡ (if b then window else window_or_none o)
window_of true window o = refl
window_of false window o = refl

pub latest-is : (old new : Moments) (block moment : ℕ) (free : Freedom) (o : Option Window) (window : Window)
    → value_in old block ≡ o → window ≡ latest_window free moment (window_or_none o) → Keeps old new block window
    → (k : ℕ) → window_in new k
    ≡ (if k == block then latest_window free moment (window_in old block) else window_in old k)
latest-is old new block moment free o window there is kept k =
    ap window_or_none (kept k) ∙ window_of (k == block) window (value_in old k)
    ∙ ap (λ v. if k == block then v else window_in old k)
    (is ∙ ap (λ p. latest_window free moment (window_or_none p)) (sym there))

pub noted-is : (old new : Moments) (block : ℕ) (window : Window) → Keeps old new block window
    → is_noted new block ≡ true
noted-is old new block window kept = ap is_some (kept block) ∙ rw (eq-eqb block block refl) refl

-- the moment at which the bytes of a block are shown of which something is noted
pub shown-is : (old new : Moments) (block moment : ℕ) (before : Window) → value_in old block ≡ Some before
    → Keeps old new block (shown_window moment before) → (k : ℕ) → window_in new k
    ≡ (if (k == block) && is_noted old k then shown_window moment (window_in old k) else window_in old k)
shown-is old new block moment before there kept k = ap window_or_none (kept k) ∙ elim (cases_eq k block) [
  | inl its ↦ rw (its, eq-eqb block block refl, there) refl
  | inr other ↦ rw (ne_eqb k block other) refl
]

-- of which nothing is noted
pub none-shown : (old : Moments) (block moment : ℕ) → value_in old block ≡ None → (k : ℕ) → window_in old k
    ≡ (if (k == block) && is_noted old k then shown_window moment (window_in old k) else window_in old k)
none-shown old block moment none k = elim (cases_eq k block) [
  | inl its ↦ rw (its, eq-eqb block block refl, none) refl
  | inr other ↦ rw (ne_eqb k block other) refl
]
