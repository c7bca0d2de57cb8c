-- What is known of blocks, where one is kept by itself.
use Rattle.std.proofs.Common.{◌≡◌, ◌≢◌, ℕ, ◌<◌, ◌≤◌, ◌+◌, ◌*◌, ◌^◌, refl, sym, ap, ◌∙◌, arith, inl, inr}
use Rattle.std.specs.Prelude.{if◌then◌else◌, ◌==◌, List, Result, Ok, Err, OnErr}
use Rattle.std.proofs.lemmas.Bool.{cases_eq, eq-eqb, ne_eqb}
use Rattle.tl_rules.specs.declared.table.Block.{Block}
use Rattle.tl_rules.specs.code.Tables.{empty_block}
use Rattle.tl_monitor.specs.statement.Count.{sum_below}
use Rattle.tl_monitor.specs.code.Blocks.{block_in, open_of}
use Rattle.tl_monitor.specs.code.KnownBlocks.{Known, known_in}
use Rattle.tl_monitor.proofs.Counts.{sum-changed, sum-le}
use Rattle.tl_monitor.proofs.OpenBlocks.{all_open, all-changed, open-empty, open-le, open-none}

pub on-err : {A E P : Type 0} (r : Result A E) → P → OnErr r P
on-err (Ok x) p = tt
on-err (Err e) p = p

-- a block of which nothing is open or held, where that is written
pub none-said : (old : List (List (ℕ × Block))) (block : ℕ) (value : Block) → block_in old block ≡ empty_block
    → open_of value ≡ 0 → (k : ℕ) → block_in old k ≡ (if k == block then value else block_in old k)
none-said old block value none shut k = elim (cases_eq k block) [
  | inl its ↦ rw (its, eq-eqb block block refl, none, open-none value shut) refl
  | inr other ↦ rw (ne_eqb k block other) refl
]

-- how much is open or held with a block of which nothing was
pub all-added : (old new : List (List (ℕ × Block))) (block : ℕ) (value : Block) (len more : ℕ) → block < 2 ^ 32
    → ((k : ℕ) → block_in new k ≡ (if k == block then value else block_in old k))
    → len ≡ all_open old → block_in old block ≡ empty_block → more ≡ open_of value → len + more ≡ all_open new
all-added old new block value len more lt changed l none m =
    let before : 0 ≡ open_of (block_in old block) = sym (ap open_of none ∙ open-empty) in
    let all = all-changed old new block value len 0 more lt changed l before m in
    omega (arith, all)

counted : (b : Known) → block_in b.stored b.newest ≡ empty_block → b.newest < 2 ^ 32
    → sum_below (2 ^ 32) (λ k. open_of (block_in b.stored k)) + open_of b.value ≡ sum_below (2 ^ 32)
    (λ k. open_of (known_in b k))
counted b none lt =
    let e = sum-changed (2 ^ 32) b.newest (λ k. open_of (block_in b.stored k)) (λ k. open_of (known_in b k)) lt
    (λ k other. rw (ne_eqb k b.newest other) refl) in
    let before : open_of (block_in b.stored b.newest) ≡ 0 = ap open_of none ∙ open-empty in
    let own : open_of (known_in b b.newest) ≡ open_of b.value = rw (eq-eqb b.newest b.newest refl) refl in
    omega (arith, e, before, own)

pub known-counted : (b : Known) (stored : List (List (ℕ × Block))) (newest : ℕ) (value : Block) (len more : ℕ)
    → record { stored = stored; newest = newest; value = value } ≡ b → block_in stored newest ≡ empty_block
    → newest < 2 ^ 32 → len ≡ sum_below (2 ^ 32) (λ k. open_of (block_in stored k)) → more ≡ open_of value
    → len + more ≡ sum_below (2 ^ 32) (λ k. open_of (known_in b k))
known-counted b stored newest value len more is none lt l m =
    rw (l, m, ← is) (counted (record { stored = stored; newest = newest; value = value }) none lt)

pub known-le : (b : Known) → sum_below (2 ^ 32) (λ k. open_of (known_in b k)) ≤ 2 ^ 32 * 5
known-le b = sum-le (2 ^ 32) 5 (λ k. open_of (known_in b k)) (λ k. open-le (known_in b k))

-- the one that was kept by itself is stored: nothing is of the block that comes
pub comes-none : (stored new : List (List (ℕ × Block))) (newest block : ℕ) (old : Block)
    → ((k : ℕ) → block_in new k ≡ (if k == newest then old else block_in stored k)) → block ≢ newest
    → block_in stored block ≡ empty_block → block_in new block ≡ empty_block
comes-none stored new newest block old changed apart none = changed block ∙ rw (ne_eqb block newest apart) none

-- nothing is known of a block that isn't the one kept by itself, and of which nothing is stored
pub other-none : (b : Known) (stored : List (List (ℕ × Block))) (newest block : ℕ) (value : Block)
    → record { stored = stored; newest = newest; value = value } ≡ b → block ≢ newest
    → block_in stored block ≡ empty_block → known_in b block ≡ empty_block
other-none b stored newest block value is apart none = rw (← is, ne_eqb block newest apart) none
