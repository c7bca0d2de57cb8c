-- Trees of blocks' values, of which one changes.
use Rattle.std.proofs.Common.{◌≡◌, ℕ, ◌<◌, ◌%◌, Bool, true, false, List, [], length, map}
use Rattle.std.proofs.Common.{refl, sym, ap, ◌∙◌, arith, inl, inr}
use Rattle.std.proofs.lemmas.Bool.{cases_eq, eq-eqb, ne_eqb}
use Rattle.std.proofs.lemmas.List.{get_or-map, get_or-set_other, get_or-set_same, length-map, map-set}
use Rattle.std.specs.BTreeMap.{BTreeMap}
use Rattle.std.specs.Prelude.{◌==◌, ◌&&◌, if◌then◌else◌, Option, None, OnErr, Result, Ok, Err, slice_index_or, slice_set}
use Rattle.std.proofs.Math.Path.{fun_ext}
use Rattle.std.proofs.lemmas.List.FromFn.{get_or-map-range_with_len}
use Rattle.std.specs.List.{range_with_len}
use Rattle.tl_memory.specs.code.BlockMap.{tree_at, trees_in}
use Rattle.tl_memory.specs.statement.BlockMap.{found_in, value_in}

module _ {V : Type 0} (trees : List (BTreeMap ℕ V)) where
  -- the tree that changes
  at_own : (i : ℕ) (new : BTreeMap ℕ V) → i < length trees → tree_at (slice_set trees i new) i ≡ new.entries
  at_own i new lt = ap (λ ts. slice_index_or ts i []) (map-set (λ m. m.entries) trees i new)
      ∙ get_or-set_same (map (λ m. m.entries) trees) i new.entries [] (rw (length-map trees (λ m. m.entries)) lt)

  -- and the others
  at_other : (i j : ℕ) (new : BTreeMap ℕ V) → (j ≡ i → ⊥) → tree_at (slice_set trees i new) j ≡ tree_at trees j
  at_other i j new other = ap (λ ts. slice_index_or ts j []) (map-set (λ m. m.entries) trees i new)
      ∙ get_or-set_other (map (λ m. m.entries) trees) i j new.entries [] other

  -- a tree that is read
  at_read : (i : ℕ) (old : BTreeMap ℕ V) → i < length trees → old ≡ slice_index_or trees i old
      → tree_at trees i ≡ old.entries
  at_read i old lt is = get_or-map (λ m. m.entries) trees i old [] lt ∙ ap (λ m. m.entries) (sym is)

  -- what one value becomes
  pub entry-changed : (i block : ℕ) (old new : BTreeMap ℕ V) (change : Option V → Option V) → i < length trees
      → old ≡ slice_index_or trees i old
      → ((k : ℕ) → found_in new.entries k
      ≡ (if k == block then change (found_in old.entries k) else found_in old.entries k))
      → (j k : ℕ) → found_in (tree_at (slice_set trees i new) j) k
      ≡ (if (j == i) && (k == block) then change (found_in (tree_at trees j) k) else found_in (tree_at trees j) k)
  entry-changed i block old new change lt is changed j k = elim (cases_eq j i) [
    | inl same ↦ rw (same, eq-eqb i i refl, at_own i new lt, at_read i old lt is) (changed k)
    | inr other ↦ rw (ne_eqb j i other, at_other i j new other) refl
  ]

  -- the entries of each tree stay
  pub entries-same : (i : ℕ) (old new : BTreeMap ℕ V) → i < length trees → old ≡ slice_index_or trees i old
      → new.entries ≡ old.entries → (j : ℕ) → tree_at (slice_set trees i new) j ≡ tree_at trees j
  entries-same i old new lt is same j = elim (cases_eq j i) [
    | inl own ↦ rw (own, at_own i new lt, at_read i old lt is) same
    | inr other ↦ at_other i j new other
  ]

  -- the value of a block is in its tree
  pub value-is : (k : ℕ) → value_in (trees_in trees) k ≡ found_in (tree_at trees (k % 1024)) k
  unfolding trees_in
  value-is k = ap (λ es. found_in es k)
      (get_or-map-range_with_len (tree_at trees) 0 1024 (k % 1024) (k % 1024) [] (omega arith) (omega arith))

-- with the same entries of each tree
pub trees-same : {V : Type 0} (old new : List (BTreeMap ℕ V)) → ((i : ℕ) → tree_at new i ≡ tree_at old i)
    → trees_in new ≡ trees_in old
unfolding trees_in
trees-same old new same = ap (λ f. map f (range_with_len 0 1024)) (fun_ext same)

own_tree : (k block : ℕ) → ((k % 1024 == block % 1024) && (k == block)) ≡ (k == block)
own_tree k block = elim (cases_eq k block) [
  | inl same ↦ rw (same, eq-eqb (block % 1024) (block % 1024) refl, eq-eqb block block refl) refl
  | inr other ↦ rw (ne_eqb k block other) (and_false (k % 1024 == block % 1024))
]
  where
    and_false : (b : Bool) → (b && false) ≡ false
    and_false true = refl
    and_false false = refl

-- what the value of one block becomes
pub value-changed : {V : Type 0} (old between new : List (BTreeMap ℕ V)) (tree block : ℕ) (change : Option V → Option V)
    → tree ≡ block % 1024 → ((i : ℕ) → tree_at between i ≡ tree_at old i)
    → ((i k : ℕ) → found_in (tree_at new i) k
    ≡ (if (i == tree) && (k == block) then change (found_in (tree_at between i) k) else found_in (tree_at between i) k))
    → (k : ℕ) → value_in (trees_in new) k
    ≡ (if k == block then change (value_in (trees_in old) k) else value_in (trees_in old) k)
value-changed old between new tree block change is same changed k =
    value-is new k ∙ changed (k % 1024) k
    ∙ rw (is, own_tree k block, same (k % 1024), value-is old k) refl

-- where there is no tree, no block has a value
pub no-value : {V : Type 0} (trees : List (BTreeMap ℕ V)) → trees ≡ [] → (k : ℕ) → value_in (trees_in trees) k ≡ None
no-value trees none k = value-is trees k ∙ ap (λ ts. found_in (tree_at ts (k % 1024)) k) none

-- the value that is read in the tree of a block
pub value-read : {V : Type 0} (trees : List (BTreeMap ℕ V)) (tree block : ℕ) → tree ≡ block % 1024
    → found_in (tree_at trees tree) block ≡ value_in (trees_in trees) block
value-read trees tree block is = ap (λ i. found_in (tree_at trees i) block) is ∙ sym (value-is trees block)

-- what is so in any case is so on an error
pub on-err : {A E P : Type 0} (r : Result A E) → P → OnErr r P
on-err (Ok x) p = tt
on-err (Err e) p = p
