-- A block is stored in the trees, where another was seen before.
use Rattle.std.proofs.Common.{◌≡◌, ◌≢◌, ℕ, ◌<◌, Bool, true, false, refl, sym, ap, ◌∙◌, arith, inl, inr}
use Rattle.std.specs.Prelude.{if◌then◌else◌, ◌==◌, [], List, Option, Some, None, is_some, length, slice_index_or}
use Rattle.std.specs.Prelude.{slice_set}
use Rattle.std.specs.BTreeMap.{BTreeMap}
use Rattle.std.proofs.lemmas.Bool.{cases_eq, eq-eqb, ne_eqb}
use Rattle.std.proofs.lemmas.List.{get_or-set_same, get_or-set_other}
use Rattle.tl_rules.specs.declared.table.Block.{Block}
use Rattle.tl_monitor.specs.code.Blocks.{value_found, entries_of, tree_of, block_found, block_or_empty, block_in}
use Rattle.tl_monitor.specs.code.Blocks.{open_of, with_seen, AllOpen, IsSeen}
use Rattle.tl_monitor.proofs.OpenBlocks.{some-is, seen-in, found-same, entries-long, entries-set, tree-read}

-- all that is stored in a tree is open, with a block that is
pub inserted-open : (old new : List (ℕ × Block)) (block : ℕ) (value : Block) → AllOpen old → 0 < open_of value
    → ((k : ℕ) → value_found new k ≡ (if k == block then Some value else value_found old k)) → AllOpen new
inserted-open old new block value all some changed = λ k b is. elim (cases_eq k block) [
  | inl its ↦
      let same : value ≡ b = some-is (sym (changed k ∙ rw (eq-eqb k block its) refl) ∙ is) in
      rw (← same) some
  | inr other ↦ all k b (sym (changed k ∙ rw (ne_eqb k block other) refl) ∙ is)
]

-- the same is found in all trees as in the one of the block
pub inserted : (trees : List (BTreeMap ℕ Block)) (d new : BTreeMap ℕ Block) (block i : ℕ) (value : Block)
    → i ≡ tree_of block → length trees ≡ 1024
    → ((k : ℕ) → value_found new.entries k ≡ (if k == block then Some value else value_found
    (slice_index_or trees i d).entries k))
    → (k : ℕ) → block_found (entries_of (slice_set trees i new)) k ≡ (if k == block then Some value else block_found
    (entries_of trees) k)
inserted trees d new block i value e long changed k =
    ap (λ ts. block_found ts k) (entries-set trees new block i e) ∙ elim (cases_eq (tree_of k) (tree_of block)) [
      | inl its ↦
          let lt : i < length trees = omega (arith, e, long) in
          rw (its, get_or-set_same (entries_of trees) (tree_of block) new.entries [] (entries-long trees block long))
          (changed k ∙ ap (λ es. if k == block then Some value else value_found es k) (tree-read trees d block i e lt))
      | inr apart ↦ rw (
        get_or-set_other (entries_of trees) (tree_of block) (tree_of k) new.entries [] apart,
        ne_eqb k block (λ its. apart (ap tree_of its)),
      ) refl
    ]

abbrev Inserts : List (List (ℕ × Block)) → List (List (ℕ × Block)) → ℕ → Block → Type 0
Inserts old new block value = (k : ℕ) → block_found new k ≡ (if k == block then Some value else block_found old k)

said_if : (here : Bool) (value : Block) (o : Option Block) → block_or_empty (if here then Some value else o)
    ≡ (if here then value else block_or_empty o)
said_if true value o = refl
said_if false value o = refl

stays_seen : (old new : List (List (ℕ × Block))) (last : ℕ) (seen : Option Block) → block_found new last ≡ block_found old last
    → IsSeen old last seen → IsSeen new last seen
stays_seen old new last None same stands = same ∙ stands
stays_seen old new last (Some b) same stands = (ap is_some same ∙ stands.0, stands.1)

-- another block than the one that was seen
pub other-stands : (old new : List (List (ℕ × Block))) (last block : ℕ) (seen : Option Block) (value : Block) → block ≢ last
    → Inserts old new block value → IsSeen old last seen → IsSeen new last seen
other-stands old new last block seen value apart inserts stands =
    stays_seen old new last seen (inserts last ∙ rw (ne_eqb last block (λ e. apart (sym e))) refl) stands

pub other-inserted : (old new : List (List (ℕ × Block))) (last block : ℕ) (seen : Option Block) (value : Block)
    → tree_of last < length old → tree_of last < length new → block ≢ last → Inserts old new block value
    → IsSeen old last seen → (k : ℕ)
    → block_in (with_seen new last seen) k ≡ (if k == block then value else block_in (with_seen old last seen) k)
other-inserted old new last block seen value lt lt' apart inserts stands k =
    let before = seen-in old last seen k lt stands in
    let after = seen-in new last seen k lt' (other-stands old new last block seen value apart inserts stands) in
    let found = ap block_or_empty (inserts k) ∙ said_if (k == block) value (block_found old k) in
    after ∙ elim (cases_eq k last) [
      | inl its ↦ rw (
        before,
        eq-eqb k last its,
        ne_eqb k block (λ e. apart (sym e ∙ its)),
      ) refl
      | inr other ↦ rw (before, ne_eqb k last other) found
    ]

-- the block that was seen, of which nothing was stored
own_found : (old new : List (List (ℕ × Block))) (last block : ℕ) (value : Block) → block ≡ last
    → Inserts old new block value → block_found new last ≡ Some value
own_found old new last block value its inserts = inserts last ∙ rw (eq-eqb last block (sym its)) refl

pub own-stands : (old new : List (List (ℕ × Block))) (last block : ℕ) (value : Block) → block ≡ last → 0 < open_of value
    → Inserts old new block value → IsSeen new last (Some value)
own-stands old new last block value its some inserts =
    (ap is_some (own_found old new last block value its inserts), some)

pub own-inserted : (old new : List (List (ℕ × Block))) (last block : ℕ) (seen : Option Block) (value : Block)
    → tree_of last < length old → block ≡ last → Inserts old new block value → IsSeen old last seen → (k : ℕ)
    → block_in (with_seen new last (Some value)) k ≡ (if k == block then value else block_in (with_seen old last seen) k)
own-inserted old new last block seen value lt its inserts stands k =
    let same = found-same new last (Some value) (sym (own_found old new last block value its inserts)) in
    let before = seen-in old last seen k lt stands in
    let found = ap block_or_empty (inserts k) ∙ said_if (k == block) value (block_found old k) in
    ap (λ ts. block_in ts k) same ∙ found ∙ elim (cases_eq k block) [
      | inl here ↦ rw (eq-eqb k block here) refl
      | inr other ↦ rw (ne_eqb k block other) (sym (before ∙ rw (ne_eqb k last (λ e. other (e ∙ sym its))) refl))
    ]
