-- Blocks of which nothing is open or held, and how much is, over all blocks.
use Rattle.std.proofs.Common.{◌≡◌, ℕ, zero, suc, ◌<◌, ◌≤◌, ◌+◌, ◌-◌, ◌^◌, ◌*◌, Bool, true, false, refl, sym, ap, ap₂}
use Rattle.std.proofs.Common.{◌∙◌, ◌≢◌, arith, inl, inr}
use Rattle.std.specs.Prelude.{if◌then◌else◌, ◌==◌, ◌∷◌, [], List, Option, Some, None, is_some, length, slice_index_or}
use Rattle.std.specs.Prelude.{slice_set}
use Rattle.std.proofs.lemmas.List.{get_or-map, get_or-set_same, get_or-set_other, set-get_or, length-map, length-set}
use Rattle.std.proofs.lemmas.List.{map-set}
use Rattle.std.specs.BTreeMap.{BTreeMap, is_at}
use Rattle.std.specs.Ordering.{nat_cmp}
use Rattle.std.proofs.lemmas.Grind.{common_steps}
use Rattle.std.proofs.lemmas.Map.Steps.{set_value_same}
use Rattle.std.proofs.lemmas.Bool.{cases_eq, eq-eqb, ne_eqb}
use mir.Val.{bool_byte}
use Rattle.tl_params.specs.declared.perm.Perm.{Perm}
use Rattle.tl_params.specs.declared.perm.Perm.TheVariants as perm
use Rattle.tl_rules.specs.declared.table.PendingProbe.{PendingProbe}
use Rattle.tl_rules.specs.declared.table.Block.{Block}
use Rattle.tl_rules.specs.code.Tables.{empty_block}
use Rattle.tl_monitor.specs.statement.Count.{sum_below, one_if}
use Rattle.tl_monitor.specs.code.Blocks.{value_found, value_in, with_value, IsValue, AllOpen, entries_of, tree_of}
use Rattle.tl_monitor.specs.code.Blocks.{tree_in, block_found, block_or_empty, block_in}
use Rattle.tl_monitor.specs.code.Blocks.{open_of, with_seen, AreOpen, IsSeen}
use Rattle.tl_monitor.specs.statement.Numbers.{is_held}
use Rattle.tl_monitor.proofs.Counts.{sum-changed, sum-none, sum-le, byte-one, one-le}

pub open-empty : open_of empty_block ≡ 0
unfolding open_of
open-empty = refl

pub open-le : (b : Block) → open_of b ≤ 5
unfolding open_of
open-le b =
    let h = one-le (is_held b.held) in
    let a = one-le b.acquire in
    let r = one-le b.release in
    let p = one-le (is_some b.probe) in
    let g = one-le (is_some b.grant) in
    omega (arith, h, a, r, p, g)

pub open-bytes : (b : Block) (h a r p g : ℕ) → h ≡ bool_byte (is_held b.held) → a ≡ bool_byte b.acquire
    → r ≡ bool_byte b.release → p ≡ bool_byte (is_some b.probe) → g ≡ bool_byte (is_some b.grant)
    → h + a + r + p + g ≡ open_of b
unfolding open_of
open-bytes b h a r p g eh ea er ep eg =
    rw (
      eh,
      ea,
      er,
      ep,
      eg,
      byte-one (is_held b.held),
      byte-one b.acquire,
      byte-one b.release,
      byte-one
          (is_some b.probe),
      byte-one (is_some b.grant),
    ) refl

none : (h : Perm) (a r : Bool) (p : Option PendingProbe) (g : Option ℕ) → one_if (is_held h) + one_if a + one_if r + one_if
    (is_some p) + one_if (is_some g) ≡ 0
    → record { held = h; acquire = a; release = r; probe = p; grant = g } ≡ empty_block
none perm.None false false None None e = refl
none perm.Branch a r p g e = absurd (omega arith)
none perm.Trunk a r p g e = absurd (omega arith)
none perm.None true r p g e = absurd (omega arith)
none perm.None false true p g e = absurd (omega arith)
none perm.None false false (Some p) g e = absurd (omega arith)
none perm.None false false None (Some g) e = absurd (omega arith)

-- where nothing is open or held, the block is empty
pub open-none : (b : Block) → open_of b ≡ 0 → b ≡ empty_block
unfolding open_of
open-none b e = none b.held b.acquire b.release b.probe b.grant e

-- ---- what is seen of a block, in its tree

at_number : (k q : ℕ) → is_at (nat_cmp k) q ≡ (q == k)
at_number k q = grind (arith, common_steps)

found_at : (k q : ℕ) (v : Block) (es : List (ℕ × Block)) → is_some (value_found es k) ≡ true
    → value_found (with_value es k (Some v)) q ≡ (if q == k then Some v else value_found es q)
found_at k q v [] some = absurd cc
found_at k q v ((j, x) ∷ es) some = elim (cases_eq j k) [
  | inl here ↦ elim (cases_eq q k) [
    | inl its ↦ rw (at_number k j, eq-eqb j k here, at_number q j, eq-eqb j q (here ∙ sym its), eq-eqb q k its) refl
    | inr other ↦ rw (
      at_number k j,
      eq-eqb j k here,
      at_number q j,
      ne_eqb j q (λ e. other (sym e ∙ here)),
      ne_eqb q k
          other,
    ) refl
  ]
  | inr apart ↦
      let rest : is_some (value_found es k) ≡ true = sym (rw (at_number k j, ne_eqb j k apart) refl) ∙ some in
      let more = found_at k q v es rest in
      elim (cases_eq j q) [
        | inl its ↦ rw (
          at_number k j,
          ne_eqb j k apart,
          at_number q j,
          eq-eqb j q its,
          ne_eqb q k
              (λ e. apart (its ∙ e)),
        ) refl
        | inr other ↦ rw (at_number k j, ne_eqb j k apart, at_number q j, ne_eqb j q other) more
      ]
]

pub value-in : (es : List (ℕ × Block)) (k : ℕ) (o : Option Block) (q : ℕ) → IsValue es k o
    → value_in (with_value es k o) q ≡ (if q == k then block_or_empty o else value_in es q)
value-in es k None q stands = elim (cases_eq q k) [
  | inl its ↦ rw (its, stands, eq-eqb k k refl) refl
  | inr other ↦ rw (ne_eqb q k other) refl
]
value-in es k (Some b) q stands = elim (cases_eq q k) [
  | inl its ↦ ap block_or_empty (found_at k q b es stands.0) ∙ rw (eq-eqb q k its) refl
  | inr other ↦ ap block_or_empty (found_at k q b es stands.0) ∙ rw (ne_eqb q k other) refl
]

pub some-is : {b c : Block} → Some b ≡ Some c → b ≡ c
some-is e = cc

pub value-open : (es : List (ℕ × Block)) (k : ℕ) (o : Option Block) → IsValue es k o → AllOpen es
    → AllOpen (with_value es k o)
value-open es k None stands all = all
value-open es k (Some v) stands all = λ q b is. elim (cases_eq q k) [
  | inl its ↦
      let same : v ≡ b = some-is (sym (found_at k q v es stands.0 ∙ rw (eq-eqb q k its) refl) ∙ is) in
      rw (← same) stands.1
  | inr other ↦ all q b (sym (found_at k q v es stands.0 ∙ rw (ne_eqb q k other) refl) ∙ is)
]

-- what a look-up finds
pub value-stands : (es : List (ℕ × Block)) (k : ℕ) (o : Option Block) → AllOpen es → o ≡ value_found es k
    → IsValue es k o
value-stands es k None all is = sym is
value-stands es k (Some b) all is = (ap is_some (sym is), all k b (sym is))

pub value-same : (es : List (ℕ × Block)) (k : ℕ) (o : Option Block) → o ≡ value_found es k → with_value es k o ≡ es
value-same es k None is = refl
value-same es k (Some b) is = set_value_same (is_at (nat_cmp k)) es b (sym is)

absent_same : (k : ℕ) (v : Block) (es : List (ℕ × Block)) → value_found es k ≡ None → with_value es k (Some v) ≡ es
absent_same k v [] no' = refl
absent_same k v ((j, x) ∷ es) no' = elim (cases_eq j k) [
  | inl here ↦ let found : value_found ((j, x) ∷ es) k ≡ Some x = rw (at_number k j, eq-eqb j k here) refl in
      absurd (some_none (sym found ∙ no'))
  | inr apart ↦
      let rest : value_found es k ≡ None = sym (rw (at_number k j, ne_eqb j k apart) refl) ∙ no' in
      rw (at_number k j, ne_eqb j k apart) (ap (λ l. (j, x) ∷ l) (absent_same k v es rest))
]
  where
    some_none : {b : Block} → Some b ≡ None → ⊥
    some_none e = cc

-- what doesn't stand there isn't replaced
pub value-absent : (es : List (ℕ × Block)) (k : ℕ) (o : Option Block) → value_found es k ≡ None → with_value es k o ≡ es
value-absent es k None no' = refl
value-absent es k (Some v) no' = absent_same k v es no'

-- ---- in all trees

-- what is seen of a block, and of the others what stands there
pub seen-in : (ts : List (List (ℕ × Block))) (k : ℕ) (o : Option Block) (q : ℕ) → tree_of k < length ts → IsSeen ts k o
    → block_in (with_seen ts k o) q ≡ (if q == k then block_or_empty o else block_in ts q)
seen-in ts k o q lt stands = elim (cases_eq (tree_of q) (tree_of k)) [
  | inl its ↦ rw (its, get_or-set_same ts (tree_of k) (with_value (tree_in ts k) k o) [] lt)
      (value-in (tree_in ts k) k o q stands)
  | inr apart ↦ rw (
    get_or-set_other ts (tree_of k) (tree_of q) (with_value (tree_in ts k) k o) [] apart,
    ne_eqb q k
        (λ e. apart (ap tree_of e)),
  ) refl
]

pub seen-open : (ts : List (List (ℕ × Block))) (k : ℕ) (o : Option Block) → tree_of k < length ts → IsSeen ts k o
    → AreOpen ts → AreOpen (with_seen ts k o)
seen-open ts k o lt stands all = λ i. elim (cases_eq i (tree_of k)) [
  | inl its ↦ rw (its, get_or-set_same ts (tree_of k) (with_value (tree_in ts k) k o) [] lt)
      (value-open (tree_in ts k) k o stands (all (tree_of k)))
  | inr apart ↦ rw (get_or-set_other ts (tree_of k) i (with_value (tree_in ts k) k o) [] apart) (all i)
]

-- what a look-up finds
pub found-stands : (ts : List (List (ℕ × Block))) (k : ℕ) (o : Option Block) → AreOpen ts → o ≡ block_found ts k
    → IsSeen ts k o
found-stands ts k o all is = value-stands (tree_in ts k) k o (all (tree_of k)) is

pub found-same : (ts : List (List (ℕ × Block))) (k : ℕ) (o : Option Block) → o ≡ block_found ts k
    → with_seen ts k o ≡ ts
found-same ts k o is = ap (slice_set ts (tree_of k)) (value-same (tree_in ts k) k o is) ∙ set-get_or ts (tree_of k) []

-- the table says of a block what is seen of it, and of another what stands there
pub own-said : (ts table : List (List (ℕ × Block))) (last k : ℕ) (o : Option Block) → tree_of last < length ts
    → IsSeen ts last o → with_seen ts last o ≡ table
    → k ≡ last → block_or_empty o ≡ block_in table k
own-said ts table last k o lt stands same its =
    sym (ap₂ (λ t n. block_in t n) (sym same) its ∙ seen-in ts last o last lt stands ∙ rw (eq-eqb last last refl) refl)

pub other-said : (ts table : List (List (ℕ × Block))) (last k : ℕ) (o : Option Block) → tree_of last < length ts
    → IsSeen ts last o
    → with_seen ts last o ≡ table → k ≢ last → block_in ts k ≡ block_in table k
other-said ts table last k o lt stands same other =
    sym (ap (λ t. block_in t k) (sym same) ∙ seen-in ts last o k lt stands ∙ rw (ne_eqb k last other) refl)

pub set-said : (ts new table : List (List (ℕ × Block))) (block : ℕ) (value : Block) (o : Option Block)
    → tree_of block < length ts → IsSeen ts block o → with_seen ts block o ≡ table
    → ((k : ℕ) → block_in new k ≡ (if k == block then value else block_in ts k)) → (k : ℕ)
    → block_in new k ≡ (if k == block then value else block_in table k)
set-said ts new table block value o lt stands same changed k = elim (cases_eq k block) [
  | inl its ↦ changed k ∙ rw (eq-eqb k block its) refl
  | inr other ↦ changed k ∙ rw (ne_eqb k block other) (other-said ts table block k o lt stands same other)
]

-- one tree is changed at a block
tree_said : (ts : List (List (ℕ × Block))) (tree : List (ℕ × Block)) (block : ℕ) (value : Block) (new : Option Block)
    → tree_of block < length ts
    → ((k : ℕ) → value_in (with_value tree block new) k ≡ (if k == block then value else value_in (tree_in ts block) k))
    → (k : ℕ) → block_in (with_seen (slice_set ts (tree_of block) tree) block new)
    k ≡ (if k == block then value else block_in ts k)
tree_said ts tree block value new lt changed k = elim (cases_eq (tree_of k) (tree_of block)) [
  | inl its ↦
      let within : tree_of block < length (slice_set ts (tree_of block) tree) =
      rw (length-set ts (tree_of block) tree) lt in
      let own : block_in (with_seen (slice_set ts (tree_of block) tree) block new) k ≡ value_in
      (with_value tree block new) k =
      rw (
        its,
        get_or-set_same (slice_set ts (tree_of block) tree) (tree_of block)
            (with_value (tree_in (slice_set ts (tree_of block) tree) block) block new) [] within,
        get_or-set_same ts (tree_of block) tree [] lt,
      ) refl in
      own ∙ changed k ∙ ap (λ i. if k == block then value else value_in (slice_index_or ts i []) k) (sym its)
  | inr apart ↦
      rw (
        get_or-set_other (slice_set ts (tree_of block) tree) (tree_of block) (tree_of k)
            (with_value (tree_in (slice_set ts (tree_of block) tree) block) block new) [] apart,
        get_or-set_other ts (tree_of block) (tree_of k) tree [] apart,
        ne_eqb k block (λ e. apart (ap tree_of e)),
      )
      refl
]

-- the other trees stay
set_open : (ts : List (List (ℕ × Block))) (i : ℕ) (tree : List (ℕ × Block)) → i < length ts → AreOpen ts → AllOpen tree
    → AreOpen (slice_set ts i tree)
set_open ts i tree lt all own = λ j. elim (cases_eq j i) [
  | inl its ↦ rw (its, get_or-set_same ts i tree [] lt) own
  | inr apart ↦ rw (get_or-set_other ts i j tree [] apart) (all j)
]

-- ---- the trees as they stand

pub tree-read : (trees : List (BTreeMap ℕ Block)) (d : BTreeMap ℕ Block) (k i : ℕ) → i ≡ tree_of k → i < length trees
    → (slice_index_or trees i d).entries ≡ tree_in (entries_of trees) k
tree-read trees d k i e lt = sym (get_or-map (λ (m : BTreeMap ℕ Block). m.entries) trees i d [] lt) ∙ ap
    (λ j. slice_index_or (entries_of trees) j []) e

pub entries-set : (trees : List (BTreeMap ℕ Block)) (new : BTreeMap ℕ Block) (k i : ℕ) → i ≡ tree_of k
    → entries_of (slice_set trees i new) ≡ slice_set (entries_of trees) (tree_of k) new.entries
entries-set trees new k i e = map-set (λ (m : BTreeMap ℕ Block). m.entries) trees i new ∙ ap
    (λ j. slice_set (entries_of trees) j new.entries) e

pub entries-long : (trees : List (BTreeMap ℕ Block)) (k : ℕ) → length trees ≡ 1024
    → tree_of k < length (entries_of trees)
entries-long trees k long = let e = length-map trees (λ (m : BTreeMap ℕ Block). m.entries) in omega (arith, e, long)

pub read-found : (trees : List (BTreeMap ℕ Block)) (tree : BTreeMap ℕ Block) (k i : ℕ) (o : Option Block)
    → i ≡ tree_of k → i < length trees → tree ≡ slice_index_or trees i tree
    → o ≡ value_found tree.entries k → o ≡ block_found (entries_of trees) k
read-found trees tree k i o e lt is found = found ∙ ap (λ (m : BTreeMap ℕ Block). value_found m.entries k) is ∙ ap
    (λ es. value_found es k) (tree-read trees tree k i e lt)

pub stored : (trees : List (BTreeMap ℕ Block)) (d new : BTreeMap ℕ Block) (k i : ℕ) (o : Option Block) → i ≡ tree_of k
    → i < length trees
    → new.entries ≡ with_value (slice_index_or trees i d).entries k o
    → entries_of (slice_set trees i new) ≡ with_seen (entries_of trees) k o
stored trees d new k i o e lt written =
    entries-set trees new k i e ∙ ap (slice_set (entries_of trees) (tree_of k))
    (written ∙ ap (λ es. with_value es k o) (tree-read trees d k i e lt))

pub stays : (trees : List (BTreeMap ℕ Block)) (d new : BTreeMap ℕ Block) (k i : ℕ) → i ≡ tree_of k → i < length trees
    → new.entries ≡ (slice_index_or trees i d).entries → entries_of (slice_set trees i new) ≡ entries_of trees
stays trees d new k i e lt same =
    entries-set trees new k i e ∙ ap (slice_set (entries_of trees) (tree_of k)) (same ∙ tree-read trees d k i e lt)
    ∙ set-get_or (entries_of trees) (tree_of k) []

-- one tree is changed at a block
pub changed-said : (trees : List (BTreeMap ℕ Block)) (d new : BTreeMap ℕ Block) (block i : ℕ) (value : Block)
    (o : Option Block) → i ≡ tree_of block → length trees ≡ 1024
    → ((k : ℕ) → value_in (with_value new.entries block o)
    k ≡ (if k == block then value else value_in (slice_index_or trees i d).entries k))
    → (k : ℕ) → block_in (with_seen (entries_of (slice_set trees i new)) block o)
    k ≡ (if k == block then value else block_in (entries_of trees) k)
changed-said trees d new block i value o e long changed k =
    let lt : i < length trees = omega (arith, e, long) in
    ap (λ ts. block_in (with_seen ts block o) k) (entries-set trees new block i e)
    ∙ tree_said (entries_of trees) new.entries block value o (entries-long trees block long)
    (λ n. changed n ∙ ap (λ es. if n == block then value else value_in es n) (tree-read trees d block i e lt)) k

pub changed-stands : (trees : List (BTreeMap ℕ Block)) (new : BTreeMap ℕ Block) (block i : ℕ) (o : Option Block)
    → i ≡ tree_of block → length trees ≡ 1024
    → IsValue new.entries block o → IsSeen (entries_of (slice_set trees i new)) block o
changed-stands trees new block i o e long stands =
    rw (
      entries-set trees new block i e,
      get_or-set_same (entries_of trees) (tree_of block) new.entries []
          (entries-long trees block long),
    ) stands

pub changed-open : (trees : List (BTreeMap ℕ Block)) (new : BTreeMap ℕ Block) (block i : ℕ) → i ≡ tree_of block
    → length trees ≡ 1024 → AreOpen (entries_of trees) → AllOpen new.entries
    → AreOpen (entries_of (slice_set trees i new))
changed-open trees new block i e long all own =
    rw (entries-set trees new block i e) (set_open (entries_of trees) (tree_of block) new.entries
    (entries-long trees block long) all own)

none_stands : (trees : List (BTreeMap ℕ Block)) (i : ℕ) → ((j : ℕ) (d : BTreeMap ℕ Block) → j < length trees
    → (slice_index_or trees j d).entries ≡ []) → slice_index_or (entries_of trees) i [] ≡ []
none_stands [] i none' = refl
none_stands (m ∷ ms) zero none' = none' 0 m (omega arith)
none_stands (m ∷ ms) (suc i) none' = none_stands ms i (λ j d lt. none' (suc j) d (omega arith))

pub new-trees : (trees : List (BTreeMap ℕ Block)) → length trees ≡ 1024
    → ((i : ℕ) (d : BTreeMap ℕ Block) → i < 1024 → (slice_index_or trees i d).entries ≡ []) → (i : ℕ)
    → slice_index_or (entries_of trees) i [] ≡ []
new-trees trees long empty i = none_stands trees i (λ j d lt. empty j d (omega (arith, long, lt)))

abbrev AreEmpty : List (List (ℕ × Block)) → Type 0
AreEmpty trees = (i : ℕ) → slice_index_or trees i [] ≡ []

pub new-open : (trees : List (List (ℕ × Block))) → AreEmpty trees → AreOpen trees
new-open trees empty = λ i k b is. absurd (none_some (sym (ap (λ es. value_found es k) (empty i)) ∙ is))
  where
    none_some : {b : Block} → None ≡ Some b → ⊥
    none_some e = cc

pub new-seen : (trees : List (List (ℕ × Block))) → AreEmpty trees → IsSeen trees 0 None
new-seen trees empty = ap (λ es. value_found es 0) (empty 0)

pub new-in : (trees : List (List (ℕ × Block))) → AreEmpty trees → (k : ℕ)
    → block_in (with_seen trees 0 None) k ≡ empty_block
new-in trees empty k = ap (λ ts. block_in ts k) (found-same trees 0 None (sym (new-seen trees empty))) ∙ ap
    (λ es. block_or_empty (value_found es k)) (empty (tree_of k))

-- ---- over all blocks

abbrev pub all_open : List (List (ℕ × Block)) → ℕ
all_open entries = sum_below (2 ^ 32) (λ k. open_of (block_in entries k))

pub all-none : (entries : List (List (ℕ × Block))) → ((k : ℕ) → block_in entries k ≡ empty_block) → 0 ≡ all_open entries
all-none entries empty =
    sym (sum-none (2 ^ 32) (λ k. open_of (block_in entries k)) (λ k lt. ap open_of (empty k) ∙ open-empty))

pub all-le : (entries : List (List (ℕ × Block))) → all_open entries ≤ 2 ^ 32 * 5
all-le entries = sum-le (2 ^ 32) 5 (λ k. open_of (block_in entries k)) (λ k. open-le (block_in entries k))

pub changed-own : (old new : List (List (ℕ × Block))) (block : ℕ) (value : Block)
    → ((k : ℕ) → block_in new k ≡ (if k == block then value else block_in old k)) → block_in new block ≡ value
changed-own old new block value changed = changed block ∙ rw (eq-eqb block block refl) refl

changes : (old new : List (List (ℕ × Block))) (block : ℕ) (value : Block) → block < 2 ^ 32
    → ((k : ℕ) → block_in new k ≡ (if k == block then value else block_in old k))
    → all_open new + open_of (block_in old block) ≡ all_open old + open_of value
changes old new block value lt changed =
    let own = changed-own old new block value changed in
    let e = sum-changed (2 ^ 32) block (λ k. open_of (block_in old k)) (λ k. open_of (block_in new k)) lt
    (λ k other. ap open_of (sym (changed k ∙ rw (ne_eqb k block other) refl))) in
    e ∙ rw own refl

pub all-before : (old : List (List (ℕ × Block))) (block : ℕ) → block < 2 ^ 32
    → open_of (block_in old block) ≤ all_open old
all-before old block lt =
    let e = sum-changed (2 ^ 32) block (λ k. open_of (block_in old k))
    (λ k. if k == block then 0 else open_of (block_in old k)) lt (λ k other. rw (ne_eqb k block other) refl) in
    let z : (if block == block then 0 else open_of (block_in old block)) ≡ 0 = rw (eq-eqb block block refl) refl in
    omega (arith, e, z)

pub all-changed : (old new : List (List (ℕ × Block))) (block : ℕ) (value : Block) (len before after : ℕ)
    → block < 2 ^ 32 → ((k : ℕ) → block_in new k ≡ (if k == block then value else block_in old k))
    → len ≡ all_open old → before ≡ open_of (block_in old block) → after ≡ open_of value
    → len - before + after ≡ all_open new
all-changed old new block value len before after lt changed l b a =
    let e = changes old new block value lt changed in
    let one = all-before old block lt in
    omega (arith, e, one)
