-- What is kept of a link that there is, and of a block that was met.
use Rattle.tl_memory.proofs.Imports.{Trace, may_be, BlockState, KnowsState}
use Rattle.std.proofs.Common.{◌≡◌, ◌<◌, ◌+◌, ◌*◌, ℕ, List, [], length, Option, Some, None, slice_get, refl, sym, ap, subst}
use Rattle.std.proofs.Common.{◌∙◌, arith, inl, inr}
use Rattle.std.{proofs.lemmas.Option.slice_get_cases}
use Rattle.tl_bytes.{specs.statement.Lines.told_moment, proofs.ToldLines.told-known}
use Rattle.tl_memory.{specs.code.Lines.told_by, specs.declared.memory.Memory.Memory, specs.statement.Memory.KnowsMemory}
use Rattle.tl_memory.specs.statement.Blocks.{KnowsKept, place_in, state_at, state_in}

pub item-there : {X : Type 0} (xs : List X) (i n : ℕ) → length xs ≡ n → i < n → None ≡ slice_get xs i → ⊥
item-there xs i n count lt none = elim (slice_get_cases xs i).1 [
  | inl found ↦ let no : None ≡ Some found.0 = none ∙ found.2 in cc
  | inr past ↦ omega (arith, past.0, count, lt)
]

-- a state stands at the place of a block, and is kept of it
pub place-there : {w : ℕ} (m : Memory w) (n block place : ℕ) (t : Trace w) → KnowsMemory m n t
    → place_in m.blocks block ≡ Some place → None ≡ slice_get m.blocks.states.items place → ⊥
place-there m n block place t k at none =
    item-there m.blocks.states.items place (length m.blocks.states.items) refl
    (k.blocks_are.table_is.stand block place at) none

pub place-kept : {w : ℕ} (m : Memory w) (s : BlockState w) (n block place : ℕ) (t : Trace w) → KnowsMemory m n t
    → place_in m.blocks block ≡ Some place → Some s ≡ slice_get m.blocks.states.items place → KnowsState s n block t
place-kept m s n block place t k at there =
    subst (λ o. KnowsKept o n block t) (ap (state_at m.blocks) at ∙ sym there) (k.blocks_are.states_are block)

-- nothing was told of a byte before anything is carried
told-first : (w n address v : ℕ) → None ≡ told_moment v (may_be {w = w} n address [])
unfolding may_be told_moment
told-first w n address v = refl

-- the beat that told what a byte may be, by what is kept of its block
pub told-exact : {w : ℕ} (m : Memory w) (o : Option (BlockState w)) (block place v : ℕ) (moment : Option ℕ)
    → o ≡ state_in m.blocks block → moment ≡ told_by o place v → (n : ℕ) (t : Trace w) → KnowsMemory m n t → place < 64
    → moment ≡ told_moment v (may_be n (64 * block + place) t)
told-exact {w} m None block place v moment there is n t knows small =
    let kept : KnowsKept {w = w} None n block t =
    subst (λ o. KnowsKept o n block t) (sym there) (knows.blocks_are.states_are block) in
    is ∙ told-first w n (64 * block + place) v ∙ ap (told_moment v) (sym (kept.0 place small))
told-exact m (Some s) block place v moment there is n t knows small =
    let kept : KnowsState s n block t =
    subst (λ o. KnowsKept o n block t) (sym there) (knows.blocks_are.states_are block) in
    told-known s.bytes n block place v t moment is kept.bytes_are small
