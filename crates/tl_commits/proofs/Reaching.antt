-- Sets of values of the bytes of a block that an access reaches, with more of them.
use Rattle.std.proofs.Common.{◌≡◌, ℕ, ◌||◌, ◌<◌, ◌+◌, List, drop, get_or, set, length, sym, ap, ap₂, ◌∙◌, inl, inr}
use Rattle.std.proofs.lemmas.Bool.{cases_eq}
use Rattle.std.proofs.lemmas.List.{get_or-set_other, get_or-set_same}
use Rattle.tl_bytes.specs.declared.telling.Told.{Told}
use Rattle.tl_bytes.specs.statement.Bytes.{could_be, told_as}
use Rattle.tl_bytes.specs.statement.Known.{tellings_at}
use Rattle.tl_memory.proofs.values.ByteSets.{told-apart, told-next}
use Rattle.tl_memory.specs.code.ByteSet.{has, has_at, nothing}
use Rattle.tl_memory.specs.declared.byte_set.ByteSet.{ByteSet}

-- the next of the possible values is one of the place `at`
pub put-told : (sets : List ByteSet) (next : ByteSet) (at i v idx : ℕ) (told : List Told) (d : Told) → at < length sets
    → idx < length told → (get_or told idx d).place ≡ at
    → has next v ≡ (has_at sets at v || could_be v (get_or told idx d).telling.value)
    → (has_at (set sets at next) i v || told_as v (tellings_at i (drop (idx + 1) told)))
    ≡ (has_at sets i v || told_as v (tellings_at i (drop idx told)))
put-told sets next at i v idx told d within lt own more = elim (cases_eq i at) [
  | inl same ↦ rw same (told-next at v told idx d (has_at sets at v) (has_at (set sets at next) at v) lt own
      (ap (λ s. has s v) (get_or-set_same sets at next nothing within) ∙ more))
  | inr apart ↦ ap₂ (λ a b. a || b) (ap (λ s. has s v) (get_or-set_other sets at i next nothing apart))
      (told-apart i v told idx d lt (λ here. apart (sym here ∙ own)))
]
