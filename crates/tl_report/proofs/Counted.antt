-- Beats that are counted, each in its cell.
use Rattle.std.proofs.Common.{◌≡◌, ◌<◌, ◌+◌, ℕ, List, ◌∷◌, length, cond, count_by}
use Rattle.std.proofs.Common.{arith, refl, inl, inr, eqb, slice_index_or, slice_set, length-set, ◌∙◌, sym, ◌≢◌, subst}
use Rattle.std.proofs.lemmas.Bool.{cases_eq, eq-eqb, ne_eqb}
use Rattle.std.proofs.lemmas.List.{get_or-set_same, get_or-set_other}
use Rattle.std.proofs.lemmas.List.Sums.{sum_by-cons}
use Rattle.tl_beat.specs.declared.opcode.OpA.{OpA}
use Rattle.tl_beat.specs.declared.opcode.OpA.TheVariants as a
use Rattle.tl_beat.specs.declared.opcode.OpB.{OpB}
use Rattle.tl_beat.specs.declared.opcode.OpB.TheVariants as b
use Rattle.tl_beat.specs.declared.opcode.OpC.{OpC}
use Rattle.tl_beat.specs.declared.opcode.OpC.TheVariants as c
use Rattle.tl_beat.specs.declared.opcode.OpD.{OpD}
use Rattle.tl_beat.specs.declared.opcode.OpD.TheVariants as d
use Rattle.tl_beat.specs.statement.Opcode.{a_code, b_code, c_code, d_code}
use Rattle.tl_report.specs.statement.Taken.{AreCounted}

pub below_a : (opcode : OpA) → a_code opcode < 8
below_a a.PutFullData = omega arith
below_a a.PutPartialData = omega arith
below_a a.ArithmeticData = omega arith
below_a a.LogicalData = omega arith
below_a a.Get = omega arith
below_a a.Intent = omega arith
below_a a.AcquireBlock = omega arith
below_a a.AcquirePerm = omega arith

pub below_b : (opcode : OpB) → b_code opcode < 8
below_b b.PutFullData = omega arith
below_b b.PutPartialData = omega arith
below_b b.ArithmeticData = omega arith
below_b b.LogicalData = omega arith
below_b b.Get = omega arith
below_b b.Intent = omega arith
below_b b.ProbeBlock = omega arith
below_b b.ProbePerm = omega arith

pub below_c : (opcode : OpC) → c_code opcode < 8
below_c c.AccessAck = omega arith
below_c c.AccessAckData = omega arith
below_c c.HintAck = omega arith
below_c c.ProbeAck = omega arith
below_c c.ProbeAckData = omega arith
below_c c.Release = omega arith
below_c c.ReleaseData = omega arith

pub below_d : (opcode : OpD) → d_code opcode < 8
below_d d.AccessAck = omega arith
below_d d.AccessAckData = omega arith
below_d d.HintAck = omega arith
below_d d.Grant = omega arith
below_d d.GrantData = omega arith
below_d d.ReleaseAck = omega arith

-- the count with one cell more
count_more : (i cell : ℕ) (taken : List ℕ)
    → count_by (λ c. eqb c i) (cell ∷ taken) ≡ cond (eqb cell i) 1 0 + count_by (λ c. eqb c i) taken
count_more i cell taken = sum_by-cons (λ c. cond (eqb c i) 1 0) cell taken

module _ (cells taken : List ℕ) (cell number : ℕ) where
  -- the cell of the beat holds one more
  here : cell < length cells → number ≡ slice_index_or cells cell 0 + 1
      → slice_index_or cells cell 0 ≡ count_by (λ c. eqb c cell) taken
      → slice_index_or (slice_set cells cell number) cell 0 ≡ count_by (λ c. eqb c cell) (cell ∷ taken)
  here room number_is was =
      let one : cond {A = ℕ} (eqb cell cell) 1 0 ≡ 1 = rw (eq-eqb cell cell refl) refl in
      get_or-set_same cells cell number 0 room ∙ (number_is ∙ omega (arith, was, one)) ∙ sym (count_more cell cell taken)

  -- each other as many as before
  elsewhere : (i : ℕ) → i ≢ cell → slice_index_or cells i 0 ≡ count_by (λ c. eqb c i) taken
      → slice_index_or (slice_set cells cell number) i 0 ≡ count_by (λ c. eqb c i) (cell ∷ taken)
  elsewhere i other was =
      let no : cell ≡ i → ⊥ = λ e. other (sym e) in
      let none : cond {A = ℕ} (eqb cell i) 1 0 ≡ 0 = rw (ne_eqb cell i no) refl in
      get_or-set_other cells cell i number 0 other ∙ omega (arith, was, none) ∙ sym (count_more i cell taken)

pub one_more : (beats next number cell : ℕ) (cells taken : List ℕ) → cell < length cells → next ≡ beats + 1
    → number ≡ slice_index_or cells cell 0 + 1
    → AreCounted beats cells taken → AreCounted next (slice_set cells cell number) (cell ∷ taken)
one_more beats next number cell cells taken room next_is number_is is = record {
  in_all = omega (arith, next_is, is.in_all);
  room = length-set cells cell number ∙ is.room;
  each = λ i below. elim (cases_eq i cell) [
    | inl same ↦
        subst (λ (j : ℕ). slice_index_or (slice_set cells cell number) j 0 ≡ count_by (λ c. eqb c j) (cell ∷ taken))
        (sym same)
        (here cells taken cell number room number_is (is.each cell (omega (arith, room, is.room))))
    | inr other ↦ elsewhere cells taken cell number i other (is.each i below)
  ];
}
