-- The first bytes, and the last bytes written over them.
use Rattle.std.proofs.Common.{◌≡◌, ℕ, ◌+◌, ◌≤◌, List, ◌++◌, length, take, drop, sym, ap, ◌∙◌, arith, append_assoc}
use Rattle.std.proofs.lemmas.List.{length-take-le, take-take, take-append-drop}
use Rattle.std.proofs.Math.Seq.{take-append-add}

-- a place among the first k bytes that are written
pub short_of : (at k n : ℕ) (old mid bytes : List ℕ) → n ≤ k → at ≤ length old
    → take (at + k) mid ≡ take at old ++ take k bytes → take (at + n) mid ≡ take at old ++ take n bytes
short_of at k n old mid bytes few inside first =
    let start : at + n ≡ length (take at old) + n = ap (λ m. m + n) (sym (length-take-le at old inside)) in
    sym (take-take (at + n) (at + k) mid (omega arith)) ∙ ap (take (at + n)) first
    ∙ ap (λ m. take m (take at old ++ take k bytes)) start ∙ take-append-add (take at old) (take k bytes) n
    ∙ ap (λ t. take at old ++ t) (take-take n k bytes few)

pub halves : (at k n : ℕ) (old mid bytes : List ℕ) → n ≤ k → at ≤ length old
    → take (at + k) mid ≡ take at old ++ take k bytes → take (at + n) mid ++ drop n bytes ≡ take at old ++ bytes
halves at k n old mid bytes few inside first =
    rw (short_of at k n old mid bytes few inside first)
    (append_assoc (take at old) (take n bytes) (drop n bytes) ∙ ap (λ t. take at old ++ t) (take-append-drop n bytes))
