-- What a vector holds, once a text is written behind it and the rest is cut off.
use Rattle.std.proofs.Common.{◌≡◌, ℕ, ◌+◌, ◌≤◌, List, ◌++◌, length, take, sym, ap, ◌∙◌, arith, length-append}
use Rattle.std.proofs.lemmas.List.{take-take, take-append-le}
use Rattle.std.proofs.Math.Seq.{take-append-add}

-- r bytes of the room behind old
behind : (start r : ℕ) (old room after : List ℕ) → length old ≡ start → r ≤ length room
    → take (start + r) (old ++ (room ++ after)) ≡ old ++ take r room
behind start r old room after here few =
    ap (λ m. take (m + r) (old ++ (room ++ after))) (sym here) ∙ take-append-add old (room ++ after) r
    ∙ ap (λ t. old ++ t) (take-append-le r room after few)

pub written : (start r total : ℕ) (old front room after rest text : List ℕ) → front ≡ old → length old ≡ start
    → r ≤ length room → start + r ≤ total → take r room ≡ text
    → take (start + r) (take total ((front ++ (room ++ after)) ++ rest)) ≡ old ++ text
written start r total old front room after rest text same here few inside told =
    let long : start + r ≤ length (old ++ (room ++ after)) =
    omega (arith, length-append old (room ++ after), length-append room after) in
    rw same (take-take (start + r) total _ inside ∙ take-append-le (start + r) (old ++ (room ++ after)) rest long
    ∙ behind start r old room after here few ∙ ap (λ t. old ++ t) told)
