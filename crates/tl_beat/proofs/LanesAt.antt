-- Reading lanes, the last of them first.
use Rattle.std.proofs.Common.{◌≡◌, ℕ, suc, ◌+◌, ◌-◌, ◌*◌, ◌<◌, ◌≤◌, List, [], ◌∷◌, ◌++◌, length, take, drop, refl}
use Rattle.std.proofs.Common.{sym, ap, ◌∙◌, arith, set, replicate}
use Rattle.std.proofs.lemmas.List.{drop-set, drop_all, length-replicate, drop_at, drop-drop, length-take-le}
use Rattle.std.proofs.lemmas.List.{take-append-drop}
use Rattle.std.proofs.Math.Nat.{sub-zero}
use Rattle.std.proofs.lemmas.Bool.Decides.{nat_tests}
use Rattle.std.specs.Prelude.{Result, Ok, Err, ◌==◌, true, false}
use Rattle.tl_beat.specs.declared.fault.LineFault.{LineFault}
use Rattle.tl_beat.specs.declared.fault.LineFault.TheVariants.{F3}
use Rattle.tl_beat.specs.code.FromLeft.{pair_at, lanes_at}

-- before the first lane
pub lanes-init : (n : ℕ) (bytes : List ℕ) → lanes_at (drop (n - 0) (replicate n 0)) (n - 0) bytes ≡ lanes_at [] n bytes
lanes-init n bytes =
    let zeros : List ℕ = replicate n 0 in
    let none : drop n zeros ≡ [] = drop_all n zeros (omega (arith, length-replicate {A = ℕ} n 0)) in
    rw (sub-zero n, none) refl

pub lanes-step : (lanes more : List ℕ) (n k lane : ℕ) (bytes rest : List ℕ) → n ≡ suc k
    → pair_at bytes ≡ Ok (lane, rest) → more ≡ lane ∷ lanes → lanes_at lanes n bytes ≡ lanes_at more k rest
unfolding lanes_at
lanes-step lanes more n k lane bytes rest e h same = rw (e, h, same) refl

pub lanes-fail : (lanes : List ℕ) (n k : ℕ) (bytes : List ℕ) (f : LineFault) → n ≡ suc k → pair_at bytes ≡ Err f
    → lanes_at lanes n bytes ≡ Err f
unfolding lanes_at
lanes-fail lanes n k bytes f e h = rw (e, h) refl

pub lanes-done : (lanes : List ℕ) (n : ℕ) (bytes : List ℕ) → n ≡ 0 → true ≡ (length bytes == 0)
    → lanes_at (drop n lanes) n bytes ≡ Ok lanes
unfolding lanes_at
lanes-done lanes n [] e none = rw e refl
lanes-done lanes n (c ∷ cs) e none = absurd (grind (arith, nat_tests))

pub lanes-left : (lanes : List ℕ) (n : ℕ) (bytes : List ℕ) → n ≡ 0 → false ≡ (length bytes == 0)
    → lanes_at lanes n bytes ≡ Err F3
unfolding lanes_at
lanes-left lanes n [] e some = absurd (grind (arith, nat_tests))
lanes-left lanes n (c ∷ cs) e some = rw e refl

-- the lanes from a place on, once that place has its lane
pub drop_set_more : (lanes : List ℕ) (n i lane : ℕ) → i < n → length lanes ≡ n
    → drop (n - (i + 1)) (set lanes (n - 1 - i) lane) ≡ lane ∷ drop (n - i) lanes
drop_set_more lanes n i lane lt len =
    let at : n - (i + 1) ≡ n - 1 - i = omega arith in
    let after : n - i ≡ n - 1 - i + 1 = omega arith in
    rw (at, after) (drop-set lanes (n - 1 - i) lane (omega arith))

-- eight lanes more, where the lanes from a place on were read
pub lanes-eight : (w i : ℕ) (lanes field piece eight new : List ℕ) (r : Result (List ℕ) LineFault) → 8 * (i + 1) ≤ w
    → length lanes ≡ w
    → piece ≡ take 16 (drop (16 * i) field)
    → ((before rest : List ℕ) (n : ℕ) → lanes_at before (8 + n) (piece ++ rest) ≡ lanes_at (eight ++ before) n rest)
    → new ≡ take (w - 8 * (i + 1)) lanes ++ (eight ++ drop (w - 8 * (i + 1) + 8) lanes)
    → lanes_at (drop (w - 8 * i) lanes) (w - 8 * i) (drop (16 * i) field) ≡ r
    → lanes_at (drop (w - 8 * (i + 1)) new) (w - 8 * (i + 1)) (drop (16 * (i + 1)) field) ≡ r
lanes-eight w i lanes field piece eight new r le len cut read is so_far =
    let n = w - 8 * (i + 1) in
    let left : w - 8 * i ≡ 8 + n = omega arith in
    let place : w - 8 * (i + 1) + 8 ≡ w - 8 * i = omega arith in
    let behind : 16 * (i + 1) ≡ 16 * i + 16 = omega arith in
    let front : length (take n lanes) ≡ n = length-take-le n lanes (omega arith) in
    let more : drop n new ≡ eight ++ drop (w - 8 * i) lanes =
    ap (drop n) is ∙ drop_at (take n lanes) (eight ++ drop (w - 8 * (i + 1) + 8) lanes) n front
    ∙ ap (λ (k : ℕ). eight ++ drop k lanes) place in
    let rest : drop (16 * (i + 1)) field ≡ drop 16 (drop (16 * i) field) =
    ap (λ (k : ℕ). drop k field) behind ∙ sym (drop-drop 16 (16 * i) field) in
    let whole : drop (16 * i) field ≡ piece ++ drop 16 (drop (16 * i) field) =
    sym (take-append-drop 16 (drop (16 * i) field)) ∙ ap (λ (p : List ℕ). p ++ drop 16 (drop (16 * i) field))
    (sym cut) in
    ap (λ (p : List ℕ). lanes_at p n (drop (16 * (i + 1)) field)) more ∙ ap
    (λ (p : List ℕ). lanes_at (eight ++ drop (w - 8 * i) lanes) n p) rest
    ∙ sym (read (drop (w - 8 * i) lanes) (drop 16 (drop (16 * i) field)) n)
    ∙ ap (λ (k : ℕ). lanes_at (drop (w - 8 * i) lanes) k (piece ++ drop 16 (drop (16 * i) field))) (sym left)
    ∙ ap (λ (p : List ℕ). lanes_at (drop (w - 8 * i) lanes) (w - 8 * i) p) (sym whole) ∙ so_far

pub lanes-nothing : (lanes : List ℕ) → lanes_at lanes 0 [] ≡ Ok lanes
unfolding lanes_at
lanes-nothing lanes = refl

pub lanes-all : (w i : ℕ) (lanes field : List ℕ) (r : Result (List ℕ) LineFault) → w ≡ 8 * i → length field ≡ 2 * w
    → lanes_at (drop (w - 8 * i) lanes) (w - 8 * i) (drop (16 * i) field) ≡ r → r ≡ Ok lanes
lanes-all w i lanes field r e size so_far =
    let none : w - 8 * i ≡ 0 = omega arith in
    let end : drop (16 * i) field ≡ [] = drop_all (16 * i) field (omega arith) in
    sym so_far ∙ rw (none, end) (lanes-nothing lanes)
