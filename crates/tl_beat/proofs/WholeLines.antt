-- Parts of a line that follows a form, and the line of channel E.
use Rattle.std.proofs.Common.{◌≡◌, ℕ, zero, suc, ◌+◌, ◌-◌, ◌<◌, ◌≤◌, Bool, true, false, List, [], ◌∷◌, ◌++◌}
use Rattle.std.proofs.Common.{length, take, drop, refl, sym, ap, ap₂, ◌∙◌, arith, ◌*◌, append-nil, replicate}
use Rattle.std.proofs.lemmas.Simd.{get_or-chunk, length-chunk}
use Rattle.std.specs.Bool.{OnTrue}
use Rattle.std.proofs.lemmas.Bool.{ltb-true, and_parts}
use Rattle.std.specs.Prelude.{Ok, Option, Some, None, Result, slice_index, ◌&&◌, nat_lt, MatchOption}
use Rattle.std.specs.List.{AllPass}
use Rattle.tl_beat.specs.declared.beat.Link.{Link}
use Rattle.tl_beat.specs.declared.read.line.Head.{Head}
use Rattle.tl_beat.specs.declared.beat.Beat.{Beat}
use Rattle.tl_beat.specs.declared.beat.Beat.TheVariants as beat
use Rattle.tl_beat.specs.declared.fault.LineFault.{LineFault}
use Rattle.tl_beat.specs.statement.Digits.{is_digit}
use Rattle.tl_beat.specs.code.Reading.{linked}
use Rattle.tl_beat.specs.code.Form.{may_stand, Follow, head_in, lanes_two, front_numbers}
use Rattle.tl_beat.specs.code.FromLeft.{value_or_16, digits_at, field_at, lanes_at}
use Rattle.tl_beat.specs.code.FromLeft.{line_e_at, body_at, line_at}
use Rattle.tl_beat.proofs.AtPlaces.{IsDigit, digit_is, digit_at-is, no_digit, field_of_two}
use Rattle.tl_beat.proofs.LanesAt.{lanes-nothing}
use Rattle.tl_beat.proofs.WellSpelled.{body-e}
use lib.Lanes.{chunk}

-- ---- sixteen bytes of a line

place : (xs : List ℕ) (at n k : ℕ) → n ≡ 16 → k < 16
    → slice_index (take 16 (drop 0 (take n (drop at xs)))) k ≡ slice_index xs (at + k)
place xs at n k e lt =
    get_or-chunk 0 16 (chunk at n xs) k 0 lt ∙ get_or-chunk at n xs (0 + k) 0 (omega arith)
    ∙ ap (slice_index xs) (omega arith)

pub sixteen : (form line : List ℕ) (at n : ℕ) (b : Bool) → n ≡ 16 → at + 16 ≤ length form
    → OnTrue b (Follow (take 16 (drop 0 (take n (drop at form)))) (take 16 (drop 0 (take n (drop at line)))))
    → OnTrue b ((i : ℕ) → at ≤ i → i < at + 16 → may_stand (slice_index form i) (slice_index line i) ≡ true)
sixteen form line at n false e long f = tt
sixteen form line at n true e long f = λ i from to.
    let k : ℕ = i - at in
    let here : at + k ≡ i = omega arith in
    let inner : length (take n (drop at form)) ≡ n = length-chunk at n form (omega arith) in
    let all : length (take 16 (drop 0 (take n (drop at form)))) ≡ 16 = length-chunk 0 16 (take n (drop at form)) (omega
    arith) in
    let lt : k < 16 = omega arith in
    ap₂ (λ (x y : ℕ). may_stand x y)
    (ap (slice_index form) (sym here) ∙ sym (place form at n k e lt))
    (ap (slice_index line) (sym here) ∙ sym (place line at n k e lt))
    ∙ f k (omega arith)

-- the first fields of a line, as numbers
abbrev front_of : List ℕ → Head × ℕ
front_of numbers = (
  record {
    link = slice_index numbers 0;
    opcode = slice_index numbers 1;
    param = slice_index numbers 2;
    size = slice_index numbers 3;
    source = slice_index numbers 4;
  },
  slice_index numbers 5,
)

abbrev front_in : List ℕ → Head × ℕ
front_in line = (head_in line, lanes_two line 14 15)

pub front-is : (line numbers : List ℕ) → 16 ≤ length line → numbers ≡ front_numbers (take 16 (drop 0 line))
    → front_of numbers ≡ front_in line
front-is (x0 ∷ x1 ∷ x2 ∷ x3 ∷ x4 ∷ x5 ∷ x6 ∷ x7 ∷ x8 ∷ x9 ∷ x10 ∷ x11 ∷ x12 ∷ x13 ∷ x14 ∷ x15 ∷ rest) numbers long is =
    rw is refl
front-is line numbers long is = absurd (omega arith)

take_same : (m : ℕ) (ys : List ℕ) → take m (take m ys) ≡ take m ys
take_same zero ys = refl
take_same (suc m) [] = refl
take_same (suc m) (y ∷ ys) = ap (λ (zs : List ℕ). y ∷ zs) (take_same m ys)

pub lanes-whole : (w at n : ℕ) (line eight new : List ℕ) → w ≡ 8 → n ≡ 16
    → new ≡ take 0 (replicate w 0) ++ (eight ++ drop (0 + 8) (replicate w 0))
    → (AllPass is_digit (take 16 (drop 0 (take n (drop at line)))) → (before rest : List ℕ) (k : ℕ)
    → lanes_at before (8 + k) (take 16 (drop 0 (take n (drop at line))) ++ rest) ≡ lanes_at (eight ++ before) k rest)
    → AllPass is_digit (take 16 (drop at line)) → lanes_at [] w (take 16 (drop at line)) ≡ Ok new
lanes-whole w at n line eight new width len is read pass =
    let same : take 16 (drop 0 (take n (drop at line))) ≡ take 16 (drop at line) =
    rw len (take_same 16 (drop at line)) in
    let whole : lanes_at [] (8 + 0) (take 16 (drop at line) ++ []) ≡ lanes_at (eight ++ []) 0 [] =
    rw same at (read (rw same pass) [] [] 0) in
    let digits : lanes_at [] 8 (take 16 (drop at line)) ≡ lanes_at (eight ++ []) 0 [] =
    ap (lanes_at [] 8) (sym (append-nil (take 16 (drop at line)))) ∙ whole in
    let made : new ≡ eight ++ [] = is ∙ rw width refl in
    ap (λ (v : ℕ). lanes_at [] v (take 16 (drop at line))) width ∙ digits ∙ lanes-nothing (eight ++ [])
    ∙ ap (λ (x : List ℕ). Ok x) (sym made)

-- ---- from the body to the line

pub as_line : {w : ℕ} (line whole body : List ℕ) (link : Option Link) (old new : Beat w) → whole ≡ line
    → line_at {w = w} whole ≡ body_at body
    → MatchOption link (new ≡ old) (λ l. body_at body ≡ Ok (l, new))
    → MatchOption link (new ≡ old) (λ l. line_at line ≡ Ok (l, new))
as_line line whole body None old new same at read = read
as_line line whole body (Some l) old new same at read = ap line_at (sym same) ∙ at ∙ read

-- ---- channel E

four_small : (a b c d : ℕ) → (((nat_lt a 16 && nat_lt b 16) && nat_lt c 16) && nat_lt d 16) ≡ true
    → (a < 16) × (b < 16) × (c < 16) × (d < 16)
four_small a b c d e =
    let abc_d = and_parts ((nat_lt a 16 && nat_lt b 16) && nat_lt c 16) (nat_lt d 16) e in
    let ab_c = and_parts (nat_lt a 16 && nat_lt b 16) (nat_lt c 16) abc_d.0 in
    let a_b = and_parts (nat_lt a 16) (nat_lt b 16) ab_c.0 in
    (ltb-true a 16 a_b.0, ltb-true b 16 a_b.1, ltb-true c 16 ab_c.1, ltb-true d 16 abc_d.1)

two_at_end : (a b v1 v0 : ℕ) → IsDigit a v1 → IsDigit b v0 → digits_at 0 2 (a ∷ b ∷ []) ≡ Ok (16 * v1 + v0, [])
two_at_end a b v1 v0 d1 d0 =
    rw (digit_at-is 0 1 a v1 (b ∷ []) d1, digit_at-is (16 * 0 + v1) 0 b v0 [] d0, no_digit (16 * (16 * 0 + v1) + v0) [])
    (ap (λ (n : ℕ). Ok (n, [])) (omega arith))

pub acknowledged : {w : ℕ} (line : List ℕ) (l1 l0 s1 s0 : ℕ) → length line ≡ 8 → slice_index line 2 ≡ 32
    → slice_index line 3 ≡ 69 → slice_index line 4 ≡ 32 → slice_index line 7 ≡ 10
    → l1 ≡ value_or_16 (slice_index line 0) → l0 ≡ value_or_16 (slice_index line 1)
    → s1 ≡ value_or_16 (slice_index line 5) → s0 ≡ value_or_16 (slice_index line 6)
    → (((nat_lt l1 16 && nat_lt l0 16) && nat_lt s1 16) && nat_lt s0 16) ≡ true
    → line_at {w = w} line ≡ Ok (linked (16 * l1 + l0) (beat.E (record { sink = 16 * s1 + s0 })))
unfolding line_e_at
acknowledged {w} (x0 ∷ x1 ∷ x2 ∷ x3 ∷ x4 ∷ x5 ∷ x6 ∷ x7 ∷ []) l1 l0 s1 s0 long h2 h3 h4 h7 v0 v1 v5 v6 e =
    let small = four_small l1 l0 s1 s0 e in
    let link : field_at 2 (x0 ∷ x1 ∷ 32 ∷ x3 ∷ x4 ∷ x5 ∷ x6 ∷ []) ≡ Ok (16 * l1 + l0, x3 ∷ x4 ∷ x5 ∷ x6 ∷ []) =
    field_of_two x0 x1 l1 l0 (x3 ∷ x4 ∷ x5 ∷ x6 ∷ []) (digit_is x0 l1 v0 small.0) (digit_is x1 l0 v1 small.1) in
    let sink = two_at_end x5 x6 s1 s0 (digit_is x5 s1 v5 small.2) (digit_is x6 s0 v6 small.3) in
    let body : List ℕ = x0 ∷ x1 ∷ x2 ∷ x3 ∷ x4 ∷ x5 ∷ x6 ∷ [] in
    let read : Result (Link × Beat w) LineFault = Ok (linked (16 * l1 + l0) (beat.E (record { sink = 16 * s1 + s0 })))
    in
    rw h7 (body-e body read h3 h4 (rw (h2, link, sink) refl))
acknowledged line l1 l0 s1 s0 long h2 h3 h4 h7 v0 v1 v5 v6 e = absurd (omega arith)
