-- A line that follows a form of channels A and B is read as by its places.
use Rattle.std.proofs.Common.{◌≡◌, ℕ, Bool, true, List, [], ◌∷◌, ◌++◌}
use Rattle.std.proofs.Common.{length, take, drop, refl, arith, lit<}
use Rattle.std.proofs.lemmas.Bool.{eqb-true}
use Rattle.std.specs.Prelude.{Ok, Option, Some, None, slice_index, ◌==◌, ◌||◌}
use Rattle.std.specs.List.{AllPass}
use Rattle.tl_beat.specs.declared.read.line.Head.{Head}
use Rattle.tl_beat.specs.declared.read.whole.TheConstants.{MASKED, MASKED_DATA}
use Rattle.tl_beat.specs.statement.Digits.{is_digit}
use Rattle.tl_beat.specs.code.Reading.{made_a, made_b}
use Rattle.tl_beat.specs.code.Form.{Follow, two_digits, head_in, IsMasked}
use Rattle.tl_beat.specs.code.FromLeft.{digits_at, field_at, lanes_at, head_at}
use Rattle.tl_beat.specs.code.FromLeft.{tail_at, on_a, on_b, line_a_at, line_b_at, body_at, line_at}
use Rattle.tl_beat.proofs.VectorDigits.{pass_cons, pass_none}
use Rattle.tl_beat.proofs.Places.{at, two, head, none_ends, data_ends, eight}

pub masked-line : (w : ℕ) (line : List ℕ) (number : ℕ)
    → w ≡ 8 → length line ≡ 30 → Follow MASKED line
    → (AllPass is_digit (take 8 (drop 14 line)) → (rest : List ℕ)
    → digits_at 0 8 (take 8 (drop 14 line) ++ rest) ≡ Ok (number, rest))
    → (IsMasked w (take 29 line) (slice_index line 3) (head_in line) number (two_digits line 23) None (slice_index line
    28 == 49)) × (line_at {w = w} line ≡ body_at (take 29 line))
masked-line w (x0 ∷ x1 ∷ x2 ∷ x3 ∷ x4 ∷ x5 ∷ x6 ∷ x7 ∷ x8 ∷ x9 ∷ x10 ∷ x11 ∷ x12 ∷ x13 ∷ x14 ∷ x15 ∷ x16 ∷ x17 ∷ x18 ∷
    x19 ∷ x20 ∷ x21 ∷ x22 ∷ x23 ∷ x24 ∷ x25 ∷ x26 ∷ x27 ∷ x28 ∷ x29 ∷ []) number width long f read =
    let line : List ℕ = x0 ∷ x1 ∷ x2 ∷ x3 ∷ x4 ∷ x5 ∷ x6 ∷ x7 ∷ x8 ∷ x9 ∷ x10 ∷ x11 ∷ x12 ∷ x13 ∷ x14 ∷ x15 ∷ x16 ∷ x17
    ∷ x18 ∷ x19 ∷ x20 ∷ x21 ∷ x22 ∷ x23 ∷ x24 ∷ x25 ∷ x26 ∷ x27 ∷ x28 ∷ x29 ∷ [] in
    let d0 : is_digit x0 ≡ true = at MASKED line 30 0 refl f (lit< tt) in
    let d1 : is_digit x1 ≡ true = at MASKED line 30 1 refl f (lit< tt) in
    let s2 : x2 ≡ 32 = eqb-true x2 32 (at MASKED line 30 2 refl f (lit< tt)) in
    let s4 : x4 ≡ 32 = eqb-true x4 32 (at MASKED line 30 4 refl f (lit< tt)) in
    let d5 : is_digit x5 ≡ true = at MASKED line 30 5 refl f (lit< tt) in
    let s6 : x6 ≡ 32 = eqb-true x6 32 (at MASKED line 30 6 refl f (lit< tt)) in
    let d7 : is_digit x7 ≡ true = at MASKED line 30 7 refl f (lit< tt) in
    let s8 : x8 ≡ 32 = eqb-true x8 32 (at MASKED line 30 8 refl f (lit< tt)) in
    let d9 : is_digit x9 ≡ true = at MASKED line 30 9 refl f (lit< tt) in
    let s10 : x10 ≡ 32 = eqb-true x10 32 (at MASKED line 30 10 refl f (lit< tt)) in
    let d11 : is_digit x11 ≡ true = at MASKED line 30 11 refl f (lit< tt) in
    let d12 : is_digit x12 ≡ true = at MASKED line 30 12 refl f (lit< tt) in
    let s13 : x13 ≡ 32 = eqb-true x13 32 (at MASKED line 30 13 refl f (lit< tt)) in
    let d14 : is_digit x14 ≡ true = at MASKED line 30 14 refl f (lit< tt) in
    let d15 : is_digit x15 ≡ true = at MASKED line 30 15 refl f (lit< tt) in
    let d16 : is_digit x16 ≡ true = at MASKED line 30 16 refl f (lit< tt) in
    let d17 : is_digit x17 ≡ true = at MASKED line 30 17 refl f (lit< tt) in
    let d18 : is_digit x18 ≡ true = at MASKED line 30 18 refl f (lit< tt) in
    let d19 : is_digit x19 ≡ true = at MASKED line 30 19 refl f (lit< tt) in
    let d20 : is_digit x20 ≡ true = at MASKED line 30 20 refl f (lit< tt) in
    let d21 : is_digit x21 ≡ true = at MASKED line 30 21 refl f (lit< tt) in
    let s22 : x22 ≡ 32 = eqb-true x22 32 (at MASKED line 30 22 refl f (lit< tt)) in
    let d23 : is_digit x23 ≡ true = at MASKED line 30 23 refl f (lit< tt) in
    let d24 : is_digit x24 ≡ true = at MASKED line 30 24 refl f (lit< tt) in
    let s25 : x25 ≡ 32 = eqb-true x25 32 (at MASKED line 30 25 refl f (lit< tt)) in
    let s26 : x26 ≡ 45 = eqb-true x26 45 (at MASKED line 30 26 refl f (lit< tt)) in
    let s27 : x27 ≡ 32 = eqb-true x27 32 (at MASKED line 30 27 refl f (lit< tt)) in
    let b28 : ((x28 == 48) || (x28 == 49)) ≡ true = at MASKED line 30 28 refl f (lit< tt) in
    let s29 : x29 ≡ 10 = eqb-true x29 10 (at MASKED line 30 29 refl f (lit< tt)) in
    let begins : head_at (x0 ∷ x1 ∷ x2 ∷ x3 ∷ x4 ∷ x5 ∷ x6 ∷ x7 ∷ x8 ∷ x9 ∷ x10 ∷ x11 ∷ x12 ∷ x13 ∷ x14 ∷ x15 ∷ x16 ∷
    x17 ∷ x18 ∷ x19 ∷ x20 ∷ x21 ∷ x22 ∷ x23 ∷ x24 ∷ x25 ∷ x26 ∷ x27 ∷ x28 ∷ []) ≡ Ok (
      head_in line,
      x14 ∷ x15 ∷ x16 ∷
          x17 ∷ x18 ∷ x19 ∷ x20 ∷ x21 ∷ x22 ∷ x23 ∷ x24 ∷ x25 ∷ x26 ∷ x27 ∷ x28 ∷ [],
    ) = rw (s2, s6, s8, s10, s13) (head x0 x1
    x3 x4 x5 x7 x9 x11 x12 (x14 ∷ x15 ∷ x16 ∷ x17 ∷ x18 ∷ x19 ∷ x20 ∷ x21 ∷ x22 ∷ x23 ∷ x24 ∷ x25 ∷ x26 ∷ x27 ∷ x28 ∷
    []) d0 d1 d5 d7 d9 d11 d12) in
    let pass : AllPass is_digit (x14 ∷ x15 ∷ x16 ∷ x17 ∷ x18 ∷ x19 ∷ x20 ∷ x21 ∷ []) = pass_cons x14 (x15 ∷ x16 ∷ x17 ∷
    x18 ∷ x19 ∷ x20 ∷ x21 ∷ []) d14 (pass_cons x15 (x16 ∷ x17 ∷ x18 ∷ x19 ∷ x20 ∷ x21 ∷ []) d15 (pass_cons x16 (x17 ∷
    x18 ∷ x19 ∷ x20 ∷ x21 ∷ []) d16 (pass_cons x17 (x18 ∷ x19 ∷ x20 ∷ x21 ∷ []) d17 (pass_cons x18 (x19 ∷ x20 ∷ x21 ∷
    []) d18 (pass_cons x19 (x20 ∷ x21 ∷ []) d19 (pass_cons x20 (x21 ∷ []) d20 (pass_cons x21 ([]) d21 (pass_none))))))))
    in
    let addressed : field_at 8 (x14 ∷ x15 ∷ x16 ∷ x17 ∷ x18 ∷ x19 ∷ x20 ∷ x21 ∷ x22 ∷ x23 ∷ x24 ∷ x25 ∷ x26 ∷ x27 ∷ x28
    ∷ []) ≡ Ok (number, x23 ∷ x24 ∷ x25 ∷ x26 ∷ x27 ∷ x28 ∷ []) = rw s22 (eight (x14 ∷ x15 ∷ x16 ∷ x17 ∷ x18 ∷ x19 ∷ x20
    ∷ x21 ∷ []) (x23 ∷ x24 ∷ x25 ∷ x26 ∷ x27 ∷ x28 ∷ []) number (read pass (32 ∷ x23 ∷ x24 ∷ x25 ∷ x26 ∷ x27 ∷ x28 ∷
    []))) in
    let ends : tail_at w (x26 ∷ x27 ∷ x28 ∷ []) ≡ Ok (None, x28 == 49) = rw (s26, s27) (none_ends w x28 b28) in (
      record {
        left = x14 ∷ x15 ∷ x16 ∷ x17 ∷ x18 ∷ x19 ∷ x20 ∷ x21 ∷ x22 ∷ x23 ∷ x24 ∷ x25 ∷ x26 ∷ x27 ∷ x28 ∷ [];
        middle = x23 ∷ x24 ∷ x25 ∷ x26 ∷ x27 ∷ x28 ∷ [];
        end = x26 ∷ x27 ∷ x28 ∷ [];
        named = refl;
        spaced = s4;
        begins = begins;
        addressed = addressed;
        masked = rw (width, s25) (two x23 x24 (x26 ∷ x27 ∷ x28 ∷ []) d23 d24);
        ends = ends;
      },
      rw s29 refl,
    )
masked-line w line number width long f read = absurd (omega arith)

pub masked_data-line : (w : ℕ) (line : List ℕ) (number : ℕ) (lanes : List ℕ)
    → w ≡ 8 → length line ≡ 45 → Follow MASKED_DATA line
    → (AllPass is_digit (take 8 (drop 14 line)) → (rest : List ℕ)
    → digits_at 0 8 (take 8 (drop 14 line) ++ rest) ≡ Ok (number, rest))
    → (AllPass is_digit (take 16 (drop 26 line)) → lanes_at [] w (take 16 (drop 26 line)) ≡ Ok lanes)
    → (IsMasked w (take 44 line) (slice_index line 3) (head_in line) number (two_digits line 23) (Some lanes)
    (slice_index line 43 == 49)) × (line_at {w = w} line ≡ body_at (take 44 line))
masked_data-line w (x0 ∷ x1 ∷ x2 ∷ x3 ∷ x4 ∷ x5 ∷ x6 ∷ x7 ∷ x8 ∷ x9 ∷ x10 ∷ x11 ∷ x12 ∷ x13 ∷ x14 ∷ x15 ∷ x16 ∷ x17 ∷
    x18 ∷ x19 ∷ x20 ∷ x21 ∷ x22 ∷ x23 ∷ x24 ∷ x25 ∷ x26 ∷ x27 ∷ x28 ∷ x29 ∷ x30 ∷ x31 ∷ x32 ∷ x33 ∷ x34 ∷ x35 ∷ x36 ∷
    x37 ∷ x38 ∷ x39 ∷ x40 ∷ x41 ∷ x42 ∷ x43 ∷ x44 ∷ []) number lanes width long f read spelled =
    let line : List ℕ = x0 ∷ x1 ∷ x2 ∷ x3 ∷ x4 ∷ x5 ∷ x6 ∷ x7 ∷ x8 ∷ x9 ∷ x10 ∷ x11 ∷ x12 ∷ x13 ∷ x14 ∷ x15 ∷ x16 ∷ x17
    ∷ x18 ∷ x19 ∷ x20 ∷ x21 ∷ x22 ∷ x23 ∷ x24 ∷ x25 ∷ x26 ∷ x27 ∷ x28 ∷ x29 ∷ x30 ∷ x31 ∷ x32 ∷ x33 ∷ x34 ∷ x35 ∷ x36 ∷
    x37 ∷ x38 ∷ x39 ∷ x40 ∷ x41 ∷ x42 ∷ x43 ∷ x44 ∷ [] in
    let d0 : is_digit x0 ≡ true = at MASKED_DATA line 45 0 refl f (lit< tt) in
    let d1 : is_digit x1 ≡ true = at MASKED_DATA line 45 1 refl f (lit< tt) in
    let s2 : x2 ≡ 32 = eqb-true x2 32 (at MASKED_DATA line 45 2 refl f (lit< tt)) in
    let s4 : x4 ≡ 32 = eqb-true x4 32 (at MASKED_DATA line 45 4 refl f (lit< tt)) in
    let d5 : is_digit x5 ≡ true = at MASKED_DATA line 45 5 refl f (lit< tt) in
    let s6 : x6 ≡ 32 = eqb-true x6 32 (at MASKED_DATA line 45 6 refl f (lit< tt)) in
    let d7 : is_digit x7 ≡ true = at MASKED_DATA line 45 7 refl f (lit< tt) in
    let s8 : x8 ≡ 32 = eqb-true x8 32 (at MASKED_DATA line 45 8 refl f (lit< tt)) in
    let d9 : is_digit x9 ≡ true = at MASKED_DATA line 45 9 refl f (lit< tt) in
    let s10 : x10 ≡ 32 = eqb-true x10 32 (at MASKED_DATA line 45 10 refl f (lit< tt)) in
    let d11 : is_digit x11 ≡ true = at MASKED_DATA line 45 11 refl f (lit< tt) in
    let d12 : is_digit x12 ≡ true = at MASKED_DATA line 45 12 refl f (lit< tt) in
    let s13 : x13 ≡ 32 = eqb-true x13 32 (at MASKED_DATA line 45 13 refl f (lit< tt)) in
    let d14 : is_digit x14 ≡ true = at MASKED_DATA line 45 14 refl f (lit< tt) in
    let d15 : is_digit x15 ≡ true = at MASKED_DATA line 45 15 refl f (lit< tt) in
    let d16 : is_digit x16 ≡ true = at MASKED_DATA line 45 16 refl f (lit< tt) in
    let d17 : is_digit x17 ≡ true = at MASKED_DATA line 45 17 refl f (lit< tt) in
    let d18 : is_digit x18 ≡ true = at MASKED_DATA line 45 18 refl f (lit< tt) in
    let d19 : is_digit x19 ≡ true = at MASKED_DATA line 45 19 refl f (lit< tt) in
    let d20 : is_digit x20 ≡ true = at MASKED_DATA line 45 20 refl f (lit< tt) in
    let d21 : is_digit x21 ≡ true = at MASKED_DATA line 45 21 refl f (lit< tt) in
    let s22 : x22 ≡ 32 = eqb-true x22 32 (at MASKED_DATA line 45 22 refl f (lit< tt)) in
    let d23 : is_digit x23 ≡ true = at MASKED_DATA line 45 23 refl f (lit< tt) in
    let d24 : is_digit x24 ≡ true = at MASKED_DATA line 45 24 refl f (lit< tt) in
    let s25 : x25 ≡ 32 = eqb-true x25 32 (at MASKED_DATA line 45 25 refl f (lit< tt)) in
    let d26 : is_digit x26 ≡ true = at MASKED_DATA line 45 26 refl f (lit< tt) in
    let d27 : is_digit x27 ≡ true = at MASKED_DATA line 45 27 refl f (lit< tt) in
    let d28 : is_digit x28 ≡ true = at MASKED_DATA line 45 28 refl f (lit< tt) in
    let d29 : is_digit x29 ≡ true = at MASKED_DATA line 45 29 refl f (lit< tt) in
    let d30 : is_digit x30 ≡ true = at MASKED_DATA line 45 30 refl f (lit< tt) in
    let d31 : is_digit x31 ≡ true = at MASKED_DATA line 45 31 refl f (lit< tt) in
    let d32 : is_digit x32 ≡ true = at MASKED_DATA line 45 32 refl f (lit< tt) in
    let d33 : is_digit x33 ≡ true = at MASKED_DATA line 45 33 refl f (lit< tt) in
    let d34 : is_digit x34 ≡ true = at MASKED_DATA line 45 34 refl f (lit< tt) in
    let d35 : is_digit x35 ≡ true = at MASKED_DATA line 45 35 refl f (lit< tt) in
    let d36 : is_digit x36 ≡ true = at MASKED_DATA line 45 36 refl f (lit< tt) in
    let d37 : is_digit x37 ≡ true = at MASKED_DATA line 45 37 refl f (lit< tt) in
    let d38 : is_digit x38 ≡ true = at MASKED_DATA line 45 38 refl f (lit< tt) in
    let d39 : is_digit x39 ≡ true = at MASKED_DATA line 45 39 refl f (lit< tt) in
    let d40 : is_digit x40 ≡ true = at MASKED_DATA line 45 40 refl f (lit< tt) in
    let d41 : is_digit x41 ≡ true = at MASKED_DATA line 45 41 refl f (lit< tt) in
    let s42 : x42 ≡ 32 = eqb-true x42 32 (at MASKED_DATA line 45 42 refl f (lit< tt)) in
    let b43 : ((x43 == 48) || (x43 == 49)) ≡ true = at MASKED_DATA line 45 43 refl f (lit< tt) in
    let s44 : x44 ≡ 10 = eqb-true x44 10 (at MASKED_DATA line 45 44 refl f (lit< tt)) in
    let begins : head_at (x0 ∷ x1 ∷ x2 ∷ x3 ∷ x4 ∷ x5 ∷ x6 ∷ x7 ∷ x8 ∷ x9 ∷ x10 ∷ x11 ∷ x12 ∷ x13 ∷ x14 ∷ x15 ∷ x16 ∷
    x17 ∷ x18 ∷ x19 ∷ x20 ∷ x21 ∷ x22 ∷ x23 ∷ x24 ∷ x25 ∷ x26 ∷ x27 ∷ x28 ∷ x29 ∷ x30 ∷ x31 ∷ x32 ∷ x33 ∷ x34 ∷ x35 ∷
    x36 ∷ x37 ∷ x38 ∷ x39 ∷ x40 ∷ x41 ∷ x42 ∷ x43 ∷ []) ≡ Ok (
      head_in line,
      x14 ∷ x15 ∷ x16 ∷ x17 ∷ x18 ∷ x19 ∷ x20 ∷
          x21 ∷ x22 ∷ x23 ∷ x24 ∷ x25 ∷ x26 ∷ x27 ∷ x28 ∷ x29 ∷ x30 ∷ x31 ∷ x32 ∷ x33 ∷ x34 ∷ x35 ∷ x36 ∷ x37 ∷ x38 ∷ x39 ∷
          x40 ∷ x41 ∷ x42 ∷ x43 ∷ [],
    ) = rw (s2, s6, s8, s10, s13) (head x0 x1 x3 x4 x5 x7 x9 x11 x12 (x14 ∷ x15 ∷ x16 ∷ x17 ∷
    x18 ∷ x19 ∷ x20 ∷ x21 ∷ x22 ∷ x23 ∷ x24 ∷ x25 ∷ x26 ∷ x27 ∷ x28 ∷ x29 ∷ x30 ∷ x31 ∷ x32 ∷ x33 ∷ x34 ∷ x35 ∷ x36 ∷
    x37 ∷ x38 ∷ x39 ∷ x40 ∷ x41 ∷ x42 ∷ x43 ∷ []) d0 d1 d5 d7 d9 d11 d12) in
    let pass : AllPass is_digit (x14 ∷ x15 ∷ x16 ∷ x17 ∷ x18 ∷ x19 ∷ x20 ∷ x21 ∷ []) = pass_cons x14 (x15 ∷ x16 ∷ x17 ∷
    x18 ∷ x19 ∷ x20 ∷ x21 ∷ []) d14 (pass_cons x15 (x16 ∷ x17 ∷ x18 ∷ x19 ∷ x20 ∷ x21 ∷ []) d15 (pass_cons x16 (x17 ∷
    x18 ∷ x19 ∷ x20 ∷ x21 ∷ []) d16 (pass_cons x17 (x18 ∷ x19 ∷ x20 ∷ x21 ∷ []) d17 (pass_cons x18 (x19 ∷ x20 ∷ x21 ∷
    []) d18 (pass_cons x19 (x20 ∷ x21 ∷ []) d19 (pass_cons x20 (x21 ∷ []) d20 (pass_cons x21 ([]) d21 (pass_none))))))))
    in
    let addressed : field_at 8 (x14 ∷ x15 ∷ x16 ∷ x17 ∷ x18 ∷ x19 ∷ x20 ∷ x21 ∷ x22 ∷ x23 ∷ x24 ∷ x25 ∷ x26 ∷ x27 ∷ x28
    ∷ x29 ∷ x30 ∷ x31 ∷ x32 ∷ x33 ∷ x34 ∷ x35 ∷ x36 ∷ x37 ∷ x38 ∷ x39 ∷ x40 ∷ x41 ∷ x42 ∷ x43 ∷ []) ≡ Ok (
      number,
      x23 ∷
          x24 ∷ x25 ∷ x26 ∷ x27 ∷ x28 ∷ x29 ∷ x30 ∷ x31 ∷ x32 ∷ x33 ∷ x34 ∷ x35 ∷ x36 ∷ x37 ∷ x38 ∷ x39 ∷ x40 ∷ x41 ∷ x42 ∷
          x43 ∷ [],
    ) = rw s22 (eight (x14 ∷ x15 ∷ x16 ∷ x17 ∷ x18 ∷ x19 ∷ x20 ∷ x21 ∷ []) (x23 ∷ x24 ∷ x25 ∷ x26 ∷ x27 ∷ x28 ∷
    x29 ∷ x30 ∷ x31 ∷ x32 ∷ x33 ∷ x34 ∷ x35 ∷ x36 ∷ x37 ∷ x38 ∷ x39 ∷ x40 ∷ x41 ∷ x42 ∷ x43 ∷ []) number (read pass (32
    ∷ x23 ∷ x24 ∷ x25 ∷ x26 ∷ x27 ∷ x28 ∷ x29 ∷ x30 ∷ x31 ∷ x32 ∷ x33 ∷ x34 ∷ x35 ∷ x36 ∷ x37 ∷ x38 ∷ x39 ∷ x40 ∷ x41 ∷
    x42 ∷ x43 ∷ []))) in
    let all : AllPass is_digit (x26 ∷ x27 ∷ x28 ∷ x29 ∷ x30 ∷ x31 ∷ x32 ∷ x33 ∷ x34 ∷ x35 ∷ x36 ∷ x37 ∷ x38 ∷ x39 ∷ x40
    ∷ x41 ∷ []) = pass_cons x26 (x27 ∷ x28 ∷ x29 ∷ x30 ∷ x31 ∷ x32 ∷ x33 ∷ x34 ∷ x35 ∷ x36 ∷ x37 ∷ x38 ∷ x39 ∷ x40 ∷ x41
    ∷ []) d26 (pass_cons x27 (x28 ∷ x29 ∷ x30 ∷ x31 ∷ x32 ∷ x33 ∷ x34 ∷ x35 ∷ x36 ∷ x37 ∷ x38 ∷ x39 ∷ x40 ∷ x41 ∷ [])
    d27 (pass_cons x28 (x29 ∷ x30 ∷ x31 ∷ x32 ∷ x33 ∷ x34 ∷ x35 ∷ x36 ∷ x37 ∷ x38 ∷ x39 ∷ x40 ∷ x41 ∷ []) d28 (pass_cons
    x29 (x30 ∷ x31 ∷ x32 ∷ x33 ∷ x34 ∷ x35 ∷ x36 ∷ x37 ∷ x38 ∷ x39 ∷ x40 ∷ x41 ∷ []) d29 (pass_cons x30 (x31 ∷ x32 ∷ x33
    ∷ x34 ∷ x35 ∷ x36 ∷ x37 ∷ x38 ∷ x39 ∷ x40 ∷ x41 ∷ []) d30 (pass_cons x31 (x32 ∷ x33 ∷ x34 ∷ x35 ∷ x36 ∷ x37 ∷ x38 ∷
    x39 ∷ x40 ∷ x41 ∷ []) d31 (pass_cons x32 (x33 ∷ x34 ∷ x35 ∷ x36 ∷ x37 ∷ x38 ∷ x39 ∷ x40 ∷ x41 ∷ []) d32 (pass_cons
    x33 (x34 ∷ x35 ∷ x36 ∷ x37 ∷ x38 ∷ x39 ∷ x40 ∷ x41 ∷ []) d33 (pass_cons x34 (x35 ∷ x36 ∷ x37 ∷ x38 ∷ x39 ∷ x40 ∷ x41
    ∷ []) d34 (pass_cons x35 (x36 ∷ x37 ∷ x38 ∷ x39 ∷ x40 ∷ x41 ∷ []) d35 (pass_cons x36 (x37 ∷ x38 ∷ x39 ∷ x40 ∷ x41 ∷
    []) d36 (pass_cons x37 (x38 ∷ x39 ∷ x40 ∷ x41 ∷ []) d37 (pass_cons x38 (x39 ∷ x40 ∷ x41 ∷ []) d38 (pass_cons x39
    (x40 ∷ x41 ∷ []) d39 (pass_cons x40 (x41 ∷ []) d40 (pass_cons x41 ([]) d41 (pass_none)))))))))))))))) in
    let ends : tail_at w (x26 ∷ x27 ∷ x28 ∷ x29 ∷ x30 ∷ x31 ∷ x32 ∷ x33 ∷ x34 ∷ x35 ∷ x36 ∷ x37 ∷ x38 ∷ x39 ∷ x40 ∷ x41
    ∷ x42 ∷ x43 ∷ []) ≡ Ok (Some lanes, x43 == 49) = rw s42 (data_ends w (x26 ∷ x27 ∷ x28 ∷ x29 ∷ x30 ∷ x31 ∷ x32 ∷ x33
    ∷ x34 ∷ x35 ∷ x36 ∷ x37 ∷ x38 ∷ x39 ∷ x40 ∷ x41 ∷ []) lanes x43 refl (spelled all) b43) in (
      record {
        left = x14 ∷ x15 ∷ x16 ∷ x17 ∷ x18 ∷ x19 ∷ x20 ∷ x21 ∷ x22 ∷ x23 ∷ x24 ∷ x25 ∷ x26 ∷ x27 ∷ x28 ∷ x29 ∷ x30 ∷ x31
            ∷ x32 ∷ x33 ∷ x34 ∷ x35 ∷ x36 ∷ x37 ∷ x38 ∷ x39 ∷ x40 ∷ x41 ∷ x42 ∷ x43 ∷ [];
        middle = x23 ∷ x24 ∷ x25 ∷ x26 ∷ x27 ∷ x28 ∷ x29 ∷ x30 ∷ x31 ∷ x32 ∷ x33 ∷ x34 ∷ x35 ∷ x36 ∷ x37 ∷ x38 ∷ x39 ∷
            x40 ∷ x41 ∷ x42 ∷ x43 ∷ [];
        end = x26 ∷ x27 ∷ x28 ∷ x29 ∷ x30 ∷ x31 ∷ x32 ∷ x33 ∷ x34 ∷ x35 ∷ x36 ∷ x37 ∷ x38 ∷ x39 ∷ x40 ∷ x41 ∷ x42 ∷ x43
            ∷ [];
        named = refl;
        spaced = s4;
        begins = begins;
        addressed = addressed;
        masked = rw (width, s25) (two x23 x24 (x26 ∷ x27 ∷ x28 ∷ x29 ∷ x30 ∷ x31 ∷ x32 ∷ x33 ∷ x34 ∷ x35 ∷ x36 ∷ x37 ∷
            x38 ∷ x39 ∷ x40 ∷ x41 ∷ x42 ∷ x43 ∷ []) d23 d24);
        ends = ends;
      },
      rw s44 refl,
    )
masked_data-line w line number lanes width long f read spelled = absurd (omega arith)

-- the line of a channel with a mask is read so
pub masked-a : {w : ℕ} (body : List ℕ) (letter : ℕ) (head : Head) (address mask : ℕ) (lanes : Option (List ℕ)) (corrupt
    : Bool)
    → IsMasked w body letter head address mask lanes corrupt
    → on_a head.link (made_a {w = w} head.opcode head.param head.size head.source address mask lanes corrupt) ≡
    line_a_at body
unfolding line_a_at
masked-a body letter head address mask lanes corrupt m = rw (m.begins, m.addressed, m.masked, m.ends) refl

pub masked-b : {w : ℕ} (body : List ℕ) (letter : ℕ) (head : Head) (address mask : ℕ) (lanes : Option (List ℕ)) (corrupt
    : Bool)
    → IsMasked w body letter head address mask lanes corrupt
    → on_b head.link (made_b {w = w} head.opcode head.param head.size head.source address mask lanes corrupt) ≡
    line_b_at body
unfolding line_b_at
masked-b body letter head address mask lanes corrupt m = rw (m.begins, m.addressed, m.masked, m.ends) refl
