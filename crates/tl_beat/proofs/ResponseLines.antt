-- A line that follows a form of channel D is read as by its places.
use Rattle.std.proofs.Common.{◌≡◌, ℕ, true, List, [], ◌∷◌}
use Rattle.std.proofs.Common.{length, take, drop, refl, arith, lit<}
use Rattle.std.proofs.lemmas.Bool.{eqb-true}
use Rattle.std.specs.Prelude.{Ok, Some, None, slice_index, ◌==◌, ◌||◌}
use Rattle.std.specs.List.{AllPass}
use Rattle.tl_beat.specs.declared.read.whole.TheConstants.{RESPONSE, RESPONSE_DATA}
use Rattle.tl_beat.specs.statement.Digits.{is_digit}
use Rattle.tl_beat.specs.code.Reading.{made_d}
use Rattle.tl_beat.specs.code.Form.{Follow, lanes_two, head_in}
use Rattle.tl_beat.specs.code.FromLeft.{field_at, bit_field_at, lanes_at, head_at}
use Rattle.tl_beat.specs.code.FromLeft.{tail_at, on_d, line_d_at, body_at, line_at}
use Rattle.tl_beat.proofs.VectorDigits.{pass_cons, pass_none}
use Rattle.tl_beat.proofs.Places.{at, two_lanes, head, none_ends, data_ends, bit_field, IsRead}

pub response-line : (w : ℕ) (line : List ℕ)
    → length line ≡ 23 → Follow RESPONSE line
    → (IsRead (take 22 line) 68 (line_d_at {w = w} (take 22 line)) (on_d (head_in line).link (made_d (head_in
    line).opcode
    (head_in line).param (head_in line).size (head_in line).source (lanes_two line 14 15) (slice_index line 17 == 49)
    None (slice_index line 21 == 49)))) × (line_at {w = w} line ≡ body_at (take 22 line))
unfolding line_d_at
response-line w (x0 ∷ x1 ∷ x2 ∷ x3 ∷ x4 ∷ x5 ∷ x6 ∷ x7 ∷ x8 ∷ x9 ∷ x10 ∷ x11 ∷ x12 ∷ x13 ∷ x14 ∷ x15 ∷ x16 ∷ x17 ∷ x18 ∷
    x19 ∷ x20 ∷ x21 ∷ x22 ∷ []) long f =
    let line : List ℕ = x0 ∷ x1 ∷ x2 ∷ x3 ∷ x4 ∷ x5 ∷ x6 ∷ x7 ∷ x8 ∷ x9 ∷ x10 ∷ x11 ∷ x12 ∷ x13 ∷ x14 ∷ x15 ∷ x16 ∷ x17
    ∷ x18 ∷ x19 ∷ x20 ∷ x21 ∷ x22 ∷ [] in
    let d0 : is_digit x0 ≡ true = at RESPONSE line 23 0 refl f (lit< tt) in
    let d1 : is_digit x1 ≡ true = at RESPONSE line 23 1 refl f (lit< tt) in
    let s2 : x2 ≡ 32 = eqb-true x2 32 (at RESPONSE line 23 2 refl f (lit< tt)) in
    let s3 : x3 ≡ 68 = eqb-true x3 68 (at RESPONSE line 23 3 refl f (lit< tt)) in
    let s4 : x4 ≡ 32 = eqb-true x4 32 (at RESPONSE line 23 4 refl f (lit< tt)) in
    let d5 : is_digit x5 ≡ true = at RESPONSE line 23 5 refl f (lit< tt) in
    let s6 : x6 ≡ 32 = eqb-true x6 32 (at RESPONSE line 23 6 refl f (lit< tt)) in
    let d7 : is_digit x7 ≡ true = at RESPONSE line 23 7 refl f (lit< tt) in
    let s8 : x8 ≡ 32 = eqb-true x8 32 (at RESPONSE line 23 8 refl f (lit< tt)) in
    let d9 : is_digit x9 ≡ true = at RESPONSE line 23 9 refl f (lit< tt) in
    let s10 : x10 ≡ 32 = eqb-true x10 32 (at RESPONSE line 23 10 refl f (lit< tt)) in
    let d11 : is_digit x11 ≡ true = at RESPONSE line 23 11 refl f (lit< tt) in
    let d12 : is_digit x12 ≡ true = at RESPONSE line 23 12 refl f (lit< tt) in
    let s13 : x13 ≡ 32 = eqb-true x13 32 (at RESPONSE line 23 13 refl f (lit< tt)) in
    let d14 : is_digit x14 ≡ true = at RESPONSE line 23 14 refl f (lit< tt) in
    let d15 : is_digit x15 ≡ true = at RESPONSE line 23 15 refl f (lit< tt) in
    let s16 : x16 ≡ 32 = eqb-true x16 32 (at RESPONSE line 23 16 refl f (lit< tt)) in
    let b17 : ((x17 == 48) || (x17 == 49)) ≡ true = at RESPONSE line 23 17 refl f (lit< tt) in
    let s18 : x18 ≡ 32 = eqb-true x18 32 (at RESPONSE line 23 18 refl f (lit< tt)) in
    let s19 : x19 ≡ 45 = eqb-true x19 45 (at RESPONSE line 23 19 refl f (lit< tt)) in
    let s20 : x20 ≡ 32 = eqb-true x20 32 (at RESPONSE line 23 20 refl f (lit< tt)) in
    let b21 : ((x21 == 48) || (x21 == 49)) ≡ true = at RESPONSE line 23 21 refl f (lit< tt) in
    let s22 : x22 ≡ 10 = eqb-true x22 10 (at RESPONSE line 23 22 refl f (lit< tt)) in
    let begins : head_at (x0 ∷ x1 ∷ x2 ∷ x3 ∷ x4 ∷ x5 ∷ x6 ∷ x7 ∷ x8 ∷ x9 ∷ x10 ∷ x11 ∷ x12 ∷ x13 ∷ x14 ∷ x15 ∷ x16 ∷
    x17 ∷ x18 ∷ x19 ∷ x20 ∷ x21 ∷ []) ≡ Ok (head_in line, x14 ∷ x15 ∷ x16 ∷ x17 ∷ x18 ∷ x19 ∷ x20 ∷ x21 ∷ []) = rw (
      s2,
      s6,
      s8,
      s10,
      s13,
    ) (head x0 x1 x3 x4 x5 x7 x9 x11 x12 (x14 ∷ x15 ∷ x16 ∷ x17 ∷ x18 ∷ x19 ∷ x20 ∷ x21 ∷ []) d0 d1 d5
    d7 d9 d11 d12) in
    let sunk : field_at 2 (x14 ∷ x15 ∷ x16 ∷ x17 ∷ x18 ∷ x19 ∷ x20 ∷ x21 ∷ []) ≡ Ok (
      lanes_two line 14 15,
      x17 ∷ x18 ∷
          x19 ∷ x20 ∷ x21 ∷ [],
    ) = rw s16 (two_lanes x14 x15 (x17 ∷ x18 ∷ x19 ∷ x20 ∷ x21 ∷ []) d14 d15) in
    let denied : bit_field_at (x17 ∷ x18 ∷ x19 ∷ x20 ∷ x21 ∷ []) ≡ Ok (x17 == 49, x19 ∷ x20 ∷ x21 ∷ []) = rw s18
    (bit_field x17 (x19 ∷ x20 ∷ x21 ∷ []) b17) in
    let ends : tail_at w (x19 ∷ x20 ∷ x21 ∷ []) ≡ Ok (None, x21 == 49) = rw (s19, s20) (none_ends w x21 b21) in
    (record { named = s3; spaced = s4; same = rw (begins, sunk, denied, ends) refl }, rw s22 refl)
response-line w line long f = absurd (omega arith)

pub response_data-line : (w : ℕ) (line : List ℕ) (lanes : List ℕ)
    → length line ≡ 38 → Follow RESPONSE_DATA line
    → (AllPass is_digit (take 16 (drop 19 line)) → lanes_at [] w (take 16 (drop 19 line)) ≡ Ok lanes)
    → (IsRead (take 37 line) 68 (line_d_at {w = w} (take 37 line)) (on_d (head_in line).link (made_d (head_in
    line).opcode
    (head_in line).param (head_in line).size (head_in line).source (lanes_two line 14 15) (slice_index line 17 == 49)
    (Some lanes) (slice_index line 36 == 49)))) × (line_at {w = w} line ≡ body_at (take 37 line))
unfolding line_d_at
response_data-line w (x0 ∷ x1 ∷ x2 ∷ x3 ∷ x4 ∷ x5 ∷ x6 ∷ x7 ∷ x8 ∷ x9 ∷ x10 ∷ x11 ∷ x12 ∷ x13 ∷ x14 ∷ x15 ∷ x16 ∷ x17 ∷
    x18 ∷ x19 ∷ x20 ∷ x21 ∷ x22 ∷ x23 ∷ x24 ∷ x25 ∷ x26 ∷ x27 ∷ x28 ∷ x29 ∷ x30 ∷ x31 ∷ x32 ∷ x33 ∷ x34 ∷ x35 ∷ x36 ∷
    x37 ∷ []) lanes long f spelled =
    let line : List ℕ = x0 ∷ x1 ∷ x2 ∷ x3 ∷ x4 ∷ x5 ∷ x6 ∷ x7 ∷ x8 ∷ x9 ∷ x10 ∷ x11 ∷ x12 ∷ x13 ∷ x14 ∷ x15 ∷ x16 ∷ x17
    ∷ x18 ∷ x19 ∷ x20 ∷ x21 ∷ x22 ∷ x23 ∷ x24 ∷ x25 ∷ x26 ∷ x27 ∷ x28 ∷ x29 ∷ x30 ∷ x31 ∷ x32 ∷ x33 ∷ x34 ∷ x35 ∷ x36 ∷
    x37 ∷ [] in
    let d0 : is_digit x0 ≡ true = at RESPONSE_DATA line 38 0 refl f (lit< tt) in
    let d1 : is_digit x1 ≡ true = at RESPONSE_DATA line 38 1 refl f (lit< tt) in
    let s2 : x2 ≡ 32 = eqb-true x2 32 (at RESPONSE_DATA line 38 2 refl f (lit< tt)) in
    let s3 : x3 ≡ 68 = eqb-true x3 68 (at RESPONSE_DATA line 38 3 refl f (lit< tt)) in
    let s4 : x4 ≡ 32 = eqb-true x4 32 (at RESPONSE_DATA line 38 4 refl f (lit< tt)) in
    let d5 : is_digit x5 ≡ true = at RESPONSE_DATA line 38 5 refl f (lit< tt) in
    let s6 : x6 ≡ 32 = eqb-true x6 32 (at RESPONSE_DATA line 38 6 refl f (lit< tt)) in
    let d7 : is_digit x7 ≡ true = at RESPONSE_DATA line 38 7 refl f (lit< tt) in
    let s8 : x8 ≡ 32 = eqb-true x8 32 (at RESPONSE_DATA line 38 8 refl f (lit< tt)) in
    let d9 : is_digit x9 ≡ true = at RESPONSE_DATA line 38 9 refl f (lit< tt) in
    let s10 : x10 ≡ 32 = eqb-true x10 32 (at RESPONSE_DATA line 38 10 refl f (lit< tt)) in
    let d11 : is_digit x11 ≡ true = at RESPONSE_DATA line 38 11 refl f (lit< tt) in
    let d12 : is_digit x12 ≡ true = at RESPONSE_DATA line 38 12 refl f (lit< tt) in
    let s13 : x13 ≡ 32 = eqb-true x13 32 (at RESPONSE_DATA line 38 13 refl f (lit< tt)) in
    let d14 : is_digit x14 ≡ true = at RESPONSE_DATA line 38 14 refl f (lit< tt) in
    let d15 : is_digit x15 ≡ true = at RESPONSE_DATA line 38 15 refl f (lit< tt) in
    let s16 : x16 ≡ 32 = eqb-true x16 32 (at RESPONSE_DATA line 38 16 refl f (lit< tt)) in
    let b17 : ((x17 == 48) || (x17 == 49)) ≡ true = at RESPONSE_DATA line 38 17 refl f (lit< tt) in
    let s18 : x18 ≡ 32 = eqb-true x18 32 (at RESPONSE_DATA line 38 18 refl f (lit< tt)) in
    let d19 : is_digit x19 ≡ true = at RESPONSE_DATA line 38 19 refl f (lit< tt) in
    let d20 : is_digit x20 ≡ true = at RESPONSE_DATA line 38 20 refl f (lit< tt) in
    let d21 : is_digit x21 ≡ true = at RESPONSE_DATA line 38 21 refl f (lit< tt) in
    let d22 : is_digit x22 ≡ true = at RESPONSE_DATA line 38 22 refl f (lit< tt) in
    let d23 : is_digit x23 ≡ true = at RESPONSE_DATA line 38 23 refl f (lit< tt) in
    let d24 : is_digit x24 ≡ true = at RESPONSE_DATA line 38 24 refl f (lit< tt) in
    let d25 : is_digit x25 ≡ true = at RESPONSE_DATA line 38 25 refl f (lit< tt) in
    let d26 : is_digit x26 ≡ true = at RESPONSE_DATA line 38 26 refl f (lit< tt) in
    let d27 : is_digit x27 ≡ true = at RESPONSE_DATA line 38 27 refl f (lit< tt) in
    let d28 : is_digit x28 ≡ true = at RESPONSE_DATA line 38 28 refl f (lit< tt) in
    let d29 : is_digit x29 ≡ true = at RESPONSE_DATA line 38 29 refl f (lit< tt) in
    let d30 : is_digit x30 ≡ true = at RESPONSE_DATA line 38 30 refl f (lit< tt) in
    let d31 : is_digit x31 ≡ true = at RESPONSE_DATA line 38 31 refl f (lit< tt) in
    let d32 : is_digit x32 ≡ true = at RESPONSE_DATA line 38 32 refl f (lit< tt) in
    let d33 : is_digit x33 ≡ true = at RESPONSE_DATA line 38 33 refl f (lit< tt) in
    let d34 : is_digit x34 ≡ true = at RESPONSE_DATA line 38 34 refl f (lit< tt) in
    let s35 : x35 ≡ 32 = eqb-true x35 32 (at RESPONSE_DATA line 38 35 refl f (lit< tt)) in
    let b36 : ((x36 == 48) || (x36 == 49)) ≡ true = at RESPONSE_DATA line 38 36 refl f (lit< tt) in
    let s37 : x37 ≡ 10 = eqb-true x37 10 (at RESPONSE_DATA line 38 37 refl f (lit< tt)) in
    let begins : head_at (x0 ∷ x1 ∷ x2 ∷ x3 ∷ x4 ∷ x5 ∷ x6 ∷ x7 ∷ x8 ∷ x9 ∷ x10 ∷ x11 ∷ x12 ∷ x13 ∷ x14 ∷ x15 ∷ x16 ∷
    x17 ∷ x18 ∷ x19 ∷ x20 ∷ x21 ∷ x22 ∷ x23 ∷ x24 ∷ x25 ∷ x26 ∷ x27 ∷ x28 ∷ x29 ∷ x30 ∷ x31 ∷ x32 ∷ x33 ∷ x34 ∷ x35 ∷
    x36 ∷ []) ≡ Ok (
      head_in line,
      x14 ∷ x15 ∷ x16 ∷ x17 ∷ x18 ∷ x19 ∷ x20 ∷ x21 ∷ x22 ∷ x23 ∷ x24 ∷ x25 ∷ x26 ∷ x27 ∷
          x28 ∷ x29 ∷ x30 ∷ x31 ∷ x32 ∷ x33 ∷ x34 ∷ x35 ∷ x36 ∷ [],
    ) = rw (s2, s6, s8, s10, s13) (head x0 x1 x3 x4 x5 x7 x9 x11
    x12 (x14 ∷ x15 ∷ x16 ∷ x17 ∷ x18 ∷ x19 ∷ x20 ∷ x21 ∷ x22 ∷ x23 ∷ x24 ∷ x25 ∷ x26 ∷ x27 ∷ x28 ∷ x29 ∷ x30 ∷ x31 ∷ x32
    ∷ x33 ∷ x34 ∷ x35 ∷ x36 ∷ []) d0 d1 d5 d7 d9 d11 d12) in
    let sunk : field_at 2 (x14 ∷ x15 ∷ x16 ∷ x17 ∷ x18 ∷ x19 ∷ x20 ∷ x21 ∷ x22 ∷ x23 ∷ x24 ∷ x25 ∷ x26 ∷ x27 ∷ x28 ∷ x29
    ∷ x30 ∷ x31 ∷ x32 ∷ x33 ∷ x34 ∷ x35 ∷ x36 ∷ []) ≡ Ok (
      lanes_two line 14 15,
      x17 ∷ x18 ∷ x19 ∷ x20 ∷ x21 ∷ x22 ∷ x23
          ∷ x24 ∷ x25 ∷ x26 ∷ x27 ∷ x28 ∷ x29 ∷ x30 ∷ x31 ∷ x32 ∷ x33 ∷ x34 ∷ x35 ∷ x36 ∷ [],
    ) = rw s16 (two_lanes x14 x15 (x17
    ∷ x18 ∷ x19 ∷ x20 ∷ x21 ∷ x22 ∷ x23 ∷ x24 ∷ x25 ∷ x26 ∷ x27 ∷ x28 ∷ x29 ∷ x30 ∷ x31 ∷ x32 ∷ x33 ∷ x34 ∷ x35 ∷ x36 ∷
    []) d14 d15) in
    let denied : bit_field_at (x17 ∷ x18 ∷ x19 ∷ x20 ∷ x21 ∷ x22 ∷ x23 ∷ x24 ∷ x25 ∷ x26 ∷ x27 ∷ x28 ∷ x29 ∷ x30 ∷ x31 ∷
    x32 ∷ x33 ∷ x34 ∷ x35 ∷ x36 ∷ []) ≡ Ok (
      x17 == 49,
      x19 ∷ x20 ∷ x21 ∷ x22 ∷ x23 ∷ x24 ∷ x25 ∷ x26 ∷ x27 ∷ x28 ∷ x29 ∷
          x30 ∷ x31 ∷ x32 ∷ x33 ∷ x34 ∷ x35 ∷ x36 ∷ [],
    ) = rw s18 (bit_field x17 (x19 ∷ x20 ∷ x21 ∷ x22 ∷ x23 ∷ x24 ∷ x25 ∷ x26
    ∷ x27 ∷ x28 ∷ x29 ∷ x30 ∷ x31 ∷ x32 ∷ x33 ∷ x34 ∷ x35 ∷ x36 ∷ []) b17) in
    let all : AllPass is_digit (x19 ∷ x20 ∷ x21 ∷ x22 ∷ x23 ∷ x24 ∷ x25 ∷ x26 ∷ x27 ∷ x28 ∷ x29 ∷ x30 ∷ x31 ∷ x32 ∷ x33
    ∷ x34 ∷ []) = pass_cons x19 (x20 ∷ x21 ∷ x22 ∷ x23 ∷ x24 ∷ x25 ∷ x26 ∷ x27 ∷ x28 ∷ x29 ∷ x30 ∷ x31 ∷ x32 ∷ x33 ∷ x34
    ∷ []) d19 (pass_cons x20 (x21 ∷ x22 ∷ x23 ∷ x24 ∷ x25 ∷ x26 ∷ x27 ∷ x28 ∷ x29 ∷ x30 ∷ x31 ∷ x32 ∷ x33 ∷ x34 ∷ [])
    d20 (pass_cons x21 (x22 ∷ x23 ∷ x24 ∷ x25 ∷ x26 ∷ x27 ∷ x28 ∷ x29 ∷ x30 ∷ x31 ∷ x32 ∷ x33 ∷ x34 ∷ []) d21 (pass_cons
    x22 (x23 ∷ x24 ∷ x25 ∷ x26 ∷ x27 ∷ x28 ∷ x29 ∷ x30 ∷ x31 ∷ x32 ∷ x33 ∷ x34 ∷ []) d22 (pass_cons x23 (x24 ∷ x25 ∷ x26
    ∷ x27 ∷ x28 ∷ x29 ∷ x30 ∷ x31 ∷ x32 ∷ x33 ∷ x34 ∷ []) d23 (pass_cons x24 (x25 ∷ x26 ∷ x27 ∷ x28 ∷ x29 ∷ x30 ∷ x31 ∷
    x32 ∷ x33 ∷ x34 ∷ []) d24 (pass_cons x25 (x26 ∷ x27 ∷ x28 ∷ x29 ∷ x30 ∷ x31 ∷ x32 ∷ x33 ∷ x34 ∷ []) d25 (pass_cons
    x26 (x27 ∷ x28 ∷ x29 ∷ x30 ∷ x31 ∷ x32 ∷ x33 ∷ x34 ∷ []) d26 (pass_cons x27 (x28 ∷ x29 ∷ x30 ∷ x31 ∷ x32 ∷ x33 ∷ x34
    ∷ []) d27 (pass_cons x28 (x29 ∷ x30 ∷ x31 ∷ x32 ∷ x33 ∷ x34 ∷ []) d28 (pass_cons x29 (x30 ∷ x31 ∷ x32 ∷ x33 ∷ x34 ∷
    []) d29 (pass_cons x30 (x31 ∷ x32 ∷ x33 ∷ x34 ∷ []) d30 (pass_cons x31 (x32 ∷ x33 ∷ x34 ∷ []) d31 (pass_cons x32
    (x33 ∷ x34 ∷ []) d32 (pass_cons x33 (x34 ∷ []) d33 (pass_cons x34 ([]) d34 (pass_none)))))))))))))))) in
    let ends : tail_at w (x19 ∷ x20 ∷ x21 ∷ x22 ∷ x23 ∷ x24 ∷ x25 ∷ x26 ∷ x27 ∷ x28 ∷ x29 ∷ x30 ∷ x31 ∷ x32 ∷ x33 ∷ x34
    ∷ x35 ∷ x36 ∷ []) ≡ Ok (Some lanes, x36 == 49) = rw s35 (data_ends w (x19 ∷ x20 ∷ x21 ∷ x22 ∷ x23 ∷ x24 ∷ x25 ∷ x26
    ∷ x27 ∷ x28 ∷ x29 ∷ x30 ∷ x31 ∷ x32 ∷ x33 ∷ x34 ∷ []) lanes x36 refl (spelled all) b36) in
    (record { named = s3; spaced = s4; same = rw (begins, sunk, denied, ends) refl }, rw s37 refl)
response_data-line w line lanes long f spelled = absurd (omega arith)
