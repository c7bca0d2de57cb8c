-- A line that follows a form of channel C is read as by its places.
use Rattle.std.proofs.Common.{◌≡◌, ℕ, true, List, [], ◌∷◌, ◌++◌}
use Rattle.std.proofs.Common.{length, take, drop, refl, arith, lit<}
use Rattle.std.proofs.lemmas.Bool.{eqb-true}
use Rattle.std.specs.Prelude.{Ok, Some, None, slice_index, ◌==◌, ◌||◌}
use Rattle.std.specs.List.{AllPass}
use Rattle.tl_beat.specs.declared.read.whole.TheConstants.{REPORT, REPORT_DATA}
use Rattle.tl_beat.specs.statement.Digits.{is_digit}
use Rattle.tl_beat.specs.code.Reading.{made_c}
use Rattle.tl_beat.specs.code.Form.{Follow, head_in}
use Rattle.tl_beat.specs.code.FromLeft.{digits_at, field_at, lanes_at, head_at}
use Rattle.tl_beat.specs.code.FromLeft.{tail_at, on_c, line_c_at, body_at, line_at}
use Rattle.tl_beat.proofs.VectorDigits.{pass_cons, pass_none}
use Rattle.tl_beat.proofs.Places.{at, head, none_ends, data_ends, eight, IsRead}

pub report-line : (w : ℕ) (line : List ℕ) (number : ℕ)
    → length line ≡ 27 → Follow REPORT line
    → (AllPass is_digit (take 8 (drop 14 line)) → (rest : List ℕ)
    → digits_at 0 8 (take 8 (drop 14 line) ++ rest) ≡ Ok (number, rest))
    → (IsRead (take 26 line) 67 (line_c_at {w = w} (take 26 line)) (on_c (head_in line).link (made_c (head_in
    line).opcode
    (head_in line).param (head_in line).size (head_in line).source number None (slice_index line 25 == 49)))) × (line_at
    {w = w} line ≡ body_at (take 26 line))
unfolding line_c_at
report-line w (x0 ∷ x1 ∷ x2 ∷ x3 ∷ x4 ∷ x5 ∷ x6 ∷ x7 ∷ x8 ∷ x9 ∷ x10 ∷ x11 ∷ x12 ∷ x13 ∷ x14 ∷ x15 ∷ x16 ∷ x17 ∷ x18 ∷
    x19 ∷ x20 ∷ x21 ∷ x22 ∷ x23 ∷ x24 ∷ x25 ∷ x26 ∷ []) number long f read =
    let line : List ℕ = x0 ∷ x1 ∷ x2 ∷ x3 ∷ x4 ∷ x5 ∷ x6 ∷ x7 ∷ x8 ∷ x9 ∷ x10 ∷ x11 ∷ x12 ∷ x13 ∷ x14 ∷ x15 ∷ x16 ∷ x17
    ∷ x18 ∷ x19 ∷ x20 ∷ x21 ∷ x22 ∷ x23 ∷ x24 ∷ x25 ∷ x26 ∷ [] in
    let d0 : is_digit x0 ≡ true = at REPORT line 27 0 refl f (lit< tt) in
    let d1 : is_digit x1 ≡ true = at REPORT line 27 1 refl f (lit< tt) in
    let s2 : x2 ≡ 32 = eqb-true x2 32 (at REPORT line 27 2 refl f (lit< tt)) in
    let s3 : x3 ≡ 67 = eqb-true x3 67 (at REPORT line 27 3 refl f (lit< tt)) in
    let s4 : x4 ≡ 32 = eqb-true x4 32 (at REPORT line 27 4 refl f (lit< tt)) in
    let d5 : is_digit x5 ≡ true = at REPORT line 27 5 refl f (lit< tt) in
    let s6 : x6 ≡ 32 = eqb-true x6 32 (at REPORT line 27 6 refl f (lit< tt)) in
    let d7 : is_digit x7 ≡ true = at REPORT line 27 7 refl f (lit< tt) in
    let s8 : x8 ≡ 32 = eqb-true x8 32 (at REPORT line 27 8 refl f (lit< tt)) in
    let d9 : is_digit x9 ≡ true = at REPORT line 27 9 refl f (lit< tt) in
    let s10 : x10 ≡ 32 = eqb-true x10 32 (at REPORT line 27 10 refl f (lit< tt)) in
    let d11 : is_digit x11 ≡ true = at REPORT line 27 11 refl f (lit< tt) in
    let d12 : is_digit x12 ≡ true = at REPORT line 27 12 refl f (lit< tt) in
    let s13 : x13 ≡ 32 = eqb-true x13 32 (at REPORT line 27 13 refl f (lit< tt)) in
    let d14 : is_digit x14 ≡ true = at REPORT line 27 14 refl f (lit< tt) in
    let d15 : is_digit x15 ≡ true = at REPORT line 27 15 refl f (lit< tt) in
    let d16 : is_digit x16 ≡ true = at REPORT line 27 16 refl f (lit< tt) in
    let d17 : is_digit x17 ≡ true = at REPORT line 27 17 refl f (lit< tt) in
    let d18 : is_digit x18 ≡ true = at REPORT line 27 18 refl f (lit< tt) in
    let d19 : is_digit x19 ≡ true = at REPORT line 27 19 refl f (lit< tt) in
    let d20 : is_digit x20 ≡ true = at REPORT line 27 20 refl f (lit< tt) in
    let d21 : is_digit x21 ≡ true = at REPORT line 27 21 refl f (lit< tt) in
    let s22 : x22 ≡ 32 = eqb-true x22 32 (at REPORT line 27 22 refl f (lit< tt)) in
    let s23 : x23 ≡ 45 = eqb-true x23 45 (at REPORT line 27 23 refl f (lit< tt)) in
    let s24 : x24 ≡ 32 = eqb-true x24 32 (at REPORT line 27 24 refl f (lit< tt)) in
    let b25 : ((x25 == 48) || (x25 == 49)) ≡ true = at REPORT line 27 25 refl f (lit< tt) in
    let s26 : x26 ≡ 10 = eqb-true x26 10 (at REPORT line 27 26 refl f (lit< tt)) in
    let begins : head_at (x0 ∷ x1 ∷ x2 ∷ x3 ∷ x4 ∷ x5 ∷ x6 ∷ x7 ∷ x8 ∷ x9 ∷ x10 ∷ x11 ∷ x12 ∷ x13 ∷ x14 ∷ x15 ∷ x16 ∷
    x17 ∷ x18 ∷ x19 ∷ x20 ∷ x21 ∷ x22 ∷ x23 ∷ x24 ∷ x25 ∷ []) ≡ Ok (
      head_in line,
      x14 ∷ x15 ∷ x16 ∷ x17 ∷ x18 ∷ x19 ∷
          x20 ∷ x21 ∷ x22 ∷ x23 ∷ x24 ∷ x25 ∷ [],
    ) = rw (s2, s6, s8, s10, s13) (head x0 x1 x3 x4 x5 x7 x9 x11 x12 (x14 ∷ x15 ∷
    x16 ∷ x17 ∷ x18 ∷ x19 ∷ x20 ∷ x21 ∷ x22 ∷ x23 ∷ x24 ∷ x25 ∷ []) d0 d1 d5 d7 d9 d11 d12) in
    let pass : AllPass is_digit (x14 ∷ x15 ∷ x16 ∷ x17 ∷ x18 ∷ x19 ∷ x20 ∷ x21 ∷ []) = pass_cons x14 (x15 ∷ x16 ∷ x17 ∷
    x18 ∷ x19 ∷ x20 ∷ x21 ∷ []) d14 (pass_cons x15 (x16 ∷ x17 ∷ x18 ∷ x19 ∷ x20 ∷ x21 ∷ []) d15 (pass_cons x16 (x17 ∷
    x18 ∷ x19 ∷ x20 ∷ x21 ∷ []) d16 (pass_cons x17 (x18 ∷ x19 ∷ x20 ∷ x21 ∷ []) d17 (pass_cons x18 (x19 ∷ x20 ∷ x21 ∷
    []) d18 (pass_cons x19 (x20 ∷ x21 ∷ []) d19 (pass_cons x20 (x21 ∷ []) d20 (pass_cons x21 ([]) d21 (pass_none))))))))
    in
    let addressed : field_at 8 (x14 ∷ x15 ∷ x16 ∷ x17 ∷ x18 ∷ x19 ∷ x20 ∷ x21 ∷ x22 ∷ x23 ∷ x24 ∷ x25 ∷ []) ≡ Ok
    (number, x23 ∷ x24 ∷ x25 ∷ []) = rw s22 (eight (x14 ∷ x15 ∷ x16 ∷ x17 ∷ x18 ∷ x19 ∷ x20 ∷ x21 ∷ []) (x23 ∷ x24 ∷ x25
    ∷ []) number (read pass (32 ∷ x23 ∷ x24 ∷ x25 ∷ []))) in
    let ends : tail_at w (x23 ∷ x24 ∷ x25 ∷ []) ≡ Ok (None, x25 == 49) = rw (s23, s24) (none_ends w x25 b25) in
    (record { named = s3; spaced = s4; same = rw (begins, addressed, ends) refl }, rw s26 refl)
report-line w line number long f read = absurd (omega arith)

pub report_data-line : (w : ℕ) (line : List ℕ) (number : ℕ) (lanes : List ℕ)
    → length line ≡ 42 → Follow REPORT_DATA line
    → (AllPass is_digit (take 8 (drop 14 line)) → (rest : List ℕ)
    → digits_at 0 8 (take 8 (drop 14 line) ++ rest) ≡ Ok (number, rest))
    → (AllPass is_digit (take 16 (drop 23 line)) → lanes_at [] w (take 16 (drop 23 line)) ≡ Ok lanes)
    → (IsRead (take 41 line) 67 (line_c_at {w = w} (take 41 line)) (on_c (head_in line).link (made_c (head_in
    line).opcode
    (head_in line).param (head_in line).size (head_in line).source number (Some lanes) (slice_index line 40 == 49)))) ×
    (line_at {w = w} line ≡ body_at (take 41 line))
unfolding line_c_at
report_data-line w (x0 ∷ x1 ∷ x2 ∷ x3 ∷ x4 ∷ x5 ∷ x6 ∷ x7 ∷ x8 ∷ x9 ∷ x10 ∷ x11 ∷ x12 ∷ x13 ∷ x14 ∷ x15 ∷ x16 ∷ x17 ∷
    x18 ∷ x19 ∷ x20 ∷ x21 ∷ x22 ∷ x23 ∷ x24 ∷ x25 ∷ x26 ∷ x27 ∷ x28 ∷ x29 ∷ x30 ∷ x31 ∷ x32 ∷ x33 ∷ x34 ∷ x35 ∷ x36 ∷
    x37 ∷ x38 ∷ x39 ∷ x40 ∷ x41 ∷ []) number lanes long f read spelled =
    let line : List ℕ = x0 ∷ x1 ∷ x2 ∷ x3 ∷ x4 ∷ x5 ∷ x6 ∷ x7 ∷ x8 ∷ x9 ∷ x10 ∷ x11 ∷ x12 ∷ x13 ∷ x14 ∷ x15 ∷ x16 ∷ x17
    ∷ x18 ∷ x19 ∷ x20 ∷ x21 ∷ x22 ∷ x23 ∷ x24 ∷ x25 ∷ x26 ∷ x27 ∷ x28 ∷ x29 ∷ x30 ∷ x31 ∷ x32 ∷ x33 ∷ x34 ∷ x35 ∷ x36 ∷
    x37 ∷ x38 ∷ x39 ∷ x40 ∷ x41 ∷ [] in
    let d0 : is_digit x0 ≡ true = at REPORT_DATA line 42 0 refl f (lit< tt) in
    let d1 : is_digit x1 ≡ true = at REPORT_DATA line 42 1 refl f (lit< tt) in
    let s2 : x2 ≡ 32 = eqb-true x2 32 (at REPORT_DATA line 42 2 refl f (lit< tt)) in
    let s3 : x3 ≡ 67 = eqb-true x3 67 (at REPORT_DATA line 42 3 refl f (lit< tt)) in
    let s4 : x4 ≡ 32 = eqb-true x4 32 (at REPORT_DATA line 42 4 refl f (lit< tt)) in
    let d5 : is_digit x5 ≡ true = at REPORT_DATA line 42 5 refl f (lit< tt) in
    let s6 : x6 ≡ 32 = eqb-true x6 32 (at REPORT_DATA line 42 6 refl f (lit< tt)) in
    let d7 : is_digit x7 ≡ true = at REPORT_DATA line 42 7 refl f (lit< tt) in
    let s8 : x8 ≡ 32 = eqb-true x8 32 (at REPORT_DATA line 42 8 refl f (lit< tt)) in
    let d9 : is_digit x9 ≡ true = at REPORT_DATA line 42 9 refl f (lit< tt) in
    let s10 : x10 ≡ 32 = eqb-true x10 32 (at REPORT_DATA line 42 10 refl f (lit< tt)) in
    let d11 : is_digit x11 ≡ true = at REPORT_DATA line 42 11 refl f (lit< tt) in
    let d12 : is_digit x12 ≡ true = at REPORT_DATA line 42 12 refl f (lit< tt) in
    let s13 : x13 ≡ 32 = eqb-true x13 32 (at REPORT_DATA line 42 13 refl f (lit< tt)) in
    let d14 : is_digit x14 ≡ true = at REPORT_DATA line 42 14 refl f (lit< tt) in
    let d15 : is_digit x15 ≡ true = at REPORT_DATA line 42 15 refl f (lit< tt) in
    let d16 : is_digit x16 ≡ true = at REPORT_DATA line 42 16 refl f (lit< tt) in
    let d17 : is_digit x17 ≡ true = at REPORT_DATA line 42 17 refl f (lit< tt) in
    let d18 : is_digit x18 ≡ true = at REPORT_DATA line 42 18 refl f (lit< tt) in
    let d19 : is_digit x19 ≡ true = at REPORT_DATA line 42 19 refl f (lit< tt) in
    let d20 : is_digit x20 ≡ true = at REPORT_DATA line 42 20 refl f (lit< tt) in
    let d21 : is_digit x21 ≡ true = at REPORT_DATA line 42 21 refl f (lit< tt) in
    let s22 : x22 ≡ 32 = eqb-true x22 32 (at REPORT_DATA line 42 22 refl f (lit< tt)) in
    let d23 : is_digit x23 ≡ true = at REPORT_DATA line 42 23 refl f (lit< tt) in
    let d24 : is_digit x24 ≡ true = at REPORT_DATA line 42 24 refl f (lit< tt) in
    let d25 : is_digit x25 ≡ true = at REPORT_DATA line 42 25 refl f (lit< tt) in
    let d26 : is_digit x26 ≡ true = at REPORT_DATA line 42 26 refl f (lit< tt) in
    let d27 : is_digit x27 ≡ true = at REPORT_DATA line 42 27 refl f (lit< tt) in
    let d28 : is_digit x28 ≡ true = at REPORT_DATA line 42 28 refl f (lit< tt) in
    let d29 : is_digit x29 ≡ true = at REPORT_DATA line 42 29 refl f (lit< tt) in
    let d30 : is_digit x30 ≡ true = at REPORT_DATA line 42 30 refl f (lit< tt) in
    let d31 : is_digit x31 ≡ true = at REPORT_DATA line 42 31 refl f (lit< tt) in
    let d32 : is_digit x32 ≡ true = at REPORT_DATA line 42 32 refl f (lit< tt) in
    let d33 : is_digit x33 ≡ true = at REPORT_DATA line 42 33 refl f (lit< tt) in
    let d34 : is_digit x34 ≡ true = at REPORT_DATA line 42 34 refl f (lit< tt) in
    let d35 : is_digit x35 ≡ true = at REPORT_DATA line 42 35 refl f (lit< tt) in
    let d36 : is_digit x36 ≡ true = at REPORT_DATA line 42 36 refl f (lit< tt) in
    let d37 : is_digit x37 ≡ true = at REPORT_DATA line 42 37 refl f (lit< tt) in
    let d38 : is_digit x38 ≡ true = at REPORT_DATA line 42 38 refl f (lit< tt) in
    let s39 : x39 ≡ 32 = eqb-true x39 32 (at REPORT_DATA line 42 39 refl f (lit< tt)) in
    let b40 : ((x40 == 48) || (x40 == 49)) ≡ true = at REPORT_DATA line 42 40 refl f (lit< tt) in
    let s41 : x41 ≡ 10 = eqb-true x41 10 (at REPORT_DATA line 42 41 refl f (lit< tt)) in
    let begins : head_at (x0 ∷ x1 ∷ x2 ∷ x3 ∷ x4 ∷ x5 ∷ x6 ∷ x7 ∷ x8 ∷ x9 ∷ x10 ∷ x11 ∷ x12 ∷ x13 ∷ x14 ∷ x15 ∷ x16 ∷
    x17 ∷ x18 ∷ x19 ∷ x20 ∷ x21 ∷ x22 ∷ x23 ∷ x24 ∷ x25 ∷ x26 ∷ x27 ∷ x28 ∷ x29 ∷ x30 ∷ x31 ∷ x32 ∷ x33 ∷ x34 ∷ x35 ∷
    x36 ∷ x37 ∷ x38 ∷ x39 ∷ x40 ∷ []) ≡ Ok (
      head_in line,
      x14 ∷ x15 ∷ x16 ∷ x17 ∷ x18 ∷ x19 ∷ x20 ∷ x21 ∷ x22 ∷ x23 ∷
          x24 ∷ x25 ∷ x26 ∷ x27 ∷ x28 ∷ x29 ∷ x30 ∷ x31 ∷ x32 ∷ x33 ∷ x34 ∷ x35 ∷ x36 ∷ x37 ∷ x38 ∷ x39 ∷ x40 ∷ [],
    ) = rw (
      s2,
      s6,
      s8,
      s10,
      s13,
    ) (head x0 x1 x3 x4 x5 x7 x9 x11 x12 (x14 ∷ x15 ∷ x16 ∷ x17 ∷ x18 ∷ x19 ∷ x20 ∷ x21 ∷ x22 ∷ x23 ∷
    x24 ∷ x25 ∷ x26 ∷ x27 ∷ x28 ∷ x29 ∷ x30 ∷ x31 ∷ x32 ∷ x33 ∷ x34 ∷ x35 ∷ x36 ∷ x37 ∷ x38 ∷ x39 ∷ x40 ∷ []) d0 d1 d5
    d7 d9 d11 d12) in
    let pass : AllPass is_digit (x14 ∷ x15 ∷ x16 ∷ x17 ∷ x18 ∷ x19 ∷ x20 ∷ x21 ∷ []) = pass_cons x14 (x15 ∷ x16 ∷ x17 ∷
    x18 ∷ x19 ∷ x20 ∷ x21 ∷ []) d14 (pass_cons x15 (x16 ∷ x17 ∷ x18 ∷ x19 ∷ x20 ∷ x21 ∷ []) d15 (pass_cons x16 (x17 ∷
    x18 ∷ x19 ∷ x20 ∷ x21 ∷ []) d16 (pass_cons x17 (x18 ∷ x19 ∷ x20 ∷ x21 ∷ []) d17 (pass_cons x18 (x19 ∷ x20 ∷ x21 ∷
    []) d18 (pass_cons x19 (x20 ∷ x21 ∷ []) d19 (pass_cons x20 (x21 ∷ []) d20 (pass_cons x21 ([]) d21 (pass_none))))))))
    in
    let addressed : field_at 8 (x14 ∷ x15 ∷ x16 ∷ x17 ∷ x18 ∷ x19 ∷ x20 ∷ x21 ∷ x22 ∷ x23 ∷ x24 ∷ x25 ∷ x26 ∷ x27 ∷ x28
    ∷ x29 ∷ x30 ∷ x31 ∷ x32 ∷ x33 ∷ x34 ∷ x35 ∷ x36 ∷ x37 ∷ x38 ∷ x39 ∷ x40 ∷ []) ≡ Ok (
      number,
      x23 ∷ x24 ∷ x25 ∷ x26 ∷
          x27 ∷ x28 ∷ x29 ∷ x30 ∷ x31 ∷ x32 ∷ x33 ∷ x34 ∷ x35 ∷ x36 ∷ x37 ∷ x38 ∷ x39 ∷ x40 ∷ [],
    ) = rw s22 (eight (x14 ∷ x15 ∷
    x16 ∷ x17 ∷ x18 ∷ x19 ∷ x20 ∷ x21 ∷ []) (x23 ∷ x24 ∷ x25 ∷ x26 ∷ x27 ∷ x28 ∷ x29 ∷ x30 ∷ x31 ∷ x32 ∷ x33 ∷ x34 ∷ x35
    ∷ x36 ∷ x37 ∷ x38 ∷ x39 ∷ x40 ∷ []) number (read pass (32 ∷ x23 ∷ x24 ∷ x25 ∷ x26 ∷ x27 ∷ x28 ∷ x29 ∷ x30 ∷ x31 ∷
    x32 ∷ x33 ∷ x34 ∷ x35 ∷ x36 ∷ x37 ∷ x38 ∷ x39 ∷ x40 ∷ []))) in
    let all : AllPass is_digit (x23 ∷ x24 ∷ x25 ∷ x26 ∷ x27 ∷ x28 ∷ x29 ∷ x30 ∷ x31 ∷ x32 ∷ x33 ∷ x34 ∷ x35 ∷ x36 ∷ x37
    ∷ x38 ∷ []) = pass_cons x23 (x24 ∷ x25 ∷ x26 ∷ x27 ∷ x28 ∷ x29 ∷ x30 ∷ x31 ∷ x32 ∷ x33 ∷ x34 ∷ x35 ∷ x36 ∷ x37 ∷ x38
    ∷ []) d23 (pass_cons x24 (x25 ∷ x26 ∷ x27 ∷ x28 ∷ x29 ∷ x30 ∷ x31 ∷ x32 ∷ x33 ∷ x34 ∷ x35 ∷ x36 ∷ x37 ∷ x38 ∷ [])
    d24 (pass_cons x25 (x26 ∷ x27 ∷ x28 ∷ x29 ∷ x30 ∷ x31 ∷ x32 ∷ x33 ∷ x34 ∷ x35 ∷ x36 ∷ x37 ∷ x38 ∷ []) d25 (pass_cons
    x26 (x27 ∷ x28 ∷ x29 ∷ x30 ∷ x31 ∷ x32 ∷ x33 ∷ x34 ∷ x35 ∷ x36 ∷ x37 ∷ x38 ∷ []) d26 (pass_cons x27 (x28 ∷ x29 ∷ x30
    ∷ x31 ∷ x32 ∷ x33 ∷ x34 ∷ x35 ∷ x36 ∷ x37 ∷ x38 ∷ []) d27 (pass_cons x28 (x29 ∷ x30 ∷ x31 ∷ x32 ∷ x33 ∷ x34 ∷ x35 ∷
    x36 ∷ x37 ∷ x38 ∷ []) d28 (pass_cons x29 (x30 ∷ x31 ∷ x32 ∷ x33 ∷ x34 ∷ x35 ∷ x36 ∷ x37 ∷ x38 ∷ []) d29 (pass_cons
    x30 (x31 ∷ x32 ∷ x33 ∷ x34 ∷ x35 ∷ x36 ∷ x37 ∷ x38 ∷ []) d30 (pass_cons x31 (x32 ∷ x33 ∷ x34 ∷ x35 ∷ x36 ∷ x37 ∷ x38
    ∷ []) d31 (pass_cons x32 (x33 ∷ x34 ∷ x35 ∷ x36 ∷ x37 ∷ x38 ∷ []) d32 (pass_cons x33 (x34 ∷ x35 ∷ x36 ∷ x37 ∷ x38 ∷
    []) d33 (pass_cons x34 (x35 ∷ x36 ∷ x37 ∷ x38 ∷ []) d34 (pass_cons x35 (x36 ∷ x37 ∷ x38 ∷ []) d35 (pass_cons x36
    (x37 ∷ x38 ∷ []) d36 (pass_cons x37 (x38 ∷ []) d37 (pass_cons x38 ([]) d38 (pass_none)))))))))))))))) in
    let ends : tail_at w (x23 ∷ x24 ∷ x25 ∷ x26 ∷ x27 ∷ x28 ∷ x29 ∷ x30 ∷ x31 ∷ x32 ∷ x33 ∷ x34 ∷ x35 ∷ x36 ∷ x37 ∷ x38
    ∷ x39 ∷ x40 ∷ []) ≡ Ok (Some lanes, x40 == 49) = rw s39 (data_ends w (x23 ∷ x24 ∷ x25 ∷ x26 ∷ x27 ∷ x28 ∷ x29 ∷ x30
    ∷ x31 ∷ x32 ∷ x33 ∷ x34 ∷ x35 ∷ x36 ∷ x37 ∷ x38 ∷ []) lanes x40 refl (spelled all) b40) in
    (record { named = s3; spaced = s4; same = rw (begins, addressed, ends) refl }, rw s41 refl)
report_data-line w line number lanes long f read spelled = absurd (omega arith)
