-- Sixteen digits, read by halves.
use Rattle.std.proofs.Common.{◌≡◌, ℕ, zero, suc, ◌+◌, ◌*◌, ◌^◌, Bool, true, false, cond, List, [], ◌∷◌, ◌++◌, refl}
use Rattle.std.proofs.Common.{sym, ap, ◌∙◌, arith}
use Rattle.std.specs.Prelude.{Result, Ok, Err, Some, None}
use Rattle.tl_beat.specs.code.FromLeft.{digits_at}
use Rattle.tl_beat.specs.code.Reading.{◌>>=◌}
use Rattle.tl_beat.specs.statement.Digits.{is_digit, digit_value}
use Rattle.tl_beat.specs.statement.Line.{field}
use Rattle.tl_beat.specs.declared.fault.LineFault.{LineFault}
use Rattle.std.proofs.Math.Nat.{pow-suc}
use Rattle.tl_beat.specs.code.FromLeft.{value_or_fault}

abbrev raised : ℕ → ℕ × List ℕ → Result (ℕ × List ℕ) LineFault
raised above x = Ok (above + x.0, x.1)

-- digits behind a number are those behind a smaller one, raised
digits-raised : (n above m : ℕ) (bytes : List ℕ)
    → digits_at (above + m) n bytes ≡ (digits_at m n bytes >>= raised (above * 16 ^ n))
unfolding digits_at
digits-raised zero above m bytes =
    let same : above + m ≡ above * 16 ^ 0 + m = omega arith in
    rw same refl
digits-raised (suc n) above m [] = refl
digits-raised (suc n) above m (c ∷ cs) =
    go (is_digit c) (digits-raised n (16 * above) (16 * m + digit_value c) cs)
  where
    value : ℕ
    value = digit_value c

    more : 16 * (above + m) + value ≡ 16 * above + (16 * m + value)
    more = omega arith

    high : 16 * above * 16 ^ n ≡ above * 16 ^ suc n
    high = rw pow-suc (omega arith)

    go : (b : Bool)
        → digits_at (16 * above + (16 * m + value)) n cs
        ≡ (digits_at (16 * m + value) n cs >>= raised (16 * above * 16 ^ n))
        → (value_or_fault (cond b (Some value) None) cs >>= λ d. digits_at (16 * (above + m) + d.0) n d.1)
        ≡ ((value_or_fault (cond b (Some value) None) cs >>= λ d. digits_at (16 * m + d.0) n d.1) >>=
        raised (above * 16 ^ suc n))
    go true rest = ap (λ (k : ℕ). digits_at k n cs) more ∙ rest
        ∙ ap (λ (k : ℕ). digits_at (16 * m + value) n cs >>= raised k) high
    go false rest = refl

-- so many digits, and then so many
digits-halves : (j k m : ℕ) (bytes : List ℕ)
    → digits_at m (j + k) bytes ≡ (digits_at m j bytes >>= λ x. digits_at x.0 k x.1)
unfolding digits_at
digits-halves zero k m bytes = let same : 0 + k ≡ k = omega arith in rw same refl
digits-halves (suc j) k m [] = let same : suc j + k ≡ suc (j + k) = omega arith in rw same refl
digits-halves (suc j) k m (c ∷ cs) =
    let same : suc j + k ≡ suc (j + k) = omega arith in
    rw same (go (is_digit c) (digits-halves j k (16 * m + digit_value c) cs))
  where
    value : ℕ
    value = digit_value c

    go : (b : Bool)
        → digits_at (16 * m + value) (j + k) cs ≡ (digits_at (16 * m + value) j cs >>= λ x. digits_at x.0 k x.1)
        → (value_or_fault (cond b (Some value) None) cs >>= λ d. digits_at (16 * m + d.0) (j + k) d.1)
        ≡ ((value_or_fault (cond b (Some value) None) cs >>= λ d. digits_at (16 * m + d.0) j d.1) >>=
        λ x. digits_at x.0 k x.1)
    go true rest = rest
    go false rest = refl

-- sixteen digits, by halves
pub sixteen-read : (bytes middle rest : List ℕ) (high low number : ℕ) → digits_at 0 8 bytes ≡ Ok (high, middle)
    → digits_at 0 8 middle ≡ Ok (low, rest) → number ≡ 16 ^ 8 * high + low → digits_at 0 16 bytes ≡ Ok (number, rest)
sixteen-read bytes middle rest high low number first second is =
    let same : high + 0 ≡ high = omega arith in
    let value : high * 16 ^ 8 + low ≡ number = omega arith in
    digits-halves 8 8 0 bytes ∙ rw first (ap (λ (k : ℕ). digits_at k 8 middle) (sym same) ∙ digits-raised 8 high 0
    middle
    ∙ rw (second, value) refl)

pub sixteen-first : (bytes : List ℕ) (fault : LineFault) → digits_at 0 8 bytes ≡ Err fault
    → digits_at 0 16 bytes ≡ Err fault
sixteen-first bytes fault first = digits-halves 8 8 0 bytes ∙ rw first refl

pub sixteen-second : (bytes middle : List ℕ) (high : ℕ) (fault : LineFault) → digits_at 0 8 bytes ≡ Ok (high, middle)
    → digits_at 0 8 middle ≡ Err fault → digits_at 0 16 bytes ≡ Err fault
sixteen-second bytes middle high fault first second =
    let same : high + 0 ≡ high = omega arith in
    digits-halves 8 8 0 bytes ∙ rw first (ap (λ (k : ℕ). digits_at k 8 middle) (sym same) ∙ digits-raised 8 high 0
    middle
    ∙ rw second refl)

-- eight digits at their places
pub eight-places : (bytes field rest : List ℕ) (number : ℕ) → bytes ≡ field ++ rest
    → ((more : List ℕ) → digits_at 0 8 (field ++ more) ≡ Ok (number, more)) → digits_at 0 8 bytes ≡ Ok (number, rest)
eight-places bytes field rest number whole read = ap (digits_at 0 8) whole ∙ read rest
