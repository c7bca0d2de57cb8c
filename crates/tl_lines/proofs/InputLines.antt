-- The lines of an input, from its front.
use Rattle.std.proofs.Common.{◌≡◌, ◌<◌, ◌≤◌, ℕ, ◌+◌, List, [], ◌∷◌, ◌++◌, length, false, refl, ap, arith, inl, inr}
use Rattle.std.proofs.Common.{length-append, ◌-◌, lt-ltb}
use Rattle.std.specs.Prelude.{◌==◌}
use Rattle.std.proofs.lemmas.List.{append-nil}
use Rattle.std.proofs.lemmas.List.Elements.{All-head, All-tail}
use Rattle.std.proofs.lemmas.List.Sums.{sum_by-append}
use Rattle.std.specs.Io.BufRead.{ends_with_byte}
use Rattle.tl_lines.specs.statement.Lines.{lines_of, before_first, LacksLf, IsLine, IsOpen, ended_lines}

head_is : (b : ℕ) (bs : List ℕ) → LacksLf (b ∷ bs) → (b == 10) ≡ false
head_is b bs lacks = All-head (λ b. (b == 10) ≡ false) b bs lacks

tail_is : (b : ℕ) (bs : List ℕ) → LacksLf (b ∷ bs) → LacksLf bs
tail_is b bs lacks = All-tail (λ b. (b == 10) ≡ false) b bs lacks

-- a line, and what follows it
pub lines_of-line : (front more : List ℕ) → LacksLf front
    → lines_of ((front ++ 10 ∷ []) ++ more) ≡ (front ++ 10 ∷ []) ∷ lines_of more
unfolding lines_of
lines_of-line [] more lacks = refl
lines_of-line (b ∷ bs) more lacks =
    rw (head_is b bs lacks) (ap (before_first b) (lines_of-line bs more (tail_is b bs lacks)))

-- a beginning without LF stands in the first line
pub lines_of-begun : (front more : List ℕ) → LacksLf front → 0 < length front
    → (tail : List ℕ) × (later : List (List ℕ)) × (lines_of (front ++ more) ≡ (front ++ tail) ∷ later)
unfolding lines_of
lines_of-begun [] more lacks some = absurd (omega arith)
lines_of-begun (b ∷ []) more lacks some = rw (head_is b [] lacks) (first b (lines_of more))
  where
    first : (b : ℕ) (lines : List (List ℕ)) → (tail : List ℕ) × (later : List (List ℕ))
        × (before_first b lines ≡ ((b ∷ []) ++ tail) ∷ later)
    first b [] = ([], [], refl)
    first b (line ∷ lines) = (line, lines, refl)
lines_of-begun (b ∷ c ∷ bs) more lacks some =
    let rest = lines_of-begun (c ∷ bs) more (tail_is b (c ∷ bs) lacks) (omega arith) in
    rw (head_is b (c ∷ bs) lacks) (rest.0, rest.1, ap (before_first b) rest.2)

-- a rest without LF is one line
pub lines_of-rest : (b : ℕ) (rest : List ℕ) → LacksLf (b ∷ rest) → lines_of (b ∷ rest) ≡ (b ∷ rest) ∷ []
unfolding lines_of
lines_of-rest b [] lacks = rw (head_is b [] lacks) refl
lines_of-rest b (c ∷ rest) lacks =
    rw (head_is b (c ∷ rest) lacks) (ap (before_first b) (lines_of-rest c rest (tail_is b (c ∷ rest) lacks)))

-- it has no LF at its end
pub ends-lacks : (bytes : List ℕ) → LacksLf bytes → ends_with_byte 10 bytes ≡ false
ends-lacks [] lacks = refl
ends-lacks (b ∷ bytes) lacks =
    rw (lt-ltb 0 (length (b ∷ bytes)) (omega arith)) (lacks (length (b ∷ bytes) - 1) 0 (omega arith))

-- 256 bytes without LF begin a line that is open
pub open_from : (front tail : List ℕ) → LacksLf front → 256 ≤ length front → IsOpen (front ++ tail)
open_from front [] lacks long = inl (rw append-nil (ends-lacks front lacks))
open_from front (b ∷ tail) lacks long = inr (omega (arith, length-append front (b ∷ tail)))

pub ended_lines-append : (xs ys : List ℕ) → ended_lines (xs ++ ys) ≡ ended_lines xs + ended_lines ys
ended_lines-append xs ys = sum_by-append _ xs ys

pub ended_lines-lacks : (bytes : List ℕ) → LacksLf bytes → ended_lines bytes ≡ 0
ended_lines-lacks [] lacks = refl
ended_lines-lacks (b ∷ bytes) lacks = rw (head_is b bytes lacks) (ended_lines-lacks bytes (tail_is b bytes lacks))

pub ended_lines-line : (line : List ℕ) → IsLine line → ended_lines line ≡ 1
ended_lines-line line (front, lacks, is) = rw (is, ended_lines-append front (10 ∷ []), ended_lines-lacks front lacks)
    refl
