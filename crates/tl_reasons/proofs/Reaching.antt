-- The front of a line, as an input is read.
use Rattle.std.proofs.Common.{◌≡◌, ◌∙◌, ◌+◌, ◌<◌, ◌≤◌, ℕ, zero, suc, Bool, true, false, List, [], ◌∷◌, ◌++◌, refl, ap, sym, arith, append_assoc}
use Rattle.std.proofs.Common.{eqb-true, leb-false, leb-true, length, length-append, get_or, take}
use Rattle.std.proofs.lemmas.List.{append-nil, take_all, take_at}
use Rattle.std.proofs.lemmas.List.Elements.{All-head, All-push, All-tail}
use Rattle.std.specs.Prelude.{◌==◌, ◌-◌, ◌||◌, nat_le}
use Rattle.tl_reasons.specs.code.Reaching.{HasCome, behind}
use Rattle.tl_reasons.specs.statement.Fronts.{front_after, line_after}
use Rattle.tl_lines.specs.statement.Lines.{LacksLf, before_first, lines_of}

-- the first line of an input
abbrev first : List ℕ → List ℕ
first bytes = line_after 0 bytes

nth-before : (n b : ℕ) (lines : List (List ℕ)) → get_or (before_first b lines) (suc n) [] ≡ get_or lines (suc n) []
nth-before n b [] = refl
nth-before n b (line ∷ lines) = refl

-- a line is the first of what comes behind those before it
line-behind : (n : ℕ) (bytes : List ℕ) → line_after n bytes ≡ first (behind n bytes)
unfolding lines_of behind
line-behind zero bytes = refl
line-behind (suc n) [] = refl
line-behind (suc n) (b ∷ bytes) = go (b == 10) refl (line-behind n bytes) (line-behind (suc n) bytes)
  where
    go : (q : Bool) → (b == 10) ≡ q → line_after n bytes ≡ first (behind n bytes)
        → line_after (suc n) bytes ≡ first (behind (suc n) bytes)
        → line_after (suc n) (b ∷ bytes) ≡ first (behind (suc n) (b ∷ bytes))
    go true is ended on = rw is ended
    go false is ended on = rw is (nth-before n b (lines_of bytes) ∙ on)

first-before : (b : ℕ) (lines : List (List ℕ)) → get_or (before_first b lines) 0 [] ≡ b ∷ get_or lines 0 []
first-before b [] = refl
first-before b (line ∷ lines) = refl

-- bytes without LF begin the first line
first-lacks : (front more : List ℕ) → LacksLf front → first (front ++ more) ≡ front ++ first more
unfolding lines_of
first-lacks [] more lacks = refl
first-lacks (b ∷ front) more lacks =
    rw (All-head (λ b. (b == 10) ≡ false) b front lacks)
    (first-before b (lines_of (front ++ more))
    ∙ ap (λ (line : List ℕ). b ∷ line) (first-lacks front more (All-tail (λ b. (b == 10) ≡ false) b front lacks)))

first-lf : (more : List ℕ) → first (10 ∷ more) ≡ 10 ∷ []
unfolding lines_of
first-lf more = refl

first-nil : first [] ≡ []
unfolding lines_of
first-nil = refl

lacks-more : (front : List ℕ) (b : ℕ) → LacksLf front → (b == 10) ≡ false → LacksLf (front ++ b ∷ [])
lacks-more front b lacks is = All-push (λ b. (b == 10) ≡ false) front b lacks is

-- ---- one byte after the other

pub begun : (good : ℕ) → HasCome good good [] false []
begun good = ((λ i d lt. absurd (omega arith)), omega arith, (λ some. refl), λ rest. refl)

module _ (good before : ℕ) (front read : List ℕ) (b : ℕ) where
  -- all that is wanted has come
  pub whole-stays : HasCome good before front true read → HasCome good before front true (read ++ b ∷ [])
  whole-stays is = λ rest. rw (append_assoc read (b ∷ []) rest) (is (b ∷ rest))

  -- a line before it ends
  pub one-ended : (next : ℕ) → 0 < before → next ≡ before - 1 → (b == 10) ≡ true → HasCome good before front false read
      → HasCome good next front false (read ++ b ∷ [])
  unfolding behind
  one-ended next some one lf (lacks, short, none, comes) =
      let left : before ≡ suc next = omega (arith, some, one) in (
        lacks,
        short,
        (λ _. none some),
        λ rest.
            rw (append_assoc read (b ∷ []) rest, none some) (comes (b ∷ rest) ∙ rw (left, none some, lf) refl),
      )

  -- a byte of a line before it
  pub one-passed : 0 < before → (b == 10) ≡ false → HasCome good before front false read
      → HasCome good before front false (read ++ b ∷ [])
  unfolding behind
  one-passed some other (lacks, short, none, comes) =
      let left : before ≡ suc (before - 1) = omega (arith, some) in (
        lacks,
        short,
        none,
        λ rest.
            rw (append_assoc read (b ∷ []) rest) (comes (b ∷ rest) ∙ rw (none some) (passed (before - 1) rest left)),
      )
    where
      passed : (k : ℕ) (rest : List ℕ) → before ≡ suc k → behind before (b ∷ rest) ≡ behind before rest
      passed k rest left = rw (left, other) refl

-- one more byte of the line
pub one-more : (good : ℕ) (front read : List ℕ) (b n : ℕ) (q : Bool) → n ≡ length front + 1
    → q ≡ ((b == 10) || nat_le 257 n) → HasCome good 0 front false read
    → HasCome good 0 (front ++ b ∷ []) q (read ++ b ∷ [])
unfolding behind
one-more good front read b n q count is (lacks, short, none, comes) = go (b == 10) refl (nat_le 257 n) refl
  where
    long : length (front ++ b ∷ []) ≡ length front + 1
    long = length-append front (b ∷ [])

    so : (rest : List ℕ) → behind good ((read ++ b ∷ []) ++ rest) ≡ (front ++ b ∷ []) ++ rest
    so rest = rw (append_assoc read (b ∷ []) rest, append_assoc front (b ∷ []) rest) (comes (b ∷ rest))

    line : (rest : List ℕ) → line_after good ((read ++ b ∷ []) ++ rest) ≡ first ((front ++ b ∷ []) ++ rest)
    line rest = line-behind good ((read ++ b ∷ []) ++ rest) ∙ ap first (so rest)

    go : (e : Bool) → (b == 10) ≡ e → (f : Bool) → nat_le 257 n ≡ f → HasCome good 0 (front ++ b ∷ []) q (read ++ b ∷ [])
    go true lf f many = rw (is, lf) (λ rest.
        ap (take 257) (line rest ∙ ap first (append_assoc front (b ∷ []) rest) ∙ first-lacks front (b ∷ rest) lacks
        ∙ ap (λ (l : List ℕ). front ++ l) (ended rest lf))
        ∙ take_all 257 (front ++ b ∷ []) (omega (arith, long, short)))
      where
        ended : (rest : List ℕ) → (b == 10) ≡ true → first (b ∷ rest) ≡ b ∷ []
        ended rest is = let ten : b ≡ 10 = eqb-true b 10 is in rw ten (first-lf rest)
    go false lf true many = rw (is, lf, many) (λ rest.
        ap (take 257) (line rest ∙ first-lacks (front ++ b ∷ []) rest (lacks-more front b lacks lf))
        ∙ take_at (front ++ b ∷ []) (first rest) 257 (let le : 257 ≤ n = leb-true 257 n many in omega (arith, long, short, le, count)))
    go false lf false many = rw (is, lf, many)
        (lacks-more front b lacks lf, (let lt : n < 257 = leb-false 257 n many in omega (arith, long, count, lt)), (λ some. absurd (omega (arith, some))), so)

-- ---- the end of the input

pub has-come : (good before : ℕ) (front read : List ℕ) (q : Bool) → HasCome good before front q read
    → front ≡ front_after good read
unfolding behind
has-come good before front read true whole =
    sym (ap (front_after good) (sym (append-nil read)) ∙ whole [])
has-come good before front read false (lacks, short, none, comes) =
    sym (ap (take 257) (line-behind good read ∙ ap first (ap (behind good) (sym (append-nil read)) ∙ comes [])
    ∙ ended before none) ∙ take_all 257 front (omega (arith, short)))
  where
    ended : (before : ℕ) → (0 < before → front ≡ []) → first (behind before (front ++ [])) ≡ front
    ended zero none = first-lacks front [] lacks ∙ (ap (λ (l : List ℕ). front ++ l) first-nil ∙ append-nil front)
    ended (suc n) none = let no : front ≡ [] = none (omega arith) in rw no first-nil
