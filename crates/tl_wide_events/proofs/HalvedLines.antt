-- A commit's line with the higher half of its address put back.
use Rattle.std.proofs.Common.{◌≡◌, ◌≤◌, ◌<◌, ℕ, zero, suc, ◌+◌, ◌*◌, ◌/◌, ◌%◌, ◌^◌, true, List, [], ◌∷◌, ◌++◌, length}
use Rattle.std.proofs.Common.{take, drop, refl, sym, subst, ap, ap₂, ◌∙◌, arith, lit<, length-append}
use Rattle.std.proofs.lemmas.List.{take-append-drop}
use Rattle.std.proofs.Math.Nat.{pow-le-pow_right}
use Rattle.std.specs.Prelude.{Ok, Result, ◌==◌}
use Rattle.tl_beat.proofs.FieldsAt.{digits_at-end}
use Rattle.tl_beat.proofs.SpelledDigits.{length-digits, number_in-digits, number_in-ok}
use Rattle.tl_beat.specs.code.Reading.{number_in}
use Rattle.tl_beat.specs.declared.beat.Link.{Link}
use Rattle.tl_beat.specs.declared.fault.LineFault.{LineFault}
use Rattle.tl_beat.specs.statement.Digits.{digits}
use Rattle.tl_beat.specs.statement.Line.{spaced}
use Rattle.tl_events.specs.code.FromLeft.{last_number_at}
use Rattle.tl_events.specs.declared.commit.Commit.{Commit}
use Rattle.tl_events.specs.declared.commit.Commit.TheVariants as commit
use Rattle.tl_events.specs.declared.commit.Piece.{Piece}
use Rattle.tl_events.specs.statement.CommitLine.{IsCommit, IsPiece, SpellsCommit, commit_line, value_digits}
use Rattle.tl_rules.specs.statement.Legality.{is_aligned}
use Rattle.tl_wide.proofs.Digits.{high-digits}
use Rattle.tl_wide_events.specs.code.Halves.{widened, widened_piece}
use Rattle.tl_wide_events.specs.declared.commit.WideCommit.{WideCommit}
use Rattle.tl_wide_events.specs.declared.commit.WideCommit.TheVariants as wide
use Rattle.tl_wide_events.specs.declared.commit.WidePiece.{WidePiece}
use Rattle.tl_wide_events.specs.statement.Narrowed.{address_of, commit_at}
use Rattle.tl_wide_events.specs.statement.WideCommitLine.{IsWideCommit, IsWidePiece, SpellsWideCommit, wide_commit_line}

-- ---- pieces

same-place : (size a b : ℕ) → size ≤ 3 → a % 8 ≡ b % 8 → a % 2 ^ size ≡ b % 2 ^ size
same-place zero a b small same = omega (arith, same)
same-place (suc zero) a b small same = omega (arith, same)
same-place (suc (suc zero)) a b small same = omega (arith, same)
same-place (suc (suc (suc zero))) a b small same = same
same-place (suc (suc (suc (suc n)))) a b small same = absurd (omega (arith, small))

-- an address at the same place in its eight bytes is aligned too
same-aligned : (size a b : ℕ) → size ≤ 3 → a % 8 ≡ b % 8 → is_aligned a size ≡ true → is_aligned b size ≡ true
same-aligned size a b small same is = ap (λ (n : ℕ). n == 0) (sym (same-place size a b small same)) ∙ is

piece-widened : (piece : Piece) (high : ℕ) → high < 2 ^ 32 → IsPiece piece → IsWidePiece (widened_piece piece high)
piece-widened piece high lt is = record {
  small = is.small;
  in_range = omega (arith, lt, is.in_range);
  aligned = same-aligned piece.size piece.address (2 ^ 32 * high + piece.address) is.small (omega arith) is.aligned;
}

commit-widened : (x : Commit) (high : ℕ) → high < 2 ^ 32 → IsCommit x → IsWideCommit (widened x high)
commit-widened (commit.Store piece value) high lt is = (piece-widened piece high lt is.0, is.1)
commit-widened (commit.Load piece value) high lt is = (piece-widened piece high lt is.0, is.1)
commit-widened (commit.Begin piece) high lt is = piece-widened piece high lt is

abbrev piece_at : WidePiece → ℕ → Piece
piece_at piece address = record { size = piece.size; address = address }

piece-narrowed : (piece : WidePiece) (address : ℕ) → address < 2 ^ 32 → address % 64 ≡ piece.address % 64
    → IsWidePiece piece → IsPiece (piece_at piece address)
piece-narrowed piece address lt same is = record {
  small = is.small;
  in_range = lt;
  aligned = same-aligned piece.size piece.address address is.small (omega (arith, same)) is.aligned;
}

-- a commit at an address that is as far in its block
pub commit-narrowed : (x : WideCommit) (address : ℕ) → address < 2 ^ 32 → address % 64 ≡ address_of x % 64
    → IsWideCommit x → IsCommit (commit_at x address)
commit-narrowed (wide.Store piece value) address lt same is = (piece-narrowed piece address lt same is.0, is.1)
commit-narrowed (wide.Load piece value) address lt same is = (piece-narrowed piece address lt same is.0, is.1)
commit-narrowed (wide.Begin piece) address lt same is = piece-narrowed piece address lt same is

-- ---- lines

-- the line with these digits after its first seven bytes
abbrev joined : List ℕ → List ℕ → List ℕ
joined high short = take 7 short ++ (high ++ drop 7 short)

-- the line without the eight bytes there
abbrev pub cut : List ℕ → List ℕ
cut line = take 7 line ++ drop 15 line

-- the bytes that were left out
restored : (line : List ℕ) → 7 ≤ length line → line ≡ joined (take 8 (drop 7 line)) (cut line)
restored (x0 ∷ x1 ∷ x2 ∷ x3 ∷ x4 ∷ x5 ∷ x6 ∷ rest) long =
    ap (λ (ys : List ℕ). x0 ∷ x1 ∷ x2 ∷ x3 ∷ x4 ∷ x5 ∷ x6 ∷ ys) (sym (take-append-drop 8 rest))
restored line long = absurd (omega (arith, long))

-- the digits of halves
address-digits : (high low : ℕ) → low < 2 ^ 32 → digits 8 high ++ digits 8 low ≡ digits 16 (2 ^ 32 * high + low)
address-digits high low lt =
    let above : (2 ^ 32 * high + low) / 2 ^ 32 ≡ high = omega (arith, lt) in
    let below : (2 ^ 32 * high + low) % 2 ^ 32 ≡ low = omega (arith, lt) in
    ap₂ (λ (a b : ℕ). digits 8 a ++ digits 8 b) (sym above) (sym below)
    ∙ high-digits 16 (2 ^ 32 * high + low) (omega arith)

-- the line with the digits of the higher half
whole : (link : Link) (x : Commit) (high : ℕ) → IsCommit x
    → joined (digits 8 high) (commit_line link x) ≡ wide_commit_line link (widened x high)
unfolding spaced digits
whole link (commit.Store piece value) high is =
    ap (λ (a : List ℕ). spaced (digits 2 link.0 ∷ (83 ∷ []) ∷ digits 1 piece.size ∷ a
    ∷ digits (value_digits piece.size) value ∷ []) ++ 10 ∷ []) (address-digits high piece.address is.0.in_range)
whole link (commit.Load piece value) high is =
    ap (λ (a : List ℕ). spaced (digits 2 link.0 ∷ (76 ∷ []) ∷ digits 1 piece.size ∷ a
    ∷ digits (value_digits piece.size) value ∷ []) ++ 10 ∷ []) (address-digits high piece.address is.0.in_range)
whole link (commit.Begin piece) high is =
    ap (λ (a : List ℕ). spaced (digits 2 link.0 ∷ (73 ∷ []) ∷ digits 1 piece.size ∷ a ∷ []) ++ 10 ∷ [])
    (address-digits high piece.address is.in_range)

-- a shorter line and the digits that were left out spell a commit
pub halves-spell : (line : List ℕ) (link : Link) (x : Commit) (high : ℕ) → 7 ≤ length line
    → number_in 8 (take 8 (drop 7 line)) ≡ Ok high → SpellsCommit (cut line) link x
    → SpellsWideCommit line link (widened x high)
halves-spell line link x high long read s =
    let half = number_in-ok 8 (take 8 (drop 7 line)) high read in
    record {
      is_line = restored line long ∙ ap₂ joined half.spelled s.is_line ∙ whole link x high s.is_commit;
      link_in_range = s.link_in_range;
      is_commit = commit-widened x high (omega (arith, half.fits)) s.is_commit;
    }

-- ---- what is spelled

-- the halves of a commit
abbrev pub low_half : WideCommit → Commit
low_half x = commit_at x (address_of x % 2 ^ 32)

abbrev pub high_half : WideCommit → ℕ
high_half x = address_of x / 2 ^ 32

both-halves : (a : ℕ) → 2 ^ 32 * (a / 2 ^ 32) + a % 2 ^ 32 ≡ a
both-halves a = omega arith

abbrev wide_piece : ℕ → ℕ → WidePiece
wide_piece size address = record { size = size; address = address }

whole-again : (x : WideCommit) → widened (low_half x) (high_half x) ≡ x
whole-again (wide.Store piece value) =
    ap (λ (a : ℕ). wide.Store (wide_piece piece.size a) value) (both-halves piece.address)
whole-again (wide.Load piece value) =
    ap (λ (a : ℕ). wide.Load (wide_piece piece.size a) value) (both-halves piece.address)
whole-again (wide.Begin piece) = ap (λ (a : ℕ). wide.Begin (wide_piece piece.size a)) (both-halves piece.address)

in-range : (x : WideCommit) → IsWideCommit x → address_of x < 2 ^ 64
in-range (wide.Store piece value) is = is.0.in_range
in-range (wide.Load piece value) is = is.0.in_range
in-range (wide.Begin piece) is = is.in_range

low-valid : (x : WideCommit) → IsWideCommit x → IsCommit (low_half x)
low-valid x is = commit-narrowed x (address_of x % 2 ^ 32) (omega arith) (omega arith) is

-- what is left out of the line of a commit, and what is left
cut-again : (link : Link) (x : Commit) (high : ℕ) → cut (joined (digits 8 high) (commit_line link x)) ≡ commit_line link x
unfolding spaced digits
cut-again link (commit.Store piece value) high = refl
cut-again link (commit.Load piece value) high = refl
cut-again link (commit.Begin piece) high = refl

half-again : (link : Link) (x : Commit) (high : ℕ)
    → take 8 (drop 7 (joined (digits 8 high) (commit_line link x))) ≡ digits 8 high
unfolding spaced digits
half-again link (commit.Store piece value) high = refl
half-again link (commit.Load piece value) high = refl
half-again link (commit.Begin piece) high = refl

-- the parts of a line that spells a commit
pub record Halved (line : List ℕ) (link : Link) (x : WideCommit) : Type 0 where
  pub high : number_in 8 (take 8 (drop 7 line)) ≡ Ok (high_half x)
  pub low : SpellsCommit (cut line) link (low_half x)
  pub both : widened (low_half x) (high_half x) ≡ x
  pub long : 24 ≤ length line
  pub short : length line ≤ 41

value-long : (size value : ℕ) → size ≤ 3 → length (digits (value_digits size) value ++ 10 ∷ []) ≤ 17
value-long size value small =
    let few = pow-le-pow_right {n = 2} (lit< tt) {i = size} {j = 3} small in
    omega (
      arith,
      few,
      length-append (digits (value_digits size) value) (10 ∷ []),
      length-digits (value_digits size) value,
    )

record FewBytes (link : Link) (x : WideCommit) : Type 0 where
  least : 24 ≤ length (wide_commit_line link x)
  most : length (wide_commit_line link x) ≤ 41

few-bytes : (link : Link) (x : WideCommit) → IsWideCommit x → FewBytes link x
unfolding spaced digits
few-bytes link (wide.Store piece value) is =
    let few = value-long piece.size value is.0.small in record { least = omega (arith, few); most = omega (arith, few) }
few-bytes link (wide.Load piece value) is =
    let few = value-long piece.size value is.0.small in record { least = omega (arith, few); most = omega (arith, few) }
few-bytes link (wide.Begin piece) is = record { least = omega arith; most = omega arith }

pub halved : (line : List ℕ) (link : Link) (x : WideCommit) → SpellsWideCommit line link x → Halved line link x
halved line link x s =
    let is = low-valid x s.is_commit in
    let parts : line ≡ joined (digits 8 (high_half x)) (commit_line link (low_half x)) =
    s.is_line ∙ ap (wide_commit_line link) (sym (whole-again x)) ∙ sym (whole link (low_half x) (high_half x) is) in
    let bytes = few-bytes link x s.is_commit in
    let count = ap (λ (l : List ℕ). length l) s.is_line in
    record {
      high = ap (λ (l : List ℕ). number_in 8 (take 8 (drop 7 l))) parts
          ∙ ap (number_in 8) (half-again link (low_half x) (high_half x))
          ∙ number_in-digits 8 (high_half x) (omega (arith, in-range x s.is_commit));
      low = record {
        is_line = ap cut parts ∙ cut-again link (low_half x) (high_half x);
        link_in_range = s.link_in_range;
        is_commit = is;
      };
      both = whole-again x;
      long = omega (arith, count, bytes.least);
      short = omega (arith, count, bytes.most);
    }

-- ---- what is read of a line

-- a higher half that was read, and one that is spelled
pub half-read : (line : List ℕ) (r : Result ℕ LineFault) (n : ℕ) → r ≡ last_number_at 8 (take 8 (drop 7 line))
    → r ≡ Ok n → number_in 8 (take 8 (drop 7 line)) ≡ Ok n
half-read line r n is read = sym (digits_at-end 8 (take 8 (drop 7 line))) ∙ sym is ∙ read

pub half-spelled : (line : List ℕ) (link : Link) (x : WideCommit) (r : Result ℕ LineFault) → SpellsWideCommit line link x
    → r ≡ last_number_at 8 (take 8 (drop 7 line)) → r ≡ Ok (high_half x)
half-spelled line link x r s is =
    is ∙ (digits_at-end 8 (take 8 (drop 7 line)) ∙ (halved line link x s).high)

-- the shorter line that is read, and one that is spelled
pub short-read : (line short : List ℕ) (link : Link) (x : Commit) → short ≡ cut line → SpellsCommit short link x
    → SpellsCommit (cut line) link x
short-read line short link x is s = subst (λ (l : List ℕ). SpellsCommit l link x) is s

pub short-spelled : (line short : List ℕ) (link : Link) (x : WideCommit) (r : Result (Link × Commit) LineFault)
    → SpellsWideCommit line link x → short ≡ cut line
    → ((l : Link) (y : Commit) → SpellsCommit short l y → r ≡ Ok (l, y)) → r ≡ Ok (link, low_half x)
short-spelled line short link x r s is every =
    every link (low_half x) (subst (λ (l : List ℕ). SpellsCommit l link (low_half x)) (sym is) (halved line link x s).low)
