-- The piece and the value of a commit by their fields.
use Rattle.std.proofs.Common.{◌≡◌, ◌<◌, ◌*◌, ◌^◌, ℕ, true, arith, subst}
use Rattle.std.specs.Prelude.{nat_le}
use Rattle.std.proofs.lemmas.Bool.{and_parts, leb-true, ltb-true}
use Rattle.tl_rules.specs.statement.Legality.{is_aligned}
use Rattle.tl_events.specs.statement.CommitLine.{is_piece, value_digits}
use Rattle.tl_pictures.specs.statement.CommitPicture.{fits_bytes}
use Rattle.tl_wide_events.specs.statement.WideCommitLine.{IsWidePiece}

-- a piece with these numbers is one of a commit
pub piece-valid : (size address : ℕ) → is_piece size address ≡ true → address < 2 ^ 64
    → IsWidePiece (record { size = size; address = address })
piece-valid size address e below =
    let both = and_parts (nat_le size 3) (is_aligned address size) e in
    record { small = leb-true size 3 both.0; in_range = below; aligned = both.1 }

-- a value of its number of bytes has its number of digits
pub value-valid : (value size : ℕ) → fits_bytes value size ≡ true → value < 2 ^ (4 * value_digits size)
value-valid value size e =
    let same : 8 * 2 ^ size ≡ 4 * (2 * 2 ^ size) = omega arith in
    subst (λ (bits : ℕ). value < 2 ^ bits) same (ltb-true value (2 ^ (8 * 2 ^ size)) e)
