-- The widths of a lesson.
use Rattle.std.proofs.Common.{◌≡◌, ℕ}
use Rattle.std.specs.Prelude.{IsTrue}
use Rattle.tl_beat.specs.statement.Width.{IsWidth}
use Rattle.tl_wide.specs.statement.Width.{IsWideWidth, part_width}
use Rattle.tl_wide_lines.proofs.Decoded.{width-is}
use Rattle.tl_wide_lines.proofs.PartsJudged.{part-width}
use Rattle.tl_wide_lines.specs.code.WideDecoding.{is_wide_width}

pub wide_of : (w : ℕ) → IsTrue (is_wide_width w) → IsWideWidth w
wide_of w wide = width-is w wide

pub part_of : (w p : ℕ) → IsTrue (is_wide_width w) → p ≡ part_width w → IsWidth p
part_of w p wide is = part-width w p (width-is w wide) is
