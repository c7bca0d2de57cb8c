use Rattle.std.proofs.Common.{◌≡◌, drop}
use Rattle.std.specs.Prelude.{◌&&◌}
use Rattle.tl_pictures.specs.statement.Picture.{all_zero}
use Rattle.tl_pictures.proofs.picture.are_zero.Given as goal

abbrev pub invariant-loop-byte : goal.invariant-loop-byte
invariant-loop-byte l = (l.zero && all_zero (drop l.byte-index l.bytes)) ≡ all_zero l.bytes
