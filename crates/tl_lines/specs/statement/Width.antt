-- The width of a beat as a number.
use Rattle.std.specs.Prelude.{ℕ}
use Rattle.tl_params.specs.declared.width.Width.{Width}
use Rattle.tl_params.specs.declared.width.Width.TheVariants.{Four, Eight, Sixteen}

-- the bytes of a beat
abbrev pub bytes_of : Width → ℕ
bytes_of Four = 4
bytes_of Eight = 8
bytes_of Sixteen = 16
