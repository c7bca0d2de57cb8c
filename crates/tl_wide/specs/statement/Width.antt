-- The widths of wide beats and of their parts.
use Rattle.std.specs.Prelude.{ℕ, ◌≡◌, ◌⊎◌, min}
use Rattle.tl_wide.specs.declared.width.WideWidth.{WideWidth}
use Rattle.tl_wide.specs.declared.width.WideWidth.TheVariants.{Four, Eight, Sixteen, ThirtyTwo, SixtyFour}

-- a wide beat has 4, 8, 16, 32 or 64 bytes
abbrev pub IsWideWidth : ℕ → Type 0
IsWideWidth w = (w ≡ 4) ⊎ (w ≡ 8) ⊎ (w ≡ 16) ⊎ (w ≡ 32) ⊎ (w ≡ 64)

-- the number of bytes of a wide beat
abbrev pub wide_bytes_of : WideWidth → ℕ
wide_bytes_of Four = 4
wide_bytes_of Eight = 8
wide_bytes_of Sixteen = 16
wide_bytes_of ThirtyTwo = 32
wide_bytes_of SixtyFour = 64

-- the number of bytes of a part: 16, or that of the beat if it is smaller
abbrev pub part_width : ℕ → ℕ
part_width w = min w 16
