-- What the widths have in common.
use Rattle.std.proofs.Common.{◌≡◌, ℕ, ◌<◌, ◌≤◌, ◌^◌, false, leb, inl, inr, arith, lit<, ◌/◌, ◌%◌, ◌*◌, ◌+◌, ◌↔◌, eqb}
use Rattle.std.proofs.Common.{true, refl}
use Rattle.std.proofs.lemmas.Bool.{lt-leb, eqb-true, eq-eqb}
use Rattle.std.proofs.lemmas.Nat.{shr_split, pow_pos, mod_below}
use Rattle.std.proofs.Math.Nat.{pow-le-pow_right, div-eq_of_lt}
use Rattle.tl_beat.specs.statement.Width.{IsWidth}
use Rattle.tl_burst.specs.statement.Burst.{data_beats}

pub width-bounds : (w : ℕ) → IsWidth w → (4 ≤ w) × (w ≤ 16)
width-bounds w is = elim is [
  | inl e ↦ (omega arith, omega arith)
  | inr more ↦ elim more
      [ inl e ↦ (omega arith, omega arith) | inr e ↦ (omega arith, omega arith) ]
]

-- a block is this many whole beats
pub whole_block : (w : ℕ) → IsWidth w → w * data_beats w 6 ≡ 64
whole_block w is = elim is
    [ inl w_is ↦ rw w_is refl | inr more ↦ elim more [ inl w_is ↦ rw w_is refl | inr w_is ↦ rw w_is refl ] ]

-- 32 bytes are more than a beat's
pub size_above_width : (w size : ℕ) → IsWidth w → 4 < size → leb (2 ^ size) w ≡ false
size_above_width w size is lt =
    let more : 5 ≤ size = omega arith in
    let bytes : 2 ^ 5 ≤ 2 ^ size = pow-le-pow_right {n = 2} (lit< tt) {i = 5} {j = size} more in
    let few : w ≤ 16 = (width-bounds w is).1 in
    lt-leb (2 ^ size) w (omega arith)

-- a number has no bit from bit k on where its quotient by 2 ^ k is zero
pub no_bits_from : (n m k : ℕ) → m ≡ n → (eqb (m / 2 ^ k) 0 ≡ true) ↔ (n < 2 ^ k)
no_bits_from n m k is = (
  λ e. let none : m / 2 ^ k ≡ 0 = eqb-true (m / 2 ^ k) 0 e in
      let rest : m % 2 ^ k < 2 ^ k = mod_below m (2 ^ k) (pow_pos k) in
      let whole : m / 2 ^ k * 2 ^ k + m % 2 ^ k ≡ m = shr_split m k in
      let low : 0 * 2 ^ k + m % 2 ^ k ≡ m = rw none at whole in
      omega arith,
  λ lt. eq-eqb (m / 2 ^ k) 0 (div-eq_of_lt (let less : m < 2 ^ k = omega arith in less)),
)
