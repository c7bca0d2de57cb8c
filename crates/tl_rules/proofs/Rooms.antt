-- Where an aligned request and its payload lie in a block.
use Rattle.std.proofs.Common.{◌≡◌, ℕ, zero, suc, ◌+◌, ◌*◌, ◌/◌, ◌%◌, ◌^◌, ◌≤◌, inl, inr, arith, lit<, lit≤}
use Rattle.std.proofs.Math.Nat.{pow-le-pow_right}
use Rattle.std.proofs.lemmas.Bool.{cases_eq}
use Rattle.tl_beat.specs.statement.Width.{IsWidth}
use Rattle.tl_rules.specs.code.Place.{base_of}
use Rattle.tl_rules.proofs.Widths.{width-bounds}

pub room_in_block : (size address : ℕ) → size ≤ 6 → address % 2 ^ size ≡ 0 → address % 64 + 2 ^ size ≤ 64
room_in_block zero address le e = omega arith
room_in_block (suc zero) address le e = omega arith
room_in_block (suc (suc zero)) address le e = omega arith
room_in_block (suc (suc (suc zero))) address le e = omega arith
room_in_block (suc (suc (suc (suc zero)))) address le e = omega arith
room_in_block (suc (suc (suc (suc (suc zero))))) address le e = omega arith
room_in_block (suc (suc (suc (suc (suc (suc zero)))))) address le e = omega arith
room_in_block (suc (suc (suc (suc (suc (suc (suc n))))))) address le e = absurd (omega arith)

at_start : (w address : ℕ) → IsWidth w → address % 64 ≡ 0 → address % w ≡ 0
at_start w address is e = elim is [
  | inl w_is ↦ rw w_is (omega arith)
  | inr more ↦ elim more [ inl w_is ↦ rw w_is (omega arith) | inr w_is ↦ rw w_is (omega arith) ]
]

pub room_in_payload : (w size address : ℕ) → IsWidth w → size ≤ 6 → address % 2 ^ size ≡ 0 → address % w + 2 ^ size ≤ 64
room_in_payload w size address is le e =
    let bounds = width-bounds w is in
    elim (cases_eq size 6) [
      | inl whole ↦
          let block : address % 64 ≡ 0 = rw whole at e in
          rw (whole, at_start w address is block) (lit≤ tt)
      | inr part ↦
          let less : size ≤ 5 = omega arith in
          let bytes : 2 ^ size ≤ 2 ^ 5 = pow-le-pow_right {n = 2} (lit< tt) {i = size} {j = 5} less in
          omega (arith, bounds.0, bounds.1)
    ]

pub room_of_base : (w address : ℕ) → IsWidth w → base_of w address + w ≤ 64
room_of_base w address is = elim is [
  | inl w_is ↦ rw w_is (omega arith)
  | inr more ↦ elim more [ inl w_is ↦ rw w_is (omega arith) | inr w_is ↦ rw w_is (omega arith) ]
]

pub base_in_memory : (w address : ℕ) → IsWidth w → w * (address / w) ≡ 64 * (address / 64) + base_of w address
base_in_memory w address is = elim is [
  | inl w_is ↦ rw w_is (omega arith)
  | inr more ↦ elim more [ inl w_is ↦ rw w_is (omega arith) | inr w_is ↦ rw w_is (omega arith) ]
]
