use Rattle.std.proofs.Common.{arith, ◌≤◌, ◌*◌, ◌%◌, ◌^◌, ℕ, lit<}
use Rattle.std.proofs.Math.Nat.{pow-le-pow_right}
use Rattle.tl_random.proofs.choose.value.Goals as goal

-- those of at most eight bytes
few_bits : (size : ℕ) → size ≤ 3 → 8 * 2 ^ size % 2 ^ 32 ≤ 64
few_bits size few =
    let bytes : 2 ^ size ≤ 2 ^ 3 = pow-le-pow_right {n = 2} (lit< tt) {i = size} {j = 3} few in
    omega (arith, bytes)

pub overflow_sub-result : goal.overflow_sub-result
overflow_sub-result c = few_bits c.args.size c.requires
