-- The lanes of a beat as a run of ones.
use Rattle.std.proofs.Common.{◌≡◌, ℕ, ◌-◌, ◌*◌, ◌/◌, ◌%◌, ◌^◌, ◌<◌, ◌≤◌, refl, arith, zero-add}
use Rattle.std.proofs.lemmas.Bool.{le-leb, lt-leb}
use Rattle.std.proofs.lemmas.Nat.{one_shl}
use Rattle.tl_burst.specs.statement.Burst.{bit}
use Rattle.tl_rules.specs.statement.Legality.{is_lane}
use Rattle.tl_rules.proofs.Masks.{run_of_ones}

pub all_lanes : (w size address lane : ℕ) (run : ℕ × ℕ) → run ≡ (0, w) → w ≤ 16 → size ≤ 6 → w ≤ 1 * 2 ^ size % 2 ^ 64
    → lane < 16
    → bit (65535 / 2 ^ (16 - run.1) * 2 ^ run.0 % 65536) lane ≡ is_lane w size address lane
all_lanes w size address lane run is few small le lt =
    let wide : w ≤ 2 ^ size = omega (arith, one_shl size 64 (omega arith)) in
    let from : 0 ≤ lane = omega arith in
    rw (is, run_of_ones 16 0 w lane few lt, le-leb w (2 ^ size) wide, le-leb 0 lane from, zero-add) refl

pub some_lanes : (w size address lane : ℕ) (run : ℕ × ℕ) → run ≡ (address % w, 1 * 2 ^ size % 2 ^ 64) → w ≤ 16
    → size ≤ 6 → 1 * 2 ^ size % 2 ^ 64 < w → lane < 16
    → bit (65535 / 2 ^ (16 - run.1) * 2 ^ run.0 % 65536) lane ≡ is_lane w size address lane
some_lanes w size address lane run is few small less lt =
    let bytes : 1 * 2 ^ size % 2 ^ 64 ≡ 2 ^ size = one_shl size 64 (omega arith) in
    let narrow : 2 ^ size < w = omega arith in
    let fits : 2 ^ size ≤ 16 = omega arith in
    rw (is, bytes, run_of_ones 16 (address % w) (2 ^ size) lane fits lt, lt-leb w (2 ^ size) narrow) refl
