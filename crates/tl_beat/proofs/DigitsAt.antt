-- Reading digits one after another.
use Rattle.std.proofs.Common.{◌≡◌, ℕ, suc, ◌+◌, ◌*◌, ◌^◌, ◌<◌, ◌≤◌, List, refl, arith, add-one, lit<}
use Rattle.std.proofs.Math.Nat.{pow-suc, pow-le-pow_right}
use Rattle.std.specs.Prelude.{Ok, Err}
use Rattle.tl_beat.specs.declared.fault.LineFault.{LineFault}
use Rattle.tl_beat.specs.code.FromLeft.{digit_at, digits_at}

pub digits-step : (n w k d : ℕ) (bytes rest : List ℕ) → w ≡ suc k → digit_at bytes ≡ Ok (d, rest)
    → digits_at n w bytes ≡ digits_at (16 * n + d) k rest
unfolding digits_at
digits-step n w k d bytes rest e h = rw (e, h) refl

pub digits-fails : (n w k : ℕ) (bytes : List ℕ) (f : LineFault) → w ≡ suc k → digit_at bytes ≡ Err f
    → digits_at n w bytes ≡ Err f
unfolding digits_at
digits-fails n w k bytes f e h = rw (e, h) refl

pub digits-done : (n w : ℕ) (bytes : List ℕ) → w ≡ 0 → digits_at n w bytes ≡ Ok (n, bytes)
unfolding digits_at
digits-done n w bytes e = rw e refl

pub one_more : (n c d : ℕ) → n < 16 ^ c → d < 16 → 16 * n + d < 16 ^ (c + 1)
one_more n c d lt small = rw (add-one, pow-suc) (omega arith)

pub fits_in_32 : (c : ℕ) → c ≤ 7 → 16 ^ (c + 1) ≤ 2 ^ 32
fits_in_32 c le = let more : c + 1 ≤ 8 = omega arith in pow-le-pow_right {n = 16} (lit< tt) {i = c + 1} {j = 8} more
