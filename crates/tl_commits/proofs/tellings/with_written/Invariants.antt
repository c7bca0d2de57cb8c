use Rattle.std.proofs.Common.{◌≡◌, ◌<◌, ◌&&◌, ◌||◌, ℕ, length}
use Rattle.std.specs.Prelude.{nat_lt}
use Rattle.tl_bytes.specs.code.Tellings.{is_written}
use Rattle.tl_commits.specs.code.Tellings.{is_in}
use Rattle.tl_commits.proofs.tellings.with_written.Given as goal

abbrev pub invariant-loop-place : goal.invariant-loop-place
invariant-loop-place l = (length l.all ≡ 64) × ((p : ℕ) → p < 64
    → is_in l.all p ≡ (is_in l.places p || (nat_lt p l.place && is_written l.write p)))
