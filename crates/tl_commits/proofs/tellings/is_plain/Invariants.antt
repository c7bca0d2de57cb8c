use Rattle.std.proofs.Common.{◌≡◌, ◌<◌, ℕ}
use Rattle.std.specs.Prelude.{slice_index_or}
use Rattle.tl_commits.specs.code.Tellings.{no_told}
use Rattle.tl_commits.proofs.tellings.is_plain.Given as goal

abbrev pub invariant-loop-place : goal.invariant-loop-place
invariant-loop-place l = (p : ℕ) → p < l.place → (slice_index_or l.told p no_told).place ≡ p
