use Rattle.std.proofs.Common.{◌≡◌, ◌<◌, ℕ}
use Rattle.std.specs.Prelude.{slice_index_or}
use Rattle.tl_bytes.specs.code.Tellings.{moment_of_known}
use Rattle.tl_bytes.proofs.latest.are_of_known.Given as goal

abbrev pub invariant-loop-place : goal.invariant-loop-place
invariant-loop-place l =
    (p : ℕ) → p < l.place → slice_index_or l.moments p 0 ≡ moment_of_known l.values l.moment p
