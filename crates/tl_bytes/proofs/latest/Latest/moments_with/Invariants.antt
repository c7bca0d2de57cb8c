use Rattle.std.proofs.Common.{◌≡◌, ◌<◌, ℕ, length}
use Rattle.std.specs.Prelude.{slice_index_or}
use Rattle.tl_bytes.specs.code.Tellings.{written_at}
use Rattle.tl_bytes.proofs.latest.Latest.moments_with.Given as goal

abbrev pub invariant-loop-place : goal.invariant-loop-place
invariant-loop-place l = record {
  long : length l.moments ≡ 64;
  filled : (p : ℕ) → p < l.place
      → slice_index_or l.moments p 0 ≡ (written_at l.self l.write l.moment p).moment;
}
