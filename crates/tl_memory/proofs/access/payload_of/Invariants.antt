use Rattle.std.proofs.Common.{◌≡◌, ◌<◌, ℕ, length}
use Rattle.std.specs.Prelude.{slice_index, unwrap_or}
use Rattle.tl_bytes.specs.statement.KnownBytes.{known_at}
use Rattle.tl_memory.proofs.access.payload_of.Given as goal

abbrev pub invariant-loop-place : goal.invariant-loop-place
invariant-loop-place l = record {
  long : length l.payload ≡ 64;
  filled : (p : ℕ) → p < l.place → slice_index l.payload p ≡ unwrap_or (known_at l.bytes p) 0;
}
