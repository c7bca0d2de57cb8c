use Rattle.std.proofs.Common.{◌<◌, ℕ, get_or}
use Rattle.tl_evidence.proofs.response_lines.prove_bytes.Given as goal

abbrev pub invariant-loop-lane : goal.invariant-loop-lane
invariant-loop-lane g l = (i : ℕ) → i < l.lane → get_or l.lanes i 0 < 256
