use Rattle.std.proofs.Common.{◌≡◌, ◌<◌, ℕ, length, drop}
use Rattle.std.specs.Prelude.{if◌then◌else◌, Some}
use Rattle.tl_bytes.specs.statement.Known.{tellings_at}
use Rattle.tl_evidence.specs.code.Following.{COUNTS, kept_in}
use Rattle.tl_evidence.specs.statement.SetLines.{comes}
use Rattle.tl_evidence.proofs.set_lines.keep_all.Given as goal

abbrev pub invariant-loop-at : goal.invariant-loop-at
invariant-loop-at l = record {
  long : length l.counts.items ≡ COUNTS;
  kept : (p v : ℕ) → p < 64 → v < 256
      → (if comes v (tellings_at p l.before) (tellings_at p (drop l.at l.now)) then Some l.count
      else kept_in l.counts.items p v)
      ≡ (if comes v (tellings_at p l.before) (tellings_at p l.now) then Some l.count
      else kept_in l.initial.counts.items p v);
}
