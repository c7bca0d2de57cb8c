use Rattle.std.{proofs.Common.◌≡◌, proofs.Common.ℕ, proofs.Common.take, specs.Prelude.bit_and}
use Rattle.tl_manager.{specs.code.Bits.perm_in, specs.code.Table.entry}
use Rattle.tl_manager.proofs.table.words_in.Given as goal

abbrev pub invariant-loop-client : goal.invariant-loop-client
invariant-loop-client l = record {
  apart : bit_and l.words.0 l.words.1.0 ≡ 0;
  says : (c : ℕ) → perm_in l.words.0 l.words.1.0 c ≡ entry (take l.client l.row) c;
}
