use Rattle.std.proofs.Common.{◌≡◌, ◌++◌, ◌+◌, ◌-◌, ◌*◌, false}
use Rattle.tl_rules.specs.statement.History.{block_at}
use Rattle.tl_memory.specs.code.Expected.{allows}
use Rattle.tl_witness.specs.code.Strays.{told_of}
use Rattle.tl_witness.specs.statement.Strays.{values_text}
use Rattle.tl_witness.proofs.strays.append_values.Given as goal

abbrev pub invariant-loop-value : goal.invariant-loop-value
invariant-loop-value g l =
    l.out.items ++ values_text (g.X.Places.names l.places)
    (allows l.expected (64 * block_at l.expected.address + l.place))
    (told_of l.judge (64 * block_at l.expected.address + l.place)) l.any (256 - l.value) l.value
    ≡ l.initial.out.items ++ values_text (g.X.Places.names l.places)
    (allows l.expected (64 * block_at l.expected.address + l.place))
    (told_of l.judge (64 * block_at l.expected.address + l.place)) false 256 0
