use Rattle.std.proofs.Common.{◌≡◌, ◌++◌, drop}
use Rattle.tl_tables.specs.statement.Numbered.{numbered}
use Rattle.tl_tried.specs.statement.Told.{verdict_text, verdicts_text}
use Rattle.tl_tried.proofs.text.append_verdicts.Given as goal

abbrev pub invariant-loop-trace : goal.invariant-loop-trace
invariant-loop-trace l = l.out.items ++ numbered (verdict_text l.names) l.trace (drop l.trace l.all)
    ≡ l.initial.out.items ++ verdicts_text l.names l.all
