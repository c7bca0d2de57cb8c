use Rattle.std.proofs.Common.{rules, take-add, ◌+◌}
use Rattle.std.proofs.lemmas.List.{take_rest}
use Rattle.std.proofs.KnownBytes.{Appends-trans, Appends-kept}
use Rattle.tl_lines.proofs.Parts.{short_of}
use Rattle.tl_lines.proofs.output.write_all.Goals as goal

pub loop-done-preserved : goal.loop-done-preserved
loop-done-preserved g c = record {
  within = search rules;
  written = rw take-add (Appends-trans _ _ _ _ _ c.loop-done.invariant.written (rw take_rest at c.in-Ok.ensures.bytes));
}

pub returns-in-Err-clause-err : goal.returns-in-Err-clause-err
returns-in-Err-clause-err g c =
    short_of _ _ c.loop-done.done _ (search rules) (Appends-kept _ _ _ _ c.loop-done.invariant.written
    c.in-Err.ensures.bytes)

pub returns-then-n-eq0-clause-err : goal.returns-then-n-eq0-clause-err
returns-then-n-eq0-clause-err g c =
    short_of _ _ (c.loop-done.done + c.in-Ok.n) _ (search rules)
    (rw take-add (Appends-trans _ _ _ _ _ c.loop-done.invariant.written (rw take_rest at c.in-Ok.ensures.bytes)))
