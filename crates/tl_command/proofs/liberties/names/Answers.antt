use Rattle.std.proofs.Common.{ap, refl, ◌∙◌}
use Rattle.tl_command.proofs.LibertyNames.{eight_marks}
use Rattle.tl_command.specs.code.LibertyReading.{names_taken}
use Rattle.tl_command.proofs.liberties.names.Goals as goal

pub returns-then-more : goal.returns-then-more
returns-then-more c =
    ap names_taken (eight_marks c.args.bytes.now _ _ _ _ _ _ _ _ c.mark-ids.ensures c.mark-sinks.ensures
    c.mark-writer.ensures c.mark-early.ensures c.mark-drops.ensures c.mark-reports.ensures c.mark-denied.ensures
    c.mark-uncorrupt.ensures)
    ∙ rw c.if-more.true refl

pub returns : goal.returns
returns c =
    ap names_taken (eight_marks c.args.bytes.now _ _ _ _ _ _ _ _ c.mark-ids.ensures c.mark-sinks.ensures
    c.mark-writer.ensures c.mark-early.ensures c.mark-drops.ensures c.mark-reports.ensures c.mark-denied.ensures
    c.mark-uncorrupt.ensures)
    ∙ rw c.if-more.false refl
