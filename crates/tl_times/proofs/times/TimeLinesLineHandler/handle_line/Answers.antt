use Rattle.std.proofs.Common.{rules}
use Rattle.tl_times.proofs.Timing.{cited_still, times_on}
use Rattle.tl_times.proofs.times.TimeLinesLineHandler.handle_line.Goals as goal

pub returns-clause-judges : goal.returns-clause-judges
returns-clause-judges c = times_on c.args.self.now (record { pieces = c.note_each.new.pieces; next = c.in_ok-after.after })
    c.args.line.now c.format-number.result.now c.args._out.now.items c.args._out.now.items c.format-number.ensures.text
    (rw (← c.number_in.ensures, ← c.as_bytes.ensures.value) c.in_ok-note_each.ensures) (search rules)

pub returns-clause-purpose : goal.returns-clause-purpose
returns-clause-purpose c = cited_still _ _ _ _ c.in_ok-note_each.ensures
