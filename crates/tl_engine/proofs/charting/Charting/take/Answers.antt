use Rattle.std.proofs.Common.{◌≡◌, ℕ, false, rules, subst}
use Rattle.std.specs.Prelude.{Option}
use Rattle.tl_chart.specs.statement.Drawn.{holds}
use Rattle.tl_rules.specs.statement.Liberties.{held_under}
use Rattle.tl_engine.proofs.ChartedLines.{reads_bad, reads_good}
use Rattle.tl_engine.proofs.charting.Charting.take.Goals as goal

pub returns-in_ok-gather-in-Ok : goal.returns-in_ok-gather-in-Ok
returns-in_ok-gather-in-Ok g c = λ allow line spells.
    reads_good allow c.args.self.now c.push.new.self c.args.link c.args.beat.now c.gather.new.self line
    c.in_ok-line.line c.begins-first.result c.held_on-before.result spells (search rules)
    (λ levels may t. c.in-Ok.ensures.answer_under levels may t false)
    (λ levels may t. c.in-Ok.ensures.knows_under levels may t false)
    (λ levels may t. c.begins-first.ensures.under levels may t false)
    (λ levels may t known within.
    subst (λ (b : Option ℕ). c.held_on-before.result ≡ holds (held_under may) b c.args.link t) c.watched.ensures
    (c.held_on-before.ensures levels may t known within))
    c.in_ok-gather-in-Ok.ensures.gathers (search rules) c.in_ok-gather-in-Ok.ensures.window
    c.in_ok-gather-in-Ok.ensures.many (search rules) (search rules)

pub returns-in-Err-Broken : goal.returns-in-Err-Broken
returns-in-Err-Broken g c = λ allow line spells.
    reads_bad allow c.args.self.now c.push.new.self c.args.link c.args.beat.now c.take_fault.new.self line
    c.in_ok-line.line c.in-Err-Broken.rule c.take_fault.result spells (search rules)
    (λ levels may t known.
    rw c.in-Err-Broken.field-0-is at (c.in-Err-Broken.ensures.answer_under levels may t false known))
    c.take_fault.ensures.drawn c.take_fault.ensures.gatherer (rw c.in-Err-Broken.field-0-is at c.take_fault.ensures.fault)
