use Rattle.std.proofs.Common.{sym, ◌∙◌}
use Rattle.tl_rules.specs.statement.Conformance.{on_link}
use Rattle.tl_together.proofs.Showing.{complete_is, shown_later, shown_none, shown_now}
use Rattle.tl_together.proofs.notes.note_shown.Goals as goal

pub returns-in_default : goal.returns-in_default
returns-in_default g c = λ levels may t k lt shows noted.
    shown_none c.args.moment c.args.beat.now (on_link c.args.link.0 t) c.args.windows.now (rw c.in_default.is at shows)

pub returns-then-begins : goal.returns-then-begins
returns-then-begins g c = λ levels may t k lt shows noted.
    shown_now c.args.moment c.in-Some.block c.args.beat.now (on_link c.args.link.0 t) c.args.windows.now _
    (rw c.in-Some.is at shows)
    (sym (complete_is levels c.args.link c.args.beat.now t c.begins.result lt (c.begins.ensures.under levels may _ _ k.knows))
    ∙ c.if-begins.true)
    (rw c.in-Some.is at noted) c.show.ensures

pub returns-else-begins : goal.returns-else-begins
returns-else-begins g c = λ levels may t k lt shows noted.
    shown_later c.args.moment c.args.beat.now (on_link c.args.link.0 t) c.args.shown c.args.windows.now shows
    (sym (complete_is levels c.args.link c.args.beat.now t c.begins.result lt (c.begins.ensures.under levels may _ _ k.knows))
    ∙ c.if-begins.false)
