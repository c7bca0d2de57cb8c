use Rattle.std.proofs.Common.{sym, ap, ◌∙◌}
use Rattle.std.specs.Prelude.{is_some, not}
use Rattle.tl_together.proofs.Noted.{notes_kept, notes_set, its_source}
use Rattle.tl_together.proofs.notes.note_request.Goals as goal

pub returns-then-is_none : goal.returns-then-is_none
returns-then-is_none g c =
    notes_set c.args.monitor.now c.args.asked.now.items _ c.args.link c.in-A.x c.args.beat.now c.from.result c.args.next
    c.in-A.is c.from.ensures
    c.note_asked.ensures.length c.note_asked.ensures.noted
    (λ levels may t k. ap is_some (sym (c.request.ensures.under levels may t _ k.knows))
    ∙ (c.is_none.ensures ∙ ap not c.if-is_none.true))

pub returns-else-is_none : goal.returns-else-is_none
returns-else-is_none g c =
    notes_kept c.args.monitor.now c.args.asked.now.items c.args.link c.args.beat.now c.args.next
    (λ y levels may t is k. its_source c.args.beat.now c.in-A.x y levels c.args.link t c.in-A.is is
    (ap is_some (sym (c.request.ensures.under levels may t _ k.knows)) ∙ (c.is_none.ensures ∙ ap not c.if-is_none.false)))

pub returns-in_default : goal.returns-in_default
returns-in_default g c =
    notes_kept c.args.monitor.now c.args.asked.now.items c.args.link c.args.beat.now c.args.next
    (λ y levels may t is k. absurd (c.in_default.not-A y is))
