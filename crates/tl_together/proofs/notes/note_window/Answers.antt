use Rattle.std.proofs.Common.{◌≡◌, ap, refl, sym, subst, ◌∙◌}
use Rattle.std.specs.Option.{option_or}
use Rattle.std.specs.Prelude.{if◌then◌else◌, Some}
use Rattle.std.proofs.lemmas.Result.{on_ok_weaker}
use Rattle.tl_together.specs.code.Windows.{NotesWindow, window_in}
use Rattle.tl_together.proofs.NotedWindows.{has_noted, notes_window, notes_no_window}
use Rattle.tl_together.proofs.notes.note_window.Goals as goal

pub returns-in_default-clause-noted : goal.returns-in_default-clause-noted
returns-in_default-clause-noted g c =
    subst (λ o. NotesWindow c.args.monitor.now c.args.links c.args.moment c.args.held c.args.free o c.args.windows.now
    c.args.windows.now)
    (sym c.in_default.is ∙ c.or.ensures)
    (notes_no_window c.args.monitor.now c.args.links c.args.moment c.args.held c.args.free c.args.windows.now)

pub returns-clause-noted : goal.returns-clause-noted
returns-clause-noted g c =
    let free = c.free_before-free.result in
    let old = c.args.windows.now in
    let block = c.in-Some.block in
    let own : option_or c.args.shown c.args.held ≡ Some block = sym c.or.ensures ∙ c.in-Some.is in
    on_ok_weaker c.note.result
    (λ h. rw own (notes_window c.args.monitor.now c.args.links c.args.moment block
    (if free.reading then c.args.moment else (window_in old block).reading)
    (if free.writing then c.args.moment else (window_in old block).writing) c.args.held c.args.free old _ free.reading
    free.writing
    (λ levels may t k links_is known. (c.free_before-free.ensures levels may t k links_is
    (λ none. known block (ap (λ o. option_or o c.args.held) (sym none) ∙ own))).0)
    (λ levels may t k links_is known. (c.free_before-free.ensures levels may t k links_is
    (λ none. known block (ap (λ o. option_or o c.args.held) (sym none) ∙ own))).1) refl refl h))
    c.note.ensures.changed

pub returns-in_default-clause-entered : goal.returns-in_default-clause-entered
returns-in_default-clause-entered g c = rw (sym c.or.ensures ∙ c.in_default.is) (λ b here. absurd cc)

pub returns-clause-entered : goal.returns-clause-entered
returns-clause-entered g c =
    on_ok_weaker c.note.result (λ h. rw (sym c.or.ensures ∙ c.in-Some.is) (has_noted c.in-Some.block _ h))
    c.note.ensures.noted
