use Rattle.std.proofs.Common.{rules, subst}
use Rattle.std.proofs.lemmas.Result.{on_ok_weaker}
use Rattle.std.specs.Prelude.{Bool}
use Rattle.tl_lines.specs.statement.Lines.{lines_of}
use Rattle.tl_params.specs.declared.liberties.Liberties.{Liberties}
use Rattle.tl_wide_event_lines.specs.statement.JudgedWideEvents.{JudgedAny}
use Rattle.tl_wide_event_story.proofs.Storied.{told-explains}
use Rattle.tl_wide_event_story.proofs.explain.explain_event.Goals as goal

pub judge_input-requires : goal.judge_input-requires
judge_input-requires g c = rw c.new-text.ensures.items (c.new-lines.ensures.knows c.start_of.ensures.knows)

pub returns-clause-ok : goal.returns-clause-ok
returns-clause-ok g c =
    let h = c.in-Ok.ensures.ok in
    let judged : JudgedAny c.args.together c.args.allow (lines_of h.0) c.judge_input.new.out.items c.in-Ok.field-0 =
    subst (λ (p : Bool × Liberties). JudgedAny p.0 p.1 (lines_of h.0) c.judge_input.new.out.items c.in-Ok.field-0)
    (search rules) h.2 in
    on_ok_weaker c.append_story-told.result
    (λ found.
    told-explains c.into_handler-story.result c.args.together c.args.allow _ _ h.0 c.judge_input.new.out.items
    c.args.verdict.now _ c.in-Ok.field-0 h.1 judged (rw c.into_handler-story.ensures h.4) found.0
    found.2 (rw c.deref.ensures.value at found.3) found.4 found.5 found.6)
    c.append_story-told.ensures.ok
