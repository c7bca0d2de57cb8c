use Rattle.std.proofs.Common.{refl, rules, ap, ◌∙◌, ◌≡◌}
use Rattle.tl_lines.specs.statement.Lines.{lines_of}
use Rattle.tl_reasons.specs.declared.testimony.Testimony.{Testimony}
use Rattle.tl_reasons.proofs.Testifying.{fresh-testimony, judged-for, stood, told-for}
use Rattle.tl_reasons.proofs.explain_memory.inquire.Goals as goal

pub returns-in-Ok-clause-ok : goal.returns-in-Ok-clause-ok
returns-in-Ok-clause-ok g c =
    let h = c.in-Ok.ensures.ok in
    let at = ap (λ (t : Testimony). t.link_lines.allow) c.new-lines.ensures.handler in (
      h.0,
      h.1,
      judged-for _ c.args.allow _ _ _ at h.2,
      rw c.into_handler-link_lines.ensures (told-for c.judge_input.new.lines.handler c.args.allow (lines_of h.0)
          (c.in-Ok.ensures.purpose ∙ at)
          (stood c.judge_input.new.lines.handler (lines_of h.0) c.in-Ok.status h.4)),
    )
