use Rattle.std.proofs.Common.{ap, ◌∙◌}
use Rattle.tl_lines.specs.statement.Lines.{lines_of}
use Rattle.tl_links.specs.declared.allow_lines.AllowLines.{AllowLines}
use Rattle.tl_links.proofs.AllowedLines.{all_found, finds, settled}
use Rattle.tl_links.proofs.allowing.append_allowed.Goals as goal

pub returns-in-Ok-clause-ok : goal.returns-in-Ok-clause-ok
returns-in-Ok-clause-ok g c =
    let (read, consumed, told, ended, has, stands) = c.in-Ok.ensures.ok in (
      c.allowing.result.now,
      finds c.judge_input.new.lines.handler c.args.allow _ _ _
          (c.in-Ok.ensures.purpose ∙ ap (λ (h : AllowLines). h.allow) c.new-lines.ensures.handler
          ∙ c.new.ensures.allowed) (
            read,
            consumed,
            rw (c.allowing.ensures, c.handler.ensures) (all_found c.judge_input.new.lines.handler (lines_of read)
                c.in-Ok.field-0 has),
            rw (c.allowing.ensures, c.handler.ensures) (settled c.judge_input.new.lines.handler _ read stands),
          ),
      rw c.in_ok-appended-in-Ok.was at c.append_line-appended.ensures,
    )
