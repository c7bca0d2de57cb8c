use Rattle.tl_lines.proofs.LinksHeaders.{front_taken}
use Rattle.tl_commit_lines.proofs.MarkedHeaders.{marked_behind}
use Rattle.tl_commit_lines.proofs.header.read_marked.Goals as goal

pub returns-in_err-may-clause-every_spelling : goal.returns-in_err-may-clause-every_spelling
returns-in_err-may-clause-every_spelling c = λ width may links h.
    let (w, named) = marked_behind c.args.line.now width may links h (c.in_ok-width.width, c.in_ok-width.rest.now)
    c.in_ok-width.ensures in
    absurd (c.in_err-may.ensures.every_spelling may links named)

pub returns-clause-spelled : goal.returns-clause-spelled
returns-clause-spelled c = (
  c.in_ok-width.rest.now,
  front_taken c.args.line.now c.in_ok-width.rest.now c.in_ok-width.width c.in_ok-width.ensures,
  c.in_ok-may.ensures.spelled,
)

pub returns-clause-every_spelling : goal.returns-clause-every_spelling
returns-clause-every_spelling c = λ width may links h.
    let (w, named) = marked_behind c.args.line.now width may links h (c.in_ok-width.width, c.in_ok-width.rest.now)
    c.in_ok-width.ensures in
    let (m, l) = c.in_ok-may.ensures.every_spelling may links named in
    (w, m, l)
