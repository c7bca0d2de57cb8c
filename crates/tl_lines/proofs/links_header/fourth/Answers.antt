use Rattle.tl_lines.proofs.LinksHeaders.{fourth_behind, fourth_spelled, named_behind}
use Rattle.tl_lines.proofs.links_header.fourth.Goals as goal

pub returns-in_err-may-clause-every_spelling : goal.returns-in_err-may-clause-every_spelling
returns-in_err-may-clause-every_spelling c = λ width may levels h.
    absurd (c.in_err-may.ensures.every_spelling may levels
    (named_behind c.args.line.now width may levels h c.in_ok-width.width c.in_ok-width.rest.now c.in_ok-width.ensures))

pub returns-clause-spelled : goal.returns-clause-spelled
returns-clause-spelled c =
    fourth_spelled c.args.line.now c.in_ok-width.rest.now c.in_ok-width.width c.in_ok-may.may c.in_ok-may.levels.items
    c.in_ok-width.ensures c.in_ok-may.ensures.spelled

pub returns-clause-every_spelling : goal.returns-clause-every_spelling
returns-clause-every_spelling c = λ width may levels h.
    let (w, text) = fourth_behind c.args.line.now width may levels h (c.in_ok-width.width, c.in_ok-width.rest.now)
    c.in_ok-width.ensures in
    let (m, l) = c.in_ok-may.ensures.every_spelling may levels
    (named_behind c.args.line.now width may levels h c.in_ok-width.width c.in_ok-width.rest.now c.in_ok-width.ensures) in
    (w, m, l)
