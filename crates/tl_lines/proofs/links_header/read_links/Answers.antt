use Rattle.std.proofs.Common.{refl}
use Rattle.tl_lines.specs.declared.links_header.LinksHeader.{LinksHeader}
use Rattle.tl_lines.proofs.LinksHeaders.{named_before, named_fourth}
use Rattle.tl_lines.proofs.links_header.read_links.Goals as goal

pub returns-in-None-clause-every_spelling : goal.returns-in-None-clause-every_spelling
returns-in-None-clause-every_spelling c =
    named_fourth c.fourth.result c.args.line.now c.in-None.ensures.every_spelling c.fourth.ensures.every_spelling

pub returns-in-Some-clause-every_spelling : goal.returns-in-Some-clause-every_spelling
returns-in-Some-clause-every_spelling c =
    let found : LinksHeader =
    record { width = c.in-Some.header.width; may = c.of.result; levels = c.in-Some.header.levels } in
    named_before c.in-Some.header c.args.line.now found c.in-Some.ensures.spelled c.in-Some.ensures.every_spelling refl
    c.of.ensures refl
