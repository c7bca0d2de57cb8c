use Rattle.std.proofs.Common.{ap, length, refl, rules, Some, ◌∙◌, ◌<◌, ◌^◌, arith}
use Rattle.tl_reasons.proofs.Hearing.{header-none, header-recorded}
use Rattle.tl_reasons.proofs.testimony.Inquiry.hear_header.Goals as goal

pub returns : goal.returns
returns c =
    let small : c.args.self.now.block < 2 ^ 26 = search rules in
    header-recorded c.args.self.now (record c.args.self.now { witness = Some c.in_ok-new.field-0 }) c.in_ok-new.field-0
    c.args.line.now _ c.in-Some.header.levels.items
    (record { rule_is = refl; block_is = refl; good_is = refl; line_is = refl }) refl (λ w. c.in_ok-new.ensures w small)
    (search rules) (λ width own levels names. ((rw c.in-Some.is at c.read_links.ensures.every_spelling) width own levels names).2)
