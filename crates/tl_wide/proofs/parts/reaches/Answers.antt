use Rattle.std.proofs.Common.{rules, sym, ap, ◌∙◌, ◌≤◌, ◌^◌, ◌+◌, ◌*◌, ◌%◌}
use Rattle.std.proofs.lemmas.Bool.{le-ltb, lt-ltb}
use Rattle.std.specs.Prelude.{◌&&◌, nat_lt}
use Rattle.tl_wide.proofs.Reached.{reaches-all, reaches-some, sixty-four}
use Rattle.tl_wide.proofs.parts.reaches.Goals as goal

pub returns-then-reach-ge6 : goal.returns-then-reach-ge6
returns-then-reach-ge6 g c = sym (reaches-all g.row.W g.row.P c.args.reach.size c.args.reach.address c.args.part
    c.requires.width c.requires.parts c.requires.part
    (sixty-four g.row.W g.row.P c.args.reach.size c.requires.width c.requires.parts (search rules)))

pub returns-then-bytes : goal.returns-then-bytes
returns-then-bytes g c =
    let large : g.row.W ≤ 2 ^ c.args.reach.size = search rules in
    sym (reaches-all g.row.W g.row.P c.args.reach.size c.args.reach.address c.args.part
    c.requires.width c.requires.parts c.requires.part large)

pub returns-then-first-part : goal.returns-then-first-part
returns-then-first-part g c =
    sym (reaches-some g.row.W g.row.P c.args.reach.size c.args.reach.address c.args.part c.bytes_of-bytes.result
    c.requires.width c.requires.parts c.bytes_of-bytes.ensures.value c.if-bytes.false c.bytes_of-bytes.ensures.some
    ∙ ap (λ b. b && nat_lt (g.row.P * c.args.part) (c.args.reach.address % g.row.W + c.bytes_of-bytes.result))
    (lt-ltb (c.args.reach.address % g.row.W) (g.row.P * c.args.part + g.row.P) c.if-first-part.true))

pub returns-else-first-part : goal.returns-else-first-part
returns-else-first-part g c =
    let apart = le-ltb (c.args.reach.address % g.row.W) (g.row.P * c.args.part + g.row.P) c.if-first-part.false in
    apart ∙ sym (reaches-some g.row.W g.row.P c.args.reach.size c.args.reach.address c.args.part c.bytes_of-bytes.result
    c.requires.width c.requires.parts c.bytes_of-bytes.ensures.value c.if-bytes.false c.bytes_of-bytes.ensures.some
    ∙ ap (λ b. b && nat_lt (g.row.P * c.args.part) (c.args.reach.address % g.row.W + c.bytes_of-bytes.result)) apart)
