use Rattle.std.proofs.Common.{ap, sym, ◌∙◌, ◌/◌}
use Rattle.std.proofs.lemmas.Bool.{le-ltb, lt-ltb}
use Rattle.std.specs.Prelude.{◌&&◌}
use Rattle.tl_wide.proofs.PartMasks.{has-part}
use Rattle.tl_wide.specs.statement.Parts.{reaches_part}
use Rattle.tl_wide.proofs.parts.has_part.Goals as goal

pub returns-then-part : goal.returns-then-part
returns-then-part g c = sym (has-part g.row.W g.row.P c.args.reach.size c.args.reach.address c.args.part
    c.requires.parts
    ∙ ap (λ b. b && reaches_part g.row.W c.args.reach.size c.args.reach.address c.args.part)
    (le-ltb c.args.part (g.row.W / g.row.P) c.if-part.true))

pub returns : goal.returns
returns g c = c.reaches.ensures
    ∙ sym (has-part g.row.W g.row.P c.args.reach.size c.args.reach.address c.args.part c.requires.parts
    ∙ ap (λ b. b && reaches_part g.row.W c.args.reach.size c.args.reach.address c.args.part)
    (lt-ltb c.args.part (g.row.W / g.row.P) c.if-part.false))
