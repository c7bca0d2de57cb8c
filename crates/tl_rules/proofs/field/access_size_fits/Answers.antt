use Rattle.std.proofs.Common.{sym, ◌∙◌}
use Rattle.std.proofs.lemmas.Bool.{lt-leb}
use Rattle.tl_rules.proofs.Widths.{size_above_width}
use Rattle.tl_rules.proofs.field.access_size_fits.Goals as goal

pub returns-else-size-le4-clause-value : goal.returns-else-size-le4-clause-value
returns-else-size-le4-clause-value g c =
    rw c.in-UL.is (lt-leb c.args.size 4 c.if-size-le4.false ∙ sym
    (size_above_width g.row.W c.args.size c.requires c.if-size-le4.false))
