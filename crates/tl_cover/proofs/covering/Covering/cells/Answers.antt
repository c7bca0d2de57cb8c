use Rattle.std.proofs.Common.{◌∙◌}
use Rattle.tl_cover.proofs.Answered.{cells_covered}
use Rattle.tl_cover.proofs.Links.{cells_read}
use Rattle.tl_cover.proofs.covering.Covering.cells.Goals as goal

pub returns-clause-value : goal.returns-clause-value
returns-clause-value g c = cells_read g.row.W c.args.self.now.liberties c.args.self.now.pasts.items c.deref.result.now
    c.new-cells.result.items c.append_tables.new.cells.items c.new-cells.ensures.items c.deref.ensures.value
    c.in_ok-append_tables.ensures

pub returns-clause-counted : goal.returns-clause-counted
returns-clause-counted g c = λ levels l t closed covers. cells_read g.row.W c.args.self.now.liberties
    c.args.self.now.pasts.items c.deref.result.now c.new-cells.result.items c.append_tables.new.cells.items
    c.new-cells.ensures.items c.deref.ensures.value c.in_ok-append_tables.ensures
    ∙ cells_covered c.args.self.now levels l t closed covers
