use Rattle.std.proofs.Common.{ℕ, List, [], ◌∙◌, ap}
use Rattle.std.specs.Prelude.{Option}
use Rattle.tl_tried.specs.statement.Sums.{with_cells}
use Rattle.tl_tried.specs.declared.tried.Tried.{Tried}
use Rattle.tl_tried.proofs.Summed.{cells_all, cells_on}
use Rattle.tl_tried.proofs.sum.cells_of.Goals as goal

pub loop-tried-preserved : goal.loop-tried-preserved
loop-tried-preserved c = cells_on c.args.all.now c.loop-tried.tried-index c.tried-item.result c.loop-tried.sums.items
    c.add_cells.new.sums.items [] c.loop-tried-test.true
    (c.in_ok-add_cells.ensures
    ∙ ap (λ (cells : List (Option ℕ)). with_cells c.loop-tried.sums.items cells) (c.deref.ensures.value
    ∙ ap (λ (t : Tried). t.cells.items) c.tried-item.is))
    c.loop-tried.invariant

pub returns : goal.returns
returns c = cells_all c.args.all.now c.loop-tried.tried-index c.loop-tried.sums.items [] c.loop-tried-test.false
    c.loop-tried.invariant
