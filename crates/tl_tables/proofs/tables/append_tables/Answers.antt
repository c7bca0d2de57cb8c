use Rattle.std.proofs.Common.{ℕ, List, ◌++◌, ◌∙◌, ap₂}
use Rattle.std.specs.Prelude.{Option}
use Rattle.tl_tables.proofs.Numbered.{number_all, number_next}
use Rattle.tl_tables.specs.statement.Counts.{bin_count}
use Rattle.tl_tables.specs.statement.Tables.{counts_on, link_text, width}
use Rattle.tl_tables.proofs.tables.append_tables.Goals as goal

pub loop-link-preserved : goal.loop-link-preserved
unfolding bin_count
loop-link-preserved c = number_next
    (λ link. link_text (width c.args.cells.now) link (counts_on c.args.cells.now link)) _ c.loop-link.link
    c.args.out.now.items c.loop-link.out.items c.append_link.new.out.items c.loop-link-test.true
    (c.in_ok-append_link.ensures
    ∙ ap₂ (λ (w : ℕ) (counts : List (Option ℕ)). c.loop-link.out.items ++ link_text w c.loop-link.link counts)
    c.width_of-width.ensures c.counts_on.ensures)
    c.loop-link.invariant

pub returns : goal.returns
unfolding bin_count
returns c = number_all (λ link. link_text (width c.args.cells.now) link (counts_on c.args.cells.now link)) _
    c.loop-link.link c.args.out.now.items c.loop-link.out.items c.loop-link-test.false c.loop-link.invariant
