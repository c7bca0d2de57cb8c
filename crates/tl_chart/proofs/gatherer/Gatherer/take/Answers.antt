use Rattle.std.proofs.Common.{rules, sym, ap₂, ◌∙◌, Bool}
use Rattle.std.specs.Prelude.{◌&&◌, ℕ, Option}
use Rattle.tl_chart.specs.code.Gathered.{drawn_of}
use Rattle.tl_chart.specs.statement.Drawn.{shows}
use Rattle.tl_chart.proofs.Gathering.{gathers_drawn, gathers_skipped, on_ok, open_before, watched_on}
use Rattle.tl_chart.proofs.Lasting.{gathered_last}
use Rattle.tl_chart.proofs.Linked.{carry_more}
use Rattle.tl_chart.proofs.gatherer.Gatherer.take.Goals as goal

pub returns-then-is_over-clause-gathers : goal.returns-then-is_over-clause-gathers
returns-then-is_over-clause-gathers g c = on_ok c.count.result (λ so held t is lt change had.
    so g.row.W held (c.args.moment.now.link, c.args.beat.now) t (sym c.is_over.ensures ∙ c.if-is_over.true) is.first_is had)
    c.count.ensures.gathers

pub returns-then-closes-clause-gathers : goal.returns-then-closes-clause-gathers
returns-then-closes-clause-gathers g c =
    let on = sym c.is_over.ensures ∙ c.if-is_over.false in
    on_ok c.skip.result (λ so held t is lt change had.
    gathers_skipped held c.args.self.now c.skip.new.self _ t c.args.moment.now.line c.is_start-begins.result
    c.take_block-block.new.links.items had
    c.skip.ensures.window is.line_is
    (c.is_start-begins.ensures ∙ ap₂ (λ (f : Bool) (k : Option ℕ). f && shows c.args.self.now.window.block k)
    is.first_is (c.take_block-block.ensures.block t (had.links_are on) (had.carry_all on)))
    (sym c.closes.ensures ∙ c.if-closes.true) so
    (search rules) (c.take_block-block.ensures.known t is (had.links_are on))
    (carry_more _ _ _ t lt c.take_block-block.ensures.many (had.carry_all on))) c.skip.ensures.skipped

pub returns-else-closes-clause-gathers : goal.returns-else-closes-clause-gathers
returns-else-closes-clause-gathers g c =
    let on = sym c.is_over.ensures ∙ c.if-is_over.false in
    let open_still = open_before c.args.self.now.window (drawn_of c.args.self.now) c.args.moment.now.line
    c.is_start-begins.result (sym c.closes.ensures ∙ c.if-closes.false) in
    on_ok c.draw.result (λ so held t is lt change had.
    gathers_drawn held c.args.self.now c.draw.new.self _ t c.args.moment.now.line c.is_start-begins.result
    c.take_block-block.new.links.items had
    c.draw.ensures.window is.line_is
    (c.is_start-begins.ensures ∙ ap₂ (λ (f : Bool) (k : Option ℕ). f && shows c.args.self.now.window.block k)
    is.first_is (c.take_block-block.ensures.block t (had.links_are on) (had.carry_all on)))
    (sym c.closes.ensures ∙ c.if-closes.false)
    (so held t is (c.take_block-block.ensures.block t (had.links_are on) (had.carry_all on))
    (watched_on held c.args.self.now _ t c.args.change open_still change)
    open_still (gathered_last held c.args.self.now t c.args.moment.now.line is.line_is had))
    (search rules) (c.take_block-block.ensures.known t is (had.links_are on))
    (carry_more _ _ _ t lt c.take_block-block.ensures.many (had.carry_all on))) c.draw.ensures.drawn
