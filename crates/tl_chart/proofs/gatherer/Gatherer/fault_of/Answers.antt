use Rattle.std.proofs.Common.{false, sym, ◌∙◌}
use Rattle.tl_chart.specs.code.Gathered.{drawn_of}
use Rattle.tl_chart.proofs.Gathering.{fault_shown, goes_on, open_before}
use Rattle.tl_chart.proofs.gatherer.Gatherer.fault_of.Goals as goal

pub returns : goal.returns
returns g c = λ held t line had.
    let shut = sym c.closes.ensures ∙ c.if-closes.false in
    let on = goes_on c.args.self.now
    (open_before c.args.self.now.window (drawn_of c.args.self.now) c.args.line false shut) in
    fault_shown held c.args.self.now _ t c.args.line c.fault_from.result line had shut c.if-line-self.false
    (c.fault_from.ensures t line (c.block_of-block.ensures t (had.links_are on) (had.carry_all on)))
