use Rattle.std.proofs.Common.{rules}
use Rattle.tl_chart.proofs.Linked.{links_more}
use Rattle.tl_chart.proofs.gatherer.new_links.Goals as goal

pub loop-preserved : goal.loop-preserved
loop-preserved c = record {
  known = λ w. links_more w c.loop.links.items c.push.new.self.items c.new.result (search rules)
      (c.loop.invariant.known w) (c.new.ensures w);
  many = search rules;
}
