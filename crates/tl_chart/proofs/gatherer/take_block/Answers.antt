use Rattle.std.proofs.Common.{rules}
use Rattle.tl_chart.proofs.Linked.{link_block, links_kept, links_taken}
use Rattle.tl_chart.proofs.gatherer.take_block.Goals as goal

pub returns-then-n-len-clause-known : goal.returns-then-n-len-clause-known
returns-then-n-len-clause-known g c = λ t is know.
    links_taken _ c.from-n.result c.index_mut.result.now c.take.new.self _ t c.args.moment.now.first c.from-n.ensures
    (search rules) c.index_mut.ensures.value is.first_is c.take.ensures.known know

pub returns-then-n-len-clause-block : goal.returns-then-n-len-clause-block
returns-then-n-len-clause-block g c = λ t know all.
    link_block _ c.from-n.result c.index_mut.result.now (c.args.moment.now.link, c.args.beat.now) t c.take.result
    c.from-n.ensures (search rules) c.index_mut.ensures.value c.take.ensures.block know

pub returns-else-n-len-clause-known : goal.returns-else-n-len-clause-known
returns-else-n-len-clause-known g c = λ t is know. links_kept _ _ t (search rules) know
