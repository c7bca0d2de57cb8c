use Rattle.std.proofs.Common.{rules}
use Rattle.tl_tried.proofs.text.seen_in.Goals as goal

pub returns : goal.returns
returns c = search (c.count.ensures.runs, c.filter.ensures.runs, c.iter.ensures.runs, rules)
