use Rattle.tl_wide.proofs.Numbering.{nothing-named}
use Rattle.tl_wide.proofs.narrow.Narrower.new.Goals as goal

pub returns : goal.returns
returns c = λ w. nothing-named w (record {
  blocks = c.new.result;
  sources = c.no_sources.result;
  sinks = c.from_zero.result;
}) c.new-2.result.items c.no_sources.ensures.long c.new.ensures c.no_sources.ensures.known c.from_zero.ensures
    c.new-2.ensures.items
