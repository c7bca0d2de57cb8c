use Rattle.tl_memory.proofs.memory.Memory.new.Goals as goal

pub returns : goal.returns
returns g c = record {
  links_are = c.in_ok-new.ensures g.row.W;
  blocks_are = c.new-2.ensures c.args.count;
  addressed = tt;
}
