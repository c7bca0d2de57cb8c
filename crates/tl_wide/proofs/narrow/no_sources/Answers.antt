use Rattle.tl_wide.proofs.narrow.no_sources.Goals as goal

pub returns-clause-known : goal.returns-clause-known
returns-clause-known c = λ i d lt. (c.from_fn.ensures.items.at i d lt).2.met.1
