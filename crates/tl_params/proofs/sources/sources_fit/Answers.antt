use Rattle.std.proofs.Common.{rules}
use Rattle.tl_params.proofs.Limits.{fit_where_each}
use Rattle.tl_params.proofs.sources.sources_fit.Goals as goal

pub returns : goal.returns
returns c = fit_where_each c.all.result c.args.clients.now (search rules)
