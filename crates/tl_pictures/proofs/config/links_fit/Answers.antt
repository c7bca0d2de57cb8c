use Rattle.std.proofs.Common.{rules, refl}
use Rattle.tl_pictures.specs.statement.Configured.{link_fits, links_fit}
use Rattle.tl_pictures.proofs.Each.{where_each}
use Rattle.tl_pictures.proofs.config.links_fit.Goals as goal

pub returns : goal.returns
returns c = where_each link_fits links_fit refl (λ _ _. refl) c.all.result c.args.links.now (search rules)
