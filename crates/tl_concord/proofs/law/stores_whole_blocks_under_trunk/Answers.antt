use Rattle.tl_concord.proofs.WholeStores.{whole_stores}
use Rattle.tl_concord.proofs.law.stores_whole_blocks_under_trunk.Goals as goal

pub returns : goal.returns
returns g c = λ config log link ch x source f given o block bytes opened asked. whole_stores config log link ch x source
    f given o block bytes opened asked
