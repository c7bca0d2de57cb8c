use Rattle.tl_coherence.proofs.flow.HiddenStore.{hidden_stores}
use Rattle.tl_coherence.proofs.law.stores_under_trunk.Goals as goal

pub returns : goal.returns
returns g c = λ config log given link address size value stored.
    hidden_stores config log given link address size value stored
