use Rattle.std.{proofs.Common.ap, proofs.Common.◌∙◌, specs.Prelude.unwrap_or}
use Rattle.tl_rules.specs.code.Place.{base_of}
use Rattle.tl_memory.{proofs.values.Atomics.atomic-leaves, proofs.values.Atomics.atomic-writes}
use Rattle.tl_memory.proofs.performed.performed.Goals as goal

pub returns : goal.returns
returns g c = λ access answer k put found sound lawful whole place lt written.
    let parts = atomic-writes access.request.opcode access.request _ put written in
    atomic-leaves access c.args.asked.now.request c.payload_of.result c.move_up-block.result c.perform_atomic.new.block
    c.base-base.result place answer c.requires k.opcode_is k.param_is k.size_is k.address_is put
    (c.base-base.ensures.value ∙ ap (base_of g.row.W) k.address_is) c.move_up-block.ensures.value
    (λ p less. c.payload_of.ensures p less ∙ ap (λ o. unwrap_or o 0) (found p less))
    (k.payload_is parts.0 sound) lawful (whole parts.0) c.perform_atomic.ensures lt written
