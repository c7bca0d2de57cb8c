use Rattle.std.proofs.Common.{arith, ap, sym, ◌∙◌, ◌≡◌, ◌-◌, ◌+◌, ◌*◌}
use Rattle.tl_bytes.specs.statement.KnownBytes.{known_at}
use Rattle.tl_rules.specs.statement.History.{block_at}
use Rattle.tl_bytes.specs.statement.Bytes.{is_put}
use Rattle.tl_memory.{proofs.values.Writing.other_left, proofs.values.Writing.put_left}
use Rattle.tl_memory.proofs.{values.Atomics.performable-room, values.Atomics.performable-sized}
use Rattle.tl_memory.proofs.{values.Masked.reach-places}
use Rattle.tl_memory.proofs.writer.written.Goals as goal

pub returns-then-is_put : goal.returns-then-is_put
returns-then-is_put g c = λ access burst k write message lawful place lt.
    let put = ap is_put (sym k.opcode_is) ∙ sym c.is_put.ensures ∙ c.if-is_put.true in (
      (write place lt).0,
      λ w. (write place lt).1 w
          ∙ put_left access.request.opcode access burst (64 * block_at access.request.address + place) put,
    )

pub returns : goal.returns
returns g c = λ access burst k write message lawful place lt.
    let m = access.request in
    let same : place - 0 ≡ place = omega arith in
    let other = ap is_put (sym k.opcode_is) ∙ sym c.is_put.ensures ∙ c.if-is_put.false in
    let here = reach-places m.opcode m c.mask_reached.result place other (λ atomic. (
      performable-sized g.row.W m.opcode m.param m.size m.address atomic lawful.0,
      performable-room g.row.W m.opcode m.param m.size m.address atomic lawful.0,
    )) (rw (k.opcode_is, k.size_is, k.address_is) at c.mask_reached.ensures) lt in (
      here,
      λ w. ap (known_at c.values_written.result) same
          ∙ c.values_written.ensures access burst k other message lawful place lt (sym here ∙ w)
          ∙ other_left m.opcode access burst (64 * block_at m.address + place) other,
    )
