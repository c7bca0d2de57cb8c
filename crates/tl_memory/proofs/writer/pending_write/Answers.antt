use Rattle.std.proofs.Common.{arith, ap, sym, ◌∙◌, ◌≡◌, ◌∷◌, ◌-◌, ◌+◌, ◌*◌, ◌/◌, true, false}
use Rattle.tl_beat.specs.declared.beat.Beat.{Beat}
use Rattle.tl_rules.specs.code.Place.{base_of}
use Rattle.std.specs.Prelude.{◌&&◌, nat_le, nat_lt}
use Rattle.tl_burst.specs.statement.Burst.{bit}
use Rattle.tl_bytes.specs.statement.Bytes.{access_writes}
use Rattle.tl_bytes.{specs.statement.Bytes.asked_by, specs.statement.Bytes.is_put, proofs.Brought.width_positive}
use Rattle.tl_memory.proofs.{values.Atomics.performable-room, values.Atomics.performable-sized}
use Rattle.tl_memory.proofs.{values.Masked.put-values, values.Masked.reach-places}
use Rattle.tl_memory.proofs.{values.Puts.put-carries, values.Puts.put-places, values.Writing.other_pending}
use Rattle.tl_memory.proofs.writer.pending_write.Goals as goal

pub returns-then-is_put : goal.returns-then-is_put
returns-then-is_put g c = λ link x older moment k lawful message wide place lt.
    let access = asked_by link x (Beat.A x ∷ older) moment in
    let put : is_put x.opcode ≡ true = ap is_put (sym k.opcode_is) ∙ sym c.is_put.ensures ∙ c.if-is_put.true in
    let base : c.base.result ≡ base_of g.row.W x.address = c.base.ensures.value ∙ ap (base_of g.row.W) k.address_is in
    let mask = c.args.asked.now.request.mask in
    let here : (nat_le c.base.result place && (nat_lt (place - c.base.result) 64 && bit mask (place - c.base.result)))
    ≡ access_writes (64 * (x.address / 64) + place) access =
    rw k.mask_is (put-places {w = g.row.W} access.request c.base.result place c.requires put base
    (k.masked (put-carries x.opcode put)) lt) in (
      here,
      λ w. c.values_brought.ensures g.row.W (Beat.A x ∷ older) message (place - c.base.result) (omega (arith, lt))
          ∙ put-values link x older moment c.base.result place c.requires put (wide (put-carries x.opcode put)) base
          (sym here ∙ w) (width_positive g.row.W c.requires),
    )

pub returns : goal.returns
returns g c = λ link x older moment k lawful message wide place lt.
    let access = asked_by link x (Beat.A x ∷ older) moment in
    let m = access.request in
    let other : is_put x.opcode ≡ false = ap is_put (sym k.opcode_is) ∙ sym c.is_put.ensures ∙ c.if-is_put.false in (
      reach-places x.opcode m c.mask_reached.result place other (λ atomic. (
        performable-sized g.row.W x.opcode x.param m.size x.address atomic lawful.0,
        performable-room g.row.W x.opcode x.param m.size x.address atomic lawful.0,
      )) (rw (k.opcode_is, k.size_is, k.address_is) at c.mask_reached.ensures) lt,
      λ w. c.none.ensures (place - 0) ∙ other_pending x.opcode access (64 * (x.address / 64) + place) other,
    )
