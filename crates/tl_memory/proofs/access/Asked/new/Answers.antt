use Rattle.std.proofs.Common.{arith, ap, refl, ◌∙◌, ◌<◌}
use Rattle.std.specs.Prelude.{unwrap_or, ◌∷◌, length, ◌*◌}
use Rattle.tl_beat.specs.declared.beat.Beat.{Beat}
use Rattle.tl_burst.specs.statement.Burst.{bit}
use Rattle.tl_bytes.{specs.statement.Bytes.carried_byte, proofs.Brought.width_positive}
use Rattle.tl_memory.proofs.{values.Atomics.atomic_carries, values.Payloads.bit_below, values.Payloads.known}
use Rattle.tl_memory.proofs.{values.Payloads.wide-bytes, values.Payloads.wide-length}
use Rattle.tl_memory.proofs.access.Asked.new.Goals as goal

pub returns : goal.returns
returns g c = λ older k wide room.
    let burst = Beat.A c.args.x.now ∷ older in
    record {
      link_is = refl;
      opcode_is = refl;
      param_is = refl;
      size_is = omega (arith, c.requires.small);
      source_is = refl;
      address_is = refl;
      mask_is = k.mask_is;
      spoiled_is = k.spoiled_is;
      moment_is = refl;
      payload_is = λ atomic sound p lt.
          let carries = atomic_carries c.args.x.now.opcode atomic in
          let inside : p < 64 = omega (arith, wide-length burst (wide carries), room, lt) in
          c.payload_asked.ensures atomic p inside
          ∙ ap (λ o. unwrap_or o 0) (c.bytes.ensures g.row.W burst k.bytes_are p inside)
          ∙ known (carried_byte burst p) _
          (wide-bytes burst (width_positive g.row.W c.requires.width) (wide carries) sound p lt);
      masked = λ carries p set. omega (
        arith,
        wide-length burst (wide carries),
        bit_below c.args.brought.now.mask (g.row.W * length burst) p k.mask_below (ap (λ m. bit m p) k.mask_is ∙ set),
      );
    }
