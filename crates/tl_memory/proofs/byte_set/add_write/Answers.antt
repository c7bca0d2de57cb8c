use Rattle.std.proofs.Common.{◌≡◌, ◌<◌, rules, arith, ap, ◌∙◌, length, true, false}
use Rattle.tl_bytes.specs.code.Tellings.{is_written}
use Rattle.tl_memory.specs.code.ByteSet.{has_at}
use Rattle.tl_memory.proofs.values.ByteSets.{set-unwritten, set-written}
use Rattle.tl_memory.proofs.byte_set.add_write.Goals as goal
use Rattle.tl_memory.proofs.byte_set.add_write.Goals.{then-writes, else-writes}

pub loop-place-preserved : goal.loop-place-preserved
loop-place-preserved c =
    let at = c.loop-place.place in
    let sets = c.loop-place.sets in
    let write = c.args.write.now in
    elim c.if-writes.branch [
      | then-writes w ↦ (
        c.if-writes.array_long,
        λ place v lt small.
            let within : at < length sets = omega (arith, c.loop-place-test.true, c.loop-place.invariant.0) in
            let on : is_written write at ≡ true = search rules in
            ap (λ s. has_at s place v) (rw w.from-at.ensures at w.sets-is)
            ∙ set-written sets c.args.sets.now w.with.result at place v write w.value.result within on w.value.ensures
            ((rw w.from-at.ensures at w.with.ensures) v small) (c.loop-place.invariant.1 place v lt small),
      )
      | else-writes w ↦ (
        c.if-writes.array_long,
        λ place v lt small.
            let off : is_written write at ≡ false = search rules in
            ap (λ s. has_at s place v) w.sets-is
            ∙ set-unwritten sets c.args.sets.now at place v write off (c.loop-place.invariant.1 place v lt small),
      )
    ]
