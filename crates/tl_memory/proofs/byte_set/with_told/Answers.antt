use Rattle.std.proofs.Common.{◌<◌, ◌+◌, arith, sym, ◌∙◌, length, length-set}
use Rattle.tl_memory.specs.code.ByteSet.{has_at}
use Rattle.tl_memory.proofs.values.ByteSets.{set-before, set-past, set-told, told-none}
use Rattle.tl_memory.proofs.byte_set.with_told.Goals as goal
use Rattle.tl_memory.proofs.byte_set.with_told.Goals.{in-Some+then-at, in-Some+else-at, in_default}

pub loop-telling-preserved : goal.loop-telling-preserved
loop-telling-preserved g c =
    let told = c.args.told.now in
    let index = c.loop-telling.telling-index in
    let first = c.args.first in
    let sets = c.loop-telling.all in
    let long = c.loop-telling.invariant.0 in
    elim c.match-checked_sub.branch [
      | in-Some+then-at w ↦
          let within : w.in-Some.at < length sets = omega (arith, w.if-at.true, long, w.from-at.ensures) in
          rw (w.all-is, w.from-at.ensures) (
            length-set sets w.in-Some.at w.with.result ∙ long,
            λ i v few small. set-told sets w.with.result first w.in-Some.at i v index told _ within
                c.loop-telling-test.true w.in-Some.ensures.0 w.in-Some.ensures.1
                ((rw w.from-at.ensures at w.with.ensures) v small) ∙ c.loop-telling.invariant.1 i v few small,
          )
      | in-Some+else-at w ↦ rw w.all-is (
        long,
        λ i v few small. set-past sets first w.in-Some.at i v index g.row.N told _ c.loop-telling-test.true
            w.in-Some.ensures.0 w.in-Some.ensures.1 (rw w.from-at.ensures at w.if-at.false) few
            ∙ c.loop-telling.invariant.1 i v few small,
      )
      | in_default w ↦ rw w.all-is (
        long,
        λ i v few small. set-before sets first i v index told _ c.loop-telling-test.true w.in_default.ensures
            ∙ c.loop-telling.invariant.1 i v few small,
      )
    ]

pub returns : goal.returns
returns g c = λ i v few small. sym (told-none (c.args.first + i) v c.args.told.now c.loop-telling.telling-index
    (has_at c.loop-telling.all i v) c.loop-telling-test.false) ∙ c.loop-telling.invariant.1 i v few small
