use Rattle.std.proofs.Common.{◌≡◌, ◌<◌, ◌+◌, ◌*◌, rules, arith, refl, sym, ap₂, ◌∙◌, length, length-set}
use Rattle.std.proofs.lemmas.Bool.{le-ltb, lt-ltb}
use Rattle.tl_memory.specs.code.ByteSet.{has_at}
use Rattle.tl_commits.specs.code.Filling.{filled}
use Rattle.tl_commits.specs.statement.Copies.{brought}
use Rattle.tl_memory.proofs.values.ByteSets.{set-next}
use Rattle.tl_commits.proofs.bringing.with_filled.Goals as goal

pub loop-i-init : goal.loop-i-init
loop-i-init g c = (search rules, λ t messages i v few room small. rw (le-ltb i 0 (omega arith)) refl)

pub loop-i-preserved : goal.loop-i-preserved
loop-i-preserved g c =
    let old = c.loop-i.all in
    let at = c.loop-i.i in
    let long : length old ≡ 8 = c.loop-i.invariant.0 in
    let within : at < length old = omega (arith, c.loop-i-test.true, long) in (
      length-set old at c.filled_at.result ∙ long,
      λ t messages i v few room small.
          set-next old c.filled_at.result at i v
          (filled (brought (64 * c.args.block + (c.args.first + i)) t) (has_at c.args.sets.now i v)
          (has_at c.args.held i v) v) (has_at c.args.held i v) within
          (c.loop-i.invariant.1 t messages i v few room small)
          (λ same.
          let place : c.saturating_add-place.result ≡ c.args.first + i =
          omega (arith, c.saturating_add-place.ensures, room, same) in
          let inside : c.saturating_add-place.result < 64 = omega (arith, place, room) in
          c.filled_at.ensures t messages inside v small
          ∙ ap₂ (λ p j. filled (brought (64 * c.args.block + p) t) (has_at c.args.sets.now j v)
          (has_at c.args.held j v) v) place (sym same)),
    )

pub returns : goal.returns
returns g c = λ t messages i v few room small.
    let done : i < c.loop-i.i = omega (arith, few, c.loop-i-test.false) in
    c.loop-i.invariant.1 t messages i v few room small ∙ rw (lt-ltb i c.loop-i.i done) refl
