use Rattle.std.proofs.Common.{◌<◌, ◌+◌, ◌*◌, ◌∙◌, ap, arith, length-set, refl, sym}
use Rattle.std.proofs.lemmas.Bool.{lt-ltb}
use Rattle.std.specs.Prelude.{is_some}
use Rattle.tl_commits.proofs.CopiedBytes.{in-next}
use Rattle.tl_commits.proofs.TellingLists.{none-before, none-in}
use Rattle.tl_commits.specs.statement.Copies.{brought}
use Rattle.tl_commits.proofs.copied.brought_places.Goals as goal

pub loop-place-init : goal.loop-place-init
loop-place-init g c = (refl, λ t messages p lt. none-in p lt ∙ none-before p _)

pub loop-place-preserved : goal.loop-place-preserved
loop-place-preserved g c =
    let at = c.from-at.result in
    let small : at < 64 = omega (arith, c.from-at.ensures, c.loop-place-test.true) in (
      length-set c.loop-place.places at c.has_brought_at.result ∙ c.loop-place.invariant.0,
      λ t messages p lt.
          in-next c.loop-place.places c.has_brought_at.result at c.loop-place.place p
          (is_some (brought (64 * c.args.block + p) t)) c.loop-place.invariant.0 lt c.loop-place-test.true
          c.from-at.ensures (c.loop-place.invariant.1 t messages p lt)
          (λ same. c.has_brought_at.ensures t messages small
          ∙ ap (λ q. is_some (brought (64 * c.args.block + q) t)) (c.from-at.ensures ∙ sym same)),
    )

pub returns : goal.returns
returns g c = λ t messages p lt.
    c.loop-place.invariant.1 t messages p lt
    ∙ rw (lt-ltb p c.loop-place.place (omega (arith, lt, c.loop-place-test.false))) refl
