use Rattle.std.proofs.Common.{ℕ, arith, ◌∙◌, ◌≡◌}
use Rattle.std.specs.Prelude.{Option, None}
use Rattle.tl_bytes.{specs.code.Tellings.written_at, specs.statement.KnownBytes.known_at}
use Rattle.tl_bytes.proofs.Filled.{all-filled, next-filled, none-filled, not-yet}
use Rattle.tl_bytes.proofs.latest.Latest.values_with.Goals as goal

pub loop-place-init : goal.loop-place-init
loop-place-init c = λ p. c.none-values.ensures p
    ∙ none-filled (λ q. (written_at c.args.self.now c.args.write.now c.args.moment q).value) (λ q. None) p

pub loop-place-preserved : goal.loop-place-preserved
loop-place-preserved c =
    let fill : ℕ → Option ℕ = λ q. (written_at c.args.self.now c.args.write.now c.args.moment q).value in
    let place = c.loop-place.place in
    let unknown : known_at c.loop-place.values place ≡ None =
    c.loop-place.invariant place ∙ not-yet fill (λ q. None) place in
    next-filled fill (λ q. None) place (known_at c.loop-place.values) (known_at c.set_known.new.self)
    c.loop-place.invariant
    (rw (c.from.ensures, c.with_at-telling.ensures) at c.set_known.ensures
    (omega (arith, c.loop-place-test.true, c.loop-place.auto.place-end)) unknown)

pub returns : goal.returns
returns c = λ p lt. c.loop-place.invariant p
    ∙ all-filled (λ q. (written_at c.args.self.now c.args.write.now c.args.moment q).value) (λ q. None) c.loop-place.place p
    (omega (arith, lt, c.loop-place-test.false, c.loop-place.auto.place-end))
