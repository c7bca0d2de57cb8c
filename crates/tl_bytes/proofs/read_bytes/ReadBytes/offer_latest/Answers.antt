use Rattle.std.proofs.Common.{arith, ◌∙◌}
use Rattle.tl_bytes.{specs.code.Tellings.telling_at, specs.statement.Bytes.could_be, specs.statement.Known.may_bring}
use Rattle.tl_bytes.proofs.Offered.{all-first, none-first, one-offered}
use Rattle.tl_bytes.proofs.read_bytes.ReadBytes.offer_latest.Goals as goal

pub loop-place-init : goal.loop-place-init
loop-place-init c = λ at v lt. none-first (may_bring c.args.self.now at v)
    (λ q. could_be v (telling_at c.args.latest.now q).value) at

pub loop-place-preserved : goal.loop-place-preserved
loop-place-preserved c = λ at v lt. one-offered (may_bring c.args.self.now at v)
    (λ q. could_be v (telling_at c.args.latest.now q).value) c.loop-place.place at
    (may_bring c.loop-place.self at v) (may_bring c.offer.new.self at v) (c.loop-place.invariant at v lt)
    (rw c.at.ensures at (c.in_ok-offer.ensures at v))

pub returns : goal.returns
returns c = λ at v lt. c.loop-place.invariant at v lt ∙ all-first (may_bring c.args.self.now at v)
    (λ q. could_be v (telling_at c.args.latest.now q).value) c.loop-place.place at
    (omega (arith, lt, c.loop-place-test.false, c.loop-place.auto.place-end))
