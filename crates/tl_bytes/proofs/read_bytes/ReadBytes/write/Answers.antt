use Rattle.std.proofs.Common.{arith, ap, sym, ◌∙◌, ◌||◌, ◌&&◌}
use Rattle.std.specs.Prelude.{◌==◌}
use Rattle.tl_bytes.{specs.code.Tellings.leaves, specs.statement.Known.may_bring}
use Rattle.tl_bytes.proofs.Offered.{all-first, none-first, one-kept, one-offered, unwritten, written-leaves}
use Rattle.tl_bytes.proofs.read_bytes.ReadBytes.write.Goals as goal
use Rattle.tl_bytes.proofs.read_bytes.ReadBytes.write.Goals.{then-writes+in_ok-offer, else-writes}

pub loop-place-init : goal.loop-place-init
loop-place-init c = λ at v lt. none-first (may_bring c.args.self.now at v) (λ q. leaves q v c.args.write.now) at

pub loop-place-preserved : goal.loop-place-preserved
loop-place-preserved c = λ at v lt.
    let write = c.args.write.now in
    let place = c.loop-place.place in
    let now = may_bring c.loop-place.self at v in
    elim c.if-writes.branch [
      | then-writes+in_ok-offer w ↦ ap (λ s. may_bring s at v) w.self-is ∙ one-offered (may_bring c.args.self.now at v)
          (λ q. leaves q v write) place at now (may_bring w.offer.new.self at v) (c.loop-place.invariant at v lt)
          (w.in_ok-offer.ensures at v ∙ ap (λ b. now || ((place == at) && b))
          (written-leaves write place v w.value.result (sym c.writes.ensures ∙ w.if-writes.true) w.value.ensures))
      | else-writes w ↦ ap (λ s. may_bring s at v) w.self-is ∙ one-kept (may_bring c.args.self.now at v)
          (λ q. leaves q v write) place at now (c.loop-place.invariant at v lt)
          (unwritten write place v (sym c.writes.ensures ∙ w.if-writes.false))
    ]

pub returns : goal.returns
returns c = λ at v lt. c.loop-place.invariant at v lt ∙ all-first (may_bring c.args.self.now at v)
    (λ q. leaves q v c.args.write.now) c.loop-place.place at
    (omega (arith, lt, c.loop-place-test.false, c.loop-place.auto.place-end))
