use Rattle.std.proofs.Common.{◌<◌, arith, ap, length, ◌+◌, ◌∙◌}
use Rattle.std.proofs.Math.Numerals.{add-one}
use Rattle.tl_witness.proofs.Witnesses.{coming-here, conflicts-more, conflicts-none, conflicts-own}
use Rattle.tl_witness.proofs.witness.Witness.tell_conflicts.Goals as goal
use Rattle.tl_witness.proofs.witness.Witness.tell_conflicts.Goals.{then-link-own+in_ok-tell_conflict, else-link-own}

pub loop-link-init : goal.loop-link-init
loop-link-init g c = λ levels l block t known k. conflicts-none (g.X.Places.names c.args.places.now) c.args.own
    c.args.given block t c.args.out.now.items

pub loop-link-preserved : goal.loop-link-preserved
loop-link-preserved g c = λ levels l block t known k. elim c.if-link-own.branch [
  | then-link-own+in_ok-tell_conflict b ↦
      let below : c.loop-link.link < length levels = omega (arith, k.links_is, c.loop-link-test.true) in
      let here = coming-here levels _ block c.args.self.now.block t b.coming-coming.result k.block_is below
      (b.coming-coming.ensures levels l t known) in
      conflicts-more (g.X.Places.names c.args.places.now) c.loop-link.link (c.loop-link.link + 1) c.args.own
      c.args.given block t b.coming-coming.result
      c.args.out.now.items c.loop-link.out.items c.if-link-own.out.items (add-one c.loop-link.link)
      (omega (arith, b.if-link-own.true)) (c.loop-link.invariant levels l block t known k) here
      (ap (λ o. o.items) b.out-is ∙ b.in_ok-tell_conflict.ensures _ (length levels) block t k below here)
  | else-link-own b ↦
      ap (λ o. o.items) b.out-is ∙ conflicts-own (g.X.Places.names c.args.places.now) c.loop-link.link
      (c.loop-link.link + 1) c.args.own c.args.given block t
      c.args.out.now.items c.loop-link.out.items (add-one c.loop-link.link) (omega (arith, b.if-link-own.false))
      (c.loop-link.invariant levels l block t known k)
]
