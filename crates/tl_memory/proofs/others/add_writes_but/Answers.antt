use Rattle.std.proofs.Common.{◌≡◌, ◌∙◌, rules, ap, not, true, false}
use Rattle.tl_memory.specs.code.ByteSet.{has_at}
use Rattle.tl_memory.specs.code.Writers.{names}
use Rattle.tl_memory.proofs.values.Added.{added-none, added-not, added-one}
use Rattle.tl_memory.proofs.others.add_writes_but.Goals as goal
use Rattle.tl_memory.proofs.others.add_writes_but.Goals.{then-not-is_of, else-not-is_of}

pub loop-access-init : goal.loop-access-init
loop-access-init g c = λ place v lt small.
    added-none (λ x. not (names c.args.link.0 c.args.source x.writer.asked)) (λ x. x.writer.write) c.args.accesses.now
    (has_at c.args.sets.now place v) _ v

pub loop-access-preserved : goal.loop-access-preserved
loop-access-preserved g c = elim c.if-not-is_of.branch [
  | then-not-is_of w ↦ λ place v lt small.
      let kept : names c.args.link.0 c.args.source c.access-item.result.writer.asked ≡ false = search rules in
      added-one (λ x. not (names c.args.link.0 c.args.source x.writer.asked)) (λ x. x.writer.write)
      c.args.accesses.now (has_at c.args.sets.now place v) _ v c.loop-access.access-index c.access-item.result
      c.access-item.result _ _ c.access-item.is c.loop-access-test.true (ap not kept)
      (c.loop-access.invariant place v lt small)
      (ap (λ s. has_at s place v) w.sets-is ∙ w.add_write.ensures place v lt small)
  | else-not-is_of w ↦ λ place v lt small.
      let own : names c.args.link.0 c.args.source c.access-item.result.writer.asked ≡ true = search rules in
      ap (λ s. has_at s place v) w.sets-is
      ∙ added-not (λ x. not (names c.args.link.0 c.args.source x.writer.asked)) (λ x. x.writer.write)
      c.args.accesses.now (has_at c.args.sets.now place v) _ v c.loop-access.access-index c.access-item.result
      c.access-item.result _ c.access-item.is c.loop-access-test.true (ap not own)
      (c.loop-access.invariant place v lt small)
]
