use Rattle.std.proofs.Common.{arith, refl, sym, ◌≡◌, ◌∙◌, ◌*◌, ◌+◌}
use Rattle.std.proofs.lemmas.List.{take_all, drop_all, append-nil}
use Rattle.tl_rules.proofs.Merges.{eight_more}
use Rattle.tl_rules.proofs.merge.merge_masked.Goals as goal

pub loop-i-preserved : goal.loop-i-preserved
loop-i-preserved c =
    let next : 8 * (c.loop-i.i + 1) ≡ 8 * c.loop-i.i + 8 = omega arith in
    let step = eight_more c.args.mask (8 * c.loop-i.i) c.args.old.now c.args.new.now c.loop-i.old
    (c.told-old ∙ sym c.told-new) (omega arith) c.loop-i.invariant in
    rw (c.write_eight.ensures, c.merge_eight.ensures, c.eight_at-eight.ensures, c.eight_at-other.ensures, next) step

pub returns : goal.returns
returns c =
    c.loop-i.invariant ∙ rw (
      take_all (8 * c.loop-i.i) c.args.old.now (omega arith),
      take_all (8 * c.loop-i.i) c.args.new.now (omega arith),
      drop_all (8 * c.loop-i.i) c.args.old.now (omega arith),
      append-nil,
    ) refl
