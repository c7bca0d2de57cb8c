use Rattle.std.proofs.Common.{rules, sym, true, ◌≡◌, ◌∙◌, ◌/◌}
use Rattle.tl_wide.proofs.Cut.{next-none, next-one, next-passed}
use Rattle.tl_wide.specs.statement.Pieces.{carries_of}
use Rattle.tl_wide.specs.statement.Parts.{reaches_part}
use Rattle.tl_wide.proofs.parts.Parts.next.Goals as goal

pub returns-then-reaches : goal.returns-then-reaches
returns-then-reaches g c =
    let some : carries_of c.args.beat.now ≡ true = search rules in
    let so_far = rw (c.reach_of-reach.ensures.size, c.reach_of-reach.ensures.address) at c.loop-part.invariant.left in
    let reached = rw (c.reach_of-reach.ensures.size, c.reach_of-reach.ensures.address) at
    (sym c.reaches.ensures ∙ c.if-reaches.true) in
    let piece_is = rw (
      c.shown_mask-mask.ensures,
      c.reach_of-reach.ensures.mask,
      c.loop-part.invariant.named,
      c.loop-part.invariant.stray,
    ) at c.piece.ensures in
    rw (c.loop-part.invariant.named, c.loop-part.invariant.stray) (next-one c.args.beat.now c.args.self.now g.row.P
    c.loop-part.part c.piece.result c.requires.parts some so_far c.loop-part-test.true reached piece_is)

pub loop-part-preserved : goal.loop-part-preserved
loop-part-preserved g c = record {
  named = c.loop-part.invariant.named;
  stray = c.loop-part.invariant.stray;
  left = c.loop-part.invariant.left ∙ next-passed (g.row.W / g.row.P) c.loop-part.part
      (reaches_part g.row.W c.reach_of-reach.result.size c.reach_of-reach.result.address) c.loop-part-test.true
      (sym c.reaches.ensures ∙ c.if-reaches.false);
}

pub returns : goal.returns
returns g c =
    let some : carries_of c.args.beat.now ≡ true = search rules in
    let so_far = rw (c.reach_of-reach.ensures.size, c.reach_of-reach.ensures.address) at c.loop-part.invariant.left in
    next-none c.args.beat.now c.args.self.now g.row.P c.loop-part.part c.requires.parts some so_far
    c.loop-part-test.false
