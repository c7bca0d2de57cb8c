use Rattle.std.proofs.Common.{rules, ap, refl, sym, ◌≡◌, ◌∙◌, ◌/◌, ◌-◌}
use Rattle.std.specs.Prelude.{bit_and, filter, if◌then◌else◌}
use Rattle.tl_wide.proofs.PartMasks.{common-all, common-more, common-none, full-lanes}
use Rattle.tl_wide.specs.statement.Parts.{below, common_mask, part_mask, reaches_part}
use Rattle.tl_wide.proofs.parts.common_mask.Goals as goal

pub loop-i-init : goal.loop-i-init
loop-i-init g c = record {
  counted = refl;
  common = full-lanes g.row.W g.row.P c.requires.width c.requires.parts
      ∙ sym (common-none g.row.W (g.row.W / g.row.P) c.args.reach.mask
      (reaches_part g.row.W c.args.reach.size c.args.reach.address));
}

pub loop-i-preserved : goal.loop-i-preserved
loop-i-preserved g c = record {
  counted = refl;
  common = c.common_with-common.ensures
      ∙ ap (λ m. if reaches_part g.row.W c.args.reach.size c.args.reach.address (g.row.W / g.row.P - 1 - c.loop-i.i)
      then bit_and (part_mask g.row.W c.args.reach.mask (g.row.W / g.row.P - 1 - c.loop-i.i)) m else m)
      c.loop-i.invariant.common
      ∙ sym (common-more g.row.W (g.row.W / g.row.P) c.loop-i.i c.args.reach.mask
      (reaches_part g.row.W c.args.reach.size c.args.reach.address) c.loop-i-test.true);
}

pub returns : goal.returns
returns g c =
    let end : c.loop-i.i ≡ g.row.W / g.row.P = search rules in
    c.loop-i.invariant.common
    ∙ common-all g.row.W (g.row.W / g.row.P) c.loop-i.i c.args.reach.mask
    (reaches_part g.row.W c.args.reach.size c.args.reach.address) end
    ∙ ap (λ p. common_mask g.row.W (filter (reaches_part g.row.W c.args.reach.size c.args.reach.address)
    (below (g.row.W / p))) c.args.reach.mask) c.requires.parts
