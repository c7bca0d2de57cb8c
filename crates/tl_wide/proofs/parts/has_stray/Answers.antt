use Rattle.std.proofs.Common.{rules, arith, ap, ap₂, not, sym, ◌≡◌, ◌∙◌, ◌/◌}
use Rattle.std.specs.Prelude.{◌&&◌}
use Rattle.tl_wide.proofs.OnePart.{none-stray}
use Rattle.tl_wide.proofs.Reached.{fills}
use Rattle.tl_wide.proofs.PartMasks.{clear-more, clear-none, stray-is}
use Rattle.tl_wide.specs.statement.Parts.{parts_of}
use Rattle.tl_wide.proofs.parts.has_stray.Goals as goal

pub returns-then-is_within : goal.returns-then-is_within
returns-then-is_within g c =
    let h = rw c.if-is_within.true at c.is_within.ensures in
    sym (none-stray g.row.W g.row.P c.args.reach.size c.args.reach.address c.args.reach.mask c.requires.width
    c.requires.parts h.0 h.1)

pub loop-part-init : goal.loop-part-init
loop-part-init g c = sym (clear-none g.row.P _)

pub loop-part-preserved : goal.loop-part-preserved
loop-part-preserved g c =
    let f = fills g.row.W g.row.P c.requires.width c.requires.parts in
    ap₂ (λ a b. a && b) c.is_clear-clear.ensures c.loop-part.invariant
    ∙ sym (clear-more c.args.reach.mask g.row.P c.loop-part.part
    (parts_of g.row.W c.args.reach.size c.args.reach.address) (omega (arith, f.some)))

pub returns : goal.returns
returns g c =
    let end : c.loop-part.part ≡ 64 / g.row.P = search rules in
    ap not c.loop-part.invariant ∙ stray-is g.row.W g.row.P c.loop-part.part c.args.reach.mask
    (parts_of g.row.W c.args.reach.size c.args.reach.address) c.requires.width c.requires.parts end
