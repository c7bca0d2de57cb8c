use Rattle.std.proofs.Common.{◌≡◌, ◌++◌, drop}
use Rattle.std.specs.List.{flat_map}
use Rattle.tl_chart.specs.statement.Picture.{arrow_text}
use Rattle.tl_chart.proofs.draw.append_arrows.Given as goal

abbrev pub invariant-loop-arrow : goal.invariant-loop-arrow
invariant-loop-arrow l =
    l.out.items ++ flat_map (arrow_text l.sheet.names.now l.sheet.rows.now l.sheet.links.now l.sheet.first l.sheet.fault)
    (drop l.arrow-index l.arrows)
    ≡ l.initial.out.items
    ++ flat_map (arrow_text l.sheet.names.now l.sheet.rows.now l.sheet.links.now l.sheet.first l.sheet.fault) l.arrows
