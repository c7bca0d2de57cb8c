use Rattle.std.proofs.Common.{◌≡◌, ◌++◌, drop}
use Rattle.std.specs.List.{flat_map}
use Rattle.tl_chart.specs.statement.Chart.{all_bars_text}
use Rattle.tl_chart.specs.statement.Picture.{bars_text, link_place, row_place}
use Rattle.tl_params.specs.declared.perm.Perm.TheVariants as perm
use Rattle.tl_chart.proofs.chart.append_all_bars.Given as goal

abbrev pub invariant-loop-link : goal.invariant-loop-link
invariant-loop-link l =
    l.out.items ++ flat_map (λ link. bars_text l.rows l.gatherer.window.first l.bottom link (link_place l.links link)
    perm.None (row_place 0) l.gatherer.marks.items) (drop l.link-index l.links)
    ≡ l.initial.out.items ++ all_bars_text l.rows l.gatherer.marks.items l.links l.gatherer.window.first l.bottom
