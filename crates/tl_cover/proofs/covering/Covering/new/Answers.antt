use Rattle.std.proofs.Common.{refl, sym, ap, length, ◌∙◌}
use Rattle.std.proofs.lemmas.List.{length-map}
use Rattle.tl_cover.specs.declared.past.LinkPast.{LinkPast}
use Rattle.tl_cover.proofs.Rows.{none_covered}
use Rattle.tl_cover.proofs.covering.Covering.new.Goals as goal

pub returns : goal.returns
returns g c = (
  c.in_ok-monitor.ensures.0,
  record {
    knows = c.in_ok-monitor.ensures.1;
    follows = record {
      pasts_are = λ i d lt. c.in-Ok.ensures.unused i d lt g.row.W c.args.liberties (length c.args.levels.now) i;
      many = sym (length-map c.in-Ok.pasts.items (λ (p : LinkPast). p.level)) ∙ ap length c.in-Ok.ensures.levels;
      count_is = refl;
      rows_are = c.in-Ok-new_rows.ensures
          ∙ none_covered g.row.W c.args.liberties (length c.args.levels.now);
      line_is = refl;
    };
    levels_are = c.in-Ok.ensures.levels;
    liberties_are = refl;
  },
)
