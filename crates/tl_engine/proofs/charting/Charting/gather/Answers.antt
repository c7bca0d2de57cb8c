use Rattle.std.proofs.Common.{false, ℕ, ◌≡◌, refl, subst, sym, ◌∙◌}
use Rattle.std.specs.Prelude.{Option}
use Rattle.tl_chart.proofs.Gathering.{on_ok}
use Rattle.tl_chart.specs.code.Moment.{change_of}
use Rattle.tl_chart.specs.statement.Drawn.{holds}
use Rattle.tl_monitor.proofs.Within.{ends_within}
use Rattle.tl_rules.specs.statement.Liberties.{held_under}
use Rattle.tl_engine.proofs.charting.Charting.gather.Goals as goal

pub returns-then-is_over-clause-gathers : goal.returns-then-is_over-clause-gathers
returns-then-is_over-clause-gathers g c = on_ok c.count.result
    (λ gathers levels may t known within many line first was had.
    gathers g.row.W (held_under may) (c.args.link, c.args.beat.now) t (sym c.is_over.ensures ∙ c.if-is_over.true) first had)
    c.count.ensures.gathers

pub returns-clause-gathers : goal.returns-clause-gathers
returns-clause-gathers g c = on_ok c.take.result (λ gathers levels may t known within many line first was had.
    gathers (held_under may) t (record {
      link_is = refl;
      line_is = line;
      first_is = first;
      last_is = c.begins.ensures.under levels may _ false known ∙ ends_within levels c.args.link within c.args.beat.now t;
    }) (rw many within)
    (subst (λ (b : Option ℕ).
    c.changed_from-change.result ≡ change_of (held_under may) b (c.args.link, c.args.beat.now) t) c.watched.ensures
    (c.changed_from-change.ensures levels may c.args.beat.now t known within
    (subst (λ (b : Option ℕ). c.args.before ≡ holds (held_under may) b c.args.link t) (sym c.watched.ensures) was)))
    had) c.take.ensures.gathers
