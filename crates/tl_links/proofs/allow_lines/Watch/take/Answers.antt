use Rattle.std.specs.Prelude.{false}
use Rattle.tl_monitor.proofs.Knowing.{broken_by, unbroken}
use Rattle.tl_rules.specs.statement.Liberties.{broken_on_link_under}
use Rattle.tl_links.proofs.allow_lines.Watch.take.Goals as goal

pub returns-in-Ok-take : goal.returns-in-Ok-take
returns-in-Ok-take g c = λ levels may t known. (
  unbroken (broken_on_link_under may levels (c.args.link, c.args.beat.now) t)
      (c.in-Ok.ensures.answer_under levels may t false known.monitor_knows),
  record {
    monitor_knows = c.in-Ok.ensures.knows_under levels may t false known.monitor_knows;
    allowances_know = c.in-Ok-take.ensures.taken levels may t known.allowances_know;
    none_found = known.none_found;
  },
)

pub returns-in_ok-self-in-Err-Broken : goal.returns-in_ok-self-in-Err-Broken
returns-in_ok-self-in-Err-Broken g c = λ levels may t known. (
  c.in-Err-Broken.rule,
  broken_by (broken_on_link_under may levels (c.args.link, c.args.beat.now) t) c.in-Err-Broken.rule
      (rw c.in-Err-Broken.field-0-is at (c.in-Err-Broken.ensures.answer_under levels may t false known.monitor_knows)),
  c.in_ok-self-in-Err-Broken.ensures levels may t known.allowances_know,
)
