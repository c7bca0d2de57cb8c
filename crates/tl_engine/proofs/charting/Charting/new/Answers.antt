use Rattle.std.proofs.Common.{rules, refl}
use Rattle.tl_rules.specs.statement.Liberties.{held_under}
use Rattle.tl_engine.proofs.charting.Charting.new.Goals as goal

pub returns : goal.returns
returns g c = record {
  known = search rules;
  gathers = c.in_ok-new.ensures.gathers g.row.W (held_under c.args.header.now.may);
  many = search rules;
  unfaulted = refl;
  number = refl;
}
