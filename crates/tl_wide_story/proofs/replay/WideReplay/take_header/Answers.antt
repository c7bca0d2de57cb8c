use Rattle.std.proofs.Common.{refl, rules, sym}
use Rattle.tl_wide.specs.statement.Width.{part_width}
use Rattle.tl_wide_story.proofs.replay.WideReplay.take_header.Goals as goal

pub returns-clause-takes : goal.returns-clause-takes
returns-clause-takes g c = λ _. record {
  width = c.in-Some.header.width;
  levels = c.in-Some.header.links.levels.items;
  names = c.in-Some.ensures;
  of_width = search rules;
  level_is = rw c.with_liberties-self.ensures.subject (sym c.level_of-self.ensures);
  count_is = refl;
  narrower_is = refl;
  records = c.with_liberties-self.ensures.record (part_width g.row.W);
  recorded_is = refl;
}
