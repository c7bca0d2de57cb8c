use Rattle.std.proofs.Common.{rules, refl, ◌∙◌}
use Rattle.tl_commits.proofs.reading.Reading.begin.Goals as goal

pub returns : goal.returns
returns g c = record {
  link_is = refl;
  source_is = refl;
  opcode_is = refl;
  address_is = refl;
  size_is = search rules;
  begun_is = refl;
  found_are = λ place v lt small there. c.put_reached.ensures place v lt there ∙ c.none.ensures v small;
}
