use Rattle.std.proofs.Common.{rules, refl, ap, ◌∙◌}
use Rattle.std.proofs.lemmas.List.{get_or-replicate}
use Rattle.tl_memory.specs.code.ByteSet.{has, nothing}
use Rattle.tl_commits.proofs.reading.Reading.new.Goals as goal

pub returns : goal.returns
returns g c = record {
  link_is = refl;
  source_is = refl;
  opcode_is = refl;
  address_is = refl;
  size_is = search rules;
  begun_is = refl;
  found_are = λ place v lt small there.
      ap (λ s. has s v) (get_or-replicate 64 place c.none.result nothing lt) ∙ c.none.ensures v small;
}
