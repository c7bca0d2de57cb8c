use Rattle.std.proofs.Common.{◌∙◌, [], List, ap, codes, refl}
use Rattle.std.specs.Prelude.{Option, unwrap_or}
use Rattle.clap.specs.Words.{Text, found_of}
use Rattle.clap.proofs.WalkLemmas.{raw_values-rows}
use Rattle.tl_words.proofs.cover_words.tell_covered.Goals as goal

pub returns-clause-told : goal.returns-clause-told
returns-clause-told c = (
  refl,
  c.in_ok-form.ensures.formed,
  c.in_ok-files.ensures ∙ ap (λ (o : Option (List Text)). unwrap_or o []) (c.get_strs-names.ensures
      ∙ raw_values-rows (found_of c.args.found.now) (codes "FILE")),
)
