use Rattle.std.proofs.Common.{◌∙◌, codes}
use Rattle.clap.specs.Words.{found_of, rows_of}
use Rattle.clap.proofs.WalkLemmas.{first_value-rows}
use Rattle.tl_words.proofs.Tasks.{allowed_in, no_liberties_named, none_allowed_in}
use Rattle.tl_words.proofs.words.asked.Goals as goal

pub returns-in_default-clause-wrong : goal.returns-in_default-clause-wrong
returns-in_default-clause-wrong c = (
  no_liberties_named c.args.name.now (rows_of (found_of c.args.found.now))
      (none_allowed_in (rows_of (found_of c.args.found.now)) _
      (c.get_str-word.ensures ∙ first_value-rows (found_of c.args.found.now) (codes "allow")) c.in_default.ensures)
      c.requires.random c.requires.chart c.requires.cover c.requires.plain,
  c.in_ok-wrong_liberties.ensures,
)

pub report-requires-clause-allowed : goal.report-requires-clause-allowed
report-requires-clause-allowed c =
    allowed_in (rows_of (found_of c.args.found.now)) _
    (c.get_str-word.ensures ∙ first_value-rows (found_of c.args.found.now) (codes "allow")) c.in-Some.allow
    c.in-Some.ensures

pub read-requires-clause-allowed : goal.read-requires-clause-allowed
read-requires-clause-allowed c =
    allowed_in (rows_of (found_of c.args.found.now)) _
    (c.get_str-word.ensures ∙ first_value-rows (found_of c.args.found.now) (codes "allow")) c.in-Some.allow
    c.in-Some.ensures
