use Rattle.std.proofs.Common.{◌∙◌, ap, codes, sym}
use Rattle.clap.specs.Words.{found_of, rows_of}
use Rattle.clap.proofs.WalkLemmas.{first_value-rows}
use Rattle.tl_command.specs.statement.Words.{wide_width_named}
use Rattle.tl_words.proofs.Tasks.{no_wide}
use Rattle.tl_words.proofs.wide_words.decode_wide.Goals as goal

pub returns-clause-read : goal.returns-clause-read
returns-clause-read c = (
  c.requires,
  ap wide_width_named (sym (c.get_str-word.ensures ∙ first_value-rows (found_of c.args.found.now) (codes "width")))
      ∙ sym c.in-Some.ensures,
  c.in_ok-file.ensures ∙ c.get_str.ensures ∙ first_value-rows (found_of c.args.found.now) (codes "FILE"),
)

pub returns-in_default-clause-wrong : goal.returns-in_default-clause-wrong
returns-in_default-clause-wrong c = (
  no_wide (rows_of (found_of c.args.found.now)) c.requires
      (ap wide_width_named (sym (c.get_str-word.ensures ∙ first_value-rows (found_of c.args.found.now) (codes "width")))
      ∙ sym c.in_default.ensures),
  c.in_ok-wrong_wide_width.ensures,
)
