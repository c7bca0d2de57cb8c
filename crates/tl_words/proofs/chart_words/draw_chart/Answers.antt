use Rattle.std.proofs.Common.{◌∙◌, codes, refl, sym}
use Rattle.clap.specs.Words.{found_of, rows_of}
use Rattle.clap.proofs.WalkLemmas.{first_value-rows}
use Rattle.tl_words.proofs.Tasks.{allowed_in, no_chart, none_allowed_in, range_alike}
use Rattle.tl_words.proofs.chart_words.draw_chart.Goals as goal

pub returns-in_ok-file-in-Ok-clause-drawn : goal.returns-in_ok-file-in-Ok-clause-drawn
returns-in_ok-file-in-Ok-clause-drawn c = (
  refl,
  range_alike c.in-Ok.range
      (c.get_str-lines.ensures ∙ first_value-rows (found_of c.args.found.now) (codes "lines"))
      (c.get_str-block.ensures ∙ first_value-rows (found_of c.args.found.now) (codes "block")) c.in-Ok.ensures.named,
  allowed_in (rows_of (found_of c.args.found.now)) _
      (c.get_str-word.ensures ∙ first_value-rows (found_of c.args.found.now) (codes "allow")) c.in-Some.allow
      c.in-Some.ensures,
  c.in_ok-file-in-Ok.ensures ∙ c.get_str-name_of_file.ensures ∙ first_value-rows (found_of c.args.found.now)
      (codes "FILE"),
)

pub returns-in_ok-error-in-Err-clause-wrong : goal.returns-in_ok-error-in-Err-clause-wrong
returns-in_ok-error-in-Err-clause-wrong c = (
  no_chart (rows_of (found_of c.args.found.now))
      (λ range allow is are. c.in-Err.ensures.wrong range (range_alike range
      (sym (c.get_str-lines.ensures ∙ first_value-rows (found_of c.args.found.now) (codes "lines")))
      (sym (c.get_str-block.ensures ∙ first_value-rows (found_of c.args.found.now) (codes "block"))) is)),
  c.in_ok-error-in-Err.ensures,
)

pub returns-in_default-clause-wrong : goal.returns-in_default-clause-wrong
returns-in_default-clause-wrong c = (
  no_chart (rows_of (found_of c.args.found.now))
      (λ range allow is. none_allowed_in (rows_of (found_of c.args.found.now)) _
      (c.get_str-word.ensures ∙ first_value-rows (found_of c.args.found.now) (codes "allow")) c.in_default.ensures
      allow),
  c.in_ok-error.ensures,
)
