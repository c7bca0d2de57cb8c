use Rattle.std.proofs.Common.{◌∙◌, codes, sym}
use Rattle.std.proofs.lemmas.Result.{IfErr-weaker, IfOk-weaker}
use Rattle.clap.specs.Words.{found_of, rows_of}
use Rattle.clap.proofs.WalkLemmas.{first_value-rows}
use Rattle.tl_words.proofs.Tasks.{named_alike, no_read}
use Rattle.tl_words.proofs.words.read.Goals as goal

pub returns-in-Some-clause-read : goal.returns-in-Some-clause-read
returns-in-Some-clause-read c = IfOk-weaker c.search.result _ _ (λ task h. h (rows_of (found_of c.args.found.now))
    (sym (c.in-Some.ensures ∙ first_value-rows (found_of c.args.found.now) (codes "all")))
    (sym (c.get_str-name_of_file.ensures ∙ first_value-rows (found_of c.args.found.now) (codes "FILE")))
    c.requires.unreported
    c.requires.allowed) c.search.ensures.read

pub returns-in-Some-clause-wrong : goal.returns-in-Some-clause-wrong
returns-in-Some-clause-wrong c = IfErr-weaker c.search.result _ _ (λ fault h. h (rows_of (found_of c.args.found.now))
    (sym (c.in-Some.ensures ∙ first_value-rows (found_of c.args.found.now) (codes "all")))
    c.requires.random c.requires.chart c.requires.cover c.requires.plain c.requires.unreported) c.search.ensures.wrong

pub returns-in_default-command_named-clause-wrong : goal.returns-in_default-command_named-clause-wrong
returns-in_default-command_named-clause-wrong c = (
  no_read c.args.name.now (rows_of (found_of c.args.found.now))
      (named_alike c.args.name.now
      (c.get_str-width.ensures ∙ first_value-rows (found_of c.args.found.now) (codes "width"))
      (c.get_str-trace.ensures ∙ first_value-rows (found_of c.args.found.now) (codes "trace"))
      (c.get_str-commits.ensures ∙ first_value-rows (found_of c.args.found.now) (codes "commits"))
      (c.get_str-coherent.ensures ∙ first_value-rows (found_of c.args.found.now) (codes "coherent"))
      (c.get_str-name_of_file.ensures ∙ first_value-rows (found_of c.args.found.now) (codes "FILE")) ∙ sym
      c.in_default-command_named.ensures)
      (sym (c.in_default.ensures ∙ first_value-rows (found_of c.args.found.now) (codes "all")))
      c.requires.random
      c.requires.chart
      c.requires.cover
      c.requires.plain
      c.requires.unreported,
  c.in_ok-wrong_words.ensures,
)

pub returns-clause-read : goal.returns-clause-read
returns-clause-read c = (
  named_alike c.args.name.now
      (c.get_str-width.ensures ∙ first_value-rows (found_of c.args.found.now) (codes "width"))
      (c.get_str-trace.ensures ∙ first_value-rows (found_of c.args.found.now) (codes "trace"))
      (c.get_str-commits.ensures ∙ first_value-rows (found_of c.args.found.now) (codes "commits"))
      (c.get_str-coherent.ensures ∙ first_value-rows (found_of c.args.found.now) (codes "coherent"))
      (c.get_str-name_of_file.ensures ∙ first_value-rows (found_of c.args.found.now) (codes "FILE")) ∙ sym
      c.in-Some-command_named.ensures,
  sym (c.in_default.ensures ∙ first_value-rows (found_of c.args.found.now) (codes "all")),
  c.in_ok-file.ensures ∙ c.get_str-name_of_file.ensures ∙ first_value-rows (found_of c.args.found.now) (codes "FILE"),
  c.requires.unreported,
  c.requires.allowed,
  c.requires.plain,
  c.in_ok-times.ensures ∙ c.get_str-name_of_times.ensures ∙ first_value-rows (found_of c.args.found.now) (codes "times"),
)
