use Rattle.std.proofs.Common.{◌∙◌, codes, sym}
use Rattle.std.proofs.lemmas.Result.{IfErr-weaker, IfOk-weaker}
use Rattle.clap.specs.Words.{found_of, rows_of}
use Rattle.clap.proofs.WalkLemmas.{first_value-rows}
use Rattle.tl_words.proofs.report.report.Goals as goal

pub returns-clause-read : goal.returns-clause-read
returns-clause-read c = IfOk-weaker c.reported.result _ _ (λ task h. h (rows_of (found_of c.args.found.now)) (record {
  all_is = sym (c.get_str.ensures ∙ first_value-rows (found_of c.args.found.now) (codes "all"));
  file_is = sym (c.get_str-2.ensures ∙ first_value-rows (found_of c.args.found.now) (codes "FILE"));
  report_is = sym (c.get_str-3.ensures ∙ first_value-rows (found_of c.args.found.now) (codes "report"));
  junit_is = sym (c.get_str-4.ensures ∙ first_value-rows (found_of c.args.found.now) (codes "junit"));
}) c.requires.reported c.requires.allowed) c.reported.ensures.read

pub returns-clause-wrong : goal.returns-clause-wrong
returns-clause-wrong c =
    IfErr-weaker c.reported.result _ _ (λ fault h. h (rows_of (found_of c.args.found.now)) (record {
      all_is = sym (c.get_str.ensures ∙ first_value-rows (found_of c.args.found.now) (codes "all"));
      file_is = sym (c.get_str-2.ensures ∙ first_value-rows (found_of c.args.found.now) (codes "FILE"));
      report_is = sym (c.get_str-3.ensures ∙ first_value-rows (found_of c.args.found.now) (codes "report"));
      junit_is = sym (c.get_str-4.ensures ∙ first_value-rows (found_of c.args.found.now) (codes "junit"));
    }) c.requires.reported c.requires.random c.requires.chart c.requires.cover
    c.requires.plain) c.reported.ensures.wrong
