use Rattle.std.proofs.Common.{◌∙◌, codes}
use Rattle.clap.specs.Words.{found_of, first_of, rows_of}
use Rattle.clap.proofs.WalkLemmas.{first_value-rows}
use Rattle.tl_words.proofs.Tasks.{said_first, said_second, word_is_there}
use Rattle.tl_words.proofs.report.is_reported.Goals as goal

pub returns-then-is_some : goal.returns-then-is_some
returns-then-is_some c = said_first (first_of (codes "report") (rows_of (found_of c.args.found.now)))
    (first_of (codes "junit") (rows_of (found_of c.args.found.now))) c.is_some.result
    (c.is_some.ensures ∙ word_is_there c.get_str.result _
    (c.get_str.ensures ∙ first_value-rows (found_of c.args.found.now) (codes "report"))) c.if-is_some.true

pub returns-else-is_some : goal.returns-else-is_some
returns-else-is_some c = said_second (first_of (codes "report") (rows_of (found_of c.args.found.now)))
    (first_of (codes "junit") (rows_of (found_of c.args.found.now))) c.is_some.result c.is_some-else-is_some.result
    (c.is_some.ensures ∙ word_is_there c.get_str.result _
    (c.get_str.ensures ∙ first_value-rows (found_of c.args.found.now) (codes "report"))) c.if-is_some.false
    (c.is_some-else-is_some.ensures ∙ word_is_there c.get_str-else-is_some.result _
    (c.get_str-else-is_some.ensures ∙ first_value-rows (found_of c.args.found.now) (codes "junit")))
