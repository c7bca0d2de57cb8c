-- The words of a judgement that is reported.
use Rattle.std.specs.Prelude.{◌≡◌, List, codes}
use Rattle.clap.specs.Words.{Row, first_of}
use Rattle.tl_command.specs.statement.RandomWords.{text_of}
use Rattle.tl_words.specs.Tool.{file_in}
use Rattle.tl_words.specs.declared.report.ReportWords.{ReportWords}

-- the entries have these words
pub record AreGiven (rows : List Row) (w : ReportWords) : Type 0 where
  pub all_is : first_of (codes "all") rows ≡ text_of w.all
  pub file_is : file_in rows ≡ text_of w.file
  pub report_is : first_of (codes "report") rows ≡ text_of w.report
  pub junit_is : first_of (codes "junit") rows ≡ text_of w.junit
