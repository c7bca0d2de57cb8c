-- The notes on an input that comes in pieces.
use Rattle.std.specs.Prelude.{◌≡◌, ◌≢◌, ℕ, List, [], ◌++◌, length, take}
use Rattle.sha2.specs.Hashers.{Holds256}
use Rattle.tl_lines.specs.statement.Lines.{lines_of}
use Rattle.tl_lines.specs.code.Progress.{HasAll, Progress}
use Rattle.tl_lines.specs.declared.lines.Lines.{Lines}
use Rattle.tl_lines.specs.declared.status.Status.{Status}
use Rattle.tl_lines.specs.declared.status.Status.TheVariants.{Broken, Clean}
use Rattle.tl_report.specs.code.Searching.{EndsLines, KnowsLines}
use Rattle.tl_report.specs.declared.search_lines.SearchLines.{SearchLines}
use Rattle.tl_sign_off.specs.declared.input.Notes.{Notes}

-- these bytes have come
pub record IsNoted (n : Notes) (input : List ℕ) : Type 0 where
  pub hashed : Holds256 n.hasher input
  pub so_many : n.bytes ≡ length input
  pub front_is : n.front.items ≡ take 256 input

-- the lines of these bytes were judged: more are looked for, or a line has ended the search, whatever follows
abbrev pub IsJudged : Status → Lines SearchLines → List ℕ → List ℕ → Type 0
IsJudged Clean lines input text = Progress KnowsLines lines input text
IsJudged Broken lines input text = (more : List ℕ) → EndsLines lines.handler (lines_of (input ++ more))

-- all lines of an input were judged
abbrev pub IsJudgedWhole : SearchLines → List ℕ → Status → Type 0
IsJudgedWhole handler input status =
    HasAll KnowsLines EndsLines handler (lines_of input) status × (status ≡ Clean → lines_of input ≢ [])
