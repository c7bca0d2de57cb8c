-- What an examiner knows of the lines that it was given.
use Rattle.std.specs.Prelude.{◌≡◌, ℕ, List, None}
use Rattle.tl_lines.specs.code.LinkWatching.{KnowsLines}
use Rattle.tl_lines.specs.code.Tracing.{KnowsTraced}
use Rattle.tl_reasons.specs.code.Answering.{FindsBlock}
use Rattle.tl_reasons.specs.declared.examiner.Examiner.{Examiner}

-- these lines have been judged, and none was noted to be at fault
pub record KnowsExaminer (e : Examiner) (lines : List (List ℕ)) (text : List ℕ) : Type 0 where
  pub judged : KnowsLines e.link_lines lines text
  pub traced : KnowsTraced e.link_lines lines
  pub unfound : e.found.now.fault ≡ None

-- what it has if one of these lines is at fault
abbrev pub EndsExaminer : Examiner → List (List ℕ) → Type 0
EndsExaminer e lines = FindsBlock e.link_lines.allow e.found.now lines
