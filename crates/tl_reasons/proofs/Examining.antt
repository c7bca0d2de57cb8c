-- What an examiner knows with one line more, and has where a line is at fault.
use Rattle.std.proofs.Common.{◌≡◌, ◌∙◌, ℕ, List, [], ◌∷◌, ◌++◌, sym, subst}
use Rattle.std.specs.Prelude.{Bool, Option, Some, None, Result, Ok}
use Rattle.tl_reasons.specs.code.Examining.{EndsExaminer, KnowsExaminer}
use Rattle.tl_lines.specs.code.Judging.{Ends, Finishes, IsTotal, Judges, Stops}
use Rattle.tl_lines.specs.code.LinkWatching.{KnowsLines, judged_for}
use Rattle.tl_lines.specs.code.Tracing.{TracedBy, WatchesLine}
use Rattle.tl_reasons.specs.code.Answering.{AnswersBy, FindsBlock, NotesLine}
use Rattle.tl_reasons.specs.declared.examiner.Examiner.{Examiner}
use Rattle.tl_lines.specs.declared.fault.Fault.{Fault}
use Rattle.tl_lines.specs.declared.link_lines.LinkLines.{LinkLines}
use Rattle.tl_lines.specs.declared.status.Status.{Status}
use Rattle.tl_lines.specs.statement.JudgedLinks.{JudgedLinks}
use Rattle.tl_lines.proofs.JudgedLines.{links_total}
use Rattle.tl_lines.proofs.Tracing.{watched-good}
use Rattle.tl_reasons.proofs.Answering.{finds-block, found-block}
use Rattle.tl_params.specs.declared.liberties.Liberties.{Liberties}

-- what the links of a handler are judged
abbrev pub TellsOf : LinkLines → List (List ℕ) → List ℕ → Status → Type 0
TellsOf h = JudgedLinks h.together h.allow

module _ (old new : Examiner) (line : List ℕ) (same : judged_for new.link_lines ≡ judged_for old.link_lines) where
  -- a handler for the same purpose
  traced-for : (lines : List (List ℕ))
      → TracedBy old.link_lines.together old.link_lines.allow new.link_lines.judge lines
      → TracedBy new.link_lines.together new.link_lines.allow new.link_lines.judge lines
  traced-for lines traced =
      subst (λ (p : Bool × Liberties). TracedBy p.0 p.1 new.link_lines.judge lines) (sym same) traced

  pub examined : (was is : List ℕ) (fault : Option Fault) (block : Option ℕ)
      → Judges KnowsLines (TellsOf old.link_lines) old.link_lines new.link_lines line was is fault
      → WatchesLine old.link_lines new.link_lines line fault
      → NotesLine old.found.now new.found.now fault block
      → Judges KnowsExaminer (TellsOf old.link_lines) old new line was is fault
  examined was is None block judges watches notes = λ lines before k. record {
    judged = judges lines before k.judged;
    traced = traced-for (lines ++ line ∷ [])
        (watched-good old.link_lines.together old.link_lines.allow old.link_lines.judge new.link_lines.judge lines line
        k.traced watches);
    unfound = notes ∙ k.unfound;
  }
  examined was is (Some fault) block judges watches notes = λ lines before k more. judges lines before k.judged more

  pub examined-end : (fault : Fault) (block : Option ℕ)
      → WatchesLine old.link_lines new.link_lines line (Some fault)
      → AnswersBy old.link_lines.together new.link_lines.judge line block
      → NotesLine old.found.now new.found.now (Some fault) block
      → Ends KnowsExaminer EndsExaminer old new line
  examined-end fault block watches answers notes = λ lines text k more.
      subst (λ (p : Bool × Liberties). FindsBlock p.1 new.found.now (lines ++ line ∷ more)) (sym same)
      (finds-block old.link_lines.allow new.found.now block fault (lines ++ line ∷ more) notes.0 notes.1
      (found-block old.link_lines.together old.link_lines.allow old.link_lines.judge new.link_lines.judge lines more
      line block fault k.traced watches answers))

-- an open line, or the end
unfound : (e : Examiner) (lines all : List (List ℕ)) (text : List ℕ) → KnowsExaminer e lines text → EndsExaminer e all
unfound e lines all text k = λ fault line there needs.
    absurd (let never : None ≡ Some (fault, line) = sym k.unfound ∙ there in cc)

pub examined-stops : (e : Examiner) (line was is : List ℕ) (fault : Fault)
    → Stops KnowsLines (TellsOf e.link_lines) e.link_lines line was is fault
    → Stops KnowsExaminer (TellsOf e.link_lines) e line was is fault
examined-stops e line was is fault stops = λ lines before k more. stops lines before k.judged more

pub examined-open : (e : Examiner) (line : List ℕ) → Ends KnowsExaminer EndsExaminer e e line
examined-open e line = λ lines text k more. unfound e lines (lines ++ line ∷ more) text k

pub examined-here : (e : Examiner) (lines : List (List ℕ)) (text : List ℕ) → KnowsExaminer e lines text
    → EndsExaminer e lines
examined-here e lines text k = unfound e lines lines text k

pub examined-finish : (e : Examiner) (count : ℕ) (was is : List ℕ) (fault : Option Fault)
    → Finishes KnowsLines (TellsOf e.link_lines) e.link_lines count was is fault
    → Finishes KnowsExaminer (TellsOf e.link_lines) e count was is fault
examined-finish e count was is None finishes = λ lines before k counted. finishes lines before k.judged counted
examined-finish e count was is (Some fault) finishes = λ lines before k counted. finishes lines before k.judged counted

-- each trace has a text
pub examined-total : IsTotal (λ (e : Examiner). judged_for e.link_lines) KnowsExaminer (λ p. JudgedLinks p.0 p.1)
examined-total e lines text k more = links_total e.link_lines lines text k.judged more

pub ok_is : {X E : Type 0} (r : Result X E) (x y : X) → r ≡ Ok x → r ≡ Ok y → x ≡ y
ok_is r x y e f = cc
