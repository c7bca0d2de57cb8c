-- An input that is judged to its end, piece by piece.
use Rattle.std.proofs.Common.{◌≡◌, ◌≢◌, ℕ, List, [], ◌++◌, append_assoc, length, refl, take}
use Rattle.std.specs.Prelude.{IfOk, Option, Result, Ok, Err}
use Rattle.std.specs.Io.KnownBytes.{Consumes, IsAtEnd}
use Rattle.std.proofs.KnownBytes.{Consumes-trans}
use Rattle.std.proofs.lemmas.List.{append-nil}
use Rattle.tl_lines.specs.statement.Lines.{lines_of}
use Rattle.tl_lines.specs.code.Progress.{EndsWithin, Feeds, FinishesInput, HasAll, Progress}
use Rattle.tl_lines.specs.declared.lines.Lines.{Lines}
use Rattle.tl_lines.specs.declared.status.Status.{Status}
use Rattle.tl_lines.specs.declared.status.Status.TheVariants.{Broken, Clean}
use Rattle.tl_lines.specs.declared.status.ToolFault.{ToolFault}
use Rattle.sha2.specs.Sha256.{sha256}
use Rattle.tl_command.specs.declared.search.Aim.{Aim}
use Rattle.tl_report.specs.code.Searching.{EndsLines, HasFound, KnowsLines, TellsLines, aim_of}
use Rattle.tl_report.specs.declared.findings.Findings.{Findings}
use Rattle.tl_report.specs.declared.search_lines.SearchLines.{SearchLines}
use Rattle.tl_sign_off.specs.code.Noting.{IsJudged, IsJudgedWhole, IsNoted}
use Rattle.tl_sign_off.specs.declared.account.Account.{Account}
use Rattle.tl_sign_off.specs.declared.input.Notes.{Notes}
use Rattle.tl_sign_off.specs.statement.Account.{IsOf}

-- a piece is judged
pub goes_on : (r : Result Status ToolFault) (old new : Lines SearchLines) (piece was is : List ℕ)
    → IfOk r (Feeds KnowsLines TellsLines old new piece was is)
    → (r ≡ Ok Broken → EndsWithin KnowsLines EndsLines old new.handler piece was)
    → IfOk r (λ now. (input : List ℕ) → IsJudged Clean old input was → IsJudged now new (input ++ piece) is)
goes_on (Err fault) old new piece was is feeds ends = tt
goes_on (Ok Clean) old new piece was is feeds ends = λ input p. feeds input [] p
goes_on (Ok Broken) old new piece was is feeds ends = λ input p more. ends refl input [] p more

-- a piece is read behind the line that ended the search
pub stays : (lines : Lines SearchLines) (input piece text : List ℕ) → IsJudged Broken lines input text
    → IsJudged Broken lines (input ++ piece) text
stays lines input piece text is = λ more. rw (append_assoc input piece more) (is (piece ++ more))

-- the end is judged
pub closes : (r : Result Status ToolFault) (lines : Lines SearchLines) (was is : List ℕ)
    → IfOk r (FinishesInput KnowsLines TellsLines lines was is)
    → IfOk r (λ status. (read text : List ℕ) → Progress KnowsLines lines read text
    → HasAll KnowsLines EndsLines lines.handler (lines_of read) status)
    → IfOk r (λ end. (input : List ℕ) → IsJudged Clean lines input was → IsJudgedWhole lines.handler input end)
closes (Err fault) lines was is finishes has = tt
closes (Ok Clean) lines was is finishes has = λ input p. (has input was p, finishes input [] p)
closes (Ok Broken) lines was is finishes has = λ input p. (has input was p, λ e. absurd cc)

-- the search has ended before
pub closed : (lines : Lines SearchLines) (input text : List ℕ) → IsJudged Broken lines input text
    → IsJudgedWhole lines.handler input Broken
closed lines input text is = (rw (append-nil input) at (is []), λ e. absurd cc)

-- ---- the input, piece by piece

-- the piece that was read last is noted and judged
pub read_on : (had left now : Option (List ℕ)) (notes noted : Notes) (old new : Lines SearchLines) (status then : Status)
    (piece was is : List ℕ)
    → (input : List ℕ) × Consumes had left input × IsNoted notes input × IsJudged status old input was
    → Consumes left now piece
    → ((input : List ℕ) → IsNoted notes input → IsNoted noted (input ++ piece))
    → ((input : List ℕ) → IsJudged status old input was → IsJudged then new (input ++ piece) is)
    → (input : List ℕ) × Consumes had now input × IsNoted noted input × IsJudged then new input is
read_on had left now notes noted old new status then piece was is (input, consumed, known, judged) more notes_it judges_it =
    (input ++ piece, Consumes-trans had left now input piece consumed more, notes_it input known, judges_it input judged)

-- the end is judged
pub ended : (r : Result Status ToolFault) (had left now : Option (List ℕ)) (notes : Notes) (lines : Lines SearchLines)
    (status : Status) (count : ℕ) (chunk was : List ℕ)
    → (input : List ℕ) × Consumes had left input × IsNoted notes input × IsJudged status lines input was
    → count ≡ 0 → Consumes left now (take count chunk) → IsAtEnd now
    → IfOk r (λ end. (input : List ℕ) → IsJudged status lines input was → IsJudgedWhole lines.handler input end)
    → IfOk r (λ end. (input : List ℕ) × Consumes had now input × IsAtEnd now × IsNoted notes input
    × IsJudgedWhole lines.handler input end)
ended (Err fault) had left now notes lines status count chunk was so_far none more at_end judges = tt
ended (Ok end) had left now notes lines status count chunk was (input, consumed, known, judged) none more at_end judges = (
  input,
  rw append-nil at (Consumes-trans had left now input [] consumed (rw none at more)),
  at_end,
  known,
  judges input judged,
)

-- what is known of the whole is an account of it
pub accounted : (had left : Option (List ℕ)) (aim : Aim) (handler : SearchLines) (f : Findings) (status : Status)
    (notes : Notes) (a : Account) → a.together ≡ aim.together → a.findings ≡ f
    → (input : List ℕ) × Consumes had left input × IsAtEnd left × IsNoted notes input × IsJudgedWhole handler input status
    → aim_of handler ≡ aim → HasFound handler status f
    → ((input : List ℕ) → IsNoted notes input → (a.input.bytes ≡ length input) × (a.input.front.items ≡ take 256 input)
    × (a.input.sum ≡ sha256 input))
    → (input : List ℕ) × Consumes had left input × IsAtEnd left × IsOf aim a input
accounted had left aim handler f status notes a together found_is (input, consumed, end, noted, has) aim_is found into =
    let (bytes, front, sum) = into input noted in (
      input,
      consumed,
      end,
      record {
        together_is = together;
        found = rw (found_is, ← aim_is) (found (lines_of input) has.0 has.1);
        bytes_are = bytes;
        front_is = front;
        sum_is = sum;
      },
    )
