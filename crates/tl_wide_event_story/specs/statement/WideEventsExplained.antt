-- The explanation of the verdict on a wide trace with stores and loads, which is read twice.
use Rattle.std.specs.Prelude.{◌≡◌, ◌+◌, ◌++◌, ℕ, Bool, true, false, List, ◌∷◌, length, Option, codes}
use Rattle.std.specs.Fmt.{decimal}
use Rattle.std.specs.Io.KnownBytes.{Consumes}
use Rattle.tl_beat.specs.declared.beat.Link.{Link}
use Rattle.tl_beat.specs.statement.Digits.{digits}
use Rattle.tl_commit_lines.specs.statement.MarkedHeader.{MarkedLinks}
use Rattle.tl_commit_story.specs.statement.Words.{is_breach, limits, other_words, sentence_of}
use Rattle.tl_reasons.specs.declared.explain_fault.ExplainFault.{ExplainFault}
use Rattle.tl_reasons.specs.declared.explain_fault.ExplainFault.TheVariants.{Tool}
use Rattle.tl_lines.specs.declared.fault.Fault.{Fault}
use Rattle.tl_lines.specs.declared.status.Status.{Status}
use Rattle.tl_lines.specs.declared.status.Status.TheVariants.{Clean, Broken}
use Rattle.tl_lines.specs.declared.status.ToolFault.TheVariants.{Write}
use Rattle.tl_lines.specs.statement.Fault.{fault_text}
use Rattle.tl_lines.specs.statement.Lines.{lines_of}
use Rattle.tl_lines.specs.statement.Parts.{AppendsShort}
use Rattle.tl_reasons.specs.statement.Unexplained.{GivesUpReading, ReachesBy}
use Rattle.tl_commit_words.specs.statement.CommitWords.{wide_commit_words}
use Rattle.tl_params.specs.declared.liberties.Liberties.{Liberties}
use Rattle.tl_wide.specs.declared.width.WideWidth.{WideWidth}
use Rattle.tl_wide.specs.statement.Width.{wide_bytes_of}
use Rattle.tl_wide_event_lines.specs.statement.JudgedWideEvents.{AnySoFar, JudgedAny}
use Rattle.tl_wide_event_lines.specs.statement.WideMarkedHeader.{NamesWideMarked}
use Rattle.tl_wide_events.specs.declared.commit.WideCommit.{WideCommit}
use Rattle.tl_wide_events.specs.declared.commit.WideEvent.{WideEvent}
use Rattle.tl_wide_events.specs.declared.commit.WideEvent.TheVariants as wide
use Rattle.tl_wide_events.specs.statement.Narrowed.{WideEvents}
use Rattle.tl_wide_events.specs.statement.WideEventLine.{SpellsWideEvent}
use Rattle.tl_wide_event_story.specs.statement.WideGrounds.{AreWideGrounds, AreWideSpelled}
use Rattle.tl_wide_story.specs.statement.WideExplained.{wide_beat_line}

-- ---- the text

-- the words of a commit, after the number of its line
unfoldable pub wide_commit_text : ℕ → Link → WideCommit → List ℕ
wide_commit_text n link x =
    codes "  " ++ (decimal n ++ (codes ": link " ++ ((digits 2 link.0 ++ wide_commit_words x) ++ codes "\n")))

-- the words of an event, after the number of its line
abbrev pub wide_event_text : {w : ℕ} → ℕ → Link → WideEvent w → List ℕ
wide_event_text n link (wide.Beat x) = wide_beat_line n link x
wide_event_text n link (wide.Commit x) = wide_commit_text n link x

-- the sentence of the rule that the event of line n breaks, and the event
abbrev pub front_text : {w : ℕ} → Fault → ℕ → Link → WideEvent w → List ℕ
front_text found n link x = codes "  " ++ (sentence_of found ++ wide_event_text n link x)

-- ---- the line at fault

-- A line of the input that was read is at fault for the breach of a rule, by the verdict on all its lines. It spells an
-- event, and the lines before it are a header and those of events. The header names links with these liberties and those
-- that are allowed. The reasons are the sentence of the rule, that event after the number of its line, and the grounds.
pub record IsShown (together : Bool) (allow : Liberties) (old new : Option (List ℕ)) (verdict reasons : List ℕ)
    (found : Fault) : Type 0 where
  pub read : List ℕ
  pub consumed : Consumes old new read
  pub judged : JudgedAny together allow (lines_of read) verdict Broken
  pub width : WideWidth
  pub may : Liberties
  pub links : MarkedLinks
  pub header : List ℕ
  pub named : NamesWideMarked allow header width may links
  pub bytes : ℕ
  pub of_width : wide_bytes_of width ≡ bytes
  pub trace : WideEvents bytes
  pub before : List (List ℕ)
  pub are_spelled : AreWideSpelled trace before
  pub line : List ℕ
  pub more : List (List ℕ)
  pub stands : lines_of read ≡ (header ∷ before) ++ line ∷ more
  pub link : Link
  pub event : WideEvent bytes
  pub spells : SpellsWideEvent line link event
  pub says_line : verdict ≡ fault_text (length before + 2) found
  pub grounds : List ℕ
  pub says_why : reasons ≡ front_text found (length before + 2) link event ++ grounds
  pub are : AreWideGrounds found may links trace link event grounds

-- The reasons explain a verdict: a breach of a rule is shown, and another fault has its words. Those of a trace without a
-- fault end with the limits of the verdict.
abbrev pub Explains : Bool → Liberties → Option (List ℕ) → Option (List ℕ) → List ℕ → List ℕ → Status → Type 0
Explains together allow old new verdict reasons Clean = (pending : List ℕ) × (reasons ≡ pending ++ limits together)
Explains together allow old new verdict reasons Broken =
    (found : Fault) × (is_breach found ≡ true → IsShown together allow old new verdict reasons found)
    × (is_breach found ≡ false → (n : ℕ) × (verdict ≡ fault_text n found) × (reasons ≡ other_words found))

-- ---- a file with two readers

-- The first reading, of each link by itself or of all together, reached its verdict.
abbrev pub ReachesAny : Bool → Liberties → Option (List ℕ) → Option (List ℕ) → List ℕ → Status → Type 0
ReachesAny together allow = ReachesBy (JudgedAny together allow)

-- Both readings reached their ends, with this verdict and these reasons.
pub record ReachesBoth (together : Bool) (allow : Liberties) (had left had_again left_again : Option (List ℕ))
    (text : List ℕ) (status : Status) : Type 0 where
  pub verdict : List ℕ
  pub reasons : List ℕ
  pub reached : ReachesAny together allow had left verdict status
  pub explained : Explains together allow had_again left_again verdict reasons status
  pub said : text ≡ verdict ++ reasons

-- An explanation ended with this fault. `Write`: both readings reached their ends, and the writer took only a front of
-- the text. Otherwise nothing was written: the first reading ended with the fault and the second didn't begin, or the
-- first reached its verdict and the second ended with the fault.
abbrev pub GivesUpAny : Bool → Liberties → Option (List ℕ) → Option (List ℕ) → Option (List ℕ) → Option (List ℕ)
    → Option (List ℕ) → Option (List ℕ) → ExplainFault → Type 0
GivesUpAny together allow had left had_again left_again held holds (Tool Write) =
    (text : List ℕ) × (status : Status) × ReachesBoth together allow had left had_again left_again text status
    × AppendsShort held holds text
GivesUpAny together allow had left had_again left_again held holds fault =
    GivesUpReading (AnySoFar together allow) (JudgedAny together allow) had left had_again left_again held holds fault
