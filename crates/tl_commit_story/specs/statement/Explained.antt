-- The explanation of the verdict on a trace with commits, which is read twice.
use Rattle.std.specs.Prelude.{◌≡◌, ◌+◌, ◌++◌, ℕ, Bool, true, false, List, [], ◌∷◌, length, Option, Some}
use Rattle.std.specs.Io.KnownBytes.{Consumes}
use Rattle.tl_beat.specs.declared.beat.Link.{Link}
use Rattle.tl_beat.specs.declared.fault.LineFault.{LineFault}
use Rattle.tl_commits.specs.statement.Events.{Events}
use Rattle.tl_reasons.specs.declared.explain_fault.ExplainFault.{ExplainFault}
use Rattle.tl_reasons.specs.declared.explain_fault.ExplainFault.TheVariants.{Tool}
use Rattle.tl_lines.specs.declared.fault.Fault.{Fault}
use Rattle.tl_lines.specs.declared.fault.Fault.TheVariants.{Line}
use Rattle.tl_lines.specs.declared.status.Status.{Status}
use Rattle.tl_lines.specs.declared.status.Status.TheVariants.{Clean, Broken}
use Rattle.tl_lines.specs.declared.status.ToolFault.TheVariants.{Write}
use Rattle.tl_lines.specs.statement.Fault.{fault_text}
use Rattle.tl_lines.specs.statement.Lines.{lines_of}
use Rattle.tl_lines.specs.statement.Parts.{AppendsShort}
use Rattle.tl_reasons.specs.statement.Unexplained.{GivesUpReading, ReachesBy}
use Rattle.tl_lines.specs.statement.Width.{bytes_of}
use Rattle.tl_events.specs.declared.commit.Event.{Event}
use Rattle.tl_events.specs.statement.EventLine.{SpellsEvent, event_fault}
use Rattle.tl_explain.specs.declared.ledger.Pending.{Pending}
use Rattle.tl_explain.specs.statement.Pending.{TellsPending, says_recorded}
use Rattle.tl_explain.specs.statement.Shown.{Shows}
use Rattle.tl_params.specs.declared.liberties.Liberties.{Liberties}
use Rattle.tl_params.specs.declared.width.Width.{Width}
use Rattle.tl_commit_lines.specs.statement.JudgedEvents.{CommitsSoFar, JudgedCommits}
use Rattle.tl_commit_lines.specs.statement.MarkedHeader.{MarkedLinks, NamesMarked}
use Rattle.tl_commit_story.specs.statement.Grounds.{AreGrounds, front_of}
use Rattle.tl_commit_story.specs.statement.Words.{is_breach, limits, line_words, other_words}

-- ---- the line at fault

-- the lines are those of these events, the newest of which is the last line
unfoldable pub AreSpelled : {w : ℕ} → Events w → List (List ℕ) → Type 0
AreSpelled [] lines = lines ≡ []
AreSpelled (x ∷ e) lines =
    (before : List (List ℕ)) × (line : List ℕ) × (lines ≡ before ++ line ∷ []) × SpellsEvent line x.0 x.1
    × AreSpelled e before

-- An event of the input that was read breaks the rule of this fault, and these are the reasons: the sentence of the rule,
-- the event, and the grounds. The verdict on all its lines is that its line is at fault for it. The lines before it are a
-- header and those of events. The links have the liberties that the header names and those that are allowed.
pub record IsExplained (together : Bool) (allow : Liberties) (old new : Option (List ℕ)) (verdict reasons : List ℕ)
    (found : Fault) : Type 0 where
  pub read : List ℕ
  pub consumed : Consumes old new read
  pub judged : JudgedCommits together allow (lines_of read) verdict Broken
  pub width : Width
  pub may : Liberties
  pub links : MarkedLinks
  pub header : List ℕ
  pub named : NamesMarked allow header width may links
  pub bytes : ℕ
  pub of_width : bytes_of width ≡ bytes
  pub events : Events bytes
  pub before : List (List ℕ)
  pub spelled : AreSpelled events before
  pub line : List ℕ
  pub more : List (List ℕ)
  pub stands : lines_of read ≡ (header ∷ before) ++ line ∷ more
  pub link : Link
  pub event : Event bytes
  pub spells : SpellsEvent line link event
  pub says_line : verdict ≡ fault_text (length events + 2) found
  pub grounds : List ℕ
  pub says_why : reasons ≡ front_of found link event events ++ grounds
  pub are_grounds : AreGrounds together found may links link event events grounds

-- The line of this number of the input that was read has this fault, so that it spells no event of beats of this width.
-- The reasons are the words of the fault, then the line as it is shown, with carets under some of its bytes, and some
-- words about these.
pub record ShowsLine (old new : Option (List ℕ)) (n : ℕ) (found : LineFault) (reasons : List ℕ) : Type 0 where
  pub read : List ℕ
  pub consumed : Consumes old new read
  pub before : List (List ℕ)
  pub line : List ℕ
  pub more : List (List ℕ)
  pub stands : lines_of read ≡ before ++ line ∷ more
  pub number : n ≡ length before + 1
  pub width : Width
  pub has_fault : event_fault (bytes_of width) line ≡ Some found
  pub shows : Shows line (line_words found) reasons

-- the reasons for a fault of the line of this number that is no breach of a rule: its words, and the line if it spells no
-- event
abbrev pub AreWords : Option (List ℕ) → Option (List ℕ) → ℕ → Fault → List ℕ → Type 0
AreWords old new n (Line found) reasons = ShowsLine old new n found reasons
AreWords old new n found reasons = reasons ≡ other_words found

-- the text lists messages as pending: how many they are, the oldest with the beats that opened them, and how many more
abbrev pub IsPending : List ℕ → Type 0
IsPending text = (w : ℕ) × (pending : List Pending) × TellsPending (says_recorded w) pending [] text

-- The reasons explain a verdict: for a breach of a rule by the events before it, and for another fault they are its words,
-- and the line if it spells no event. Of a trace without a fault they are its pending messages and the limits of the verdict.
abbrev pub Explains : Bool → Liberties → Option (List ℕ) → Option (List ℕ) → List ℕ → List ℕ → Status → Type 0
Explains together allow old new verdict reasons Clean = (pending : List ℕ) × IsPending pending × (reasons ≡ pending ++ limits together)
Explains together allow old new verdict reasons Broken =
    (found : Fault) × (is_breach found ≡ true → IsExplained together allow old new verdict reasons found)
    × (is_breach found ≡ false → (n : ℕ) × (verdict ≡ fault_text n found) × AreWords old new n found reasons)

-- ---- a file with two readers

-- The first reading, of each link by itself or of all together, reached its verdict.
abbrev pub ReachesEvents : Bool → Liberties → Option (List ℕ) → Option (List ℕ) → List ℕ → Status → Type 0
ReachesEvents together allow = ReachesBy (JudgedCommits together allow)

-- Both readings reached their ends, with this verdict and these reasons.
pub record ReachesBoth (together : Bool) (allow : Liberties) (had left had_again left_again : Option (List ℕ))
    (text : List ℕ) (status : Status) : Type 0 where
  pub verdict : List ℕ
  pub reasons : List ℕ
  pub reached : ReachesEvents together allow had left verdict status
  pub explained : Explains together allow had_again left_again verdict reasons status
  pub said : text ≡ verdict ++ reasons

-- An explanation ended with this fault. `Write`: both readings reached their ends, and the writer took only a front of
-- the text. Otherwise nothing was written: the first reading ended with the fault and the second didn't begin, or the
-- first reached its verdict and the second ended with the fault.
abbrev pub GivesUpEvents : Bool → Liberties → Option (List ℕ) → Option (List ℕ) → Option (List ℕ) → Option (List ℕ)
    → Option (List ℕ) → Option (List ℕ) → ExplainFault → Type 0
GivesUpEvents together allow had left had_again left_again held holds (Tool Write) =
    (text : List ℕ) × (status : Status) × ReachesBoth together allow had left had_again left_again text status
    × AppendsShort held holds text
GivesUpEvents together allow had left had_again left_again held holds fault =
    GivesUpReading (CommitsSoFar together allow) (JudgedCommits together allow) had left had_again left_again held holds
    fault
