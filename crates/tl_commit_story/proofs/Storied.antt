-- What a handler says that judges the lines and reads them again.
use Rattle.std.proofs.Common.{◌≡◌, ◌≢◌, ◌∙◌, ◌+◌, ◌<◌, ◌++◌, ℕ, Bool, true, false, List, [], ap, sym, subst, arith}
use Rattle.std.proofs.Common.{drop, length, take}
use Rattle.std.proofs.lemmas.List.{length-take-le}
use Rattle.std.specs.Prelude.{Option, Some, None}
use Rattle.std.specs.Io.KnownBytes.{Consumes}
use Rattle.tl_commit_lines.proofs.EventsJudged.{commits-so-far, events-have-text}
use Rattle.tl_commit_lines.specs.code.EventWatching.{KnowsEventLines, events_judged_for}
use Rattle.tl_commit_lines.specs.statement.JudgedEvents.{CommitsSoFar, JudgedCommits}
use Rattle.tl_lines.specs.code.GivenUp.{IsKnown}
use Rattle.tl_lines.specs.code.Judging.{Ends, Finishes, IsTotal, Judges, KnowsFor, Stops}
use Rattle.tl_lines.specs.code.Progress.{HasAll}
use Rattle.tl_beat.specs.declared.fault.LineFault.{LineFault}
use Rattle.tl_events.specs.statement.EventLine.{event_fault}
use Rattle.tl_explain.specs.statement.Shown.{Shows}
use Rattle.tl_lines.specs.declared.fault.Fault.{Fault}
use Rattle.tl_lines.specs.declared.fault.Fault.TheVariants.{Beyond, CommitRule, Event, Header, Line, MemoryRule, Rule}
use Rattle.tl_lines.specs.declared.status.Status.{Status}
use Rattle.tl_lines.specs.declared.status.Status.TheVariants.{Clean, Broken}
use Rattle.tl_lines.specs.statement.Fault.{fault_text}
use Rattle.tl_lines.specs.statement.Lines.{lines_of}
use Rattle.tl_lines.specs.statement.Run.{RunsTo}
use Rattle.tl_lines.specs.statement.Width.{bytes_of}
use Rattle.tl_params.specs.declared.liberties.Liberties.{Liberties}
use Rattle.tl_params.specs.declared.width.Width.{Width}
use Rattle.tl_reasons.specs.statement.Fronts.{front_after, line_after}
use Rattle.tl_commit_lines.specs.statement.MarkedHeader.{NamesMarked}
use Rattle.tl_commit_story.specs.code.Replaying.{EndsStory, HasTold, KnowsStory, ReadsLast, ReadsLine}
use Rattle.tl_commit_story.specs.declared.examine.EventExaminer.{EventExaminer}
use Rattle.tl_commit_story.specs.declared.story.Story.{Story}
use Rattle.tl_commit_story.specs.statement.Explained.{AreWords, Explains, IsExplained, ReachesEvents}
use Rattle.tl_commit_story.specs.statement.Words.{is_breach, is_of_line, line_words, other_words}
use Rattle.tl_commit_story.proofs.LineShown.{fault-of-front, line-there, shows-front, stands-at}

abbrev Tells : Type 1
Tells = List (List ℕ) → List ℕ → Status → Type 0

module _ {w : ℕ} (old new : Story w) (line was is : List ℕ) (tells : Tells) where
  pub story-judged : (fault : Option Fault) → Judges KnowsEventLines tells old.lines new.lines line was is fault
      → ReadsLine old.replay new.replay line fault → Judges KnowsStory tells old new line was is fault
  story-judged None judges reads = λ lines before known. (judges lines before known.0, reads lines known.1)
  story-judged (Some found) judges reads = λ lines before known more. judges lines before known.0 more

pub story-ends : {w : ℕ} (old new : Story w) (line : List ℕ) → ReadsLast old.replay new.replay line
    → Ends KnowsStory EndsStory old new line
story-ends old new line reads = λ lines text known more. reads lines known.1 more

-- nothing is told while the lines aren't at fault
pub story-untold : {w : ℕ} (h : Story w) (lines more : List (List ℕ)) (text : List ℕ) → KnowsStory h lines text
    → EndsStory h more
story-untold h lines more text known told = let no : true ≡ false = sym told ∙ known.1.0 in absurd cc

pub story-stops : {w : ℕ} (h : Story w) (line said : List ℕ) (tells : Tells) (found : Fault)
    → Stops KnowsEventLines tells h.lines line said said found → Stops KnowsStory tells h line said said found
story-stops h line said tells found stops = λ lines before known more. stops lines before known.0 more

pub story-finishes : {w : ℕ} (h : Story w) (count : ℕ) (was is : List ℕ) (tells : Tells) (fault : Option Fault)
    → Finishes KnowsEventLines tells h.lines count was is fault → Finishes KnowsStory tells h count was is fault
story-finishes h count was is tells None ends = λ lines before known counted. ends lines before known.0 counted
story-finishes h count was is tells (Some found) ends = λ lines before known counted.
    ends lines before known.0 counted

-- ---- the reasons

-- what is told of the line at fault explains it
pub told-explains : {w : ℕ} (h : Story w) (together : Bool) (allow : Liberties) (old new : Option (List ℕ))
    (read text verdict reasons : List ℕ) (status : Status) → Consumes old new read
    → JudgedCommits together allow (lines_of read) text status → HasAll KnowsStory EndsStory h (lines_of read) status
    → h.replay.told ≡ true → h.replay.together ≡ together → h.replay.allow ≡ allow → text ≡ verdict → is_breach h.replay.fault ≡ true
    → verdict ≡ fault_text (h.replay.count + 1) h.replay.fault → reasons ≡ h.replay.reasons.items
    → Explains together allow old new verdict reasons Broken
told-explains h together allow old new read text verdict reasons Clean consumed judged (said, known) told both is same breach says why =
    let no : true ≡ false = sym told ∙ known.1.0 in absurd cc
told-explains {w} h together allow old new read text verdict reasons Broken consumed judged ends told both is same breach says why =
    (h.replay.fault, (λ _. go (ends told)), λ other. let no : true ≡ false = sym breach ∙ other in absurd cc)
  where
    go : HasTold h.replay (lines_of read) → IsExplained together allow old new verdict reasons h.replay.fault
    go it = record {
      read = read;
      consumed = consumed;
      judged = subst (λ (t : List ℕ). JudgedCommits together allow (lines_of read) t Broken) same judged;
      width = it.width;
      may = it.may;
      links = it.links;
      header = it.header;
      named = subst (λ (l : Liberties). NamesMarked l it.header it.width it.may it.links) is it.named;
      bytes = w;
      of_width = it.of_width;
      events = it.events;
      before = it.before;
      spelled = it.are_spelled;
      line = it.line;
      more = it.more;
      stands = it.are_lines;
      link = it.link;
      event = it.event;
      spells = it.spells;
      says_line = says ∙ ap (λ (n : ℕ). fault_text n h.replay.fault) (omega (arith, it.counted));
      grounds = it.grounds;
      says_why = why ∙ it.says;
      are_grounds = rw (← both) it.are;
    }

-- ---- both readings

-- what an examiner knows of the lines that it has judged
abbrev pub KnowsExamined : Bool → Liberties → List (List ℕ) → List ℕ → Type 0
KnowsExamined together allow =
    IsKnown (KnowsFor (λ (e : EventExaminer). events_judged_for e.lines) (together, allow)
    (λ e lines text. KnowsEventLines e.lines lines text))

pub examined-so-far : (together : Bool) (allow : Liberties) (lines : List (List ℕ)) (text : List ℕ)
    → KnowsExamined together allow lines text → CommitsSoFar together allow lines text
examined-so-far together allow lines text (e, known) = commits-so-far together allow lines text (e.lines, known)

pub examined-total : IsTotal (λ (e : EventExaminer). events_judged_for e.lines)
    (λ e lines text. KnowsEventLines e.lines lines text) (λ p. JudgedCommits p.0 p.1)
examined-total e lines text known more = events-have-text e.lines lines text known more

-- the first reading reached its verdict, which a writer into memory holds
pub reached : (together : Bool) (allow : Liberties) (had left : Option (List ℕ)) (held verdict : List ℕ)
    (status : Status) → held ≡ [] → RunsTo (JudgedCommits together allow) had left (Some held) (Some verdict) status
    → ReachesEvents together allow had left verdict status
reached together allow had left held verdict status none (read, text, consumed, appended, judged, ends) =
    rw (appended, none) (read, consumed, judged, ends)

-- ---- a fault that is no breach of a rule

-- its words are all that is told
pub other-explains : (together : Bool) (allow : Liberties) (old new : Option (List ℕ)) (verdict reasons : List ℕ)
    (good : ℕ) (found : Fault) → is_breach found ≡ false → is_of_line found ≡ false
    → verdict ≡ fault_text (good + 1) found → reasons ≡ other_words found
    → Explains together allow old new verdict reasons Broken
other-explains together allow old new verdict reasons good found other apart says why = (
  found,
  (λ breach. let no : true ≡ false = sym breach ∙ other in absurd cc),
  λ _. (good + 1, says, go found apart why),
)
  where
    go : (f : Fault) → is_of_line f ≡ false → reasons ≡ other_words f → AreWords old new (good + 1) f reasons
    go (Line found) apart why = absurd cc
    go Header apart why = why
    go (Rule rule) apart why = why
    go (MemoryRule rule) apart why = why
    go (CommitRule rule) apart why = why
    go Beyond apart why = why
    go (Event found) apart why = why

-- a line that spells no event is shown
pub line-explains : (together : Bool) (allow : Liberties) (old new : Option (List ℕ)) (verdict reasons : List ℕ)
    (good : ℕ) (found : LineFault) (width : Width) (read front : List ℕ) → verdict ≡ fault_text (good + 1) (Line found)
    → Consumes old new read → front ≡ front_after good read → front ≢ []
    → event_fault (bytes_of width) front ≡ Some found → Shows front (line_words found) reasons
    → Explains together allow old new verdict reasons Broken
line-explains together allow old new verdict reasons good found width read front says consumed is some has shows = (
  Line found,
  (λ breach. absurd cc),
  λ _. (
    good + 1,
    says,
    record {
      read = read;
      consumed = consumed;
      before = take good (lines_of read);
      line = line_after good read;
      more = drop (good + 1) (lines_of read);
      stands = stands-at good (lines_of read) there;
      number = omega (arith, length-take-le good (lines_of read) (omega (arith, there)));
      width = width;
      has_fault = sym (fault-of-front (bytes_of width) (line_after good read)) ∙ rw is at has;
      shows = shows-front (line_after good read) (line_words found) reasons (rw is at shows);
    },
  ),
)
  where
    there : good < length (lines_of read)
    there = line-there good (lines_of read) (λ none. some (is ∙ ap (take 257) none))
