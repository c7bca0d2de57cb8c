-- What a handler says that judges the lines of a wide trace and reads them again.
use Rattle.std.proofs.Common.{◌≡◌, ◌∙◌, ◌+◌, ◌++◌, ℕ, Bool, true, false, List, [], ap, length, sym, subst, arith}
use Rattle.std.specs.Prelude.{Option, Some, None}
use Rattle.std.specs.Io.KnownBytes.{Consumes}
use Rattle.tl_commit_story.specs.statement.Words.{is_breach, other_words}
use Rattle.tl_lines.specs.code.GivenUp.{IsKnown}
use Rattle.tl_lines.specs.code.Judging.{Ends, Finishes, IsTotal, Judges, KnowsFor, Stops}
use Rattle.tl_lines.specs.code.Progress.{HasAll}
use Rattle.tl_lines.specs.declared.fault.Fault.{Fault}
use Rattle.tl_lines.specs.declared.status.Status.{Status}
use Rattle.tl_lines.specs.declared.status.Status.TheVariants.{Clean, Broken}
use Rattle.tl_lines.specs.statement.Fault.{fault_text}
use Rattle.tl_lines.specs.statement.Lines.{lines_of}
use Rattle.tl_lines.specs.statement.Run.{RunsTo}
use Rattle.tl_params.specs.declared.liberties.Liberties.{Liberties}
use Rattle.tl_wide_event_lines.proofs.TraceJudged.{any-have-text, any-so-far}
use Rattle.tl_wide_event_lines.specs.code.EventWatching.{KnowsAnyLines, any_judged_for}
use Rattle.tl_wide_event_lines.specs.statement.JudgedWideEvents.{AnySoFar, JudgedAny}
use Rattle.tl_wide_event_lines.specs.statement.WideMarkedHeader.{NamesWideMarked}
use Rattle.tl_wide_event_story.specs.code.Retelling.{EndsStory, HasTold, KnowsStory, ReadsLast, ReadsLine}
use Rattle.tl_wide_event_story.specs.declared.examine.WideEventExaminer.{WideEventExaminer}
use Rattle.tl_wide_event_story.specs.declared.story.WideEventStory.{WideEventStory}
use Rattle.tl_wide_event_story.specs.statement.WideEventsExplained.{Explains, IsShown, ReachesAny, front_text}

abbrev Tells : Type 1
Tells = List (List ℕ) → List ℕ → Status → Type 0

module _ {w p : ℕ} (old new : WideEventStory w p) (line was is : List ℕ) (tells : Tells) where
  pub story-judged : (fault : Option Fault) → Judges KnowsAnyLines tells old.lines new.lines line was is fault
      → ReadsLine old.replay new.replay line fault → Judges KnowsStory tells old new line was is fault
  story-judged None judges reads = λ lines before known. (judges lines before known.0, reads lines known.1)
  story-judged (Some found) judges reads = λ lines before known more. judges lines before known.0 more

pub story-ends : {w p : ℕ} (old new : WideEventStory w p) (line : List ℕ) → ReadsLast old.replay new.replay line
    → Ends KnowsStory EndsStory old new line
story-ends old new line reads = λ lines text known more. reads lines known.1 more

-- nothing is told while the lines aren't at fault
pub story-untold : {w p : ℕ} (h : WideEventStory w p) (lines more : List (List ℕ)) (text : List ℕ)
    → KnowsStory h lines text → EndsStory h more
story-untold h lines more text known told = let no : true ≡ false = sym told ∙ known.1.untold in absurd cc

pub story-stops : {w p : ℕ} (h : WideEventStory w p) (line said : List ℕ) (tells : Tells) (found : Fault)
    → Stops KnowsAnyLines tells h.lines line said said found → Stops KnowsStory tells h line said said found
story-stops h line said tells found stops = λ lines before known more. stops lines before known.0 more

pub story-finishes : {w p : ℕ} (h : WideEventStory w p) (count : ℕ) (was is : List ℕ) (tells : Tells)
    (fault : Option Fault) → Finishes KnowsAnyLines tells h.lines count was is fault
    → Finishes KnowsStory tells h count was is fault
story-finishes h count was is tells None ends = λ lines before known counted. ends lines before known.0 counted
story-finishes h count was is tells (Some found) ends = λ lines before known counted.
    ends lines before known.0 counted

-- ---- the reasons

-- what is told of the line at fault explains it
pub told-explains : {w p : ℕ} (h : WideEventStory w p) (together : Bool) (allow : Liberties)
    (old new : Option (List ℕ)) (read text verdict reasons : List ℕ) (status : Status) → Consumes old new read
    → JudgedAny together allow (lines_of read) text status → HasAll KnowsStory EndsStory h (lines_of read) status
    → h.replay.told ≡ true → h.replay.allow ≡ allow → text ≡ verdict → is_breach h.replay.fault ≡ true
    → verdict ≡ fault_text (h.replay.count + 1) h.replay.fault → reasons ≡ h.replay.reasons.items
    → Explains together allow old new verdict reasons Broken
told-explains h together allow old new read text verdict reasons Clean consumed judged (said, known) told is same breach
    says why =
    let no : true ≡ false = sym told ∙ known.1.untold in absurd cc
told-explains {w} h together allow old new read text verdict reasons Broken consumed judged ends told is same breach
    says why =
    (h.replay.fault, (λ _. go (ends told)), λ other. let no : true ≡ false = sym breach ∙ other in absurd cc)
  where
    go : HasTold h.replay (lines_of read) → IsShown together allow old new verdict reasons h.replay.fault
    go it =
        let number : h.replay.count + 1 ≡ length it.before + 2 = omega (arith, it.counted) in
        record {
          read = read;
          consumed = consumed;
          judged = subst (λ (t : List ℕ). JudgedAny together allow (lines_of read) t Broken) same judged;
          width = it.width;
          may = it.may;
          links = it.links;
          header = it.header;
          named = subst (λ (l : Liberties). NamesWideMarked l it.header it.width it.may it.links) is it.named;
          bytes = w;
          of_width = it.of_width;
          trace = it.trace;
          before = it.before;
          are_spelled = it.are_spelled;
          line = it.line;
          more = it.more;
          stands = it.are_lines;
          link = it.link;
          event = it.event;
          spells = it.spells;
          says_line = says ∙ ap (λ (n : ℕ). fault_text n h.replay.fault) number;
          grounds = it.grounds;
          says_why = why ∙ subst (λ (n : ℕ). h.replay.reasons.items
              ≡ front_text h.replay.fault n it.link it.event ++ it.grounds) number it.says;
          are = it.are;
        }

-- ---- both readings

-- what an examiner knows of the lines that it has judged
abbrev pub KnowsExamined : Bool → Liberties → List (List ℕ) → List ℕ → Type 0
KnowsExamined together allow =
    IsKnown (KnowsFor (λ (e : WideEventExaminer). any_judged_for e.lines) (together, allow)
    (λ e lines text. KnowsAnyLines e.lines lines text))

pub examined-so-far : (together : Bool) (allow : Liberties) (lines : List (List ℕ)) (text : List ℕ)
    → KnowsExamined together allow lines text → AnySoFar together allow lines text
examined-so-far together allow lines text (e, known) = any-so-far together allow lines text (e.lines, known)

pub examined-total : IsTotal (λ (e : WideEventExaminer). any_judged_for e.lines)
    (λ e lines text. KnowsAnyLines e.lines lines text) (λ p. JudgedAny p.0 p.1)
examined-total e lines text known more = any-have-text e.lines lines text known more

-- the first reading reached its verdict, which a writer into memory holds
pub reached : (together : Bool) (allow : Liberties) (had left : Option (List ℕ)) (held verdict : List ℕ)
    (status : Status) → held ≡ [] → RunsTo (JudgedAny together allow) had left (Some held) (Some verdict) status
    → ReachesAny together allow had left verdict status
reached together allow had left held verdict status none (read, text, consumed, appended, judged, ends) =
    rw (appended, none) (read, consumed, judged, ends)

-- of a fault that is no breach of a rule the words are told
pub other-explains : (together : Bool) (allow : Liberties) (old new : Option (List ℕ)) (verdict reasons : List ℕ)
    (good : ℕ) (found : Fault) → is_breach found ≡ false → verdict ≡ fault_text (good + 1) found
    → reasons ≡ other_words found → Explains together allow old new verdict reasons Broken
other-explains together allow old new verdict reasons good found other says why =
    (found, (λ breach. let no : true ≡ false = sym breach ∙ other in absurd cc), λ _. (good + 1, says, why))
