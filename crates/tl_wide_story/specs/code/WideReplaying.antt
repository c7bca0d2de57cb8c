-- What is known while the lines of a wide trace are read again, up to the line at fault.
use Rattle.std.specs.Prelude.{◌≡◌, ◌⊎◌, ℕ, ◌+◌, Bool, true, false, List, [], ◌∷◌, ◌++◌, length, slice_get, Some}
use Rattle.tl_beat.specs.declared.beat.Beat.{Beat}
use Rattle.tl_beat.specs.declared.beat.Link.{Link}
use Rattle.tl_lines.specs.declared.fault.Fault.{Fault}
use Rattle.tl_lines.specs.declared.fault.Fault.TheVariants.{Rule as Breaks, MemoryRule as BreaksTogether}
use Rattle.tl_evidence.specs.code.Guilty as guilty
use Rattle.tl_explain.specs.code.Recorded.{IsRecordUnder}
use Rattle.tl_explain.specs.statement.Evidence.{next_line}
use Rattle.tl_explain.specs.statement.Sentences.{memory_rule_line, rule_line}
use Rattle.tl_params.specs.declared.level.Level.{Level}
use Rattle.tl_params.specs.declared.liberties.Liberties.{Liberties}
use Rattle.tl_params.specs.declared.rule.Rule.{Rule}
use Rattle.tl_rules.specs.statement.Conformance.{Trace}
use Rattle.tl_wide.specs.declared.beat.WideBeat.{WideBeat}
use Rattle.tl_wide.specs.declared.parts.Parts.{Parts}
use Rattle.tl_wide.specs.declared.width.WideWidth.{WideWidth}
use Rattle.tl_wide.specs.statement.Line.{WideSpells}
use Rattle.tl_wide.specs.statement.Naming.{WideTrace, is_beyond}
use Rattle.tl_wide.specs.statement.Narrowed.{beats_of, narrowed}
use Rattle.tl_wide.specs.statement.Narrowing.{Follows}
use Rattle.tl_wide.specs.statement.Pieces.{left_of}
use Rattle.tl_wide.specs.statement.Width.{part_width, wide_bytes_of}
use Rattle.tl_wide_lines.specs.code.FirstFault.{beats_taken, behind, with_parts}
use Rattle.tl_wide_story.specs.declared.reread.Passed.{Passed}
use Rattle.tl_wide_story.specs.declared.reread.Passed.TheVariants.{Taken, Told, Strange}
use Rattle.tl_wide_story.specs.declared.replay.WideReplay.{WideReplay}
use Rattle.tl_wide_lines.specs.statement.JudgedTrace.{BeginWith}
use Rattle.tl_wide_story.specs.statement.WideExplained.{HasGuilty, wide_front_text}
use Rattle.tl_wide_lines.specs.statement.WideHeader.{NamesWide}

-- ---- parts

-- the fields that no line changes
pub record IsKept {w : ℕ} (old new : WideReplay w) : Type 0 where
  pub allow_is : new.allow ≡ old.allow
  pub may_is : new.may ≡ old.may
  pub level_is : new.level ≡ old.level
  pub fault_is : new.fault ≡ old.fault
  pub subject_is : new.recorder.subject ≡ old.recorder.subject
  pub told_is : new.told ≡ old.told
  pub count_is : new.count ≡ old.count

-- these beats of a link are recorded, behind any that were
pub record Records {w p : ℕ} (old new : WideReplay w) (link : Link) (xs : List (Beat p)) : Type 0 where
  pub kept : IsKept old new
  pub narrower_is : new.narrower ≡ old.narrower
  pub records : (t : Trace p) → old.recorded + 1 ≡ next_line t → IsRecordUnder old.may old.recorder t
      → IsRecordUnder old.may new.recorder (with_parts link xs t)
      × (new.recorded + 1 ≡ next_line (with_parts link xs t))

-- the beat breaks the rule at fault, if it is one of a link, behind those that are recorded
abbrev pub IsGuilty : {w p : ℕ} → WideReplay w → Link → Beat p → Type 0
IsGuilty r link x = (rule : Rule) → r.fault ≡ Breaks rule → guilty.IsGuilty r.may r.level r.recorder rule link x

-- what came of these parts of a wide beat
abbrev pub PassesParts : {w p : ℕ} → WideReplay w → WideReplay w → Link → List (Beat p) → Passed → Type 0
PassesParts old new link parts Taken = Records old new link parts
PassesParts {w} {p} old new link parts Told =
    (first : List (Beat p)) × (part : Beat p) × (left : List (Beat p)) × (parts ≡ first ++ part ∷ left)
    × Records old new link first × IsGuilty new link part
PassesParts old new link parts Strange = new.told ≡ old.told

-- ---- lines

-- the fault is a breach of a rule
abbrev pub is_rule : Fault → Bool
is_rule (Breaks rule) = true
is_rule (BreaksTogether rule) = true
is_rule _ = false

-- the line of the sentence of a rule, or none
abbrev pub sentence_of : Fault → List ℕ
sentence_of (Breaks rule) = rule_line rule
sentence_of (BreaksTogether rule) = memory_rule_line rule
sentence_of _ = []

-- only the wording has changed
abbrev pub IsNoted : {w : ℕ} → WideReplay w → WideReplay w → Type 0
IsNoted old new = IsKept old new × (new.narrower ≡ old.narrower) × (new.recorder ≡ old.recorder)
    × (new.recorded ≡ old.recorded)

-- one more beat of a link is recorded
abbrev pub RecordsPart : {w p : ℕ} → WideReplay w → WideReplay w → Link → Beat p → Type 0
RecordsPart old new link x = Records old new link (x ∷ [])

-- the line is a header of beats of this width, and nothing is recorded behind it
pub record TakesHeader {w : ℕ} (old new : WideReplay w) (line : List ℕ) : Type 0 where
  pub width : WideWidth
  pub levels : List Level
  pub names : NamesWide new.allow line width new.may levels
  pub of_width : wide_bytes_of width ≡ w
  pub level_is : slice_get levels new.recorder.subject.link.0 ≡ new.level
  pub count_is : new.count ≡ 1
  pub narrower_is : new.narrower ≡ old.narrower
  pub records : IsRecordUnder {w = part_width w} new.may new.recorder []
  pub recorded_is : new.recorded ≡ 1

-- the parts of the wide beat of a line were passed, with this outcome
pub record PassesBeat {w : ℕ} (p : ℕ) (old new : WideReplay w) (link : Link) (x : WideBeat w) (outcome : Passed)
    : Type 0 where
  pub mid : WideReplay w
  pub kept : IsKept old mid
  pub recorder_is : mid.recorder ≡ old.recorder
  pub recorded_is : mid.recorded ≡ old.recorded
  pub parts : Parts
  pub narrows : (t : WideTrace w) → Follows old.narrower t → (is_beyond link ((link, x) ∷ t) ≡ false)
      × (left_of {p = part_width w} x parts ≡ beats_of link x ((link, x) ∷ t)) × Follows mid.narrower ((link, x) ∷ t)
  pub passes : PassesParts {p = p} mid new link (left_of {p = p} x parts) outcome

-- the same; of a beat that can't be recorded only that nothing was told
abbrev pub PassedBeat : {w : ℕ} → ℕ → WideReplay w → WideReplay w → Link → WideBeat w → Passed → Type 0
PassedBeat p old new link x Taken = PassesBeat p old new link x Taken
PassedBeat p old new link x Told = PassesBeat p old new link x Told
PassedBeat p old new link x Strange = new.told ≡ old.told

-- a line was counted
pub record CountsLine {w : ℕ} (old new : WideReplay w) : Type 0 where
  pub allow_is : new.allow ≡ old.allow
  pub may_is : new.may ≡ old.may
  pub level_is : new.level ≡ old.level
  pub narrower_is : new.narrower ≡ old.narrower
  pub recorder_is : new.recorder ≡ old.recorder
  pub recorded_is : new.recorded ≡ old.recorded
  pub count_is : new.count ≡ old.count + 1

-- the reasons are for the wide beat of the line at fault
pub record IsReasoned {w : ℕ} (old new : WideReplay w) (link : Link) (x : WideBeat w) : Type 0 where
  pub allow_is : new.allow ≡ old.allow
  pub fault_is : new.fault ≡ old.fault
  pub count_is : new.count ≡ old.count
  pub grounds : List ℕ
  pub says : new.reasons.items ≡ wide_front_text (sentence_of old.fault) (old.count + 1) link x ++ grounds

-- the same, or nothing was told
abbrev pub Concludes : {w : ℕ} → WideReplay w → WideReplay w → Link → WideBeat w → Type 0
Concludes old new link x = (new.told ≡ old.told) ⊎ IsReasoned old new link x

-- a wide beat was taken whole: reading goes on
pub record TakesLine {w : ℕ} (p : ℕ) (old new : WideReplay w) (line : List ℕ) : Type 0 where
  pub link : Link
  pub beat : WideBeat w
  pub spells : WideSpells line link beat
  pub mid : WideReplay w
  pub passed : PassesBeat p old mid link beat Taken
  pub told_is : new.told ≡ mid.told
  pub counts : CountsLine mid new

-- a wide beat was shown to be at fault
pub record TellsLine {w : ℕ} (p : ℕ) (old new : WideReplay w) (line : List ℕ) : Type 0 where
  pub link : Link
  pub beat : WideBeat w
  pub spells : WideSpells line link beat
  pub mid : WideReplay w
  pub passed : PassesBeat p old mid link beat Told
  pub reasoned : IsReasoned mid new link beat

-- what a line that was read brings: reading goes on, or it was explained, or neither
abbrev pub ReadsBeat : {w : ℕ} → ℕ → WideReplay w → WideReplay w → List ℕ → Bool → Type 0
ReadsBeat p old new line true = TakesLine p old new line
ReadsBeat p old new line false = (new.told ≡ old.told) ⊎ TellsLine p old new line

-- ---- all lines

-- the lines are a header and those of the beats of a wide trace, and what these become is recorded
pub record AreRecorded {w : ℕ} (r : WideReplay w) (lines : List (List ℕ)) : Type 0 where
  pub width : WideWidth
  pub of_width : wide_bytes_of width ≡ w
  pub header : List ℕ
  pub spelled : List (List ℕ)
  pub levels : List Level
  pub are_lines : lines ≡ header ∷ spelled
  pub names : NamesWide r.allow header width r.may levels
  pub level_is : slice_get levels r.recorder.subject.link.0 ≡ r.level
  pub trace : WideTrace w
  pub begins : (more : List (List ℕ)) → BeginWith trace (spelled ++ more) more
  pub counted : r.count ≡ length trace + 1
  pub complete : length (narrowed trace) ≡ length trace
  pub follows : Follows r.narrower (behind trace [])
  pub records : IsRecordUnder r.may r.recorder (beats_taken trace)
  pub number_is : r.recorded + 1 ≡ next_line (beats_taken trace)

-- no line has been read
pub record IsFresh {w : ℕ} (r : WideReplay w) : Type 0 where
  pub count_is : r.count ≡ 0
  pub follows : Follows {w = w} r.narrower []

-- these lines have been read, before the one at fault
abbrev pub KnowsReplay : {w : ℕ} → WideReplay w → List (List ℕ) → Type 0
KnowsReplay r lines = (r.told ≡ false) × (((lines ≡ []) × IsFresh r) ⊎ AreRecorded r lines)

-- one more line has been read
abbrev pub GoesOnWide : {w : ℕ} → WideReplay w → WideReplay w → List ℕ → Type 0
GoesOnWide old new line = (lines : List (List ℕ)) → KnowsReplay old lines → KnowsReplay new (lines ++ line ∷ [])

-- The line at fault is one of these, and the reasons are for it. `may` and `level` are those of its link.
pub record HasTold {w : ℕ} (r : WideReplay w) (lines : List (List ℕ)) : Type 0 where
  pub width : WideWidth
  pub of_width : wide_bytes_of width ≡ w
  pub may : Liberties
  pub levels : List Level
  pub header : List ℕ
  pub before : List (List ℕ)
  pub line : List ℕ
  pub more : List (List ℕ)
  pub are_lines : lines ≡ (header ∷ before) ++ line ∷ more
  pub names : NamesWide r.allow header width may levels
  pub trace : WideTrace w
  pub spelled : BeginWith trace before []
  pub number : r.count + 1 ≡ length trace + 2
  pub link : Link
  pub beat : WideBeat w
  pub spells : WideSpells line link beat
  pub guilty : (rule : Rule) → r.fault ≡ Breaks rule
      → HasGuilty rule may levels trace link beat
  pub grounds : List ℕ
  pub says : r.reasons.items ≡ wide_front_text (sentence_of r.fault) (r.count + 1) link beat ++ grounds

-- what is known once reading has stopped
abbrev pub EndsReplay : {w : ℕ} → WideReplay w → List (List ℕ) → Type 0
EndsReplay r lines = r.told ≡ true → HasTold r lines

-- what a line brings: reading goes on, or stops with what is known then
abbrev pub GoesOrEnds : {w : ℕ} → WideReplay w → WideReplay w → List ℕ → Bool → Type 0
GoesOrEnds old new line true = GoesOnWide old new line
GoesOrEnds old new line false = (lines : List (List ℕ)) → KnowsReplay old lines → (more : List (List ℕ))
    → EndsReplay new (lines ++ line ∷ more)
