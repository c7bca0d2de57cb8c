-- What is known while the lines of a trace are read again, up to the line at fault.
use Rattle.std.specs.Prelude.{◌≡◌, ◌⊎◌, ℕ, ◌+◌, true, false, List, [], ◌∷◌, ◌++◌, length, slice_get, ⊤}
use Rattle.tl_beat.specs.declared.beat.Beat.{Beat}
use Rattle.tl_beat.specs.declared.beat.Link.{Link}
use Rattle.tl_beat.specs.statement.Line.{Spells}
use Rattle.tl_params.specs.declared.level.Level.{Level}
use Rattle.tl_params.specs.declared.width.Width.{Width}
use Rattle.tl_rules.specs.statement.Conformance.{Trace}
use Rattle.tl_explain.specs.code.Recorded.{IsRecordUnder}
use Rattle.tl_explain.specs.statement.Spelled.{spelled}
use Rattle.tl_explain.specs.statement.Evidence.{next_line}
use Rattle.tl_explain.specs.statement.Reasons.{IsSubject}
use Rattle.tl_lines.specs.statement.Lines.{lines_of}
use Rattle.tl_lines.specs.code.Progress.{Feeds}
use Rattle.tl_lines.specs.declared.lines.Lines.{Lines}
use Rattle.tl_reasons.specs.declared.replay.Replay.{Replay}
use Rattle.tl_lines.specs.declared.status.Status.TheVariants.{Clean}
use Rattle.tl_lines.specs.statement.SpelledTrace.{AreLinesOf}
use Rattle.tl_lines.specs.statement.LinksHeader.{NamesAllowed}
use Rattle.tl_lines.specs.statement.Width.{bytes_of}

-- the fields that no line changes
pub record IsKept {w : ℕ} (old new : Replay w) : Type 0 where
  pub allow_is : new.allow ≡ old.allow
  pub may_is : new.may ≡ old.may
  pub level_is : new.level ≡ old.level
  pub good_is : new.good ≡ old.good
  pub line_is : new.line ≡ old.line
  pub subject_is : new.recorder.subject ≡ old.recorder.subject

-- the line is a header of these liberties, with the further ones, and of beats of this width, and counted; the subject's
-- link has this level
pub record TakesHeader {w : ℕ} (old new : Replay w) (line : List ℕ) : Type 0 where
  pub kept : IsKept old new
  pub width : Width
  pub levels : List Level
  pub names : NamesAllowed old.allow line width old.may levels
  pub of_width : bytes_of width ≡ w
  pub level_is : slice_get levels old.recorder.subject.link.0 ≡ old.level
  pub count_is : new.count ≡ 1
  pub reached_is : new.reached ≡ old.reached
  pub recorder_is : new.recorder ≡ old.recorder

-- the line spells a beat, which is recorded and counted
pub record TakesBeat {w : ℕ} (old new : Replay w) (line : List ℕ) : Type 0 where
  pub kept : IsKept old new
  pub link : Link
  pub beat : Beat w
  pub spells : Spells line link beat
  pub count_is : new.count ≡ old.count + 1
  pub reached_is : new.reached ≡ old.reached
  pub records : (t : Trace w) → old.count + 1 ≡ next_line t → IsRecordUnder old.may old.recorder t
      → IsRecordUnder old.may new.recorder ((link, beat) ∷ t)

-- the line is that at fault
pub record TakesFault {w : ℕ} (old new : Replay w) (line : List ℕ) : Type 0 where
  pub kept : IsKept old new
  pub is_line : line ≡ spelled old.line
  pub count_is : new.count ≡ old.count
  pub reached_is : new.reached ≡ true
  pub recorder_is : new.recorder ≡ old.recorder

-- the lines are a header and those of the beats of t, and all is recorded
pub record AreRecorded {w : ℕ} (r : Replay w) (lines : List (List ℕ)) (t : Trace w) : Type 0 where
  pub header : List ℕ
  pub width : Width
  pub levels : List Level
  pub beats : List (List ℕ)
  pub lines_are : lines ≡ header ∷ beats
  pub names : NamesAllowed r.allow header width r.may levels
  pub of_width : bytes_of width ≡ w
  pub level_is : slice_get levels r.recorder.subject.link.0 ≡ r.level
  pub beats_are : AreLinesOf t beats
  pub counted : r.count ≡ length lines
  pub recorded : IsRecordUnder r.may r.recorder t

-- the record is of the keys of the line at fault
abbrev pub IsForLine : {w : ℕ} → Replay w → Type 0
IsForLine {w} r = (link : Link) (beat : Beat w) → Spells (spelled r.line) link beat
    → IsSubject r.recorder.subject link beat

-- the line at fault is one of these, and the lines before it are recorded
pub record HasReached {w : ℕ} (r : Replay w) (lines : List (List ℕ)) : Type 0 where
  pub reached_is : r.reached ≡ true
  pub trace : Trace w
  pub before : List (List ℕ)
  pub behind : List (List ℕ)
  pub lines_are : lines ≡ before ++ spelled r.line ∷ behind
  pub recorded : AreRecorded r before trace
  pub good_is : r.count ≡ r.good

-- no line has been read, or those before the line at fault, or that line too
abbrev pub IsWithin : {w : ℕ} → Replay w → List (List ℕ) → Type 0
IsWithin {w} r lines =
    ((r.reached ≡ false) × (r.count ≡ 0) × (lines ≡ []) × IsRecordUnder {w = w} r.may r.recorder [])
    ⊎ (((r.reached ≡ false) × (t : Trace w) × AreRecorded r lines t) ⊎ HasReached r lines)

-- these lines have been read
abbrev pub KnowsReplay : {w : ℕ} → Replay w → List (List ℕ) → Type 0
KnowsReplay r lines = IsForLine r × IsWithin r lines

-- one more line has been read
abbrev pub ReadsLine : {w : ℕ} → Replay w → Replay w → List ℕ → Type 0
ReadsLine old new line = (lines : List (List ℕ)) → KnowsReplay old lines → KnowsReplay new (lines ++ line ∷ [])

-- the input has the line at fault, and the lines before it are recorded, whatever follows
pub record HasReachedIn {w : ℕ} (r : Replay w) (read : List ℕ) : Type 0 where
  pub for_line : IsForLine r
  pub trace : Trace w
  pub before : List (List ℕ)
  pub recorded : AreRecorded r before trace
  pub good_is : r.count ≡ r.good
  pub stands : (more : List ℕ) → (behind : List (List ℕ))
      × (lines_of (read ++ more) ≡ before ++ spelled r.line ∷ behind)

-- a front of the piece was read, and none of its lines is at fault; all of it, if the line at fault wasn't reached
abbrev pub ReadsFront : {w : ℕ} → Lines (Replay w) → Lines (Replay w) → List ℕ → List ℕ → List ℕ → Type 0
ReadsFront {w} old new piece was is =
    (front : List ℕ) × (rest : List ℕ) × (front ++ rest ≡ piece)
    × Feeds (λ (r : Replay w) (lines : List (List ℕ)) (text : List ℕ). KnowsReplay r lines) (λ _ _ _. ⊤) old new front
    was is Clean
    × (new.handler.reached ≡ false → front ≡ piece)
