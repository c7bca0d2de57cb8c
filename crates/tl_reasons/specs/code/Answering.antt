-- The block of the request that the beat of the line at fault answers.
use Rattle.std.specs.Prelude.{◌≡◌, ◌<◌, ℕ, Bool, true, false, List, ◌∷◌, ◌++◌, length, Option}
use Rattle.std.specs.Prelude.{Some, None, option_map, ⊤}
use Rattle.tl_beat.specs.declared.beat.Beat.{Beat}
use Rattle.tl_beat.specs.declared.beat.Link.{Link}
use Rattle.tl_beat.specs.statement.Line.{Spells}
use Rattle.tl_explain.specs.declared.told.Spelling.{Spelling}
use Rattle.tl_memory.specs.code.Elsewhere.{block_asked}
use Rattle.tl_memory.specs.code.Taking.{request_answered}
use Rattle.tl_params.specs.declared.level.Level.{Level}
use Rattle.tl_params.specs.declared.liberties.Liberties.{Liberties}
use Rattle.tl_params.specs.declared.rule.Rule.TheVariants.{H6}
use Rattle.tl_rules.specs.statement.Conformance.{Trace, on_link}
use Rattle.tl_lines.specs.code.TraceJudging.{KnowsBeats}
use Rattle.tl_reasons.specs.declared.examiner.Found.{Found}
use Rattle.tl_lines.specs.declared.fault.Fault.{Fault}
use Rattle.tl_lines.specs.declared.fault.Fault.TheVariants.{Rule as Breaks, MemoryRule as BreaksTogether}
use Rattle.tl_lines.specs.declared.link_lines.LinkJudge.{LinkJudge}
use Rattle.tl_lines.specs.declared.link_lines.LinkJudge.TheVariants.{Waiting, Four, Eight, Sixteen}
use Rattle.tl_lines.specs.declared.trace_judge.TraceJudge.{TraceJudge}
use Rattle.tl_lines.specs.statement.SpelledTrace.{SpellsTrace}

-- the block is that of the request which the beat of a line answers, after the trace that a judge knows
abbrev pub AnswersIn : {w : ℕ} → Bool → TraceJudge w → List ℕ → Option ℕ → Type 0
AnswersIn {w} together judge line block =
    (levels : List Level) (may : Liberties) (t : Trace w) (link : Link) (x : Beat w) → KnowsBeats together judge levels may t
    → Spells line link x → link.0 < length levels → block ≡ block_asked (request_answered x (on_link link.0 t))

abbrev pub AnswersBy : Bool → LinkJudge → List ℕ → Option ℕ → Type 0
AnswersBy together (Waiting alloc) line block = ⊤
AnswersBy together (Four judge) line block = AnswersIn together judge line block
AnswersBy together (Eight judge) line block = AnswersIn together judge line block
AnswersBy together (Sixteen judge) line block = AnswersIn together judge line block

-- a fault of a beat whose explanation needs that block
abbrev pub needs_block : Fault → Bool
needs_block (Breaks H6) = true
needs_block (BreaksTogether rule) = true
needs_block _ = false

-- a line was noted, which is at fault for this or isn't, with the block of the request that its beat answers
abbrev pub NotesLine : Found → Found → Option Fault → Option ℕ → Type 0
NotesLine old new None block = new.fault ≡ old.fault
NotesLine old new (Some fault) block =
    (option_map (λ noted. noted.0) new.fault ≡ Some fault) × (needs_block fault ≡ true → new.block ≡ block)

-- the block is that of the request which the beat of the line at fault answers; the line is one of these, after those
-- of a trace
pub record IsBlockAnswered (allow : Liberties) (block : Option ℕ) (lines : List (List ℕ)) : Type 0 where
  pub before : List (List ℕ)
  pub line : List ℕ
  pub behind : List (List ℕ)
  pub stands : lines ≡ before ++ line ∷ behind
  pub bytes : ℕ
  pub levels : List Level
  pub may : Liberties
  pub trace : Trace bytes
  pub spelled : SpellsTrace allow before levels may trace
  pub link : Link
  pub beat : Beat bytes
  pub spells : Spells line link beat
  pub block_is : block ≡ block_asked (request_answered beat (on_link link.0 trace))

-- if a fault is noted that needs that block, that is the block which was found
abbrev pub FindsBlock : Liberties → Found → List (List ℕ) → Type 0
FindsBlock allow found lines = (fault : Fault) (line : Spelling) → found.fault ≡ Some (fault, line)
    → needs_block fault ≡ true → IsBlockAnswered allow found.block lines
