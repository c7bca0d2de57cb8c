-- What is known while the lines of a trace are judged again, up to the line at fault.
use Rattle.std.specs.Prelude.{◌≡◌, ℕ, ◌+◌, Bool, true, false, List, [], ◌∷◌, ◌++◌, length, Option, Some, None, IfSome}
use Rattle.tl_beat.specs.declared.beat.Beat.{Beat}
use Rattle.tl_beat.specs.declared.beat.Beat.TheVariants as beat
use Rattle.tl_beat.specs.declared.beat.BeatD.{BeatD}
use Rattle.tl_beat.specs.declared.beat.Link.{Link}
use Rattle.tl_beat.specs.statement.Line.{Spells}
use Rattle.tl_params.specs.declared.level.Level.{Level}
use Rattle.tl_params.specs.declared.liberties.Liberties.{Liberties}
use Rattle.tl_params.specs.declared.width.Width.{Width}
use Rattle.tl_memory.specs.code.Elsewhere.{block_asked}
use Rattle.tl_rules.specs.code.Open.{open_request}
use Rattle.tl_rules.specs.statement.Conformance.{Trace, on_link}
use Rattle.tl_rules.specs.statement.Liberties.{broken_on_link_under}
use Rattle.tl_explain.specs.statement.Spelled.{spelled}
use Rattle.tl_explain.specs.declared.told.Spelling.{Spelling}
use Rattle.tl_explain.specs.statement.Evidence.{next_line}
use Rattle.tl_together.specs.declared.breach.Breach.TheVariants.{OfMemory}
use Rattle.tl_params.specs.declared.memory_rule.MemoryRule.{MemoryRule}
use Rattle.tl_together.specs.declared.judge.Judge.{Judge}
use Rattle.tl_together.specs.statement.Coherence.{broken_together}
use Rattle.tl_together.specs.statement.Knows.{Knows}
use Rattle.tl_witness.specs.code.Witness.{KnowsWitness}
use Rattle.tl_witness.specs.declared.witness.Witness.{Witness}
use Rattle.tl_witness.specs.statement.Naming.{as_recorded}
use Rattle.tl_witness.specs.statement.Grounds.{grounds_text}
use Rattle.tl_lines.specs.code.Tracing.{KnowsSpelled}
use Rattle.tl_lines.specs.code.LinkWatching.{KnowsLines}
use Rattle.tl_lines.specs.code.TraceJudging.{KnowsBeats}
use Rattle.tl_reasons.specs.declared.examiner.Found.{Found}
use Rattle.tl_lines.specs.declared.fault.Fault.{Fault}
use Rattle.tl_lines.specs.declared.fault.Fault.TheVariants.{MemoryRule as BreaksTogether}
use Rattle.tl_lines.specs.declared.link_lines.LinkJudge.{LinkJudge}
use Rattle.tl_lines.specs.declared.link_lines.LinkJudge.TheVariants.{Waiting, Four, Eight, Sixteen}
use Rattle.tl_reasons.specs.declared.testimony.Inquiry.{Inquiry}
use Rattle.tl_reasons.specs.declared.testimony.Testimony.{Testimony}
use Rattle.tl_lines.specs.declared.trace_judge.TraceJudge.{TraceJudge}
use Rattle.tl_lines.specs.statement.SpelledTrace.{SpellsTrace}
use Rattle.tl_reasons.specs.statement.Explained.{memory_front_text}
use Rattle.tl_lines.specs.statement.LinksHeader.{NamesLinks}

-- ---- the question

-- the parts that no line changes
pub record IsSameInquiry (old new : Inquiry) : Type 0 where
  pub rule_is : new.rule ≡ old.rule
  pub block_is : new.block ≡ old.block
  pub good_is : new.good ≡ old.good
  pub line_is : new.line ≡ old.line

-- nothing was heard
pub record IsUnheard (i : Inquiry) : Type 0 where
  pub count_is : i.count ≡ 0
  pub witness_is : i.witness ≡ None
  pub reached_is : i.reached ≡ false

-- nothing was heard; it is asked about the rule that was found to be broken, the block that was found, and the line
pub record AsksAbout (i : Inquiry) (found : Found) (rule : MemoryRule) (line : Spelling) : Type 0 where
  pub unheard : IsUnheard i
  pub rule_is : i.rule ≡ rule
  pub block_is : Some i.block ≡ found.block
  pub good_is : i.good ≡ found.good
  pub line_is : i.line ≡ line

-- if all could be recorded, it is recorded what each of n links holds after t of the block that is asked about
abbrev pub KnowsRecord : {w : ℕ} → Inquiry → ℕ → Trace w → Type 0
KnowsRecord i n t = IfSome i.witness (λ h. KnowsWitness h n i.block t)

-- ---- one line

-- a header was heard, after which nothing is recorded yet
pub record HearsHeader (old new : Inquiry) (line : List ℕ) : Type 0 where
  pub same : IsSameInquiry old new
  pub recorded : old.witness ≡ None → (w : ℕ) (width : Width) (own : Liberties) (levels : List Level)
      → NamesLinks line width own levels → KnowsRecord {w = w} new (length levels) []

-- a line of this number was heard: if it spells a beat, that is recorded
abbrev pub RecordsBeat : (w : ℕ) → Inquiry → Inquiry → ℕ → List ℕ → Type 0
RecordsBeat w old new number line =
    (n : ℕ) (t : Trace w) (link : Link) (x : Beat w) → Spells line link x → number ≡ next_line t
    → KnowsRecord old n t → KnowsRecord new n ((link, x) ∷ t)

-- of a response to a request of the block that is recorded, after the trace that the judge knows, a text grew by that
-- of the definition
abbrev pub TellsRecorded : {w : ℕ} → Option Witness → Judge w → MemoryRule → Link → BeatD w → List ℕ → List ℕ → Type 0
TellsRecorded {w} witness judge rule link y was is =
    (levels : List Level) (may : Liberties) (block : ℕ) (t : Trace w) → Knows judge levels may t false
    → IfSome witness (λ h. KnowsWitness h (length levels) block t)
    → block_asked (open_request y.source (on_link link.0 t)) ≡ Some block
    → broken_on_link_under may levels (link, beat.D y) t ≡ None
    → is ≡ was ++ grounds_text as_recorded rule (length levels) link.0 y t

-- for a response in the line of this number, after the trace that the judge knows, the definition's text was written
abbrev pub TellsResponse : {w : ℕ} → Inquiry → Inquiry → Judge w → ℕ → List ℕ → Link → BeatD w → Type 0
TellsResponse {w} old new judge number line link y =
    (levels : List Level) (may : Liberties) (t : Trace w) → Knows judge levels may t false → KnowsRecord old (length levels) t
    → Spells line link (beat.D y) → broken_on_link_under may levels (link, beat.D y) t ≡ None
    → new.reasons.items ≡ memory_front_text old.rule number link (beat.D y)
    ++ grounds_text as_recorded old.rule (length levels) link.0 y t

-- the same of a beat, which is a response then
abbrev pub TellsBeat : {w : ℕ} → Inquiry → Inquiry → TraceJudge w → ℕ → List ℕ → Link → Beat w → Type 0
TellsBeat {w} old new judge number line link x =
    (levels : List Level) (may : Liberties) (t : Trace w) → KnowsBeats true judge levels may t
    → KnowsRecord old (length levels) t → Spells line link x → broken_on_link_under may levels (link, x) t ≡ None
    → (y : BeatD w) × (x ≡ beat.D y)
    × (new.reasons.items ≡ memory_front_text old.rule number link x
    ++ grounds_text as_recorded old.rule (length levels) link.0 y t)

-- the line of this number is the one at fault, and for its response the text of the definition was written
pub record TellsFault {w : ℕ} (old new : Inquiry) (judge : TraceJudge w) (number : ℕ) (line : List ℕ) : Type 0 where
  pub is_line : line ≡ spelled old.line
  pub is_next : number ≡ old.good + 1
  pub tells : (levels : List Level) (may : Liberties) (t : Trace w) (link : Link) (x : Beat w)
      → KnowsBeats true judge levels may t → KnowsRecord old (length levels) t → Spells line link x
      → broken_on_link_under may levels (link, x) t ≡ None
      → (y : BeatD w) × (x ≡ beat.D y)
      × (new.reasons.items ≡ memory_front_text old.rule number link x
      ++ grounds_text as_recorded old.rule (length levels) link.0 y t)

-- a line after the header was heard
pub record HearsLine {w : ℕ} (old new : Inquiry) (judge : TraceJudge w) (number : ℕ) (line : List ℕ) (told : Bool)
    : Type 0 where
  pub same : IsSameInquiry old new
  pub recorded : RecordsBeat w old new number line
  pub tells : told ≡ true → TellsFault old new judge number line

-- what a judge knew it knows still
abbrev pub StillKnows : {w : ℕ} → TraceJudge w → TraceJudge w → Type 0
StillKnows {w} old new = (levels : List Level) (may : Liberties) (t : Trace w) → KnowsBeats true old levels may t
    → KnowsBeats true new levels may t

-- a line of this number was heard, before it was judged
abbrev pub Hears : LinkJudge → LinkJudge → Inquiry → Inquiry → ℕ → List ℕ → Bool → Type 0
Hears (Waiting alloc) new i j number line told = (new ≡ Waiting alloc) × (told ≡ false) × HearsHeader i j line
Hears (Four old) (Four new) i j number line told = StillKnows old new × HearsLine i j old number line told
Hears (Eight old) (Eight new) i j number line told = StillKnows old new × HearsLine i j old number line told
Hears (Sixteen old) (Sixteen new) i j number line told = StillKnows old new × HearsLine i j old number line told
Hears _ _ i j number line told = ⊥

-- a line of this number was counted: it was explained or not, and is at fault for this or isn't
pub record Concludes (old new : Inquiry) (number : ℕ) (told : Bool) (fault : Option Fault) : Type 0 where
  pub same : IsSameInquiry old new
  pub witness_is : new.witness ≡ old.witness
  pub reasons_are : new.reasons ≡ old.reasons
  pub count_is : new.count ≡ number
  pub reached_is : new.reached ≡ true → (told ≡ true) × (fault ≡ Some (BreaksTogether old.rule))

-- ---- all lines

-- the judge knows the trace that these lines spell, and that is recorded
pub record HasHeard {w : ℕ} (allow : Liberties) (judge : TraceJudge w) (i : Inquiry) (lines : List (List ℕ)) : Type 0 where
  pub traced : KnowsSpelled true allow judge lines
  pub recorded : KnowsRecord i (length traced.levels) traced.trace

-- these lines have been judged and heard: what each link holds is recorded, of the block that is asked about
abbrev pub KnowsInquiry : Liberties → LinkJudge → Inquiry → List (List ℕ) → Type 0
KnowsInquiry allow (Waiting alloc) i lines = (lines ≡ []) × (i.witness ≡ None)
KnowsInquiry allow (Four judge) i lines = HasHeard allow judge i lines
KnowsInquiry allow (Eight judge) i lines = HasHeard allow judge i lines
KnowsInquiry allow (Sixteen judge) i lines = HasHeard allow judge i lines

-- these lines have been judged and heard, and the line at fault wasn't reached
pub record KnowsTestimony (h : Testimony) (lines : List (List ℕ)) (text : List ℕ) : Type 0 where
  pub together : h.link_lines.together ≡ true
  pub judged : KnowsLines h.link_lines lines text
  pub heard : KnowsInquiry h.link_lines.allow h.link_lines.judge h.inquiry lines
  pub counted : h.inquiry.count ≡ length lines
  pub unreached : h.inquiry.reached ≡ false

-- The line at fault is one of these, after those of a trace. Its response breaks the rule after that
-- trace, and its reasons were written as the definition has them.
pub record HasTold (allow : Liberties) (i : Inquiry) (lines : List (List ℕ)) : Type 0 where
  pub before : List (List ℕ)
  pub behind : List (List ℕ)
  pub stands : lines ≡ before ++ spelled i.line ∷ behind
  pub good_is : i.good ≡ length before
  pub bytes : ℕ
  pub levels : List Level
  pub may : Liberties
  pub trace : Trace bytes
  pub spells_trace : SpellsTrace allow before levels may trace
  pub link : Link
  pub response : BeatD bytes
  pub spells : Spells (spelled i.line) link (beat.D response)
  pub breaks : broken_together levels may (link, beat.D response) trace ≡ Some (OfMemory i.rule)
  pub says : i.reasons.items ≡ memory_front_text i.rule (i.good + 1) link (beat.D response)
      ++ grounds_text as_recorded i.rule (length levels) link.0 response trace

-- if the line at fault was reached, it was explained
abbrev pub EndsTestimony : Testimony → List (List ℕ) → Type 0
EndsTestimony h lines = h.inquiry.reached ≡ true → HasTold h.link_lines.allow h.inquiry lines
