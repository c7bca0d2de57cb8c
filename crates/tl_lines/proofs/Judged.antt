-- What a trace is judged, line by line.
use Rattle.std.proofs.Common.{◌≡◌, ◌≤◌, ℕ, ◌+◌, ◌*◌, ◌-◌, List, [], ◌∷◌, ◌++◌, length, true, false, refl, ap, ◌∙◌, arith}
use Rattle.std.proofs.Common.{length-append, inl, inr}
use Rattle.std.specs.declared.alloc.Global.{Global}
use Rattle.std.specs.Prelude.{Bool, IfOk, IsTrue, Option, Some, None, Result, Ok, Err}
use Rattle.std.specs.Io.BufRead.{ends_with_byte}
use Rattle.tl_beat.specs.declared.beat.Link.{Link}
use Rattle.tl_beat.specs.declared.beat.Beat.{Beat}
use Rattle.tl_beat.specs.declared.fault.LineFault.TheVariants.{F1}
use Rattle.tl_beat.specs.statement.Line.{Spells}
use Rattle.tl_params.specs.declared.header.Version.{Version}
use Rattle.tl_params.specs.declared.level.Level.{Level}
use Rattle.tl_params.specs.declared.profile.Profile.{Profile}
use Rattle.tl_params.specs.declared.width.Width.{Width}
use Rattle.tl_params.specs.statement.Header.{level_text, version_text}
use Rattle.tl_params.proofs.Headers.{level-short, version-short}
use Rattle.tl_rules.specs.statement.Conformance.{Trace}
use Rattle.tl_lines.specs.declared.beat_judge.BeatJudge.{BeatJudge}
use Rattle.tl_lines.specs.declared.fault.Fault.{Fault}
use Rattle.tl_lines.specs.declared.fault.Fault.TheVariants.{Header, Line}
use Rattle.tl_lines.specs.declared.status.Status.{Status}
use Rattle.tl_lines.specs.declared.status.Status.TheVariants.{Clean, Broken}
use Rattle.tl_lines.specs.declared.monitor_lines.MonitorLines.{MonitorLines}
use Rattle.tl_lines.specs.declared.monitor_lines.MonitorLines.TheVariants.{Waiting, Four, Eight, Sixteen}
use Rattle.tl_lines.specs.statement.Coherent.{coherent_text}
use Rattle.tl_lines.specs.statement.Decoded.{is_width}
use Rattle.tl_lines.specs.statement.Fault.{fault_text}
use Rattle.tl_lines.specs.statement.Judged.{clean_text}
use Rattle.tl_lines.specs.code.Judging.{IsTotal, Judges, Stops, Finishes}
use Rattle.tl_lines.specs.statement.Lines.{IsOpen}
use Rattle.tl_lines.specs.statement.Trace.{levels_text, header_line, trace_word, SpellsHeader}
use Rattle.tl_lines.specs.code.Watching.{JudgesBeat, KnowsBeats, KnowsLines, KnowsTrace, Watches}
use Rattle.tl_lines.specs.statement.JudgedSo.{JudgedSo, faults_by, said_by}
use Rattle.tl_lines.specs.code.Watching.{end_by, is_together}
use Rattle.tl_lines.proofs.Decoded.{open_fault}
use Rattle.tl_lines.proofs.Headers.{header_or_none}
use Rattle.tl_lines.proofs.JudgedTraces.{all_judged, bad_line, good_beat, header_unread, header_unseen, judged_behind}
use Rattle.tl_lines.proofs.JudgedTraces.{judged_whole}
use Rattle.tl_beat.proofs.SpelledLines.{ends_with_byte-line}

-- ---- the header

-- the first line spells none
pub header_bad : (n : ℕ) (alloc : Global) (line was : List ℕ)
    → ((width : Width) (p : Profile) (levels : List Level) → ¬ SpellsHeader line width p levels)
    → Stops (KnowsLines {n = n}) (JudgedSo (is_together n)) (Waiting alloc) line was was Header
header_bad n alloc line was none = λ lines before known more.
    header_unread SpellsHeader (faults_by (is_together n)) (said_by (is_together n)) line before was lines none known.0
    known.1 more

-- the first line isn't there
pub header_missing : (n : ℕ) (alloc : Global) (count : ℕ) (was : List ℕ)
    → Finishes (KnowsLines {n = n}) (JudgedSo (is_together n)) (Waiting alloc) count was was (Some Header)
header_missing n alloc count was = λ lines before known counted.
    header_unseen SpellsHeader (faults_by (is_together n)) (said_by (is_together n)) before was lines known.0 known.1

-- ---- the line of a beat

pub said_at_end : (together : Bool) (n : ℕ) → end_by together n ≡ said_by together n
unfolding clean_text coherent_text
said_at_end false n = refl
said_at_end true n = refl

-- the end of the input
beats_end : {w : ℕ} (together : Bool) (judge : BeatJudge w) (count : ℕ) (lines : List (List ℕ)) (before was is : List ℕ)
    → is ≡ was ++ end_by together (count - 1) → KnowsTrace together judge lines (before ++ was)
    → count ≡ length lines → JudgedSo together lines (before ++ is) Clean
beats_end together judge count lines before was is says k counted =
    all_judged SpellsHeader (faults_by together) (said_by together) (KnowsBeats together judge) lines count before was is
    (says ∙ ap (λ (x : List ℕ). was ++ x) (said_at_end together (count - 1))) k counted

-- the line spells a beat, and the judge says of the line what it does of the beat
pub watched_beat : {w : ℕ} {E : Type 0} (old new : BeatJudge w) (line : List ℕ) (link : Link) (beat : Beat w)
    (r : Result (Option Fault) E) → Spells line link beat
    → IfOk r (λ answer. (together : Bool) (levels : List Level) (p : Profile) (t : Trace w)
    → KnowsBeats together old levels p t → JudgesBeat together new levels p t (link, beat) answer)
    → IfOk r (λ answer. (together : Bool) → Watches together old new line answer)
watched_beat old new line link beat (Ok None) spells judged = λ together levels p t known.
    let (good, knows) = judged together levels p t known in
    (link, beat, spells, good, knows)
watched_beat old new line link beat (Ok (Some fault)) spells judged = λ together levels p t known.
    inr (link, beat, spells, (judged together levels p t known).0)
watched_beat old new line link beat (Err e) spells judged = tt

-- what a judge says of a line is what the handler says
module _ {w : ℕ} (n : ℕ) (wrap : BeatJudge w → MonitorLines n)
    (into : (judge : BeatJudge w) (lines : List (List ℕ)) (text : List ℕ) → KnowsLines (wrap judge) lines text
    → KnowsTrace (is_together n) judge lines text)
    (out : (judge : BeatJudge w) (lines : List (List ℕ)) (text : List ℕ)
    → KnowsTrace (is_together n) judge lines text → KnowsLines (wrap judge) lines text) where
  judges : (old new : BeatJudge w) (line was : List ℕ) (answer : Option Fault)
      → Watches (is_together n) old new line answer
      → Judges KnowsLines (JudgedSo (is_together n)) (wrap old) (wrap new) line was was answer
  judges old new line was None watches = λ lines before known.
      let k = into old lines (before ++ was) known in
      let (link, beat, spells, good, knows) = watches k.levels k.may k.trace k.known in
      out new (lines ++ line ∷ []) (before ++ was)
      (good_beat SpellsHeader (faults_by (is_together n)) (said_by (is_together n)) (KnowsBeats (is_together n) old) lines
      (KnowsBeats (is_together n) new) (before ++ was) line k link beat spells good knows)
  judges old new line was (Some fault) watches = λ lines before known.
      let k = into old lines (before ++ was) known in
      bad_line SpellsHeader (faults_by (is_together n)) (said_by (is_together n)) (KnowsBeats (is_together n) old) lines
      before was line fault k (watches k.levels k.may k.trace k.known)

  pub watched : {E : Type 0} (old new : BeatJudge w) (line was : List ℕ) (r : Result (Option Fault) E)
      → IfOk r (λ answer. (together : Bool) → Watches together old new line answer)
      → IfOk r (Judges KnowsLines (JudgedSo (is_together n)) (wrap old) (wrap new) line was was)
  watched old new line was (Ok answer) watches = judges old new line was answer (watches (is_together n))
  watched old new line was (Err e) watches = tt

-- ---- where a header has been read

-- a line with no LF at its end or of more than 256 bytes is no beat's
unread : {w : ℕ} (together : Bool) (judge : BeatJudge w) (lines : List (List ℕ))
    (before said line : List ℕ) (k : KnowsTrace together judge lines (before ++ said)) → IsOpen line
    → (more : List (List ℕ))
    → JudgedSo together (lines ++ line ∷ more) (before ++ (said ++ fault_text (length lines + 1) (Line F1))) Broken
unread {w} together judge lines before said line k is =
    bad_line SpellsHeader (faults_by together) (said_by together) (KnowsBeats together judge) lines before said line
    (Line F1) k (inl (F1, open_fault w line is, refl))

pub beat_open : (n : ℕ) (monitor_lines : MonitorLines n) → ((alloc : Global) → monitor_lines ≡ Waiting alloc → ⊥)
    → (line said : List ℕ) → IsOpen line
    → Stops KnowsLines (JudgedSo (is_together n)) monitor_lines line said said (Line F1)
beat_open n (Waiting alloc) read line said is = absurd (read alloc refl)
beat_open n (Four judge) read line said is = λ lines before k.
    unread (is_together n) judge lines before said line k is
beat_open n (Eight judge) read line said is = λ lines before k.
    unread (is_together n) judge lines before said line k is
beat_open n (Sixteen judge) read line said is = λ lines before k.
    unread (is_together n) judge lines before said line k is

-- all lines behind the header have a good beat
pub all_clean : (n : ℕ) (monitor_lines : MonitorLines n) → ((alloc : Global) → monitor_lines ≡ Waiting alloc → ⊥)
    → (count : ℕ) (was is : List ℕ) → is ≡ was ++ end_by (is_together n) (count - 1)
    → Finishes KnowsLines (JudgedSo (is_together n)) monitor_lines count was is None
all_clean n (Waiting alloc) read count was is says = absurd (read alloc refl)
all_clean n (Four judge) read count was is says = λ lines before k counted.
    beats_end (is_together n) judge count lines before was is says k counted
all_clean n (Eight judge) read count was is says = λ lines before k counted.
    beats_end (is_together n) judge count lines before was is says k counted
all_clean n (Sixteen judge) read count was is says = λ lines before k counted.
    beats_end (is_together n) judge count lines before was is says k counted

-- ---- a header's line ends in LF, and is short

pub levels-short : (levels : List Level) → length (levels_text levels) ≤ 3 * length levels
levels-short [] = omega arith
levels-short (l ∷ levels) =
    omega (arith, length-append (level_text l) (levels_text levels), level-short l, levels-short levels)

header-short : (version : Version) (levels : List Level) → length levels ≤ 16
    → length (header_line version levels) ≤ 256
header-short version levels few =
    let text = version_text version ++ levels_text levels in
    omega (
      arith,
      length-append text (10 ∷ []),
      length-append (version_text version) (levels_text levels),
      version-short
          version,
      levels-short levels,
    )

-- so a line that is open spells none
pub open_line : (line : List ℕ) → IsOpen line → (wide : Width) (p : Profile) (levels : List Level)
    → ¬ SpellsHeader line wide p levels
open_line line (inl ends) wide p levels h =
    let lf : ends_with_byte 10 line ≡ true =
    rw h.is_line (ends_with_byte-line (trace_word ++ version_text h.version ++ levels_text levels)) in
    absurd cc
open_line line (inr long) wide p levels h =
    let short : length line ≤ 256 = rw h.is_line (header-short h.version levels h.so_many.1) in
    omega arith

pub header_open : (n : ℕ) (alloc : Global) (line said : List ℕ) → IsOpen line
    → Stops (KnowsLines {n = n}) (JudgedSo (is_together n)) (Waiting alloc) line said said Header
header_open n alloc line said is = header_bad n alloc line said (open_line line is)

-- ---- each trace has a text

judged_more : (n w : ℕ) → IsTrue (is_width w) → (judge : BeatJudge w) (lines : List (List ℕ)) (text : List ℕ)
    → KnowsTrace (is_together n) judge lines text
    → (more : List (List ℕ)) → (rest : List ℕ) × (status : Status)
    × JudgedSo (is_together n) (lines ++ more) (text ++ rest) status
judged_more n w width judge lines text k more =
    judged_behind SpellsHeader (faults_by (is_together n)) (said_by (is_together n)) (KnowsBeats (is_together n) judge)
    width lines text k more

pub judged_total : (n : ℕ) → IsTotal {M = Unit {0}} (λ h. tt) (KnowsLines {n = n}) (λ m. JudgedSo (is_together n))
judged_total n (Waiting alloc) lines text known more =
    rw (known.0, known.1)
    (judged_whole SpellsHeader (faults_by (is_together n)) (said_by (is_together n)) header_or_none more)
judged_total n (Four judge) lines text k more = judged_more n 4 refl judge lines text k more
judged_total n (Eight judge) lines text k more = judged_more n 8 refl judge lines text k more
judged_total n (Sixteen judge) lines text k more = judged_more n 16 refl judge lines text k more
