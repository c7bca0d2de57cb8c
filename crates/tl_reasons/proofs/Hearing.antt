-- What is recorded of the lines of a trace that is judged again, and what is told of the line at fault.
use Rattle.std.proofs.Common.{◌≡◌, ◌≢◌, ◌<◌, ℕ, ◌+◌, Bool, true, false, List, [], ◌∷◌, ◌++◌, length, refl, sym, ap, ◌∙◌}
use Rattle.std.proofs.Common.{arith, append_assoc, length-append, inl, inr, subst, Option, Some, None}
use Rattle.std.specs.Prelude.{IfSome, OnOk, Result, Ok, Err, is_ok}
use Rattle.std.specs.Io.KnownBytes.{Consumes}
use Rattle.std.proofs.lemmas.Bool.{cases_Bool, lt-ltb}
use Rattle.std.proofs.lemmas.Option.{same_Some}
use Rattle.tl_beat.specs.declared.beat.Beat.{Beat}
use Rattle.tl_beat.specs.declared.beat.BeatD.{BeatD}
use Rattle.tl_beat.specs.declared.beat.Link.{Link}
use Rattle.tl_beat.specs.statement.Line.{Spells}
use Rattle.tl_beat.specs.statement.Width.{IsWidth}
use Rattle.tl_memory.specs.code.Elsewhere.{block_asked}
use Rattle.tl_monitor.specs.statement.Knows.{request_on}
use Rattle.tl_params.specs.declared.level.Level.{Level}
use Rattle.tl_params.specs.declared.liberties.Liberties.{Liberties}
use Rattle.tl_params.specs.declared.width.Width.{Width}
use Rattle.tl_rules.specs.code.Open.{open_request}
use Rattle.tl_rules.specs.declared.past.Request.{Request}
use Rattle.tl_rules.specs.statement.Conformance.{Trace, on_link}
use Rattle.tl_rules.specs.statement.Liberties.{broken_on_link_under}
use Rattle.tl_rules.specs.statement.History.{capped}
use Rattle.tl_explain.specs.statement.Spelled.{spelled}
use Rattle.tl_explain.specs.declared.told.Spelling.{Spelling}
use Rattle.tl_explain.specs.statement.Evidence.{next_line}
use Rattle.tl_memory.proofs.messages.LinkTables.{link-there}
use Rattle.tl_together.specs.declared.breach.Breach.TheVariants.{OfMemory}
use Rattle.tl_params.specs.declared.memory_rule.MemoryRule.{MemoryRule}
use Rattle.tl_params.specs.declared.memory_rule.MemoryRule.TheVariants.{M1, M2, M3, M4}
use Rattle.tl_together.specs.declared.judge.Judge.{Judge}
use Rattle.tl_together.specs.statement.Coherence.{broken_memory, broken_together}
use Rattle.tl_together.specs.statement.Knows as of_all
use Rattle.tl_witness.specs.code.Witness.{KnowsWitness}
use Rattle.tl_witness.specs.declared.witness.Witness.{Witness}
use Rattle.tl_witness.specs.statement.Naming.{as_recorded}
use Rattle.tl_witness.specs.statement.Grounds.{access_grounds, access_text, conflicts_text, grant_grounds, grounds_text}
use Rattle.tl_witness.specs.statement.Strays.{bytes_text}
use Rattle.tl_lines.specs.code.Judging.{Ends, Finishes, Judges, Stops}
use Rattle.tl_lines.specs.statement.Lines.{lines_of}
use Rattle.tl_lines.specs.code.Progress.{HasAll}
use Rattle.tl_reasons.specs.code.Testifying.{Concludes, EndsTestimony, HasHeard, HasTold, Hears, HearsHeader, HearsLine}
use Rattle.tl_reasons.specs.code.Testifying.{IsSameInquiry, KnowsInquiry, KnowsRecord, KnowsTestimony, RecordsBeat}
use Rattle.tl_reasons.specs.code.Testifying.{StillKnows, TellsBeat, TellsFault, TellsRecorded, TellsResponse}
use Rattle.tl_lines.specs.code.Tracing.{KnowsSpelled, TracedBy, WatchesBy, WatchesLine}
use Rattle.tl_lines.specs.code.LinkWatching.{KnowsJudge, KnowsLines, KnowsTrace, Watches, judged_for}
use Rattle.tl_lines.specs.code.TraceJudging.{KnowsBeats}
use Rattle.tl_lines.specs.declared.trace_judge.TraceJudge.{TraceJudge}
use Rattle.tl_lines.specs.declared.trace_judge.TraceJudge.TheVariants.{OfAll}
use Rattle.tl_lines.specs.declared.fault.Fault.{Fault}
use Rattle.tl_lines.specs.declared.fault.Fault.TheVariants.{Line, MemoryRule as BreaksTogether}
use Rattle.tl_lines.specs.declared.link_lines.LinkJudge.{LinkJudge}
use Rattle.tl_lines.specs.declared.link_lines.LinkJudge.TheVariants.{Waiting, Four, Eight, Sixteen}
use Rattle.tl_lines.specs.declared.link_lines.LinkLines.{LinkLines}
use Rattle.tl_lines.specs.declared.status.Status.{Status}
use Rattle.tl_lines.specs.declared.status.Status.TheVariants.{Clean, Broken}
use Rattle.tl_reasons.specs.declared.testimony.Inquiry.{Inquiry}
use Rattle.tl_reasons.specs.declared.testimony.Testimony.{Testimony}
use Rattle.tl_lines.specs.statement.Coherent.{fault_of_breach}
use Rattle.tl_lines.specs.statement.JudgedLinks.{JudgedLinks, faults_by}
use Rattle.tl_lines.specs.statement.SpelledTrace.{SpellsTrace}
use Rattle.tl_reasons.specs.statement.Explained.{IsWitnessed, memory_front_text}
use Rattle.tl_lines.specs.statement.Fault.{fault_text}
use Rattle.tl_lines.specs.statement.Judged.{IsAtFault}
use Rattle.tl_lines.specs.statement.LinksHeader.{NamesLinks}
use Rattle.tl_lines.proofs.OneText.{same_beat}
use Rattle.tl_lines.proofs.Tracing.{spells-more}
use Rattle.tl_reasons.proofs.Answering.{broken-memory, spelled-alone, spelled-count}

-- ---- what is recorded

pub same-both : (old mid new : Inquiry) → IsSameInquiry old mid → IsSameInquiry mid new → IsSameInquiry old new
same-both old mid new first second = record {
  rule_is = second.rule_is ∙ first.rule_is;
  block_is = second.block_is ∙ first.block_is;
  good_is = second.good_is ∙ first.good_is;
  line_is = second.line_is ∙ first.line_is;
}

-- the same witness of the same block
pub same-record : {w : ℕ} (old new : Inquiry) (n : ℕ) (t : Trace w) → new.witness ≡ old.witness → new.block ≡ old.block
    → KnowsRecord old n t → KnowsRecord new n t
same-record old new n t witness block known = rw (witness, block) known

-- a witness of the links that a header names
pub header-recorded : (old new : Inquiry) (h : Witness) (line : List ℕ) (links : ℕ) (named : List Level)
    → IsSameInquiry old new → new.witness ≡ Some h
    → ((w : ℕ) → KnowsWitness {w = w} h links old.block []) → links ≡ length named
    → ((width : Width) (own : Liberties) (levels : List Level) → NamesLinks line width own levels → named ≡ levels)
    → HearsHeader old new line
header-recorded old new h line links named same is fresh many names = record {
  same = same;
  recorded = λ none w width own levels spells.
      rw (is, same.block_is) (subst (λ (n : ℕ). KnowsWitness {w = w} h n old.block [])
      (many ∙ ap length (names width own levels spells)) (fresh w));
}

-- no header
pub header-none : (old new : Inquiry) (line : List ℕ) → IsSameInquiry old new → new.witness ≡ old.witness
    → HearsHeader old new line
header-none old new line same is = record {
  same = same;
  recorded = λ none w width own levels spells. rw (is ∙ none) tt;
}

-- a beat that the witness took
pub beat-recorded : {w : ℕ} (old new : Inquiry) (h g : Witness) (number : ℕ) (line : List ℕ) (link : Link) (x : Beat w)
    → IsWidth w → old.witness ≡ Some h → new.witness ≡ Some g → new.block ≡ old.block → Spells line link x
    → ((n block : ℕ) (t : Trace w) → KnowsWitness h n block t → number ≡ next_line t
    → KnowsWitness g n block ((link, x) ∷ t)) → RecordsBeat w old new number line
beat-recorded {w} old new h g number line link x width was is block here takes = λ n t k y spells at known.
    let before : KnowsWitness h n old.block t = rw was at known in
    let same = same_beat line link k x y width here spells in
    rw (is, block) (subst (λ (z : Link × Beat w). KnowsWitness g n old.block (z ∷ t)) same
    (takes n old.block t before at))

pub ok-then : {X E P : Type 0} (r : Result X E) → is_ok r ≡ true → OnOk r P → P
ok-then (Ok x) is so = so
ok-then (Err e) is so = absurd cc

-- and one that it didn't
pub beat-lost : (w : ℕ) (old new : Inquiry) (number : ℕ) (line : List ℕ) → new.witness ≡ None
    → RecordsBeat w old new number line
beat-lost w old new number line none = λ n t k y spells at known. rw none tt

-- ---- what is told of a response

module _ {w : ℕ} (levels : List Level) (link : Link) (x : BeatD w) (t : Trace w) (block : ℕ) (mid new : List ℕ) where
  for-grant : (o : Option Request) → block_asked o ≡ Some block
      → new ≡ mid ++ conflicts_text as_recorded (length levels) link.0 (capped x.param) block t
      → new ≡ mid ++ grant_grounds as_recorded (length levels) link.0 x o t
  for-grant None of e = absurd cc
  for-grant (Some asked) of e = let same : asked.block ≡ block = same_Some asked.block block of in rw same e

  for-access : (o : Option Request) → block_asked o ≡ Some block
      → ((asked : Request) → o ≡ Some asked
      → new ≡ mid ++ access_text as_recorded (length levels) link.0 x.source asked block t)
      → new ≡ mid ++ access_grounds as_recorded (length levels) link.0 x o t
  for-access None of e = absurd cc
  for-access (Some asked) of e =
      let same : asked.block ≡ block = same_Some asked.block block of in rw same (e asked refl)

  -- by what tells it of each rule
  grounds-told : (rule : MemoryRule) → block_asked (open_request x.source (on_link link.0 t)) ≡ Some block
      → (rule ≡ M1 → new ≡ mid ++ conflicts_text as_recorded (length levels) link.0 (capped x.param) block t)
      → (rule ≡ M4 → (asked : Request) → open_request x.source (on_link link.0 t) ≡ Some asked
      → new ≡ mid ++ access_text as_recorded (length levels) link.0 x.source asked block t)
      → (rule ≢ M1 → rule ≢ M4 → new ≡ mid ++ bytes_text as_recorded x.opcode (length levels) link.0 x t)
      → new ≡ mid ++ grounds_text as_recorded rule (length levels) link.0 x t
  grounds-told M1 of grant access bytes = for-grant (open_request x.source (on_link link.0 t)) of (grant refl)
  grounds-told M4 of grant access bytes = for-access (open_request x.source (on_link link.0 t)) of (access refl)
  grounds-told M2 of grant access bytes = bytes (λ e. absurd cc) (λ e. absurd cc)
  grounds-told M3 of grant access bytes = bytes (λ e. absurd cc) (λ e. absurd cc)

pub recorded-told : {w : ℕ} (witness : Option Witness) (h : Witness) (judge : Judge w) (rule : MemoryRule) (link : Link)
    (x : BeatD w) (was is : List ℕ) → witness ≡ Some h
    → (rule ≡ M1 → (levels : List Level) (may : Liberties) (block : ℕ) (t : Trace w)
    → of_all.Knows judge levels may t false → KnowsWitness h (length levels) block t
    → is ≡ was ++ conflicts_text as_recorded (length levels) link.0 (capped x.param) block t)
    → (rule ≡ M4 → (levels : List Level) (may : Liberties) (asked : Request) (block : ℕ) (t : Trace w)
    → of_all.Knows judge levels may t false → KnowsWitness h (length levels) block t → link.0 < length levels
    → open_request x.source (on_link link.0 t) ≡ Some asked
    → is ≡ was ++ access_text as_recorded (length levels) link.0 x.source asked block t)
    → (rule ≢ M1 → rule ≢ M4 → (levels : List Level) (may : Liberties) (t : Trace w)
    → of_all.Knows judge levels may t false → broken_on_link_under may levels (link, Beat.D x) t ≡ None
    → is ≡ was ++ bytes_text as_recorded x.opcode (length levels) link.0 x t)
    → TellsRecorded witness judge rule link x was is
recorded-told witness h judge rule link x was is some grant access bytes = λ levels may block t k known of fine.
    let lt = link-there may levels (link, Beat.D x) t fine in
    let kept : KnowsWitness h (length levels) block t = rw some at known in
    grounds-told levels link x t block was is rule of (λ e. grant e levels may block t k kept)
    (λ e asked there. access e levels may asked block t k kept lt there) (λ one four. bytes one four levels may t k fine)

pub response-told : {w : ℕ} (old new : Inquiry) (judge : Judge w) (number : ℕ) (line : List ℕ) (link : Link)
    (x : BeatD w) (asked : Option Request) (empty mid : List ℕ)
    → ((levels : List Level) (may : Liberties) (t : Trace w) → of_all.Knows judge levels may t false
    → asked ≡ request_on levels link x.source t)
    → block_asked asked ≡ Some old.block → empty ≡ []
    → ((l : Link) (b : Beat w) → Spells line l b → mid ≡ empty ++ memory_front_text old.rule number l b)
    → TellsRecorded old.witness judge old.rule link x mid new.reasons.items
    → TellsResponse old new judge number line link x
response-told old new judge number line link x asked empty mid says of none front told = λ levels may t k known spells fine.
    let lt = link-there may levels (link, Beat.D x) t fine in
    let opened : asked ≡ open_request x.source (on_link link.0 t) =
    says levels may t k ∙ rw (lt-ltb link.0 (length levels) lt) refl in
    let first : mid ≡ memory_front_text old.rule number link (Beat.D x) =
    front link (Beat.D x) spells ∙ ap (λ (e : List ℕ). e ++ memory_front_text old.rule number link (Beat.D x)) none in
    told levels may old.block t k known (ap block_asked (sym opened) ∙ of) fine
    ∙ ap (λ (text : List ℕ). text ++ grounds_text as_recorded old.rule (length levels) link.0 x t) first

-- the beat is that response
pub beat-told : {w : ℕ} (old new : Inquiry) (judge : TraceJudge w) (inner : Judge w) (number : ℕ) (line : List ℕ)
    (link : Link) (x : Beat w) (y : BeatD w) → judge ≡ OfAll inner → x ≡ Beat.D y
    → TellsResponse old new inner number line link y → TellsBeat old new judge number line link x
beat-told {w} old new judge inner number line link x y is of_d told = λ levels may t known kept spells fine. (
  y,
  of_d,
  subst (λ (z : Beat w). new.reasons.items ≡ memory_front_text old.rule number link z
      ++ grounds_text as_recorded old.rule (length levels) link.0 y t) (sym of_d)
      (told levels may t (rw is at known) kept (rw of_d at spells) (rw of_d at fine)),
)

-- the line at fault spells it
pub fault-told : {w : ℕ} (old new : Inquiry) (judge : TraceJudge w) (number : ℕ) (line : List ℕ) (link : Link)
    (x : Beat w) → IsWidth w → line ≡ spelled old.line → number ≡ old.good + 1 → Spells line link x
    → TellsBeat old new judge number line link x → TellsFault old new judge number line
fault-told {w} old new judge number line link x width same_line next here told = record {
  is_line = same_line;
  is_next = next;
  tells = λ levels may t k y known kept spells fine.
      let same = same_beat line link k x y width here spells in
      subst (λ (z : Link × Beat w). Spells line z.0 z.1 → broken_on_link_under may levels z t ≡ None
      → (d : BeatD w) × (z.1 ≡ Beat.D d) × (new.reasons.items ≡ memory_front_text old.rule number z.0 z.1
      ++ grounds_text as_recorded old.rule (length levels) z.0.0 d t)) same
      (λ own good. told levels may t known kept own good) spells fine;
}

-- it is told of, and recorded
pub beat-heard : {w : ℕ} (old mid new : Inquiry) (judge : TraceJudge w) (number : ℕ) (line : List ℕ) (told : Bool)
    → IsSameInquiry old mid → mid.witness ≡ old.witness → IsSameInquiry mid new → RecordsBeat w mid new number line
    → new.reasons ≡ mid.reasons → (told ≡ true → TellsFault old mid judge number line)
    → HearsLine old new judge number line told
beat-heard {w} old mid new judge number line told first witness second records reasons tells = record {
  same = same-both old mid new first second;
  recorded = λ n t link x spells at known.
      records n t link x spells at (same-record old mid n t witness first.block_is known);
  tells = λ came.
      let so = tells came in
      record {
        is_line = so.is_line;
        is_next = so.is_next;
        tells = λ levels may t link x known kept spells fine.
            let (y, is, text) = so.tells levels may t link x known kept spells fine in
            (y, is, ap (λ v. v.items) reasons ∙ text);
      };
}
