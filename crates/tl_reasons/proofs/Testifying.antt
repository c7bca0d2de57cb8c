-- Lines that are judged again, and heard, up to the line at fault.
use Rattle.std.proofs.Common.{◌≡◌, ◌≢◌, ◌<◌, ℕ, ◌+◌, Bool, true, false, List, [], ◌∷◌, ◌++◌, length, refl, sym, ap, ◌∙◌}
use Rattle.std.proofs.Common.{arith, append_assoc, length-append, inl, inr, subst, Option, Some, None}
use Rattle.std.specs.Prelude.{IfSome, OnOk, Result, Ok, Err, is_ok}
use Rattle.std.specs.Io.KnownBytes.{Consumes}
use Rattle.std.proofs.lemmas.Bool.{cases_Bool, lt-ltb}
use Rattle.std.proofs.lemmas.Option.{same_Some}
use Rattle.tl_beat.specs.declared.beat.Beat.{Beat}
use Rattle.tl_beat.specs.declared.beat.BeatD.{BeatD}
use Rattle.tl_beat.specs.declared.beat.Link.{Link}
use Rattle.tl_beat.specs.statement.Line.{Spells}
use Rattle.tl_beat.specs.statement.Width.{IsWidth}
use Rattle.tl_memory.specs.code.Elsewhere.{block_asked}
use Rattle.tl_monitor.specs.statement.Knows.{request_on}
use Rattle.tl_params.specs.declared.level.Level.{Level}
use Rattle.tl_params.specs.declared.liberties.Liberties.{Liberties}
use Rattle.tl_params.specs.declared.width.Width.{Width}
use Rattle.tl_rules.specs.code.Open.{open_request}
use Rattle.tl_rules.specs.declared.past.Request.{Request}
use Rattle.tl_rules.specs.statement.Liberties.{broken_on_link_under}
use Rattle.tl_rules.specs.statement.Conformance.{Trace, on_link}
use Rattle.tl_rules.specs.statement.History.{capped}
use Rattle.tl_explain.specs.statement.Spelled.{spelled}
use Rattle.tl_explain.specs.declared.told.Spelling.{Spelling}
use Rattle.tl_explain.specs.statement.Evidence.{next_line}
use Rattle.tl_memory.proofs.messages.LinkTables.{link-there}
use Rattle.tl_together.specs.declared.breach.Breach.TheVariants.{OfMemory}
use Rattle.tl_params.specs.declared.memory_rule.MemoryRule.{MemoryRule}
use Rattle.tl_params.specs.declared.memory_rule.MemoryRule.TheVariants.{M1, M2, M3, M4}
use Rattle.tl_together.specs.declared.judge.Judge.{Judge}
use Rattle.tl_together.specs.statement.Coherence.{broken_memory, broken_together}
use Rattle.tl_together.specs.statement.Knows as of_all
use Rattle.tl_witness.specs.code.Witness.{KnowsWitness}
use Rattle.tl_witness.specs.declared.witness.Witness.{Witness}
use Rattle.tl_witness.specs.statement.Naming.{as_recorded}
use Rattle.tl_witness.specs.statement.Grounds.{access_grounds, access_text, conflicts_text, grant_grounds, grounds_text}
use Rattle.tl_witness.specs.statement.Strays.{bytes_text}
use Rattle.tl_lines.specs.code.Judging.{Ends, Finishes, Judges, Stops}
use Rattle.tl_lines.specs.statement.Lines.{lines_of}
use Rattle.tl_lines.specs.code.Progress.{HasAll}
use Rattle.tl_reasons.specs.code.Testifying.{Concludes, EndsTestimony, HasHeard, HasTold, Hears, HearsHeader, HearsLine}
use Rattle.tl_reasons.specs.code.Testifying.{IsSameInquiry, KnowsInquiry, KnowsRecord, KnowsTestimony, RecordsBeat}
use Rattle.tl_reasons.specs.code.Testifying.{StillKnows, TellsBeat, TellsFault, TellsRecorded, TellsResponse}
use Rattle.tl_lines.specs.code.Tracing.{KnowsSpelled, TracedBy, WatchesBy, WatchesLine}
use Rattle.tl_lines.specs.code.LinkWatching.{KnowsJudge, KnowsLines, KnowsTrace, Watches, judged_for}
use Rattle.tl_lines.specs.code.TraceJudging.{KnowsBeats}
use Rattle.tl_lines.specs.declared.trace_judge.TraceJudge.{TraceJudge}
use Rattle.tl_lines.specs.declared.trace_judge.TraceJudge.TheVariants.{OfAll}
use Rattle.tl_lines.specs.declared.fault.Fault.{Fault}
use Rattle.tl_lines.specs.declared.fault.Fault.TheVariants.{Line, MemoryRule as BreaksTogether}
use Rattle.tl_lines.specs.declared.link_lines.LinkJudge.{LinkJudge}
use Rattle.tl_lines.specs.declared.link_lines.LinkJudge.TheVariants.{Waiting, Four, Eight, Sixteen}
use Rattle.tl_lines.specs.declared.link_lines.LinkLines.{LinkLines}
use Rattle.tl_lines.specs.declared.status.Status.{Status}
use Rattle.tl_lines.specs.declared.status.Status.TheVariants.{Clean, Broken}
use Rattle.tl_reasons.specs.declared.testimony.Inquiry.{Inquiry}
use Rattle.tl_reasons.specs.declared.testimony.Testimony.{Testimony}
use Rattle.tl_lines.specs.statement.Coherent.{fault_of_breach}
use Rattle.tl_lines.specs.statement.JudgedLinks.{JudgedLinks, faults_by}
use Rattle.tl_lines.specs.statement.SpelledTrace.{SpellsTrace}
use Rattle.tl_reasons.specs.statement.Explained.{IsWitnessed, memory_front_text}
use Rattle.tl_lines.specs.statement.Fault.{fault_text}
use Rattle.tl_lines.specs.statement.Judged.{IsAtFault}
use Rattle.tl_lines.specs.statement.LinksHeader.{NamesLinks}
use Rattle.tl_lines.proofs.OneText.{same_beat}
use Rattle.tl_lines.proofs.Tracing.{spells-more}
use Rattle.tl_reasons.proofs.Answering.{broken-memory, spelled-alone, spelled-count}
use Rattle.tl_reasons.proofs.Hearing.{same-both, same-record}

-- ---- what judges them

still-trace : {w : ℕ} (allow : Liberties) (old new : TraceJudge w) → StillKnows old new → (lines : List (List ℕ))
    (text : List ℕ) → KnowsTrace true allow old lines text → KnowsTrace true allow new lines text
still-trace allow old new still lines text k = record {
  levels = k.levels;
  may = k.may;
  trace = k.trace;
  known = still k.levels k.may k.trace k.known;
  counted = k.counted;
  before = k.before;
}

still-lines : (allow : Liberties) (old new : LinkJudge) (i j : Inquiry) (number : ℕ) (line : List ℕ) (told : Bool)
    → Hears old new i j number line told → (lines : List (List ℕ)) (text : List ℕ)
    → KnowsJudge true allow old lines text → KnowsJudge true allow new lines text
still-lines allow (Waiting alloc) new i j number line told heard lines text k =
    subst (λ (m : LinkJudge). KnowsJudge true allow m lines text) (sym heard.0) k
still-lines allow (Four old) (Four new) i j number line told heard lines text k =
    still-trace allow old new heard.0 lines text k
still-lines allow (Eight old) (Eight new) i j number line told heard lines text k =
    still-trace allow old new heard.0 lines text k
still-lines allow (Sixteen old) (Sixteen new) i j number line told heard lines text k =
    still-trace allow old new heard.0 lines text k
still-lines allow v u i j number line told never lines text k = absurd never

-- ---- a line without a fault

-- the header
first-heard : {w : ℕ} (allow : Liberties) (judge : TraceJudge w) (i j k : Inquiry) (line : List ℕ) → i.witness ≡ None
    → HearsHeader i j line → k.witness ≡ j.witness → k.block ≡ j.block → KnowsSpelled true allow judge (line ∷ [])
    → HasHeard allow judge k (line ∷ [])
first-heard {w} allow judge i j k line none heard witness block traced =
    let alone = spelled-alone allow line traced.levels traced.may traced.trace traced.spelled in
    record {
      traced = traced;
      recorded = subst (λ (t : Trace w). KnowsRecord k (length traced.levels) t) (sym alone.0)
          (same-record j k (length traced.levels) [] witness block
          (heard.recorded none w alone.1.0 alone.1.1.0 traced.levels alone.1.1.1));
    }

header-heard : (allow : Liberties) (new : LinkJudge) (i j k : Inquiry) (line : List ℕ) → i.witness ≡ None
    → HearsHeader i j line → k.witness ≡ j.witness → k.block ≡ j.block → TracedBy true allow new (line ∷ [])
    → KnowsInquiry allow new k (line ∷ [])
header-heard allow (Waiting alloc) i j k line none heard witness block traced = absurd cc
header-heard allow (Four judge) i j k line none heard witness block traced =
    first-heard allow judge i j k line none heard witness block traced
header-heard allow (Eight judge) i j k line none heard witness block traced =
    first-heard allow judge i j k line none heard witness block traced
header-heard allow (Sixteen judge) i j k line none heard witness block traced =
    first-heard allow judge i j k line none heard witness block traced

-- and a beat
next-heard : {w : ℕ} (allow : Liberties) (old mid new : TraceJudge w) (i j k : Inquiry) (number : ℕ) (line : List ℕ)
    (told : Bool) (lines : List (List ℕ)) → HasHeard allow old i lines → StillKnows old mid
    → HearsLine i j old number line told → number ≡ length lines + 1 → Watches true mid new line None
    → k.witness ≡ j.witness → k.block ≡ j.block → HasHeard allow new k (lines ++ line ∷ [])
next-heard allow old mid new i j k number line told lines h still heard counted watches witness block =
    let s = h.traced in
    let (link, x, spells, good, knows) = watches s.levels s.may s.trace (still s.levels s.may s.trace s.known) in
    record {
      traced = record {
        levels = s.levels;
        may = s.may;
        trace = (link, x) ∷ s.trace;
        known = knows;
        spelled = spells-more allow lines line s.levels s.may s.trace link x s.spelled spells;
      };
      recorded = same-record j k (length s.levels) ((link, x) ∷ s.trace) witness block
          (heard.recorded (length s.levels) s.trace link x spells
          (omega (arith, counted, spelled-count allow lines s.levels s.may s.trace s.spelled)) h.recorded);
    }

line-heard : (allow : Liberties) (old mid new : LinkJudge) (i j k : Inquiry) (number : ℕ) (line : List ℕ) (told : Bool)
    (lines : List (List ℕ)) → KnowsInquiry allow old i lines → Hears old mid i j number line told
    → number ≡ length lines + 1 → WatchesBy true allow mid new line None → k.witness ≡ j.witness → k.block ≡ j.block
    → KnowsInquiry allow new k (lines ++ line ∷ [])
line-heard allow (Waiting alloc) mid new i j k number line told lines h heard counted watches witness block =
    let begun : TracedBy true allow new (line ∷ []) = rw heard.0 at watches in
    rw h.0 (header-heard allow new i j k line h.1 heard.2 witness block begun)
line-heard allow (Four old) (Four mid) (Four new) i j k number line told lines h heard counted watches witness block =
    next-heard allow old mid new i j k number line told lines h heard.0 heard.1 counted watches witness block
line-heard allow (Eight old) (Eight mid) (Eight new) i j k number line told lines h heard counted watches witness
    block =
    next-heard allow old mid new i j k number line told lines h heard.0 heard.1 counted watches witness block
line-heard allow (Sixteen old) (Sixteen mid) (Sixteen new) i j k number line told lines h heard counted watches witness
    block =
    next-heard allow old mid new i j k number line told lines h heard.0 heard.1 counted watches witness block
line-heard allow (Four old) (Four mid) z i j k number line told lines h heard counted watches witness block =
    absurd watches
line-heard allow (Eight old) (Eight mid) z i j k number line told lines h heard counted watches witness block =
    absurd watches
line-heard allow (Sixteen old) (Sixteen mid) z i j k number line told lines h heard counted watches witness block =
    absurd watches
line-heard allow v u z i j k number line told lines h heard counted watches witness block = absurd heard

-- ---- the line at fault

told-at : {w : ℕ} (allow : Liberties) (old mid new : TraceJudge w) (i j k : Inquiry) (number : ℕ) (line : List ℕ)
    (fault : Fault) (lines more : List (List ℕ)) → HasHeard allow old i lines → StillKnows old mid
    → HearsLine i j old number line true → number ≡ length lines + 1 → Watches true mid new line (Some fault)
    → IsSameInquiry j k → k.reasons ≡ j.reasons → fault ≡ BreaksTogether j.rule
    → HasTold allow k (lines ++ line ∷ more)
told-at {w} allow old mid new i j k number line fault lines more h still heard counted watches same reasons is =
    go (watches s.levels s.may s.trace (still s.levels s.may s.trace s.known)).0
  where
    s : KnowsSpelled true allow old lines
    s = h.traced

    tells : TellsFault i j old number line
    tells = heard.tells refl

    kept : IsSameInquiry i k
    kept = same-both i j k heard.same same

    line_is : line ≡ spelled k.line
    line_is = tells.is_line ∙ ap spelled (sym kept.line_is)

    number_is : number ≡ k.good + 1
    number_is = tells.is_next ∙ ap (λ n. n + 1) (sym kept.good_is)

    told : (link : Link) (x : Beat w) → Spells line link x
        → faults_by true w s.levels s.may (link, x) s.trace ≡ Some (BreaksTogether i.rule)
        → (y : BeatD w) × (x ≡ Beat.D y) × (j.reasons.items ≡ memory_front_text i.rule number link x
        ++ grounds_text as_recorded i.rule (length s.levels) link.0 y s.trace) → HasTold allow k (lines ++ line ∷ more)
    told link x spells at (y, of_d, text) = record {
      before = lines;
      behind = more;
      stands = ap (λ (l : List ℕ). lines ++ l ∷ more) line_is;
      good_is = omega (arith, number_is, counted);
      bytes = w;
      levels = s.levels;
      may = s.may;
      trace = s.trace;
      spells_trace = s.spelled;
      link = link;
      response = y;
      spells = rw line_is at (rw of_d at spells);
      breaks = rw kept.rule_is (broken-memory (broken_on_link_under s.may s.levels (link, Beat.D y) s.trace)
          (broken_memory (length s.levels) link.0 (Beat.D y) s.trace) i.rule (rw of_d at at)).1;
      says = rw (kept.rule_is, ← number_is) (ap (λ v. v.items) reasons ∙ rw of_d at text);
    }

    go : IsAtFault (faults_by true) s.levels s.may s.trace line fault → HasTold allow k (lines ++ line ∷ more)
    go (inl (of_line, never, other)) = absurd (let bad : Line of_line ≡ BreaksTogether j.rule = sym other ∙ is in cc)
    go (inr (link, x, spells, at)) =
        let so : faults_by true w s.levels s.may (link, x) s.trace ≡ Some (BreaksTogether i.rule) =
        at ∙ ap Some is ∙ ap (λ (r : MemoryRule). Some (BreaksTogether r)) heard.same.rule_is in
        let fine = (broken-memory (broken_on_link_under s.may s.levels (link, x) s.trace)
        (broken_memory (length s.levels) link.0 x s.trace) i.rule so).0 in
        told link x spells so (tells.tells s.levels s.may s.trace link x s.known h.recorded spells fine)

line-told : (allow : Liberties) (old mid new : LinkJudge) (i j k : Inquiry) (number : ℕ) (line : List ℕ) (told : Bool)
    (fault : Fault) (lines more : List (List ℕ)) → KnowsInquiry allow old i lines → Hears old mid i j number line told
    → number ≡ length lines + 1 → WatchesBy true allow mid new line (Some fault) → IsSameInquiry j k
    → k.reasons ≡ j.reasons → told ≡ true → fault ≡ BreaksTogether j.rule → HasTold allow k (lines ++ line ∷ more)
line-told allow (Waiting alloc) mid new i j k number line told fault lines more h heard counted watches same reasons
    came is =
    absurd (let never : true ≡ false = sym came ∙ heard.1 in cc)
line-told allow (Four old) (Four mid) (Four new) i j k number line told fault lines more h heard counted watches same
    reasons came is =
    told-at allow old mid new i j k number line fault lines more h heard.0 (rw came at heard.1) counted watches same
    reasons is
line-told allow (Eight old) (Eight mid) (Eight new) i j k number line told fault lines more h heard counted watches
    same reasons came is =
    told-at allow old mid new i j k number line fault lines more h heard.0 (rw came at heard.1) counted watches same
    reasons is
line-told allow (Sixteen old) (Sixteen mid) (Sixteen new) i j k number line told fault lines more h heard counted
    watches same reasons came is =
    told-at allow old mid new i j k number line fault lines more h heard.0 (rw came at heard.1) counted watches same
    reasons is
line-told allow (Four old) (Four mid) z i j k number line told fault lines more h heard counted watches same reasons
    came is = absurd watches
line-told allow (Eight old) (Eight mid) z i j k number line told fault lines more h heard counted watches same reasons
    came is = absurd watches
line-told allow (Sixteen old) (Sixteen mid) z i j k number line told fault lines more h heard counted watches same
    reasons came is = absurd watches
line-told allow v u z i j k number line told fault lines more h heard counted watches same reasons came is =
    absurd heard

-- ---- all links together

-- a handler that judges all links together knows what its judge knows, and tells what they are judged together
knows-together : (h : LinkLines) (lines : List (List ℕ)) (text : List ℕ) → h.together ≡ true
    → KnowsJudge true h.allow h.judge lines text → KnowsLines h lines text
knows-together h lines text is k = subst (λ (b : Bool). KnowsJudge b h.allow h.judge lines text) (sym is) k

known-together : (h : LinkLines) (lines : List (List ℕ)) (text : List ℕ) → h.together ≡ true → KnowsLines h lines text
    → KnowsJudge true h.allow h.judge lines text
known-together h lines text is k = subst (λ (b : Bool). KnowsJudge b h.allow h.judge lines text) is k

told-together : (h : LinkLines) (lines : List (List ℕ)) (text : List ℕ) (status : Status) → h.together ≡ true
    → JudgedLinks h.together h.allow lines text status → JudgedLinks true h.allow lines text status
told-together h lines text status is j = subst (λ (b : Bool). JudgedLinks b h.allow lines text status) is j

-- ---- one line

module _ (old new : Testimony) (mid : LinkJudge) (j : Inquiry) (number : ℕ) (line : List ℕ) (told : Bool)
    (next : number ≡ old.inquiry.count + 1)
    (hears : Hears old.link_lines.judge mid old.inquiry j number line told) where
  -- the handler behind what was heard
  abbrev between : LinkLines
  between = record old.link_lines { judge = mid }

  module _ (same : judged_for new.link_lines ≡ judged_for old.link_lines) where
    -- what is known of the lines is known behind what was heard
    known-between : (lines : List (List ℕ)) (text : List ℕ) → KnowsTestimony old lines text
        → KnowsLines between lines text
    known-between lines text k = knows-together between lines text k.together
        (still-lines old.link_lines.allow old.link_lines.judge mid old.inquiry j number line told hears lines text
        (known-together old.link_lines lines text k.together k.judged))

    pub judged-again : (was : List ℕ) (fault : Option Fault) → Concludes j new.inquiry number told fault
        → Judges KnowsLines (JudgedLinks old.link_lines.together old.link_lines.allow) between new.link_lines line was
        was fault
        → WatchesLine between new.link_lines line fault
        → Judges KnowsTestimony (JudgedLinks true old.link_lines.allow) old new line was was fault
    judged-again was None concludes judges watches = λ lines before k.
        let heard : KnowsInquiry old.link_lines.allow new.link_lines.judge new.inquiry (lines ++ line ∷ []) =
        line-heard old.link_lines.allow old.link_lines.judge mid new.link_lines.judge old.inquiry j new.inquiry number
        line told lines k.heard hears (omega (arith, next, k.counted))
        (subst (λ (b : Bool). WatchesBy b old.link_lines.allow mid new.link_lines.judge line None) k.together watches)
        concludes.witness_is concludes.same.block_is in
        record {
          together = ap (λ (p : Bool × Liberties). p.0) same ∙ k.together;
          judged = judges lines before (known-between lines (before ++ was) k);
          heard = subst (λ (p : Bool × Liberties). KnowsInquiry p.1 new.link_lines.judge new.inquiry
              (lines ++ line ∷ [])) (sym same) heard;
          counted = omega (arith, concludes.count_is, next, k.counted, length-append lines (line ∷ []));
          unreached = elim (cases_Bool new.inquiry.reached) [
            | inl came ↦ absurd (let never = (concludes.reached_is came).1 in cc)
            | inr never ↦ never
          ];
        }
    judged-again was (Some fault) concludes judges watches = λ lines before k more.
        told-together between (lines ++ line ∷ more) (before ++ (was ++ fault_text (length lines + 1) fault)) Broken
        k.together (judges lines before (known-between lines (before ++ was) k) more)

    pub ended-again : (fault : Fault) → Concludes j new.inquiry number told (Some fault)
        → WatchesLine between new.link_lines line (Some fault) → Ends KnowsTestimony EndsTestimony old new line
    ended-again fault concludes watches = λ lines text k more reached.
        let (came, is) = concludes.reached_is reached in
        subst (λ (p : Bool × Liberties). HasTold p.1 new.inquiry (lines ++ line ∷ more)) (sym same)
        (line-told old.link_lines.allow old.link_lines.judge mid new.link_lines.judge old.inquiry j new.inquiry number
        line told fault lines more k.heard hears (omega (arith, next, k.counted))
        (subst (λ (b : Bool). WatchesBy b old.link_lines.allow mid new.link_lines.judge line (Some fault)) k.together
        watches) concludes.same concludes.reasons_are came (same_Some fault (BreaksTogether j.rule) is))

-- an open line, or the end
pub stops-again : (h : Testimony) (line was is : List ℕ) (fault : Fault)
    → Stops KnowsLines (JudgedLinks h.link_lines.together h.link_lines.allow) h.link_lines line was is fault
    → Stops KnowsTestimony (JudgedLinks true h.link_lines.allow) h line was is fault
stops-again h line was is fault stops = λ lines before k more.
    told-together h.link_lines (lines ++ line ∷ more) (before ++ (is ++ fault_text (length lines + 1) fault)) Broken
    k.together (stops lines before k.judged more)

unreached-told : (h : Testimony) (lines all : List (List ℕ)) (text : List ℕ) → KnowsTestimony h lines text
    → EndsTestimony h all
unreached-told h lines all text k = λ reached. absurd (let never : true ≡ false = sym reached ∙ k.unreached in cc)

pub ends-open : (h : Testimony) (line : List ℕ) → Ends KnowsTestimony EndsTestimony h h line
ends-open h line = λ lines text k more. unreached-told h lines (lines ++ line ∷ more) text k

pub ends-here : (h : Testimony) (lines : List (List ℕ)) (text : List ℕ) → KnowsTestimony h lines text
    → EndsTestimony h lines
ends-here h lines text k = unreached-told h lines lines text k

pub finishes-again : (h : Testimony) (count : ℕ) (was is : List ℕ) (fault : Option Fault)
    → Finishes KnowsLines (JudgedLinks h.link_lines.together h.link_lines.allow) h.link_lines count was is fault
    → Finishes KnowsTestimony (JudgedLinks true h.link_lines.allow) h count was is fault
finishes-again h count was is None finishes = λ lines before k counted.
    told-together h.link_lines lines (before ++ is) Clean k.together (finishes lines before k.judged counted)
finishes-again h count was is (Some fault) finishes = λ lines before k counted.
    told-together h.link_lines lines (before ++ (is ++ fault_text (length lines + 1) fault)) Broken k.together
    (finishes lines before k.judged counted)

-- ---- all lines

-- nothing was heard
pub fresh-testimony : (h : Testimony) → h.link_lines.together ≡ true → KnowsLines h.link_lines [] []
    → KnowsInquiry h.link_lines.allow h.link_lines.judge h.inquiry []
    → h.inquiry.count ≡ 0 → h.inquiry.reached ≡ false → KnowsTestimony h [] []
fresh-testimony h together judged heard count unreached = record {
  together = together;
  judged = judged;
  heard = heard;
  counted = count;
  unreached = unreached;
}

pub stood : (h : Testimony) (lines : List (List ℕ)) (status : Status) → HasAll KnowsTestimony EndsTestimony h lines status
    → EndsTestimony h lines
stood h lines Clean (text, k) = unreached-told h lines lines text k
stood h lines Broken ends = ends

-- it was judged so with what was allowed
pub judged-for : (had allow : Liberties) (lines : List (List ℕ)) (text : List ℕ) (status : Status) → had ≡ allow
    → JudgedLinks true had lines text status → JudgedLinks true allow lines text status
judged-for had allow lines text status is judged =
    subst (λ (l : Liberties). JudgedLinks true l lines text status) is judged

pub told-for : (h : Testimony) (allow : Liberties) (lines : List (List ℕ)) → h.link_lines.allow ≡ allow
    → EndsTestimony h lines → h.inquiry.reached ≡ true → HasTold allow h.inquiry lines
told-for h allow lines is ends reached = subst (λ (l : Liberties). HasTold l h.inquiry lines) is (ends reached)

-- what was judged again explains the verdict
pub witnessed : (allow : Liberties) (old new : Option (List ℕ)) (i : Inquiry) (good number : ℕ) (rule : MemoryRule) (verdict : List ℕ)
    (status : Status) (was reasons : List ℕ)
    → (read : List ℕ) × Consumes old new read × JudgedLinks true allow (lines_of read) verdict status
    × (i.reached ≡ true → HasTold allow i (lines_of read))
    → (status ≡ Broken) × (verdict ≡ fault_text number (BreaksTogether rule)) → i.reached ≡ true → i.good ≡ good
    → i.rule ≡ rule → number ≡ good + 1 → was ≡ [] → reasons ≡ was ++ i.reasons.items
    → IsWitnessed allow old new (good + 1) rule reasons
witnessed allow old new i good number rule verdict status was reasons (read, consumed, judged, tells) said reached is_good
    is_rule is_number none text =
    let h = tells reached in
    let so : JudgedLinks true allow (lines_of read) (fault_text number (BreaksTogether rule)) Broken =
    rw (said.0, said.1) at judged in
    record {
      read = read;
      consumed = consumed;
      judged = subst (λ (n : ℕ). JudgedLinks true allow (lines_of read) (fault_text n (BreaksTogether rule)) Broken) is_number
          so;
      before = h.before;
      line = spelled i.line;
      behind = h.behind;
      stands = h.stands;
      number = omega (arith, h.good_is, is_good);
      bytes = h.bytes;
      levels = h.levels;
      may = h.may;
      trace = h.trace;
      spelled = h.spells_trace;
      link = h.link;
      response = h.response;
      spells = h.spells;
      breaks = rw is_rule at h.breaks;
      says = text ∙ ap (λ (front : List ℕ). front ++ i.reasons.items) none ∙ rw (is_rule, is_good) at h.says;
    }
