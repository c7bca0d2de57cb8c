-- The block of the request that the beat of the line at fault answers.
use Rattle.std.proofs.Common.{◌≡◌, ◌<◌, ℕ, ◌+◌, Bool, true, false, List, [], ◌∷◌, ◌++◌, length, refl, sym, ap, ◌∙◌}
use Rattle.std.proofs.Common.{arith, inl, inr, subst}
use Rattle.std.specs.Prelude.{Option, Some, None, option_map, slice_get}
use Rattle.std.proofs.lemmas.Bool.{cases_lt, lt-ltb}
use Rattle.std.proofs.lemmas.Option.{same_Some, slice_get_past}
use Rattle.tl_beat.specs.declared.beat.Beat.{Beat}
use Rattle.tl_beat.specs.declared.beat.Link.{Link}
use Rattle.tl_beat.specs.declared.fault.LineFault.{LineFault}
use Rattle.tl_beat.specs.statement.Line.{Spells, line_fault}
use Rattle.tl_beat.specs.statement.Width.{IsWidth}
use Rattle.tl_memory.specs.code.Elsewhere.{block_asked}
use Rattle.tl_memory.specs.code.Taking.{request_answered}
use Rattle.tl_params.specs.declared.level.Level.{Level}
use Rattle.tl_params.specs.declared.liberties.Liberties.{Liberties}
use Rattle.tl_params.specs.declared.rule.Rule.{Rule}
use Rattle.tl_params.specs.declared.rule.Rule.TheVariants.{H6, L1}
use Rattle.tl_params.specs.declared.width.Width.{Width}
use Rattle.tl_rules.specs.code.Open.{open_request}
use Rattle.tl_rules.specs.declared.past.Request.{Request}
use Rattle.tl_rules.specs.statement.Liberties.{broken_at_level_under, broken_on_link_under}
use Rattle.tl_rules.specs.statement.Conformance.{Trace, on_link}
use Rattle.tl_monitor.specs.statement.Knows.{request_on}
use Rattle.tl_memory.proofs.messages.LinkTables.{link-there}
use Rattle.tl_together.specs.declared.breach.Breach.TheVariants.{OfMemory}
use Rattle.tl_params.specs.declared.memory_rule.MemoryRule.{MemoryRule}
use Rattle.tl_together.specs.statement.Coherence.{broken_memory, first_broken}
use Rattle.tl_lines.specs.code.Tracing.{KnowsSpelled, TracedBy}
use Rattle.tl_reasons.specs.code.Answering.{AnswersBy, AnswersIn, FindsBlock, IsBlockAnswered}
use Rattle.tl_lines.specs.code.Tracing.{WatchesBy}
use Rattle.tl_reasons.specs.code.Answering.{needs_block}
use Rattle.tl_lines.specs.code.LinkWatching.{Watches}
use Rattle.tl_lines.specs.code.TraceJudging.{KnowsBeats}
use Rattle.tl_reasons.specs.declared.examiner.Found.{Found}
use Rattle.tl_lines.specs.declared.fault.Fault.{Fault}
use Rattle.tl_lines.specs.declared.fault.Fault.TheVariants.{Header, Line, Rule as Breaks, MemoryRule as BreaksTogether}
use Rattle.tl_lines.specs.declared.link_lines.LinkJudge.{LinkJudge}
use Rattle.tl_lines.specs.declared.link_lines.LinkJudge.TheVariants.{Waiting, Four, Eight, Sixteen}
use Rattle.tl_lines.specs.declared.trace_judge.TraceJudge.{TraceJudge}
use Rattle.tl_lines.specs.statement.Coherent.{fault_of_breach}
use Rattle.tl_lines.specs.statement.SpelledTrace.{SpellsTrace}
use Rattle.tl_lines.specs.statement.Judged.{IsAtFault}
use Rattle.tl_lines.specs.statement.JudgedLinks.{faults_by}
use Rattle.tl_lines.specs.statement.LinksHeader.{NamesAllowed}
use Rattle.tl_lines.proofs.OneText.{same_beat, spells_or_fails}
use Rattle.tl_reasons.proofs.Replaying.{count_lines}

pub spelled-count : {w : ℕ} (allow : Liberties) (lines : List (List ℕ)) (levels : List Level) (may : Liberties)
    (t : Trace w) → SpellsTrace allow lines levels may t → length lines ≡ length t + 1
spelled-count allow lines levels may t s = omega (arith, ap length s.lines_are, count_lines t s.beats s.beats_are)

-- one line spells a header, and no beat
pub spelled-alone : {w : ℕ} (allow : Liberties) (line : List ℕ) (levels : List Level) (may : Liberties) (t : Trace w)
    → SpellsTrace allow (line ∷ []) levels may t
    → (t ≡ []) × ((wide : Width) × NamesAllowed allow line wide may levels)
spelled-alone allow line levels may t s = (
  empty t (omega (arith, spelled-count allow (line ∷ []) levels may t s)),
  (
    s.width,
    subst (λ (l : List ℕ). NamesAllowed allow l s.width may levels)
        (sym (first line s.header [] s.beats s.lines_are)) s.names,
  ),
)
  where
    empty : {X : Type 0} (xs : List X) → length xs ≡ 0 → xs ≡ []
    empty [] e = refl
    empty (x ∷ xs) e = absurd (omega (arith, e))

    first : {X : Type 0} (x y : X) (xs ys : List X) → x ∷ xs ≡ y ∷ ys → x ≡ y
    first x y xs ys e = cc

-- ---- what a line is at fault for

-- a rule of memory alone, where it breaks none of its link
pub broken-memory : (of_link : Option Rule) (memory : Option MemoryRule) (rule : MemoryRule)
    → option_map fault_of_breach (first_broken of_link memory) ≡ Some (BreaksTogether rule)
    → (of_link ≡ None) × (first_broken of_link memory ≡ Some (OfMemory rule))
broken-memory None (Some broken) rule e =
    let same : broken ≡ rule = cc in (refl, ap (λ (r : MemoryRule). Some (OfMemory r)) same)
broken-memory None None rule e = absurd cc
broken-memory (Some broken) memory rule e = absurd cc

-- a beat that is at fault for another rule than L1 is on a link that has a level
has-level : {w : ℕ} (levels : List Level) (may : Liberties) (link : Link) (x : Beat w) (t : Trace w)
    → broken_on_link_under may levels (link, x) t ≡ Some H6 → link.0 < length levels
has-level levels may link x t broken = elim (cases_lt link.0 (length levels)) [
  | inl lt ↦ lt
  | inr past ↦
      let none : slice_get levels link.0 ≡ None = slice_get_past levels link.0 past in
      let never : Some L1 ≡ Some H6 =
      ap (λ o. broken_at_level_under may o x (on_link link.0 t)) (sym none) ∙ broken in absurd cc
]

h6-of_link : (o : Option Rule) → option_map Breaks o ≡ Some (Breaks H6) → o ≡ Some H6
h6-of_link None e = absurd cc
h6-of_link (Some rule) e = cc

h6-together : (o : Option Rule) (memory : Option MemoryRule)
    → option_map fault_of_breach (first_broken o memory) ≡ Some (Breaks H6) → o ≡ Some H6
h6-together None None e = absurd cc
h6-together None (Some rule) e = absurd cc
h6-together (Some rule) memory e = cc

no-memory : (o : Option Rule) (rule : MemoryRule) → option_map Breaks o ≡ Some (BreaksTogether rule) → ⊥
no-memory None rule e = absurd cc
no-memory (Some broken) rule e = absurd cc

pub within-levels : {w : ℕ} (together : Bool) (levels : List Level) (may : Liberties) (link : Link) (x : Beat w)
    (t : Trace w) (fault : Fault) → faults_by together w levels may (link, x) t ≡ Some fault
    → needs_block fault ≡ true → link.0 < length levels
within-levels false levels may link x t (Breaks H6) is needs =
    has-level levels may link x t (h6-of_link (broken_on_link_under may levels (link, x) t) is)
within-levels true levels may link x t (Breaks H6) is needs =
    has-level levels may link x t (h6-together (broken_on_link_under may levels (link, x) t)
    (broken_memory (length levels) link.0 x t) is)
within-levels false levels may link x t (BreaksTogether rule) is needs =
    absurd (no-memory (broken_on_link_under may levels (link, x) t) rule is)
within-levels true levels may link x t (BreaksTogether rule) is needs =
    link-there may levels (link, x) t (broken-memory (broken_on_link_under may levels (link, x) t)
    (broken_memory (length levels) link.0 x t) rule is).0
within-levels together levels may link x t fault is needs = absurd cc

-- ---- the block of the request that a beat answers

-- where the judge says so of the beat that the line spells
pub answers-here : {w : ℕ} (judge : TraceJudge w) (line : List ℕ) (k : Link) (b : Beat w) (asked : Option Request)
    (block : Option ℕ) → IsWidth w → Spells line k b → block ≡ block_asked asked
    → ((together : Bool) (levels : List Level) (may : Liberties) (t : Trace w) → KnowsBeats together judge levels may t
    → k.0 < length levels → asked ≡ request_answered b (on_link k.0 t))
    → (together : Bool) → AnswersIn together judge line block
answers-here {w} judge line k b asked block width here is says together levels may t link x known spells lt =
    let same = same_beat line k link b x width here spells in
    is ∙ subst (λ (z : Link × Beat w). z.0.0 < length levels
    → block_asked asked ≡ block_asked (request_answered z.1 (on_link z.0.0 t))) same
    (λ below. ap block_asked (says together levels may t known below)) lt

-- a line that spells no beat
pub answers-failed : {w : ℕ} (judge : TraceJudge w) (line : List ℕ) (fault : LineFault) → IsWidth w
    → line_fault w line ≡ Some fault → (together : Bool) → AnswersIn together judge line None
answers-failed judge line fault width fails together levels may t link x known spells lt =
    absurd (spells_or_fails line link x fault width spells fails)

-- what a judge of some kind says of a response's request
pub request-same : {w : ℕ} (judge : TraceJudge w) (link : Link) (source : ℕ) (o : Option Request)
    → ((together : Bool) (levels : List Level) (may : Liberties) (t : Trace w) → KnowsBeats together judge levels may t
    → o ≡ request_on levels link source t)
    → (together : Bool) (levels : List Level) (may : Liberties) (t : Trace w) → KnowsBeats together judge levels may t
    → link.0 < length levels → o ≡ open_request source (on_link link.0 t)
request-same judge link source o says together levels may t known lt =
    says together levels may t known ∙ rw (lt-ltb link.0 (length levels) lt) refl

-- what was noted of the line at fault
found-in : {w : ℕ} (together : Bool) (allow : Liberties) (old new : TraceJudge w) (lines more : List (List ℕ))
    (line : List ℕ) (block : Option ℕ) (fault : Fault) → KnowsSpelled together allow old lines
    → Watches together old new line (Some fault) → AnswersIn together new line block → needs_block fault ≡ true
    → IsBlockAnswered allow block (lines ++ line ∷ more)
found-in {w} together allow old new lines more line block fault k watches answers needs =
    go (watches k.levels k.may k.trace k.known).0
  where
    go : IsAtFault (faults_by together) k.levels k.may k.trace line fault
        → IsBlockAnswered allow block (lines ++ line ∷ more)
    go (inl (of_line, is, same)) = absurd (let never : needs_block (Line of_line) ≡ true = rw same at needs in cc)
    go (inr (link, x, spells, is)) = record {
      before = lines;
      line = line;
      behind = more;
      stands = refl;
      bytes = w;
      levels = k.levels;
      may = k.may;
      trace = k.trace;
      spelled = k.spelled;
      link = link;
      beat = x;
      spells = spells;
      block_is = answers k.levels k.may k.trace link x (watches k.levels k.may k.trace k.known).1 spells
          (within-levels together k.levels k.may link x k.trace fault is needs);
    }

pub found-block : (together : Bool) (allow : Liberties) (old new : LinkJudge) (lines more : List (List ℕ))
    (line : List ℕ) (block : Option ℕ) (fault : Fault) → TracedBy together allow old lines
    → WatchesBy together allow old new line (Some fault) → AnswersBy together new line block
    → needs_block fault ≡ true → IsBlockAnswered allow block (lines ++ line ∷ more)
found-block together allow (Waiting alloc) new lines more line block fault k header answers needs =
    absurd (let never : needs_block Header ≡ true = rw header at needs in cc)
found-block together allow (Four old) (Four new) lines more line block fault k watches answers needs =
    found-in together allow old new lines more line block fault k watches answers needs
found-block together allow (Eight old) (Eight new) lines more line block fault k watches answers needs =
    found-in together allow old new lines more line block fault k watches answers needs
found-block together allow (Sixteen old) (Sixteen new) lines more line block fault k watches answers needs =
    found-in together allow old new lines more line block fault k watches answers needs
found-block together allow v u lines more line block fault k never answers needs = absurd never

pub finds-block : (allow : Liberties) (found : Found) (block : Option ℕ) (fault : Fault) (lines : List (List ℕ))
    → option_map (λ noted. noted.0) found.fault ≡ Some fault → (needs_block fault ≡ true → found.block ≡ block)
    → (needs_block fault ≡ true → IsBlockAnswered allow block lines) → FindsBlock allow found lines
finds-block allow found block fault lines noted kept is other line there needs =
    let same : other ≡ fault = same_Some other fault (ap (option_map (λ noted. noted.0)) (sym there) ∙ noted) in
    let needed : needs_block fault ≡ true = rw same at needs in
    subst (λ (b : Option ℕ). IsBlockAnswered allow b lines) (sym (kept needed)) (is needed)
