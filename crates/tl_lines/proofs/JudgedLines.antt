-- What a trace is judged, line by line, whose links have liberties.
use Rattle.std.proofs.Common.{◌≡◌, ℕ, Bool, ◌+◌, ◌-◌, List, [], ◌∷◌, ◌++◌, length, refl, ap, ◌∙◌, arith}
use Rattle.std.proofs.Common.{inl, inr}
use Rattle.std.proofs.lemmas.List.{append-nil}
use Rattle.std.specs.Prelude.{IfOk, IsTrue, Option, Some, None, Result, Ok, Err}
use Rattle.std.specs.declared.alloc.Global.{Global}
use Rattle.tl_beat.specs.declared.beat.Beat.{Beat}
use Rattle.tl_beat.specs.declared.beat.Link.{Link}
use Rattle.tl_beat.specs.declared.fault.LineFault.TheVariants.{F1}
use Rattle.tl_beat.specs.statement.Line.{Spells}
use Rattle.tl_lines.proofs.Decoded.{open_fault}
use Rattle.tl_lines.proofs.Judged.{said_at_end}
use Rattle.tl_lines.proofs.JudgedTraces.{all_judged, bad_line, good_beat, header_unread, header_unseen}
use Rattle.tl_lines.proofs.JudgedTraces.{judged_behind, judged_whole}
use Rattle.tl_lines.specs.code.GivenUp.{IsKnown}
use Rattle.tl_lines.specs.code.Judging.{Finishes, IsTotal, Judges, KnowsFor, Stops}
use Rattle.tl_lines.specs.statement.Lines.{IsOpen}
use Rattle.tl_lines.specs.code.Watching.{end_by}
use Rattle.tl_lines.specs.statement.JudgedSo.{said_by}
use Rattle.tl_lines.specs.declared.status.Status.{Status}
use Rattle.tl_lines.specs.declared.status.Status.TheVariants.{Clean, Broken}
use Rattle.tl_lines.specs.declared.fault.Fault.{Fault}
use Rattle.tl_lines.specs.declared.fault.Fault.TheVariants.{Header, Line}
use Rattle.tl_lines.specs.statement.Decoded.{is_width}
use Rattle.tl_lines.specs.statement.Fault.{fault_text}
use Rattle.tl_lines.specs.statement.Judged.{JudgedAfter}
use Rattle.tl_lines.proofs.LinksHeaders.{allowed_or_none, open_allowed}
use Rattle.tl_lines.specs.code.TraceJudging.{JudgesBeat, KnowsBeats}
use Rattle.tl_lines.specs.code.LinkWatching.{KnowsJudge, KnowsLines, KnowsTrace, Watches, judged_for}
use Rattle.tl_lines.specs.declared.link_lines.LinkJudge.{LinkJudge}
use Rattle.tl_lines.specs.declared.link_lines.LinkJudge.TheVariants.{Waiting, Four, Eight, Sixteen}
use Rattle.tl_lines.specs.declared.link_lines.LinkLines.{LinkLines}
use Rattle.tl_lines.specs.declared.trace_judge.TraceJudge.{TraceJudge}
use Rattle.tl_lines.specs.statement.JudgedLinks.{JudgedLinks, LinksSoFar, faults_by}
use Rattle.tl_lines.specs.statement.LinksHeader.{NamesAllowed}
use Rattle.tl_params.specs.declared.level.Level.{Level}
use Rattle.tl_params.specs.declared.liberties.Liberties.{Liberties}
use Rattle.tl_params.specs.declared.width.Width.{Width}
use Rattle.tl_rules.specs.statement.Conformance.{Trace}

-- ---- the header

module _ (h : LinkLines) (alloc : Global) (is : h.judge ≡ Waiting alloc) where
  pub no_header : (line was : List ℕ)
      → ((width : Width) (may : Liberties) (levels : List Level) → ¬ NamesAllowed h.allow line width may levels)
      → Stops KnowsLines (JudgedLinks h.together h.allow) h line was was Header
  no_header line was none = λ lines before known more.
      let k : KnowsJudge h.together h.allow (Waiting alloc) lines (before ++ was) = rw is at known in
      header_unread (NamesAllowed h.allow) (faults_by h.together) (said_by h.together) line before was lines none k.0 k.1 more

  pub no_lines : (count : ℕ) (was : List ℕ)
      → Finishes KnowsLines (JudgedLinks h.together h.allow) h count was was (Some Header)
  no_lines count was = λ lines before known counted.
      let k : KnowsJudge h.together h.allow (Waiting alloc) lines (before ++ was) = rw is at known in
      header_unseen (NamesAllowed h.allow) (faults_by h.together) (said_by h.together) before was lines k.0 k.1

  pub header_open : (line said : List ℕ) → IsOpen line
      → Stops KnowsLines (JudgedLinks h.together h.allow) h line said said Header
  header_open line said ends = no_header line said (open_allowed h.allow line ends)

-- ---- the line of a beat

-- the line spells a beat, and the judge says of the line what it does of the beat
pub watched_beat : {w : ℕ} {E : Type 0} (old new : TraceJudge w) (line : List ℕ) (link : Link) (beat : Beat w)
    (r : Result (Option Fault) E) → Spells line link beat
    → IfOk r (λ answer. (together : Bool) (levels : List Level) (may : Liberties) (t : Trace w)
    → KnowsBeats together old levels may t → JudgesBeat together new levels may t (link, beat) answer)
    → IfOk r (λ answer. (together : Bool) → Watches together old new line answer)
watched_beat old new line link beat (Ok None) spells judged = λ together levels may t known.
    let (good, knows) = judged together levels may t known in
    (link, beat, spells, good, knows)
watched_beat old new line link beat (Ok (Some fault)) spells judged = λ together levels may t known.
    let (broken, knows) = judged together levels may t known in
    (inr (link, beat, spells, broken), knows)
watched_beat old new line link beat (Err e) spells judged = tt

-- what a judge says of a line is what the handler says
module _ {w : ℕ} (together : Bool) (allow : Liberties) (wrap : TraceJudge w → LinkJudge)
    (into : (m : TraceJudge w) (lines : List (List ℕ)) (text : List ℕ) → KnowsJudge together allow (wrap m) lines text
    → KnowsTrace together allow m lines text)
    (out : (m : TraceJudge w) (lines : List (List ℕ)) (text : List ℕ) → KnowsTrace together allow m lines text
    → KnowsJudge together allow (wrap m) lines text) where
  -- the handler of these judges
  abbrev handler : TraceJudge w → LinkLines
  handler m = record { together = together; allow = allow; judge = wrap m }

  judges : (old new : TraceJudge w) (line was : List ℕ) (answer : Option Fault) → Watches together old new line answer
      → Judges KnowsLines (JudgedLinks together allow) (handler old) (handler new) line was was answer
  judges old new line was None watches = λ lines before known.
      let k = into old lines (before ++ was) known in
      let (link, beat, spells, good, knows) = watches k.levels k.may k.trace k.known in
      out new (lines ++ line ∷ []) (before ++ was)
      (good_beat (NamesAllowed allow) (faults_by together) (said_by together) (KnowsBeats together old) lines (KnowsBeats together new) (before ++ was) line
      k link beat spells good knows)
  judges old new line was (Some fault) watches = λ lines before known.
      let k = into old lines (before ++ was) known in
      bad_line (NamesAllowed allow) (faults_by together) (said_by together) (KnowsBeats together old) lines before was line fault k
      (watches k.levels k.may k.trace k.known).0

  pub watched : {E : Type 0} (old new : TraceJudge w) (line was : List ℕ) (r : Result (Option Fault) E)
      → IfOk r (λ answer. (together : Bool) → Watches together old new line answer)
      → IfOk r (Judges KnowsLines (JudgedLinks together allow) (handler old) (handler new) line was was)
  watched old new line was (Ok answer) watches = judges old new line was answer (watches together)
  watched old new line was (Err e) watches = tt

-- ---- where a header has been read

-- the next line has no LF, or is too long
pub open_so : {w : ℕ} (together : Bool) (allow : Liberties) (m : TraceJudge w) (lines : List (List ℕ)) (before said line : List ℕ)
    (k : KnowsTrace together allow m lines (before ++ said)) → IsOpen line → (more : List (List ℕ))
    → JudgedLinks together allow (lines ++ line ∷ more) (before ++ (said ++ fault_text (length lines + 1) (Line F1))) Broken
open_so {w} together allow m lines before said line k is =
    bad_line (NamesAllowed allow) (faults_by together) (said_by together) (KnowsBeats together m) lines before said line (Line F1) k
    (inl (F1, open_fault w line is, refl))

open_after : (together : Bool) (allow : Liberties) (judge : LinkJudge) → ((alloc : Global) → judge ≡ Waiting alloc → ⊥)
    → (lines : List (List ℕ)) (before said line : List ℕ) → KnowsJudge together allow judge lines (before ++ said)
    → IsOpen line → (more : List (List ℕ))
    → JudgedLinks together allow (lines ++ line ∷ more) (before ++ (said ++ fault_text (length lines + 1) (Line F1))) Broken
open_after together allow (Waiting alloc) read lines before said line k is = absurd (read alloc refl)
open_after together allow (Four m) read lines before said line k is = open_so together allow m lines before said line k is
open_after together allow (Eight m) read lines before said line k is = open_so together allow m lines before said line k is
open_after together allow (Sixteen m) read lines before said line k is = open_so together allow m lines before said line k is

pub open_beat : (h : LinkLines) → ((alloc : Global) → h.judge ≡ Waiting alloc → ⊥)
    → (line said : List ℕ) → IsOpen line → Stops KnowsLines (JudgedLinks h.together h.allow) h line said said (Line F1)
open_beat h read line said is = λ lines before k. open_after h.together h.allow h.judge read lines before said line k is

-- the lines end
pub end_so : {w : ℕ} (together : Bool) (allow : Liberties) (m : TraceJudge w) (count : ℕ) (lines : List (List ℕ)) (before was is : List ℕ)
    → is ≡ was ++ end_by together (count - 1) → KnowsTrace together allow m lines (before ++ was) → count ≡ length lines
    → JudgedLinks together allow lines (before ++ is) Clean
end_so together allow m count lines before was is says k counted =
    all_judged (NamesAllowed allow) (faults_by together) (said_by together) (KnowsBeats together m) lines count before was is
    (says ∙ ap (λ (x : List ℕ). was ++ x) (said_at_end together (count - 1))) k counted

end_after : (together : Bool) (allow : Liberties) (judge : LinkJudge) → ((alloc : Global) → judge ≡ Waiting alloc → ⊥)
    → (count : ℕ) (lines : List (List ℕ)) (before was is : List ℕ) → is ≡ was ++ end_by together (count - 1)
    → KnowsJudge together allow judge lines (before ++ was) → count ≡ length lines → JudgedLinks together allow lines (before ++ is) Clean
end_after together allow (Waiting alloc) read count lines before was is says k counted = absurd (read alloc refl)
end_after together allow (Four m) read count lines before was is says k counted =
    end_so together allow m count lines before was is says k counted
end_after together allow (Eight m) read count lines before was is says k counted =
    end_so together allow m count lines before was is says k counted
end_after together allow (Sixteen m) read count lines before was is says k counted =
    end_so together allow m count lines before was is says k counted

pub all_clean : (h : LinkLines) → ((alloc : Global) → h.judge ≡ Waiting alloc → ⊥)
    → (count : ℕ) (was is : List ℕ) → is ≡ was ++ end_by h.together (count - 1)
    → Finishes KnowsLines (JudgedLinks h.together h.allow) h count was is None
all_clean h read count was is says = λ lines before k counted.
    end_after h.together h.allow h.judge read count lines before was is says k counted

-- ---- each trace has a text

more_so : (together : Bool) (allow : Liberties) (w : ℕ) → IsTrue (is_width w) → (m : TraceJudge w) (lines : List (List ℕ)) (text : List ℕ)
    → KnowsTrace together allow m lines text → (more : List (List ℕ)) → (rest : List ℕ) × (status : Status)
    × JudgedLinks together allow (lines ++ more) (text ++ rest) status
more_so together allow w width m lines text k more =
    judged_behind (NamesAllowed allow) (faults_by together) (said_by together) (KnowsBeats together m) width lines text k more

total_so : (together : Bool) (allow : Liberties) (judge : LinkJudge) (lines : List (List ℕ)) (text : List ℕ)
    → KnowsJudge together allow judge lines text → (more : List (List ℕ)) → (rest : List ℕ) × (status : Status)
    × JudgedLinks together allow (lines ++ more) (text ++ rest) status
total_so together allow (Waiting alloc) lines text known more =
    rw (known.0, known.1) (judged_whole (NamesAllowed allow) (faults_by together) (said_by together) (allowed_or_none allow) more)
total_so together allow (Four m) lines text k more = more_so together allow 4 refl m lines text k more
total_so together allow (Eight m) lines text k more = more_so together allow 8 refl m lines text k more
total_so together allow (Sixteen m) lines text k more = more_so together allow 16 refl m lines text k more

pub links_total : IsTotal judged_for KnowsLines (λ p. JudgedLinks p.0 p.1)
links_total h lines text k more = total_so h.together h.allow h.judge lines text k more

-- ---- before the end of the input

trace_so_far : {w : ℕ} (together : Bool) (allow : Liberties) (m : TraceJudge w) (lines : List (List ℕ)) (text : List ℕ)
    → KnowsTrace together allow m lines text → LinksSoFar together allow lines text
unfolding JudgedAfter
trace_so_far together allow m lines text k =
    let beats : length lines - 1 ≡ length k.trace = omega (arith, k.counted) in
    inr (rw beats (rw (append-nil lines) at (k.before [] (said_by together (length k.trace)) Clean (refl, refl))))

so_far : (together : Bool) (allow : Liberties) (judge : LinkJudge) (lines : List (List ℕ)) (text : List ℕ)
    → KnowsJudge together allow judge lines text → LinksSoFar together allow lines text
so_far together allow (Waiting alloc) lines text known = inl known
so_far together allow (Four m) lines text k = trace_so_far together allow m lines text k
so_far together allow (Eight m) lines text k = trace_so_far together allow m lines text k
so_far together allow (Sixteen m) lines text k = trace_so_far together allow m lines text k

-- a handler that is made for this judges so
pub made_for : (h : LinkLines) (together : Bool) (allow : Liberties) → judged_for h ≡ (together, allow)
    → (h.together ≡ together) × (h.allow ≡ allow)
made_for h together allow is = (ap (λ (p : Bool × Liberties). p.0) is, ap (λ (p : Bool × Liberties). p.1) is)

pub links_so_far : (together : Bool) (allow : Liberties) (lines : List (List ℕ)) (text : List ℕ)
    → IsKnown (KnowsFor judged_for (together, allow) KnowsLines) lines text → LinksSoFar together allow lines text
links_so_far together allow lines text (h, known) =
    let same = made_for h together allow known.1 in
    rw (same.0, same.1) at (so_far h.together h.allow h.judge lines text known.0)
