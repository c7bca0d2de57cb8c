-- What is gathered of a trace, line by line.
use Rattle.std.proofs.Common.{◌≡◌, ◌<◌, ℕ, ◌+◌, ◌-◌, Bool, false, List, [], ◌∷◌, ◌++◌, length, refl, ap}
use Rattle.std.proofs.Common.{◌∙◌, sym, arith, append_assoc, length-append, inl, inr, subst, take}
use Rattle.std.specs.Fmt.{decimal}
use Rattle.std.specs.Io.KnownBytes.{Consumes}
use Rattle.std.specs.Prelude.{codes, IfOk, Option, Some, None, Result, Ok, Err, option_map}
use Rattle.std.specs.declared.alloc.Global.{Global}
use Rattle.std.proofs.Math.Seq.{take-append_seam}
use Rattle.std.proofs.lemmas.List.{append-nil}
use Rattle.tl_beat.specs.declared.beat.Beat.{Beat}
use Rattle.tl_beat.specs.declared.beat.Link.{Link}
use Rattle.tl_beat.specs.declared.fault.LineFault.{LineFault}
use Rattle.tl_beat.specs.declared.fault.LineFault.TheVariants.{F1}
use Rattle.tl_beat.specs.statement.Line.{Spells, line_fault}
use Rattle.tl_params.specs.declared.level.Level.{Level}
use Rattle.tl_params.specs.declared.liberties.Liberties.{Liberties}
use Rattle.tl_params.specs.declared.perm.Perm.{Perm}
use Rattle.tl_params.specs.declared.rule.Rule.{Rule}
use Rattle.tl_params.specs.declared.width.Width.{Width}
use Rattle.tl_rules.specs.statement.Conformance.{Trace, on_link}
use Rattle.tl_rules.specs.statement.History.{begins}
use Rattle.tl_rules.specs.statement.Liberties.{broken_on_link_under, held_under}
use Rattle.tl_chart.specs.code.Gathered.{Gathers, drawn_of, watched}
use Rattle.tl_chart.specs.declared.arrow.Arrow.{Arrow}
use Rattle.tl_chart.specs.declared.gatherer.Gatherer.{Gatherer}
use Rattle.tl_chart.specs.declared.window.Window.{Window}
use Rattle.tl_chart.specs.statement.Chart.{IsChart}
use Rattle.tl_chart.specs.statement.Drawn.{Holding, drawn, fault_drawn, holds}
use Rattle.tl_explain.specs.statement.Evidence.{next_line}
use Rattle.tl_monitor.proofs.Knowing.{broken_by, unbroken}
use Rattle.tl_monitor.specs.declared.fault.MonitorFault.TheVariants as monitor
use Rattle.tl_monitor.specs.declared.monitor.Monitor.{Monitor}
use Rattle.tl_memory.proofs.messages.LinkTables.{link-there}
use Rattle.tl_monitor.specs.statement.Knows.{KnowsUnder, begins_on, fault_under}
use Rattle.tl_engine.specs.code.Charting.{EndsChart, EndsCharting, EndsJudge, IsBegun, KnowsChart, KnowsCharting}
use Rattle.tl_engine.specs.code.Charting.{GathersLine, KnowsJudge, fault_of_chart, gatherer_in}
use Rattle.tl_lines.specs.code.Judging.{Ends, Finishes, Judges, Stops}
use Rattle.tl_lines.specs.statement.Lines.{IsOpen, lines_of}
use Rattle.tl_lines.specs.code.Progress.{HasAll}
use Rattle.tl_lines.specs.statement.Run.{EndsAs}
use Rattle.tl_lines.specs.code.LinkWatching.{KnowsTrace}
use Rattle.tl_lines.specs.code.TraceJudging.{KnowsBeats}
use Rattle.tl_lines.specs.code.Watching.{end_by}
use Rattle.tl_lines.specs.declared.trace_judge.TraceJudge.TheVariants.{OfLinks}
use Rattle.tl_engine.specs.declared.charting.ChartJudge.{ChartJudge}
use Rattle.tl_engine.specs.declared.charting.ChartJudge.TheVariants.{Waiting, Four, Eight, Sixteen}
use Rattle.tl_engine.specs.declared.charting.ChartLines.{ChartLines}
use Rattle.tl_engine.specs.declared.charting.Charting.{Charting}
use Rattle.tl_lines.specs.declared.fault.Fault.{Fault}
use Rattle.tl_lines.specs.declared.fault.Fault.TheVariants.{Header, Line, Rule as Breaks}
use Rattle.tl_lines.specs.declared.status.Status.{Status}
use Rattle.tl_lines.specs.declared.status.Status.TheVariants.{Clean, Broken}
use Rattle.tl_engine.specs.statement.Charted.{Charts, Draws, DrawsAfter, IsCharted, is_broken}
use Rattle.tl_lines.specs.statement.Fault.{fault_name, fault_text}
use Rattle.tl_lines.specs.statement.Judged.{JudgedAfter, JudgedBy, clean_text}
use Rattle.tl_lines.specs.statement.JudgedLinks.{JudgedLinks, faults_by, faults_under}
use Rattle.tl_lines.specs.statement.LinksHeader.{NamesAllowed}
use Rattle.tl_lines.specs.statement.Width.{bytes_of}
use Rattle.tl_lines.proofs.Decoded.{open_fault}
use Rattle.tl_lines.proofs.JudgedLines.{end_so, open_so}
use Rattle.tl_lines.proofs.JudgedTraces.{bad_line, header_unread, header_unseen}
use Rattle.tl_monitor.proofs.Within.{begins_within}

-- ---- a line that is read

-- what is judged, as it is known of a monitor of links
abbrev judged_in : {w : ℕ} {allow : Liberties} {c : Charting w} {lines : List (List ℕ)} {text : List ℕ}
    → KnowsCharting allow c lines text → KnowsTrace false allow (OfLinks c.monitor) lines text
judged_in k = record {
  levels = k.levels;
  may = k.may;
  trace = k.trace;
  known = k.known;
  counted = k.counted;
  before = k.before;
}

module _ {w : ℕ} (allow : Liberties) (old : Charting w) (mid : Monitor w) (link : Link) (x : Beat w) where
  -- what is so wherever a monitor has these beats
  abbrev Beside : Monitor w → (List Level → Liberties → Trace w → Type 0) → Type 0
  Beside m So = (levels : List Level) (may : Liberties) (t : Trace w) → KnowsUnder m levels may t false → So levels may t

  -- the monitor takes the beat, and it is gathered
  pub reads_good : (new : Charting w) (line : List ℕ) (number : ℕ) (first : Bool) (before : Perm)
      → Spells line link x → number ≡ old.count + 1
      → Beside old.monitor (λ levels may t. fault_under levels may t false (link, x) ≡ None)
      → Beside old.monitor (λ levels may t. KnowsUnder mid levels may ((link, x) ∷ t) false)
      → Beside old.monitor (λ levels may t. first ≡ begins_on levels link x t)
      → Beside old.monitor (λ levels may t. link.0 < length levels
      → before ≡ holds (held_under may) (watched old.gatherer) link t)
      → ((levels : List Level) (may : Liberties) (t : Trace w) → KnowsUnder mid levels may ((link, x) ∷ t) false
      → link.0 < length levels → length old.gatherer.links.items ≡ length levels → number ≡ next_line t
      → first ≡ begins x (on_link link.0 t) → before ≡ holds (held_under may) (watched old.gatherer) link t
      → Gathers (held_under may) old.gatherer t → Gathers (held_under may) new.gatherer ((link, x) ∷ t))
      → new.monitor ≡ mid → new.gatherer.window ≡ old.gatherer.window
      → length new.gatherer.links.items ≡ length old.gatherer.links.items
      → new.count ≡ number → new.fault ≡ old.fault → GathersLine allow old new line None
  unfolding JudgedAfter DrawsAfter
  reads_good new line number first before spells next fine knows begun holding gathered same window many count
      unfaulted = λ lines text k.
      let good : broken_on_link_under k.may k.levels (link, x) k.trace ≡ None =
      unbroken (broken_on_link_under k.may k.levels (link, x) k.trace) (fine k.levels k.may k.trace k.known) in
      let within : link.0 < length k.levels = link-there k.may k.levels (link, x) k.trace good in
      let known = knows k.levels k.may k.trace k.known in
      let line_is : number ≡ next_line k.trace = next ∙ k.number in
      let unbroken_on : faults_under w k.levels k.may (link, x) k.trace ≡ None = ap (option_map Breaks) good in
      record {
        levels = k.levels;
        may = k.may;
        trace = (link, x) ∷ k.trace;
        known = rw same known;
        gathers = gathered k.levels k.may k.trace known within k.many line_is
            (begun k.levels k.may k.trace k.known ∙ begins_within k.levels link within x k.trace)
            (holding k.levels k.may k.trace k.known within) k.gathers;
        many = many ∙ k.many;
        unfaulted = unfaulted ∙ k.unfaulted;
        number = omega (arith, count, line_is);
        counted = omega (arith, k.counted, length-append lines (line ∷ []));
        before = λ more rest status judged. rw (append_assoc lines (line ∷ []) more)
            (k.before (line ∷ more) rest status (inl (link, x, spells, unbroken_on, judged)));
        draws = λ more d arrow drawn_so. rw (append_assoc lines (line ∷ []) more)
            (subst (λ (win : Window). Draws allow win (lines ++ line ∷ more) d arrow) (sym window)
            (k.draws (line ∷ more) d arrow (inl (
              link,
              x,
              spells,
              unbroken_on,
              subst (λ (win : Window). DrawsAfter win k.levels k.may ((link, x) ∷ k.trace) more d arrow) window
                  drawn_so,
            ))));
      }

  -- the monitor finds it at fault, and it is drawn
  pub reads_bad : (new : Charting w) (line : List ℕ) (number : ℕ) (rule : Rule) (fault : Fault) → Spells line link x
      → number ≡ old.count + 1
      → Beside old.monitor (λ levels may t. fault_under levels may t false (link, x) ≡ Some (monitor.Broken rule))
      → ((held : Holding w) (t : Trace w) → number ≡ next_line t → Gathers held old.gatherer t
      → new.fault ≡ fault_drawn held old.gatherer.window (link, x) t)
      → new.gatherer ≡ old.gatherer → fault ≡ Breaks rule → GathersLine allow old new line (Some fault)
  unfolding DrawsAfter
  reads_bad new line number rule fault spells next broken drawn_so gatherer fault_is = λ lines before was k more.
      let bad : broken_on_link_under k.may k.levels (link, x) k.trace ≡ Some rule =
      broken_by (broken_on_link_under k.may k.levels (link, x) k.trace) rule (broken k.levels k.may k.trace k.known)
      in
      let on_links : faults_under w k.levels k.may (link, x) k.trace ≡ Some (Breaks rule) =
      ap (option_map Breaks) bad in
      let drawn_here : Draws allow old.gatherer.window (lines ++ line ∷ more) (drawn_of old.gatherer) new.fault =
      k.draws (line ∷ more) (drawn_of old.gatherer) new.fault (inr (
        k.gathers.drawn_is,
        inr (link, x, Breaks rule, spells, on_links, drawn_so (held_under k.may) k.trace (next ∙ k.number) k.gathers),
      )) in (
        subst (λ (f : Fault). JudgedLinks false allow (lines ++ line ∷ more)
            (before ++ (was ++ fault_text (length lines + 1) f)) Broken) (sym fault_is)
            (bad_line (NamesAllowed allow) (faults_by false) clean_text (KnowsBeats false (OfLinks old.monitor)) lines
            before was line (Breaks rule) (judged_in k) (inr (link, x, spells, on_links)) more),
        subst (λ (g : Gatherer). Draws allow g.window (lines ++ line ∷ more) (drawn_of g) new.fault) (sym gatherer)
            drawn_here,
      )

-- the line spells no beat
pub reads_none : {w : ℕ} (allow : Liberties) (c : Charting w) (line : List ℕ) (fault : LineFault)
    → line_fault w line ≡ Some fault → GathersLine allow c c line (Some (Line fault))
unfolding DrawsAfter
reads_none allow c line fault is = λ lines before was k more. (
  bad_line (NamesAllowed allow) (faults_by false) clean_text (KnowsBeats false (OfLinks c.monitor)) lines before was
      line (Line fault) (judged_in k) (inl (fault, is, refl)) more,
  k.draws (line ∷ more) (drawn_of c.gatherer) c.fault (inr (k.gathers.drawn_is, inl (fault, is, k.unfaulted))),
)

-- the line spells a beat
pub at_line : {w : ℕ} {E : Type 0} (old new : Charting w) (line : List ℕ) (link : Link) (x : Beat w)
    (r : Result (Option Fault) E)
    → IfOk r (λ fault. (allow : Liberties) (line : List ℕ) → Spells line link x → GathersLine allow old new line fault)
    → Spells line link x → IfOk r (λ fault. (allow : Liberties) → GathersLine allow old new line fault)
at_line old new line link x (Ok fault) reads spells = λ allow. reads allow line spells
at_line old new line link x (Err e) reads spells = tt

-- ---- what the handler says of a line

module _ {w : ℕ} (allow : Liberties) (wrap : Charting w → ChartJudge)
    (into : (c : Charting w) (lines : List (List ℕ)) (text : List ℕ) → KnowsJudge allow (wrap c) lines text
    → KnowsCharting allow c lines text)
    (out : (c : Charting w) (lines : List (List ℕ)) (text : List ℕ) → KnowsCharting allow c lines text
    → KnowsJudge allow (wrap c) lines text)
    (out_ends : (c : Charting w) (lines : List (List ℕ)) → EndsCharting allow c lines
    → EndsJudge allow (wrap c) lines) where
  -- the handler of these judges
  abbrev handler : Charting w → ChartLines
  handler c = record { allow = allow; judge = wrap c }

  -- what is so of a line, whatever is allowed
  abbrev Reads : Charting w → Charting w → List ℕ → Option Fault → Type 0
  Reads old new line fault = (allow : Liberties) → GathersLine allow old new line fault

  pub read_judged : {E : Type 0} (old new : Charting w) (line was : List ℕ) (r : Result (Option Fault) E)
      → IfOk r (Reads old new line)
      → IfOk r (Judges KnowsChart (JudgedLinks false allow) (handler old) (handler new) line was was)
  read_judged old new line was (Err e) reads = tt
  read_judged old new line was (Ok None) reads = λ lines before known.
      out new (lines ++ line ∷ []) (before ++ was)
      (reads allow lines (before ++ was) (into old lines (before ++ was) known))
  read_judged old new line was (Ok (Some fault)) reads = λ lines before known more.
      (reads allow lines before was (into old lines (before ++ was) known) more).0

  pub read_ends : {E : Type 0} (old new : Charting w) (line : List ℕ) (r : Result (Option Fault) E)
      → IfOk r (Reads old new line) → (fault : Fault) → r ≡ Ok (Some fault)
      → Ends KnowsChart EndsChart (handler old) (handler new) line
  read_ends old new line (Err e) reads fault is = absurd cc
  read_ends old new line (Ok None) reads fault is = absurd cc
  read_ends old new line (Ok (Some other)) reads fault is = λ lines text known more.
      out_ends new (lines ++ line ∷ more)
      (reads allow lines text [] (rw append-nil (into old lines text known)) more).1

-- ---- the first line

pub begun : (allow : Liberties) (line : List ℕ) (wide : Width) (may : Liberties) (levels : List Level)
    (c : Charting (bytes_of wide)) → NamesAllowed allow line wide may levels → IsBegun c levels may
    → KnowsCharting allow c (line ∷ []) []
unfolding JudgedBy Draws
begun allow line wide may levels c names is = record {
  levels = levels;
  may = may;
  trace = [];
  known = is.known;
  gathers = is.gathers;
  many = is.many;
  unfaulted = is.unfaulted;
  number = rw is.number refl;
  counted = refl;
  before = λ more rest status judged. inl (wide, may, levels, names, judged);
  draws = λ more d arrow drawn_so. inl (wide, may, levels, names, drawn_so);
}

module _ (h : ChartLines) (alloc : Global) (g : Gatherer) (is : h.judge ≡ Waiting alloc g) where
  module _ (line : List ℕ)
      (none : (width : Width) (may : Liberties) (levels : List Level) → ¬ NamesAllowed h.allow line width may levels)
    where
      pub no_header : (was : List ℕ) → Stops KnowsChart (JudgedLinks false h.allow) h line was was Header
      no_header was = λ lines before known more.
          let k : KnowsJudge h.allow (Waiting alloc g) lines (before ++ was) = rw is at known in
          header_unread (NamesAllowed h.allow) (faults_by false) clean_text line before was lines none k.0 k.1 more

      pub no_header_ends : Ends KnowsChart EndsChart h h line
      unfolding Draws
      no_header_ends = λ lines text known more.
          let k : KnowsJudge h.allow (Waiting alloc g) lines text = rw is at known in
          rw (is, k.0) (inr (none, (k.2.drawn_is, refl)))

  pub chart_missing : (count : ℕ) (was : List ℕ)
      → Finishes KnowsChart (JudgedLinks false h.allow) h count was was (Some Header)
  chart_missing count was = λ lines before known counted.
      let k : KnowsJudge h.allow (Waiting alloc g) lines (before ++ was) = rw is at known in
      header_unseen (NamesAllowed h.allow) (faults_by false) clean_text before was lines k.0 k.1

-- ---- the end

abbrev IsRead : ChartJudge → Type 0
IsRead j = (alloc : Global) (g : Gatherer) → j ≡ Waiting alloc g → ⊥

-- what follows lines of which the handler isn't waiting for the first
judge_open : (allow : Liberties) (j : ChartJudge) → IsRead j → (lines : List (List ℕ)) (before said line : List ℕ)
    → KnowsJudge allow j lines (before ++ said) → IsOpen line → (more : List (List ℕ))
    → JudgedLinks false allow (lines ++ line ∷ more) (before ++ (said ++ fault_text (length lines + 1) (Line F1))) Broken
judge_open allow (Waiting alloc g) read lines before said line k is = absurd (read alloc g refl)
judge_open allow (Four c) read lines before said line k is =
    open_so false allow (OfLinks c.monitor) lines before said line (judged_in k) is
judge_open allow (Eight c) read lines before said line k is =
    open_so false allow (OfLinks c.monitor) lines before said line (judged_in k) is
judge_open allow (Sixteen c) read lines before said line k is =
    open_so false allow (OfLinks c.monitor) lines before said line (judged_in k) is

opened_ends : {w : ℕ} (allow : Liberties) (c : Charting w) (line text : List ℕ) (lines : List (List ℕ))
    → KnowsCharting allow c lines text → IsOpen line → (more : List (List ℕ))
    → EndsCharting allow c (lines ++ line ∷ more)
unfolding DrawsAfter
opened_ends {w} allow c line text lines k is more =
    k.draws (line ∷ more) (drawn_of c.gatherer) c.fault (inr (
      k.gathers.drawn_is,
      inl (
        F1,
        open_fault w line is,
        k.unfaulted,
      ),
    ))

judge_open_ends : (allow : Liberties) (j : ChartJudge) → IsRead j → (lines : List (List ℕ)) (text line : List ℕ)
    → KnowsJudge allow j lines text → IsOpen line → (more : List (List ℕ)) → EndsJudge allow j (lines ++ line ∷ more)
judge_open_ends allow (Waiting alloc g) read lines text line k is = absurd (read alloc g refl)
judge_open_ends allow (Four c) read lines text line k is = opened_ends allow c line text lines k is
judge_open_ends allow (Eight c) read lines text line k is = opened_ends allow c line text lines k is
judge_open_ends allow (Sixteen c) read lines text line k is = opened_ends allow c line text lines k is

judge_clean : (allow : Liberties) (j : ChartJudge) → IsRead j → (count : ℕ) (lines : List (List ℕ))
    (before was is : List ℕ) → is ≡ was ++ end_by false (count - 1) → KnowsJudge allow j lines (before ++ was)
    → count ≡ length lines → JudgedLinks false allow lines (before ++ is) Clean
judge_clean allow (Waiting alloc g) read count lines before was is says k counted = absurd (read alloc g refl)
judge_clean allow (Four c) read count lines before was is says k counted =
    end_so false allow (OfLinks c.monitor) count lines before was is says (judged_in k) counted
judge_clean allow (Eight c) read count lines before was is says k counted =
    end_so false allow (OfLinks c.monitor) count lines before was is says (judged_in k) counted
judge_clean allow (Sixteen c) read count lines before was is says k counted =
    end_so false allow (OfLinks c.monitor) count lines before was is says (judged_in k) counted

module _ (h : ChartLines) (read : IsRead h.judge) where
  pub chart_open : (line said : List ℕ) → IsOpen line
      → Stops KnowsChart (JudgedLinks false h.allow) h line said said (Line F1)
  chart_open line said is = λ lines before k. judge_open h.allow h.judge read lines before said line k is

  pub chart_open_ends : (line : List ℕ) → IsOpen line → Ends KnowsChart EndsChart h h line
  chart_open_ends line is = λ lines text k. judge_open_ends h.allow h.judge read lines text line k is

  pub chart_clean : (count : ℕ) (was is : List ℕ) → is ≡ was ++ end_by false (count - 1)
      → Finishes KnowsChart (JudgedLinks false h.allow) h count was is None
  chart_clean count was is says = λ lines before k counted.
      judge_clean h.allow h.judge read count lines before was is says k counted

-- what a handler knows of all lines it draws of them
all_drawn : {w : ℕ} (allow : Liberties) (c : Charting w) (lines : List (List ℕ)) (text : List ℕ)
    → KnowsCharting allow c lines text → EndsCharting allow c lines
unfolding DrawsAfter
all_drawn allow c lines text k =
    rw (append-nil lines) at (k.draws [] (drawn_of c.gatherer) c.fault (k.gathers.drawn_is, k.unfaulted))

judge_drawn : (allow : Liberties) (j : ChartJudge) (lines : List (List ℕ)) (text : List ℕ)
    → KnowsJudge allow j lines text → EndsJudge allow j lines
unfolding Draws
judge_drawn allow (Waiting alloc g) lines text k = rw k.0 (k.2.drawn_is, refl)
judge_drawn allow (Four c) lines text k = all_drawn allow c lines text k
judge_drawn allow (Eight c) lines text k = all_drawn allow c lines text k
judge_drawn allow (Sixteen c) lines text k = all_drawn allow c lines text k

pub drawn_here : (h : ChartLines) (lines : List (List ℕ)) (text : List ℕ) → KnowsChart h lines text → EndsChart h lines
drawn_here h lines text k = judge_drawn h.allow h.judge lines text k

pub drawn_at_end : (h : ChartLines) (lines : List (List ℕ)) (status : Status) → HasAll KnowsChart EndsChart h lines status
    → EndsChart h lines
drawn_at_end h lines Clean (text, known) = drawn_here h lines text known
drawn_at_end h lines Broken has = has

-- ---- the verdict

fault_ended : (n : ℕ) (fault : Fault) (text : List ℕ) → text ≡ fault_text n fault
    → (said : List ℕ) × (text ≡ said ++ codes "\n")
unfolding fault_text
fault_ended n fault text is = (
  codes "line " ++ decimal n ++ codes " " ++ fault_name fault,
  is ∙ joined (codes "line ") (decimal n) (codes " ") (fault_name fault) (codes "\n"),
)
  where
    joined : (a b c d e : List ℕ) → a ++ b ++ c ++ d ++ e ≡ (a ++ b ++ c ++ d) ++ e
    joined a b c d e = simp append_assoc

ended_after : {w : ℕ} (levels : List Level) (may : Liberties) (t : Trace w) (lines : List (List ℕ)) (text : List ℕ)
    (status : Status) → JudgedAfter (faults_by false) clean_text levels may t lines text status
    → (said : List ℕ) × (text ≡ said ++ codes "\n")
unfolding JudgedAfter clean_text fault_text
ended_after levels may t [] text status (is, clean) = (codes "clean " ++ decimal (length t), is ∙ sym (append_assoc (codes "clean ") (decimal (length t)) (codes "\n")))
ended_after levels may t (line ∷ lines) text status (inl (link, x, spells, good, judged)) =
    ended_after levels may ((link, x) ∷ t) lines text status judged
ended_after levels may t (line ∷ lines) text status (inr (fault, at, is, broken)) = fault_ended (length t + 2) fault text is

-- a verdict is a line
pub verdict_ended : (allow : Liberties) (lines : List (List ℕ)) (text : List ℕ) (status : Status)
    → JudgedLinks false allow lines text status → (said : List ℕ) × (text ≡ said ++ codes "\n")
unfolding JudgedBy
verdict_ended allow [] text status (is, broken) = fault_ended 1 Header text is
verdict_ended allow (line ∷ lines) text status (inl (wide, may, levels, names, judged)) =
    ended_after levels may [] lines text status judged
verdict_ended allow (line ∷ lines) text status (inr (none, is, broken)) = fault_ended 1 Header text is

-- without the end
pub said_of : (verdict said : List ℕ) → verdict ≡ said ++ codes "\n" → take (length verdict - 1) verdict ≡ said
said_of verdict said is =
    let size : length (said ++ codes "\n") - 1 ≡ length said = omega (arith, length-append said (codes "\n")) in
    rw (is, size) (take-append_seam said (codes "\n"))

-- ---- the chart

-- the chart of what was gathered is that of the lines
pub charted : (win : Window) (h : ChartLines) (g : Gatherer) (fault : Option Arrow) (text said verdict : List ℕ)
    (broken : Bool) (status : Status) (trace : List (List ℕ)) (old chart : List ℕ) → g ≡ gatherer_in h.judge
    → g.window ≡ win → fault ≡ fault_of_chart h.judge → EndsChart h trace → verdict ≡ said ++ codes "\n" → text ≡ said
    → broken ≡ is_broken status → old ≡ [] → IsChart g.window (drawn_of g) fault text broken old chart
    → IsCharted h.allow win trace verdict status chart
charted win h g fault text said verdict broken status trace old chart g_is win_is fault_is has ended text_is broken_is
    empty is = (
      drawn_of g,
      fault,
      said,
      subst (λ (w : Window). Draws h.allow w trace (drawn_of g) fault) win_is
          (subst (λ (x : Gatherer). Draws h.allow x.window trace (drawn_of x) fault) (sym g_is)
          (subst (λ (f : Option Arrow). Draws h.allow (gatherer_in h.judge).window trace
          (drawn_of (gatherer_in h.judge)) f) (sym fault_is) has)),
      ended,
      subst (λ (o : List ℕ). IsChart win (drawn_of g) fault said (is_broken status) o chart) empty
          (subst (λ (b : Bool). IsChart win (drawn_of g) fault said b old chart) broken_is
          (subst (λ (t : List ℕ). IsChart win (drawn_of g) fault t broken old chart) text_is
          (subst (λ (w : Window). IsChart w (drawn_of g) fault text broken old chart) win_is is))),
    )

-- what was read has its verdict, and this chart
pub charts : (allow : Liberties) (win : Window) (had left : Option (List ℕ)) (h : ChartLines) (verdict text : List ℕ)
    (status : Status) (chart : List ℕ) → (read : List ℕ) × Consumes had left read
    × JudgedLinks false allow (lines_of read) verdict status
    × EndsAs (JudgedLinks false allow) left read verdict status × EndsChart h (lines_of read) → h.allow ≡ allow
    → text ≡ verdict
    → ((trace : List (List ℕ)) → EndsChart h trace → (said : List ℕ) → text ≡ said ++ codes "\n"
    → IsCharted h.allow win trace text status chart)
    → Charts allow win had left status chart
charts allow win had left h verdict text status chart (read, consumed, judged, ended, has) for same charted_so =
    let (said, is) = verdict_ended allow (lines_of read) verdict status judged in
    (read, verdict, consumed, judged, ended, rw (for, same) at (charted_so (lines_of read) has said (same ∙ is)))
