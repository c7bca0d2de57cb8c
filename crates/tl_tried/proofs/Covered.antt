-- The situations of a trace, line by line.
use Rattle.std.proofs.Common.{◌≡◌, ℕ, ◌+◌, ◌-◌, Bool, false, true, List, [], ◌∷◌}
use Rattle.std.proofs.Common.{◌++◌, length, refl, ap, ap₂, ◌∙◌, arith, append_assoc}
use Rattle.std.proofs.Common.{length-append, inl, inr}
use Rattle.std.proofs.lemmas.List.{append-nil}
use Rattle.std.specs.Prelude.{IfOk, Option, Some, None, Result, Ok, Err, option_map}
use Rattle.std.specs.declared.alloc.Global.{Global}
use Rattle.tl_beat.specs.declared.beat.Beat.{Beat}
use Rattle.tl_beat.specs.declared.beat.Link.{Link}
use Rattle.tl_beat.specs.declared.fault.LineFault.{LineFault}
use Rattle.tl_beat.specs.declared.fault.LineFault.TheVariants.{F1}
use Rattle.tl_beat.specs.statement.Line.{Spells, line_fault}
use Rattle.tl_cover.specs.declared.covering.Covering.{Covering}
use Rattle.tl_cover.proofs.Answered.{cells_covered}
use Rattle.tl_cover.specs.declared.row.Row.{Row}
use Rattle.tl_cover.specs.statement.Covers.{Covers}
use Rattle.tl_lines.proofs.Decoded.{open_fault}
use Rattle.tl_lines.proofs.Judged.{said_at_end}
use Rattle.tl_lines.proofs.JudgedTraces.{all_judged, bad_line, header_unread, header_unseen}
use Rattle.tl_lines.proofs.LinksHeaders.{open_allowed}
use Rattle.tl_lines.specs.code.Judging.{Ends, EndsHere, Finishes, Judges, Stops}
use Rattle.tl_lines.specs.statement.Lines.{IsOpen}
use Rattle.tl_lines.specs.code.Watching.{KnowsTraceOf, end_by}
use Rattle.tl_lines.specs.statement.JudgedSo.{said_by}
use Rattle.tl_lines.specs.declared.fault.Fault.{Fault}
use Rattle.tl_lines.specs.declared.fault.Fault.TheVariants.{Header, Line, Rule as Breaks}
use Rattle.tl_lines.specs.declared.status.Status.TheVariants.{Clean, Broken}
use Rattle.tl_lines.specs.statement.Fault.{fault_text}
use Rattle.tl_lines.specs.statement.Judged.{IsAtFault, JudgedAfter, JudgedBy}
use Rattle.tl_lines.specs.statement.JudgedLinks.{JudgedLinks, faults_by}
use Rattle.tl_lines.specs.statement.LinksHeader.{NamesAllowed}
use Rattle.tl_lines.specs.statement.Width.{bytes_of}
use Rattle.tl_monitor.proofs.Knowing.{broken_by, unbroken}
use Rattle.tl_monitor.specs.declared.fault.MonitorFault.TheVariants as monitor
use Rattle.tl_monitor.specs.statement.Knows.{fault_under}
use Rattle.tl_params.specs.declared.level.Level.{Level}
use Rattle.tl_params.specs.declared.liberties.Liberties.{Liberties}
use Rattle.tl_params.specs.declared.rule.Rule.{Rule}
use Rattle.tl_params.specs.declared.width.Width.{Width}
use Rattle.tl_rules.specs.statement.Conformance.{Trace}
use Rattle.tl_rules.specs.statement.Liberties.{broken_on_link_under}
use Rattle.tl_tried.specs.code.Following.{EndsLines, KnowsFollowing, KnowsLines, KnowsTrace, ReadsLine, TakesBeat}
use Rattle.tl_tried.specs.code.Following.{found_by, found_in}
use Rattle.tl_tried.specs.declared.cover_lines.CoverLines.{CoverLines}
use Rattle.tl_tried.specs.declared.cover_lines.Following.{Following}
use Rattle.tl_tried.specs.declared.cover_lines.Following.TheVariants.{Waiting, Four, Eight, Sixteen}
use Rattle.tl_tried.specs.statement.Covered.{AreCovered, CoveredAfter, Found, found_of}

-- what is judged, as it is known of each link by itself
abbrev judged_in : {w : ℕ} {allow : Liberties} {c : Covering w} {lines : List (List ℕ)} {text : List ℕ}
    → KnowsTrace allow c lines text
    → KnowsTraceOf (λ levels may t. Covers c levels may t false) (NamesAllowed allow) (faults_by false)
    (said_by false)
    lines text
judged_in k = record {
  levels = k.levels;
  may = k.may;
  trace = k.trace;
  known = k.known;
  counted = k.counted;
  before = k.before;
}

-- the beats that are known of a covering
abbrev KnownTo : {w : ℕ} → Covering w → List Level → Liberties → Trace w → Type 0
KnownTo c levels may t = Covers c levels may t false

-- the situations and the counts of a covering are those of its trace
pub found_are : {w : ℕ} (c : Covering w) (levels : List Level) (may : Liberties) (t : Trace w) (closed : Bool)
    → Covers c levels may t closed → found_in c ≡ found_of may levels t
found_are c levels may t closed known =
    ap₂ (λ (rows : List Row) (counts : List (Option ℕ)). (rows, counts)) known.follows.rows_are
    (cells_covered c levels may t closed known)

-- ---- a beat

module _ {w : ℕ} (old new : Covering w) (link : Link) (beat : Beat w) where
  -- it is taken
  pub beat_good : ((levels : List Level) (l : Liberties) (t : Trace w) → Covers old levels l t false
      → fault_under levels l t false (link, beat) ≡ None)
      → ((levels : List Level) (l : Liberties) (t : Trace w) → Covers old levels l t false
      → Covers new levels l ((link, beat) ∷ t) false)
      → TakesBeat old new link beat None
  beat_good fine covers = λ levels l t known. (
    ap (option_map Breaks) (unbroken (broken_on_link_under l levels (link, beat) t) (fine levels l t known)),
    covers levels l t known,
  )

  -- it is at fault
  pub beat_bad : (rule : Rule) → ((levels : List Level) (l : Liberties) (t : Trace w) → Covers old levels l t false
      → fault_under levels l t false (link, beat) ≡ Some (monitor.Broken rule))
      → ((levels : List Level) (l : Liberties) (t : Trace w) → Covers old levels l t false → Covers new levels l t true)
      → TakesBeat old new link beat (Some (Breaks rule))
  beat_bad rule broken covers = λ levels l t known. (
    ap (option_map Breaks) (broken_by (broken_on_link_under l levels (link, beat) t) rule (broken levels l t known)),
    found_are new levels l t true (covers levels l t known),
  )

-- ---- a line behind the header

-- a line that spells a beat is what its beat is
pub line_taken : {w : ℕ} {E : Type 0} (old new : Covering w) (line : List ℕ) (link : Link) (beat : Beat w)
    (r : Result (Option Fault) E) → Spells line link beat → IfOk r (TakesBeat old new link beat)
    → IfOk r (ReadsLine old new line)
line_taken old new line link beat (Err e) spells takes = tt
line_taken old new line link beat (Ok None) spells takes = λ levels may t known.
    let (good, knows) = takes levels may t known in
    (link, beat, spells, good, knows)
line_taken old new line link beat (Ok (Some fault)) spells takes = λ levels may t known.
    let (bad, rows) = takes levels may t known in
    (inr (link, beat, spells, bad), rows)

-- a line that spells none is at fault
pub line_unread : {w : ℕ} (c : Covering w) (line : List ℕ) (fault : LineFault) → line_fault w line ≡ Some fault
    → ReadsLine c c line (Some (Line fault))
line_unread c line fault is = λ levels may t known. (inl (fault, is, refl), found_are c levels may t false known)

-- the line is at fault, and the situations stay those before it, whatever follows
covered_bad : {w : ℕ} (allow : Liberties) (c : Covering w) (lines : List (List ℕ)) (text line : List ℕ)
    (k : KnowsTrace allow c lines text) (fault : Fault) → IsAtFault (faults_by false) k.levels k.may k.trace line fault
    → (found : Found) → found ≡ found_in c → (more : List (List ℕ)) → AreCovered allow (lines ++ line ∷ more) found
unfolding CoveredAfter
covered_bad allow c lines text line k fault is found same more =
    k.covers (line ∷ more) found (inr (fault, is, same ∙ found_are c k.levels k.may k.trace false k.known))

module _ {w : ℕ} (allow : Liberties) (wrap : Covering w → Following)
    (into : (c : Covering w) (lines : List (List ℕ)) (text : List ℕ) → KnowsFollowing allow (wrap c) lines text
    → KnowsTrace allow c lines text)
    (out : (c : Covering w) (lines : List (List ℕ)) (text : List ℕ) → KnowsTrace allow c lines text
    → KnowsFollowing allow (wrap c) lines text)
    (out_ends : (c : Covering w) (lines : List (List ℕ)) → AreCovered allow lines (found_in c)
    → AreCovered allow lines (found_by (wrap c))) where
  -- the handler of these coverings
  abbrev handler : Covering w → CoverLines
  handler c = record { allow = allow; following = wrap c }

  pub read_judged : {E : Type 0} (old new : Covering w) (line was : List ℕ) (r : Result (Option Fault) E)
      → IfOk r (ReadsLine old new line)
      → IfOk r (Judges KnowsLines (JudgedLinks false allow) (handler old) (handler new) line was was)
  unfolding JudgedAfter CoveredAfter
  read_judged old new line was (Err e) reads = tt
  read_judged old new line was (Ok (Some fault)) reads = λ lines before known.
      let k = into old lines (before ++ was) known in
      bad_line (NamesAllowed allow) (faults_by false) (said_by false) (KnownTo old) lines before was line fault
      (judged_in k) (reads k.levels k.may k.trace k.known).0
  read_judged old new line was (Ok None) reads = λ lines before known.
      let k = into old lines (before ++ was) known in
      let (link, beat, spells, good, knows) = reads k.levels k.may k.trace k.known in
      out new (lines ++ line ∷ []) (before ++ was) (record {
        levels = k.levels;
        may = k.may;
        trace = (link, beat) ∷ k.trace;
        known = knows;
        counted = omega (arith, k.counted, length-append lines (line ∷ []));
        before = λ more rest status judged. rw (append_assoc lines (line ∷ []) more)
            (k.before (line ∷ more) rest status (inl (link, beat, spells, good, judged)));
        covers = λ more rows covered_so. rw (append_assoc lines (line ∷ []) more)
            (k.covers (line ∷ more) rows (inl (link, beat, spells, good, covered_so)));
      })

  pub read_ends : {E : Type 0} (old new : Covering w) (line : List ℕ) (r : Result (Option Fault) E)
      → IfOk r (ReadsLine old new line) → (fault : Fault) → r ≡ Ok (Some fault)
      → Ends KnowsLines EndsLines (handler old) (handler new) line
  unfolding CoveredAfter
  read_ends old new line (Err e) reads fault is = absurd cc
  read_ends old new line (Ok None) reads fault is = absurd cc
  read_ends old new line (Ok (Some other)) reads fault is = λ lines text known more.
      let k = into old lines text known in
      let (bad, rows) = reads k.levels k.may k.trace k.known in
      out_ends new (lines ++ line ∷ more) (k.covers (line ∷ more) (found_in new) (inr (other, bad, rows)))

-- ---- the header

pub header_covered : (allow : Liberties) (line : List ℕ) (wide : Width) (may : Liberties) (levels : List Level)
    (c : Covering (bytes_of wide)) → NamesAllowed allow line wide may levels → Covers c levels may [] false
    → KnowsTrace allow c (line ∷ []) []
unfolding JudgedBy AreCovered
header_covered allow line wide may levels c names known = record {
  levels = levels;
  may = may;
  trace = [];
  known = known;
  counted = refl;
  before = λ more rest status judged. inl (wide, may, levels, names, judged);
  covers = λ more rows covered_so. inl (wide, may, levels, names, covered_so);
}

module _ (allow : Liberties) (alloc : Global) where
  abbrev waiting : CoverLines
  waiting = record { allow = allow; following = Waiting alloc }

  module _ (line : List ℕ)
      (none : (width : Width) (may : Liberties) (levels : List Level) → ¬ NamesAllowed allow line width may levels)
    where
      pub none_named : (was : List ℕ) → Stops KnowsLines (JudgedLinks false allow) waiting line was was Header
      none_named was = λ lines before known more.
          header_unread (NamesAllowed allow) (faults_by false) (said_by false) line before was lines none known.0
          known.1
          more

      pub none_covered : Ends KnowsLines EndsLines waiting waiting line
      unfolding AreCovered
      none_covered = λ lines text known more. rw known.0 (inr (none, refl))

  pub none_there : (count : ℕ) (was : List ℕ)
      → Finishes KnowsLines (JudgedLinks false allow) waiting count was was (Some Header)
  none_there count was = λ lines before known counted.
      header_unseen (NamesAllowed allow) (faults_by false) (said_by false) before was lines known.0 known.1

-- ---- a line that has no LF or more than 256 bytes

module _ {w : ℕ} (allow : Liberties) (c : Covering w) where
  opened : (lines : List (List ℕ)) (before said line : List ℕ) → KnowsTrace allow c lines (before ++ said) → IsOpen line
      → (more : List (List ℕ))
      → JudgedLinks false allow (lines ++ line ∷ more) (before ++ (said ++ fault_text (length lines + 1) (Line F1)))
      Broken
  opened lines before said line k is =
      bad_line (NamesAllowed allow) (faults_by false) (said_by false) (KnownTo c) lines before said line (Line F1)
      (judged_in k) (inl (F1, open_fault w line is, refl))

  opened_covered : (lines : List (List ℕ)) (text line : List ℕ) → KnowsTrace allow c lines text → IsOpen line
      → (more : List (List ℕ)) → AreCovered allow (lines ++ line ∷ more) (found_in c)
  opened_covered lines text line k is =
      covered_bad allow c lines text line k (Line F1) (inl (F1, open_fault w line is, refl)) (found_in c) refl

  ended : (count : ℕ) (lines : List (List ℕ)) (before was is : List ℕ) → is ≡ was ++ end_by false (count - 1)
      → KnowsTrace allow c lines (before ++ was) → count ≡ length lines
      → JudgedLinks false allow lines (before ++ is) Clean
  ended count lines before was is says k counted =
      all_judged (NamesAllowed allow) (faults_by false) (said_by false) (KnownTo c) lines count before was is
      (says ∙ ap (λ (x : List ℕ). was ++ x) (said_at_end false (count - 1))) (judged_in k) counted

  all_covered : (lines : List (List ℕ)) (text : List ℕ) → KnowsTrace allow c lines text
      → AreCovered allow lines (found_in c)
  unfolding CoveredAfter
  all_covered lines text k = rw (append-nil lines) at (k.covers [] (found_in c) (found_are c k.levels k.may k.trace false k.known))

abbrev IsRead : CoverLines → Type 0
IsRead h = (alloc : Global) → h.following ≡ Waiting alloc → ⊥

open_by : (allow : Liberties) (f : Following) → ((alloc : Global) → f ≡ Waiting alloc → ⊥) → (line said : List ℕ)
    → IsOpen line → (lines : List (List ℕ)) (before : List ℕ) → KnowsFollowing allow f lines (before ++ said)
    → (more : List (List ℕ))
    → JudgedLinks false allow (lines ++ line ∷ more) (before ++ (said ++ fault_text (length lines + 1) (Line F1)))
    Broken
open_by allow (Waiting alloc) read line said is lines before k = absurd (read alloc refl)
open_by allow (Four c) read line said is lines before k = opened allow c lines before said line k is
open_by allow (Eight c) read line said is lines before k = opened allow c lines before said line k is
open_by allow (Sixteen c) read line said is lines before k = opened allow c lines before said line k is

pub open_stops : (h : CoverLines) → IsRead h → (line said : List ℕ) → IsOpen line
    → Stops KnowsLines (JudgedLinks false h.allow) h line said said (Line F1)
open_stops h read line said is = λ lines before k. open_by h.allow h.following read line said is lines before k

open_covered : (allow : Liberties) (f : Following) (line : List ℕ) → IsOpen line
    → (lines : List (List ℕ)) (text : List ℕ)
    → KnowsFollowing allow f lines text → (more : List (List ℕ)) → AreCovered allow (lines ++ line ∷ more) (found_by f)
unfolding AreCovered
open_covered allow (Waiting alloc) line is lines text k more = rw k.0 (inr (open_allowed allow line is, refl))
open_covered allow (Four c) line is lines text k more = opened_covered allow c lines text line k is more
open_covered allow (Eight c) line is lines text k more = opened_covered allow c lines text line k is more
open_covered allow (Sixteen c) line is lines text k more = opened_covered allow c lines text line k is more

pub open_ends : (h : CoverLines) (line : List ℕ) → IsOpen line → Ends KnowsLines EndsLines h h line
open_ends h line is = λ lines text k more. open_covered h.allow h.following line is lines text k more

pub open_unheaded : (allow : Liberties) (alloc : Global) (line said : List ℕ) → IsOpen line
    → Stops KnowsLines (JudgedLinks false allow) (record { allow = allow; following = Waiting alloc }) line said said
    Header
open_unheaded allow alloc line said is = none_named allow alloc line (open_allowed allow line is) said

-- ---- the end

end_by_all : (allow : Liberties) (f : Following) → ((alloc : Global) → f ≡ Waiting alloc → ⊥) → (count : ℕ)
    (lines : List (List ℕ)) (before was is : List ℕ) → is ≡ was ++ end_by false (count - 1)
    → KnowsFollowing allow f lines (before ++ was) → count ≡ length lines
    → JudgedLinks false allow lines (before ++ is) Clean
end_by_all allow (Waiting alloc) read count lines before was is says k counted = absurd (read alloc refl)
end_by_all allow (Four c) read count lines before was is says k counted =
    ended allow c count lines before was is says k counted
end_by_all allow (Eight c) read count lines before was is says k counted =
    ended allow c count lines before was is says k counted
end_by_all allow (Sixteen c) read count lines before was is says k counted =
    ended allow c count lines before was is says k counted

pub all_clean : (h : CoverLines) → IsRead h → (count : ℕ) (was is : List ℕ) → is ≡ was ++ end_by false (count - 1)
    → Finishes KnowsLines (JudgedLinks false h.allow) h count was is None
all_clean h read count was is says = λ lines before k counted.
    end_by_all h.allow h.following read count lines before was is says k counted

covered_by : (allow : Liberties) (f : Following) (lines : List (List ℕ)) (text : List ℕ)
    → KnowsFollowing allow f lines text → AreCovered allow lines (found_by f)
unfolding AreCovered
covered_by allow (Waiting alloc) lines text k = rw k.0 refl
covered_by allow (Four c) lines text k = all_covered allow c lines text k
covered_by allow (Eight c) lines text k = all_covered allow c lines text k
covered_by allow (Sixteen c) lines text k = all_covered allow c lines text k

pub covered_here : (h : CoverLines) → EndsHere KnowsLines EndsLines h
covered_here h = λ lines text k. covered_by h.allow h.following lines text k
