-- The situations of a wide trace, line by line.
use Rattle.std.proofs.Common.{◌≡◌, ◌+◌, ◌∙◌, ℕ, false, List, [], ◌∷◌, ◌++◌, length, map, ap, refl, subst, sym, arith}
use Rattle.std.proofs.Common.{inl, inr, length-append}
use Rattle.std.proofs.lemmas.List.{append-nil}
use Rattle.std.specs.Prelude.{Option, Some, None}
use Rattle.tl_beat.specs.declared.beat.Beat.{Beat}
use Rattle.tl_beat.specs.declared.beat.Link.{Link}
use Rattle.tl_beat.specs.declared.fault.LineFault.TheVariants.{F1}
use Rattle.tl_cover.specs.declared.row.Row.{Row}
use Rattle.tl_cover.specs.statement.Covered.{covered}
use Rattle.tl_cover.specs.statement.Covers.{Covers, cells_in, rows_in}
use Rattle.tl_lines.specs.statement.Lines.{IsOpen}
use Rattle.tl_lines.specs.declared.fault.Fault.{Fault}
use Rattle.tl_lines.specs.declared.fault.Fault.TheVariants.{Beyond}
use Rattle.tl_lines.specs.declared.status.Status.TheVariants.{Broken}
use Rattle.tl_lines.specs.statement.Fault.{fault_text}
use Rattle.tl_params.specs.declared.level.Level.{Level}
use Rattle.tl_params.specs.declared.liberties.Liberties.{Liberties}
use Rattle.tl_rules.specs.statement.Conformance.{Trace}
use Rattle.tl_tried.proofs.Covered.{found_are}
use Rattle.tl_tried.proofs.WideParts.{before-all, before-more, taken-before, taken-first}
use Rattle.tl_tried.proofs.WideRowed.{rows-begun, rows-followed}
use Rattle.tl_tried.specs.code.Following.{found_in}
use Rattle.tl_tried.specs.code.WideCover.{CoversNone, RowsFollow, TakesWideBeat, TakesWideLine, wide_found_in}
use Rattle.tl_tried.specs.code.WideFollowing.{KnowsCovering, judge_in}
use Rattle.tl_tried.specs.code.WideRows.{first_in, followed}
use Rattle.tl_tried.specs.declared.wide_covering.WideCovering.{WideCovering}
use Rattle.tl_tried.specs.statement.Covered.{Found, found_of}
use Rattle.tl_tried.specs.statement.Sums.{with_each}
use Rattle.tl_tried.specs.statement.WideCovered.{CoveredWide, StopsBefore, TraceCovered, at_wide_line, at_wide_lines}
use Rattle.tl_tried.specs.statement.WideCovered.{before_fault, wide_found}
use Rattle.tl_wide.specs.declared.beat.WideBeat.{WideBeat}
use Rattle.tl_wide.specs.declared.width.WideWidth.{WideWidth}
use Rattle.tl_wide.specs.statement.Line.{WideSpells}
use Rattle.tl_wide.specs.statement.Naming.{WideTrace, is_beyond}
use Rattle.tl_wide.specs.statement.Narrowed.{beats_of, narrowed, narrowed_from, on_one_link}
use Rattle.tl_wide.specs.statement.Verdict.{joined}
use Rattle.tl_wide.specs.statement.Width.{part_width, wide_bytes_of}
use Rattle.tl_wide_lines.proofs.FirstFaults.{becomes, behind-length, joins, next-bad, next-beats, next-beyond, none-at-fault, stays}
use Rattle.tl_wide_lines.proofs.JudgedLines.{beat-stops, beat-taken, begin-more, header-known, line-stops, open-fault}
use Rattle.tl_wide_lines.proofs.PartsJudged.{all-taken}
use Rattle.tl_wide_lines.specs.code.FirstFault.{beats_taken, behind}
use Rattle.tl_wide_lines.specs.statement.JudgedTrace.{JudgedTrace, first_fault_of}
use Rattle.tl_wide_lines.specs.statement.PartFaults.{parts_taken}
use Rattle.tl_wide_lines.specs.statement.WideHeader.{NamesWide}

-- the line of one more beat
next-line : (new old many more : ℕ) → more ≡ many + 1 → new ≡ old + 1 → old ≡ many + 1 → new ≡ more + 1
next-line new old many more all next at = omega (arith, all, next, at)

-- the situations of a wide trace by those of its parts
pub by_rows : {p : ℕ} (c : WideCovering p) (parts : List (Trace p))
    → c.rows.items ≡ map (at_wide_line parts) (rows_in c.covering) → wide_found_in c ≡ at_wide_lines parts (found_in c.covering)
by_rows c parts are = ap (λ (rows : List Row). (rows, cells_in c.covering)) are

module _ {wide : WideWidth} (allow : Liberties) (old : WideCovering (part_width (wide_bytes_of wide)))
    (lines : List (List ℕ)) (text : List ℕ) (k : KnowsCovering wide allow old lines text) where
  -- the situations of a wide trace with which the lines begin are theirs
  told : (more : List (List ℕ)) (found : Found)
      → CoveredWide (wide_bytes_of wide) k.judged.may k.judged.levels (k.judged.spelled ++ more) found
      → TraceCovered allow (lines ++ more) found
  told more found covers =
      rw k.judged.are_lines (inl (wide, k.judged.may, k.judged.levels, k.judged.named, covers))

  found-so : wide_found_in old ≡ wide_found k.judged.levels k.judged.may k.judged.trace
  found-so =
      by_rows old (narrowed k.judged.trace) k.rows_are
      ∙ ap (at_wide_lines (narrowed k.judged.trace))
      (found_are old.covering k.judged.levels k.judged.may (beats_taken k.judged.trace) false k.covers
      ∙ ap (found_of k.judged.may k.judged.levels)
      (sym (before-all k.judged.levels k.judged.may (joined (narrowed k.judged.trace)) k.judged.taken.good)))

  -- no line follows, or one that spells no wide beat
  pub stands : (rest : List (List ℕ)) → StopsBefore (wide_bytes_of wide) None rest
      → TraceCovered allow (lines ++ rest) (wide_found_in old)
  stands rest stops = told rest (wide_found_in old) (record {
    trace = k.judged.trace;
    rest = rest;
    begins = k.judged.begins rest;
    stops = subst (λ (o : Option (ℕ × Fault)). StopsBefore (wide_bytes_of wide) o rest)
        (sym (none-at-fault false k.judged.may k.judged.levels k.judged.trace k.judged.taken)) stops;
    are = found-so;
  })

  -- no line follows
  pub all-counted : TraceCovered allow lines (wide_found_in old)
  all-counted =
      subst (λ (l : List (List ℕ)). TraceCovered allow l (wide_found_in old)) (append-nil lines) (stands [] tt)

  -- one follows that has no LF, or is too long
  pub open-counted : (line : List ℕ) → IsOpen line → (more : List (List ℕ))
      → TraceCovered allow (lines ++ line ∷ more) (wide_found_in old)
  open-counted line is more = stands (line ∷ more) (F1, open-fault (wide_bytes_of wide) line is)

  module _ (new : WideCovering (part_width (wide_bytes_of wide))) (line : List ℕ) where
    -- what a handler says of the next line
    abbrev pub Says : Option Fault → Type 0
    Says None = KnowsCovering wide allow new (lines ++ line ∷ []) text
    Says (Some fault) = ((more : List (List ℕ))
        → JudgedTrace false allow (lines ++ line ∷ more) (text ++ fault_text (length lines + 1) fault) Broken)
        × ((more : List (List ℕ)) → TraceCovered allow (lines ++ line ∷ more) (wide_found_in new))

    module _ (link : Link) (x : WideBeat (wide_bytes_of wide)) where
      abbrev after : WideTrace (wide_bytes_of wide)
      after = k.judged.trace ++ (link, x) ∷ []

      abbrev parts_of_it : List (Beat (part_width (wide_bytes_of wide)))
      parts_of_it = beats_of link x ((link, x) ∷ behind k.judged.trace [])

      abbrev taken_of_it : Trace (part_width (wide_bytes_of wide))
      taken_of_it =
          parts_taken false k.judged.levels k.judged.may link parts_of_it (beats_taken k.judged.trace)

      -- the line spells a beat that is at fault, and these are the situations before its fault
      beat-ends : WideSpells line link x → (fault : Fault)
          → first_fault_of false k.judged.may k.judged.levels after ≡ Some (length k.judged.trace, fault)
          → wide_found_in new ≡ wide_found k.judged.levels k.judged.may after → Says (Some fault)
      beat-ends spells fault bad are = (
        beat-stops false allow (judge_in old) lines text k.judged line link x fault spells bad,
        λ more. told (line ∷ more) (wide_found_in new) (record {
          trace = after;
          rest = more;
          begins = begin-more k.judged.trace (link, x) (k.judged.spelled ++ line ∷ more) line more
              (k.judged.begins (line ∷ more)) spells;
          stops = subst (λ (o : Option (ℕ × Fault)). StopsBefore (wide_bytes_of wide) o more) (sym bad) tt;
          are = are;
        }),
      )

      module _ (within : is_beyond link ((link, x) ∷ behind k.judged.trace []) ≡ false) (follow : RowsFollow old new)
        where
          next-rows : rows_in new.covering ≡ covered k.judged.may (length k.judged.levels) taken_of_it
              → new.rows.items ≡ map (at_wide_line (narrowed after)) (rows_in new.covering)
          next-rows are =
              let (first, behind_it, few) =
              taken-first k.judged.levels k.judged.may link parts_of_it (beats_taken k.judged.trace) in
              let rows : rows_in new.covering
              ≡ covered k.judged.may (length k.judged.levels) (behind first (beats_taken k.judged.trace)) =
              are ∙ ap (covered k.judged.may (length k.judged.levels)) behind_it in
              let before : old.rows.items ≡ map (at_wide_line (narrowed k.judged.trace))
              (covered k.judged.may (length k.judged.levels) (beats_taken k.judged.trace)) =
              k.rows_are ∙ ap (map (at_wide_line (narrowed k.judged.trace))) k.covers.follows.rows_are in
              let so_many = behind-length (joined (narrowed k.judged.trace)) [] in
              follow.rows_are
              ∙ ap (λ (rs : List Row). with_each (followed new.line) (first_in new.line) rs (rows_in new.covering)) before
              ∙ ap (with_each (followed new.line) (first_in new.line) (map (at_wide_line (narrowed k.judged.trace))
              (covered k.judged.may (length k.judged.levels) (beats_taken k.judged.trace)))) rows
              ∙ rows-followed (narrowed k.judged.trace) (on_one_link link parts_of_it) new.line
              (length (beats_taken k.judged.trace)) (omega (arith, so_many))
              (omega (arith, follow.line_is, k.line_is, k.judged.taken.complete)) k.judged.may
              (length k.judged.levels) (beats_taken k.judged.trace) first refl few
              ∙ ap (λ (parts : List (Trace (part_width (wide_bytes_of wide)))). map (at_wide_line parts)
              (covered k.judged.may (length k.judged.levels) (behind first (beats_taken k.judged.trace))))
              (sym (becomes k.judged.trace k.judged.taken.complete (link, x) within))
              ∙ ap (map (at_wide_line (narrowed after))) (sym rows)

          next-beats-are : before_fault k.judged.levels k.judged.may (joined (narrowed after)) [] ≡ taken_of_it
          next-beats-are =
              ap (λ (beats : Trace (part_width (wide_bytes_of wide))). before_fault k.judged.levels k.judged.may beats [])
              (joins k.judged.trace k.judged.taken.complete (link, x) within)
              ∙ before-more k.judged.levels k.judged.may (joined (narrowed k.judged.trace))
              (on_one_link link parts_of_it) [] k.judged.taken.good
              ∙ taken-before k.judged.levels k.judged.may link parts_of_it (beats_taken k.judged.trace)

          next-found : found_in new.covering ≡ found_of k.judged.may k.judged.levels taken_of_it
              → wide_found_in new ≡ wide_found k.judged.levels k.judged.may after
          next-found are =
              by_rows new (narrowed after) (next-rows (ap (λ (found : Found). found.0) are))
              ∙ ap (at_wide_lines (narrowed after))
              (are ∙ ap (found_of k.judged.may k.judged.levels) (sym next-beats-are))

      beat-counted : WideSpells line link x → (answer : Option Fault) → TakesWideBeat old new link x answer
          → Says answer
      beat-counted spells None (inl (parts, takes, follow, narrows)) =
          let (within, same, follows) = narrows (behind k.judged.trace []) k.judged.follows in
          let (good, covers) = (rw same at takes) k.judged.levels k.judged.may (beats_taken k.judged.trace) k.covers in
          let all = all-taken false k.judged.levels k.judged.may link parts_of_it (beats_taken k.judged.trace) good in
          let beats = next-beats k.judged.trace k.judged.taken.complete (link, x) within in
          let covers_all = subst (λ t. Covers new.covering k.judged.levels k.judged.may t false) all covers in
          record {
            judged = beat-taken false allow (judge_in old) lines text k.judged (judge_in new) line link x spells within
                good follows covers_all.knows;
            covers = subst (λ t. Covers new.covering k.judged.levels k.judged.may t false) (all ∙ sym beats) covers;
            rows_are = next-rows within follow covers.follows.rows_are;
            line_is = next-line new.line old.line (length k.judged.trace) (length after)
                (length-append k.judged.trace ((link, x) ∷ [])) follow.line_is k.line_is;
          }
      beat-counted spells (Some fault) (inl (parts, takes, follow, narrows)) =
          let (within, same, follows) = narrows (behind k.judged.trace []) k.judged.follows in
          let (bad, found) = (rw same at takes) k.judged.levels k.judged.may (beats_taken k.judged.trace) k.covers in
          beat-ends spells fault
          (next-bad false k.judged.may k.judged.levels k.judged.trace k.judged.taken (link, x) within fault bad)
          (next-found within follow found)
      beat-counted spells answer (inr (is, kept, past)) =
          let beyond = past (behind k.judged.trace []) k.judged.follows in
          let same = stays false k.judged.may k.judged.levels k.judged.trace k.judged.taken (link, x) beyond in
          rw is (beat-ends spells Beyond
          (next-beyond false k.judged.may k.judged.levels k.judged.trace k.judged.taken (link, x) beyond)
          (kept ∙ found-so ∙ ap (λ (parts : List (Trace (part_width (wide_bytes_of wide)))). at_wide_lines parts
          (found_of k.judged.may k.judged.levels (before_fault k.judged.levels k.judged.may (joined parts) [])))
          (sym same)))

    pub line-counted : (answer : Option Fault) → TakesWideLine (wide_bytes_of wide) old new line answer → Says answer
    line-counted answer (inl (of_line, bad, is, kept)) = rw is (
      line-stops false allow (judge_in old) lines text k.judged line of_line bad,
      λ more. subst (λ (found : Found). TraceCovered allow (lines ++ line ∷ more) found) (sym kept)
          (stands (line ∷ more) (of_line, bad)),
    )
    line-counted answer (inr (link, x, spells, takes)) = beat-counted link x spells answer takes

-- what its header begins
pub header-counted : (wide : WideWidth) (allow : Liberties) (line : List ℕ) (may : Liberties) (levels : List Level)
    (c : WideCovering (part_width (wide_bytes_of wide))) → NamesWide allow line wide may levels
    → CoversNone levels may c → KnowsCovering wide allow c (line ∷ []) []
unfolding header-known behind joined narrowed_from
header-counted wide allow line may levels c named none = record {
  judged = header-known wide false allow line may levels (judge_in c) named none.follows none.covers.knows;
  covers = none.covers;
  rows_are = none.rows_are ∙ ap (map (first_in 1)) none.covers.follows.rows_are
      ∙ rows-begun may (length levels) 1 [] ∙ sym (ap (map (at_wide_line [])) none.covers.follows.rows_are);
  line_is = none.line_is;
}
