-- What is found in a trace, line by line, by a search with a judge of any form of beats.
use Rattle.std.proofs.Common.{◌≡◌, ◌≢◌, ◌<◌, ℕ, suc, ◌+◌, ◌-◌, Bool, true, false, List, [], ◌∷◌, ◌++◌, length, refl, ap, sym}
use Rattle.std.proofs.Common.{◌∙◌, arith, append_assoc, eqb-true, length-append, inl, inr, subst}
use Rattle.std.specs.Prelude.{Some, None, ◌||◌, ◌==◌, not, nat_lt, if◌then◌else◌}
use Rattle.std.specs.Io.BufRead.{ends_with_byte}
use Rattle.std.proofs.lemmas.Bool.{lt-ltb, ltb-false, ltb-true}
use Rattle.std.proofs.lemmas.List.{append-nil}
use Rattle.tl_beat.specs.declared.fault.LineFault.TheVariants.{F1}
use Rattle.tl_command.specs.declared.search.Aim.{Aim}
use Rattle.tl_lines.specs.statement.Lines.{IsOpen}
use Rattle.tl_lines.specs.declared.fault.Fault.{Fault}
use Rattle.tl_lines.specs.declared.fault.Fault.TheVariants.{Line}
use Rattle.tl_lines.specs.declared.status.Status.{Status}
use Rattle.tl_lines.specs.declared.status.Status.TheVariants.{Clean, Broken}
use Rattle.tl_report.specs.code.LineJudging.{Ways}
use Rattle.tl_report.specs.code.Searching.{Counts, EndsSearch, EndsWith, IsElsewhereSame, KnowsSearch, Notes, SearchJudges}
use Rattle.tl_report.specs.code.Searching.{SearchesLine, StartsSearch}
use Rattle.tl_report.specs.declared.findings.Finding.{Finding}
use Rattle.tl_report.specs.declared.findings.Findings.{Findings}
use Rattle.tl_report.specs.declared.search.Search.{Search}
use Rattle.tl_report.specs.statement.Found.{FindsAfter, FindsFor, is_open, left_behind}
use Rattle.tl_report.specs.statement.Taken.{AreCounted}

-- ---- how many are looked for

not_nothing : {A : Type 0} (xs : List A) (x : A) → xs ++ x ∷ [] ≢ []
not_nothing [] x e = cc
not_nothing (y ∷ xs) x e = cc

pub nothing_in : {A : Type 0} (xs : List A) → (length xs == 0) ≡ true → xs ≡ []
nothing_in [] e = refl
nothing_in (x ∷ xs) e = let none : length (x ∷ xs) ≡ 0 = eqb-true (length (x ∷ xs)) 0 e in absurd (omega (arith, none))

-- the line ends what is read, or nothing more is looked for
none_behind : (line : List ℕ) (left behind many : ℕ) → behind ≡ many + left
    → (is_open line || nat_lt behind (many + 1)) ≡ true → left_behind line left ≡ 0
none_behind line left behind many is last = go (is_open line) last
  where
    go : (ends : Bool) → (ends || nat_lt behind (many + 1)) ≡ true → (if ends then 0 else left) ≡ 0
    go true e = refl
    go false e = omega (arith, is, ltb-true behind (many + 1) e)

-- the line doesn't end what is read, and one less is looked for
some_behind : (line : List ℕ) (left behind many : ℕ) → behind ≡ many + left
    → (is_open line || nat_lt behind (many + 1)) ≡ false
    → (left_behind line left ≡ suc (left - 1)) × (behind ≡ (many + 1) + (left - 1))
some_behind line left behind many is more = go (is_open line) more
  where
    go : (ends : Bool) → (ends || nat_lt behind (many + 1)) ≡ false
        → ((if ends then 0 else left) ≡ suc (left - 1)) × (behind ≡ (many + 1) + (left - 1))
    go true e = absurd cc
    go false e =
        let few = ltb-false behind (many + 1) e in
        (omega (arith, is, few), omega (arith, is, few))

-- ---- the beats that are counted

counted_alike : (f g : Findings) (taken : List ℕ) → f ≡ g → AreCounted g.beats g.cells.items taken
    → AreCounted f.beats f.cells.items taken
counted_alike f g taken same is = subst (λ (x : Findings). AreCounted x.beats x.cells.items taken) (sym same) is

-- ---- a line that is read

-- more are looked for behind this one
some_left : (behind many left : ℕ) → behind ≡ (many + 1) + left → 0 < behind
some_left behind many left is = omega (arith, is)

module _ {J T X : Type 0} (ways : Ways J T X) (old mid : Search J) (line : List ℕ) (same : IsElsewhereSame ways old mid) where
  -- its beat is taken
  pub read_good : (new : Search J) → SearchJudges ways old mid line None → new.aim ≡ mid.aim → new.judge ≡ mid.judge
      → new.findings ≡ mid.findings → new.lines ≡ old.lines + 1 → new.over ≡ mid.over
      → SearchesLine ways old new line None
  unfolding FindsAfter
  read_good new judged aim judge findings lines over = λ before k.
      let (x, spells, good, known, many) = judged k.terms k.trace k.known k.so_many in
      let aim_is : new.aim ≡ old.aim = aim ∙ same.aim_is in
      let found_is : new.findings.faults.items ≡ old.findings.faults.items =
      ap (λ (f : Findings). f.faults.items) findings ∙ same.found_is in
      record {
        terms = k.terms;
        trace = x ∷ k.trace;
        left = k.left;
        known = rw judge known;
        goes_on = λ some. rw judge (same.goes_on ∙ k.goes_on (rw aim_is at some));
        so_many = counted_alike new.findings mid.findings _ findings many;
        most_are = rw (aim_is, found_is) k.most_are;
        unended = over ∙ same.over_is ∙ k.unended;
        some = not_nothing before line;
        before = λ more later beats cells found. rw (aim_is, found_is, append_assoc before (line ∷ []) more)
            (k.before (line ∷ more) later beats cells (inl (x, spells, good, rw lines at found)));
      }

  module _ (at_line new : Search J) (number : ℕ) (fault : Fault) (judged : SearchJudges ways old mid line (Some fault))
      (aim : at_line.aim ≡ mid.aim) (judge : at_line.judge ≡ mid.judge) (findings : at_line.findings ≡ mid.findings)
      (lines : at_line.lines ≡ number) (over : at_line.over ≡ mid.over) (number_is : number ≡ old.lines + 1) where
    -- it is at fault, and more are looked for
    pub read_on : Notes at_line new line number fault true → SearchesLine ways old new line None
    unfolding FindsAfter
    read_on notes = λ before k.
        let (is, known, many) = judged k.terms k.trace k.known k.so_many in
        let aim_is : new.aim ≡ old.aim = notes.aim_is ∙ aim ∙ same.aim_is in
        let judge_is : new.judge ≡ mid.judge = notes.judge_is ∙ judge in
        let had : at_line.findings.faults.items ≡ old.findings.faults.items =
        ap (λ (f : Findings). f.faults.items) findings ∙ same.found_is in
        let found_is : new.findings.faults.items ≡ old.findings.faults.items ++ record { line = old.lines + 1; fault = fault } ∷ [] =
        notes.found_is ∙ rw (had, number_is) refl in
        let counted : Counts (ways.form k.terms) new k.trace =
        rw (notes.beats_are, notes.cells_are) (counted_alike at_line.findings mid.findings _ findings many) in
        let unended : new.over ≡ false = unended_by new.over notes.more_is in
        let more_is : (is_open line || nat_lt old.aim.behind (length old.findings.faults.items + 1)) ≡ false =
        rw (aim ∙ same.aim_is, had) at (sym notes.over_is ∙ unended) in
        let room = some_behind line k.left old.aim.behind (length old.findings.faults.items) k.most_are more_is in
        let goes_on = k.goes_on (some_left old.aim.behind (length old.findings.faults.items) (k.left - 1) room.1) in
        record {
          terms = k.terms;
          trace = k.trace;
          left = k.left - 1;
          known = rw judge_is (known goes_on);
          goes_on = λ some. rw judge_is (same.goes_on ∙ goes_on);
          so_many = counted;
          most_are = rw (aim_is, found_is, length-append old.findings.faults.items (record { line = old.lines + 1; fault = fault } ∷ []))
              room.1;
          unended = unended;
          some = not_nothing before line;
          before = λ more later beats cells found. rw (
            aim_is,
            found_is,
            append_assoc before (line ∷ []) more,
            append_assoc old.findings.faults.items (record { line = old.lines + 1; fault = fault } ∷ []) later,
          )
              (k.before (line ∷ more) (record { line = old.lines + 1; fault = fault } ∷ later) beats cells
              (inr (
                fault,
                later,
                is,
                refl,
                rw room.0 (rw (notes.lines_are ∙ lines ∙ number_is) at found),
              )));
        }
      where
        unended_by : (over : Bool) → true ≡ not over → over ≡ false
        unended_by true e = cc
        unended_by false e = refl

    -- it is at fault, and ends the search
    pub read_last : Notes at_line new line number fault false → SearchesLine ways old new line (Some fault)
    unfolding FindsAfter
    read_last notes = λ before k more.
        let (is, known, many) = judged k.terms k.trace k.known k.so_many in
        let aim_is : new.aim ≡ old.aim = notes.aim_is ∙ aim ∙ same.aim_is in
        let had : at_line.findings.faults.items ≡ old.findings.faults.items =
        ap (λ (f : Findings). f.faults.items) findings ∙ same.found_is in
        let found_is : new.findings.faults.items ≡ old.findings.faults.items ++ record { line = old.lines + 1; fault = fault } ∷ [] =
        notes.found_is ∙ rw (had, number_is) refl in
        let counted : Counts (ways.form k.terms) new k.trace =
        rw (notes.beats_are, notes.cells_are) (counted_alike at_line.findings mid.findings _ findings many) in
        let ended : new.over ≡ true = ended_by new.over notes.more_is in
        let last_is : (is_open line || nat_lt old.aim.behind (length old.findings.faults.items + 1)) ≡ true =
        rw (aim ∙ same.aim_is, had) at (sym notes.over_is ∙ ended) in
        let none = none_behind line k.left old.aim.behind (length old.findings.faults.items) k.most_are last_is in
        rw (aim_is, ended, found_is)
        (k.before (line ∷ more) (record { line = old.lines + 1; fault = fault } ∷ []) new.findings.beats
        new.findings.cells.items (inr (fault, [], is, refl, rw none (refl, counted))))
      where
        ended_by : (over : Bool) → false ≡ not over → over ≡ true
        ended_by true e = refl
        ended_by false e = cc

-- ---- the first line

-- A search that has read a header knows it, if what is found behind the header is found.
pub knows_header : {J T X : Type 0} (ways : Ways J T X) (aim : Aim) (terms : T) (s : Search J) (line : List ℕ)
    → StartsSearch ways aim terms s
    → ((lines : List (List ℕ)) (found : List Finding) (beats : ℕ) (cells : List ℕ)
    → FindsAfter (ways.form terms) [] 2 (suc aim.behind) lines found beats cells → FindsFor aim (line ∷ lines) found beats cells)
    → KnowsSearch ways s (line ∷ [])
knows_header ways aim terms s line is finds = record {
  terms = terms;
  trace = [];
  left = s.aim.behind;
  known = is.known;
  goes_on = λ some. is.goes_on (rw is.begun.aim_is at some);
  so_many = is.begun.none_taken;
  most_are = rw is.begun.none_found (omega arith);
  unended = is.begun.unended;
  some = λ e. cc;
  before = λ more later beats cells found.
      rw (is.begun.none_found, is.begun.aim_is) (finds more later beats cells (rw (is.begun.header, is.begun.aim_is) at found));
}

-- ---- a line that has no LF or more than 256 bytes

open_is : (line : List ℕ) → IsOpen line → is_open line ≡ true
open_is line (inl ends) = rw ends refl
open_is line (inr long) = go (not (ends_with_byte 10 line)) (lt-ltb 256 (length line) long)
  where
    go : (b : Bool) → nat_lt 256 (length line) ≡ true → (b || nat_lt 256 (length line)) ≡ true
    go true e = refl
    go false e = e

pub opened : {J T X : Type 0} (ways : Ways J T X) (s : Search J) (line : List ℕ) (lines : List (List ℕ))
    → KnowsSearch ways s lines → IsOpen line → ((terms : T) → (ways.form terms).line_fault line ≡ Some F1)
    → (more : List (List ℕ)) → EndsSearch s (lines ++ line ∷ more)
unfolding FindsAfter
opened ways s line lines k is bad more =
    rw k.unended (k.before (line ∷ more) (record { line = s.lines + 1; fault = Line F1 } ∷ []) s.findings.beats
    s.findings.cells.items (inr (Line F1, [], inl (F1, bad k.terms, refl), refl, rw (open_is line is) (refl, k.so_many))))

-- ---- the end

-- what was found, where all lines were read
all_found : {J T X : Type 0} (ways : Ways J T X) (s : Search J) (lines : List (List ℕ)) → KnowsSearch ways s lines
    → FindsFor s.aim lines s.findings.faults.items s.findings.beats s.findings.cells.items
unfolding FindsAfter
all_found ways s lines k = rw (append-nil lines, append-nil s.findings.faults.items) at
    (k.before [] [] s.findings.beats s.findings.cells.items (refl, k.so_many))

pub found_in : {J T X : Type 0} (ways : Ways J T X) (s : Search J) (status : Status) (f : Findings) (lines : List (List ℕ))
    → EndsWith status s.over s.findings s.lines f
    → ((status ≡ Clean) → KnowsSearch ways s lines) → ((status ≡ Broken) → EndsSearch s lines)
    → FindsFor s.aim lines f.faults.items f.beats f.cells.items
found_in ways s Clean f lines is knows ends = rw (is.0, is.1, is.2) (all_found ways s lines (knows refl))
found_in ways s Broken f lines is knows ends = rw (is.0, is.1, is.2) (ends refl)
