-- The first line that is found is that of the verdict.
use Rattle.std.proofs.Common.{◌≡◌, ◌≤◌, ℕ, suc, ◌+◌, Bool, true, false, List, [], ◌∷◌, length, refl, arith, inl, inr, ◌∙◌, ap, subst, sym}
use Rattle.std.proofs.lemmas.List.{length-map, length-reverse}
use Rattle.std.specs.Prelude.{zero, None, if◌then◌else◌, reverse}
use Rattle.tl_command.specs.declared.search.Aim.{Aim}
use Rattle.tl_params.specs.declared.level.Level.{Level}
use Rattle.tl_params.specs.declared.liberties.Liberties.{Liberties}
use Rattle.tl_params.specs.declared.width.Width.{Width}
use Rattle.tl_rules.specs.statement.Conformance.{Trace}
use Rattle.tl_lines.specs.statement.JudgedSo.{said_by}
use Rattle.tl_lines.specs.declared.fault.Fault.{Fault}
use Rattle.tl_lines.specs.statement.Judged.{IsAtFault as IsAtFaultBy, JudgedAfter, JudgedBy}
use Rattle.tl_lines.specs.statement.JudgedLinks.{faults_by}
use Rattle.tl_lines.specs.statement.LinksHeader.{NamesAllowed}
use Rattle.tl_commit_lines.proofs.AsBefore.{links-apart, wide-apart}
use Rattle.tl_commit_lines.specs.statement.JudgedEvents.{IsEventAtFault, JudgedEvents}
use Rattle.tl_commits.specs.statement.Events.{Events}
use Rattle.tl_report.specs.declared.findings.Finding.{Finding}
use Rattle.tl_report.specs.statement.Form.{EventTerms, Form, IsAtFault, Terms, events, first_fault_in, narrow, wide, wide_events}
use Rattle.tl_report.specs.statement.Found.{FindsAfter, FindsFor, event_terms_of, is_open, left_behind, most_of, terms_of}
use Rattle.tl_report.specs.statement.Said.{first_text, status_of}
use Rattle.tl_wide.specs.declared.width.WideWidth.{WideWidth}
use Rattle.tl_wide.specs.statement.Naming.{WideTrace}
use Rattle.tl_wide_lines.proofs.JudgedLines.{begin-more, begin-none}
use Rattle.tl_wide_lines.proofs.WideHeaders.{versions_apart}
use Rattle.tl_report.proofs.WideTaken.{newest-last, nothing-found}
use Rattle.tl_wide_event_lines.proofs.AsBefore.{links-apart as links-unmarked, marked-apart, wide-apart as wide-unmarked}
use Rattle.tl_wide_event_lines.specs.statement.JudgedWideEvents.{IsWideAtFault, JudgedAny, JudgedWideEvents}
use Rattle.tl_wide_events.specs.statement.Narrowed.{WideEvents}
use Rattle.tl_wide_lines.specs.statement.JudgedTrace.{BeginWith, JudgedWide}
use Rattle.tl_wide_lines.specs.statement.WideHeader.{NamesWide}

-- ---- narrow beats

at_fault_by : {w : ℕ} (terms : Terms) (t : Trace w) (line : List ℕ) (fault : Fault) → IsAtFault (narrow w terms) t line fault
    → IsAtFaultBy (faults_by terms.together) terms.levels terms.may t line fault
at_fault_by terms t line fault (inl bad) = inl bad
at_fault_by terms t line fault (inr (x, spells, bad)) = inr (x.0, x.1, spells, bad)

judged_after : {w : ℕ} (terms : Terms) (t : Trace w) (n most : ℕ) (lines : List (List ℕ))
    (found : List Finding) (beats : ℕ) (cells : List ℕ) → n ≡ length t + 2
    → FindsAfter (narrow w terms) t n (suc most) lines found beats cells
    → JudgedAfter (faults_by terms.together) (said_by terms.together) terms.levels terms.may t lines
    (first_text terms.together found beats) (status_of found)
unfolding JudgedAfter FindsAfter
judged_after {w} terms t n most [] found beats cells number is =
    rw (is.0, is.1.in_all ∙ length-map t (narrow w terms).cell) (refl, refl)
judged_after terms t n most (line ∷ lines) found beats cells number (inl (x, spells, good, is)) =
    inl (
      x.0,
      x.1,
      spells,
      good,
      judged_after terms (x ∷ t) (n + 1) most lines found beats cells (omega (arith, number)) is,
    )
judged_after terms t n most (line ∷ lines) found beats cells number (inr (fault, later, is, found_is, behind)) =
    inr (fault, at_fault_by terms t line fault is, rw (found_is, number) refl, rw found_is refl)

-- ---- wide beats

judged_wide : {w : ℕ} (terms : Terms) (all : List (List ℕ)) (t : WideTrace w) (n most : ℕ) (lines : List (List ℕ))
    (found : List Finding) (beats : ℕ) (cells : List ℕ) → n ≡ length t + 2 → first_fault_in terms t ≡ None
    → BeginWith (reverse t) all lines → FindsAfter (wide w terms) t n (suc most) lines found beats cells
    → JudgedWide w terms.together terms.may terms.levels all (first_text terms.together found beats) (status_of found)
unfolding FindsAfter
judged_wide {w} terms all t n most [] found beats cells number none begins is = record {
  trace = reverse t;
  rest = [];
  begins = begins;
  said =
      let so_many : beats ≡ length (reverse t) = is.1.in_all ∙ length-map t (wide w terms).cell ∙ sym (length-reverse t) in
      rw (none, is.0, so_many) (refl, refl);
}
judged_wide terms all t n most (line ∷ lines) found beats cells number none begins (inl (x, spells, good, is)) =
    judged_wide terms all (x ∷ t) (n + 1) most lines found beats cells (omega (arith, number)) good
    (subst (λ u. BeginWith u all lines) (sym (newest-last x t)) (begin-more (reverse t) x all line lines begins spells)) is
judged_wide terms all t n most (line ∷ lines) found beats cells number none begins
    (inr (fault, later, inl (of_line, bad, fault_is), found_is, behind)) = record {
      trace = reverse t;
      rest = line ∷ lines;
      begins = begins;
      said =
          let at : n ≡ length (reverse t) + 2 = number ∙ ap (λ m. m + 2) (sym (length-reverse t)) in
          rw (none, found_is, at, fault_is) (of_line, bad, refl, refl);
    }
judged_wide terms all t n most (line ∷ lines) found beats cells number none begins
    (inr (fault, later, inr (x, spells, bad), found_is, behind)) = record {
      trace = reverse (x ∷ t);
      rest = lines;
      begins = subst (λ u. BeginWith u all lines) (sym (newest-last x t))
          (begin-more (reverse t) x all line lines begins spells);
      said = rw (bad, found_is, number) (refl, refl);
    }

-- ---- beats and commits

event_at_fault : {w : ℕ} (terms : EventTerms) (e : Events w) (line : List ℕ) (fault : Fault)
    → IsAtFault (events w terms) e line fault → IsEventAtFault w terms.together terms.links terms.may e line fault
event_at_fault terms e line fault (inl bad) = inl bad
event_at_fault terms e line fault (inr (x, spells, bad)) = inr (x.0, x.1, spells, bad)

events_judged : {w : ℕ} (terms : EventTerms) (e : Events w) (n most : ℕ) (lines : List (List ℕ))
    (found : List Finding) (beats : ℕ) (cells : List ℕ) → n ≡ length e + 2
    → FindsAfter (events w terms) e n (suc most) lines found beats cells
    → JudgedEvents w terms.together terms.links terms.may e lines (first_text terms.together found beats)
    (status_of found)
unfolding JudgedEvents FindsAfter
events_judged {w} terms e n most [] found beats cells number is =
    rw (is.0, is.1.in_all ∙ length-map e (events w terms).cell) (refl, refl)
events_judged terms e n most (line ∷ lines) found beats cells number (inl (x, spells, good, is)) =
    inl (
      x.0,
      x.1,
      spells,
      good,
      events_judged terms (x ∷ e) (n + 1) most lines found beats cells (omega (arith, number)) is,
    )
events_judged terms e n most (line ∷ lines) found beats cells number (inr (fault, later, is, found_is, behind)) =
    inr (fault, event_at_fault terms e line fault is, rw (found_is, number) refl, rw found_is refl)

-- ---- wide beats and commits

wide_at_fault : {w : ℕ} (terms : EventTerms) (t : WideEvents w) (line : List ℕ) (fault : Fault)
    → IsAtFault (wide_events w terms) t line fault → IsWideAtFault w terms.together terms.links terms.may t line fault
wide_at_fault terms t line fault (inl bad) = inl bad
wide_at_fault terms t line fault (inr (x, spells, bad)) = inr (x.0, x.1, spells, bad)

wide_events_judged : {w : ℕ} (terms : EventTerms) (t : WideEvents w) (n most : ℕ) (lines : List (List ℕ))
    (found : List Finding) (beats : ℕ) (cells : List ℕ) → n ≡ length t + 2
    → FindsAfter (wide_events w terms) t n (suc most) lines found beats cells
    → JudgedWideEvents w terms.together terms.links terms.may t lines (first_text terms.together found beats)
    (status_of found)
unfolding JudgedWideEvents FindsAfter
wide_events_judged {w} terms t n most [] found beats cells number is =
    rw (is.0, is.1.in_all ∙ length-map t (wide_events w terms).cell) (refl, refl)
wide_events_judged terms t n most (line ∷ lines) found beats cells number (inl (x, spells, good, is)) =
    inl (
      x.0,
      x.1,
      spells,
      good,
      wide_events_judged terms (x ∷ t) (n + 1) most lines found beats cells (omega (arith, number)) is,
    )
wide_events_judged terms t n most (line ∷ lines) found beats cells number (inr (fault, later, is, found_is, behind)) =
    inr (fault, wide_at_fault terms t line fault is, rw (found_is, number) refl, rw found_is refl)

-- ---- a trace

-- a header of narrow beats is none of wide ones
apart : (allow : Liberties) (line : List ℕ) (width : Width) (may : Liberties) (levels : List Level)
    → NamesAllowed allow line width may levels → (wider : WideWidth) (own : Liberties) (others : List Level)
    → ¬ NamesWide allow line wider own others
apart allow line width may levels names wider own others wides =
    versions_apart line width wider names.0 wides.0 levels others names.1 wides.1

pub verdict_so : (aim : Aim) (lines : List (List ℕ)) (found : List Finding) (beats : ℕ) (cells : List ℕ)
    → FindsFor aim lines found beats cells
    → JudgedAny aim.together aim.allow lines (first_text aim.together found beats) (status_of found)
unfolding FindsFor JudgedBy
verdict_so aim [] found beats cells is = rw is.0 (refl, refl)
verdict_so aim (line ∷ lines) found beats cells (inl (width, may, levels, spells, is)) =
    inr (
      (λ other own links marked. wide-unmarked line width other spells.0 marked.0 levels links spells.1 marked.1),
      inr (
        (λ other own links marked. wide-apart line width other spells.0 marked.0 levels links spells.1 marked.1),
        inl (
          width,
          may,
          levels,
          spells,
          judged_wide (terms_of aim.together may levels) lines [] 2 aim.behind lines found
              beats cells refl (nothing-found _ (terms_of aim.together may levels)) (begin-none _ lines) is,
        ),
      ),
    )
verdict_so aim (line ∷ lines) found beats cells (inr (inl (width, may, levels, spells, is))) =
    inr (
      (λ other own links marked. links-unmarked line width other spells.0 marked.0 levels links spells.1 marked.1),
      inr (
        (λ other own links marked. links-apart line width other spells.0 marked.0 levels links spells.1 marked.1),
        inr (
          apart aim.allow line width may levels spells,
          inl (
            width,
            may,
            levels,
            spells,
            judged_after (terms_of aim.together may levels) [] 2 aim.behind lines found beats
                cells refl is,
          ),
        ),
      ),
    )
verdict_so aim (line ∷ lines) found beats cells (inr (inr (inl (width, may, links, spells, is)))) =
    inr (
      (λ other own others marked. marked-apart line width other spells.0 marked.0 links others spells.1 marked.1),
      inl (
        width,
        may,
        links,
        spells,
        events_judged (event_terms_of aim.together may links) [] 2 aim.behind lines found beats cells refl is,
      ),
    )
verdict_so aim (line ∷ lines) found beats cells (inr (inr (inr (inl (width, may, links, spells, is))))) =
    inl (
      width,
      may,
      links,
      spells,
      wide_events_judged (event_terms_of aim.together may links) [] 2 aim.behind lines found beats cells refl is,
    )
verdict_so aim (line ∷ lines) found beats cells (inr (inr (inr (inr (none, is))))) =
    inr (none.3, inr (none.2, inr (none.1, inr (none.0, rw is.0 refl, rw is.0 refl))))

-- ---- how many are found

few_behind : (line : List ℕ) (most : ℕ) → left_behind line most ≤ most
few_behind line most = go (is_open line)
  where
    go : (b : Bool) → (if b then 0 else most) ≤ most
    go true = omega arith
    go false = omega arith

at_most_after : {X : Type 0} (form : Form X) (t : List X) (n most : ℕ) (lines : List (List ℕ)) (found : List Finding)
    (beats : ℕ) (cells : List ℕ) → FindsAfter form t n most lines found beats cells → length found ≤ most
unfolding FindsAfter
at_most_after form t n zero lines found beats cells is = rw is.0 (omega arith)
at_most_after form t n (suc most) [] found beats cells is = rw is.0 (omega arith)
at_most_after form t n (suc most) (line ∷ lines) found beats cells (inl (x, spells, good, is)) =
    at_most_after form (x ∷ t) (n + 1) (suc most) lines found beats cells is
at_most_after form t n (suc most) (line ∷ lines) found beats cells (inr (fault, later, is, found_is, behind)) =
    let few = at_most_after form t (n + 1) (left_behind line most) lines later beats cells behind in
    rw found_is (omega (arith, few, few_behind line most))

pub at_most : (aim : Aim) (lines : List (List ℕ)) (found : List Finding) (beats : ℕ) (cells : List ℕ)
    → FindsFor aim lines found beats cells → length found ≤ most_of aim
unfolding FindsFor
at_most aim [] found beats cells is = rw is.0 (omega arith)
at_most aim (line ∷ lines) found beats cells (inl (width, may, levels, spells, is)) =
    at_most_after _ [] 2 (most_of aim) lines found beats cells is
at_most aim (line ∷ lines) found beats cells (inr (inl (width, may, levels, spells, is))) =
    at_most_after _ [] 2 (most_of aim) lines found beats cells is
at_most aim (line ∷ lines) found beats cells (inr (inr (inl (width, may, links, spells, is)))) =
    at_most_after _ [] 2 (most_of aim) lines found beats cells is
at_most aim (line ∷ lines) found beats cells (inr (inr (inr (inl (width, may, links, spells, is))))) =
    at_most_after _ [] 2 (most_of aim) lines found beats cells is
at_most aim (line ∷ lines) found beats cells (inr (inr (inr (inr (none, is))))) = rw is.0 (omega arith)
