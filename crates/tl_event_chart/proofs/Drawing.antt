-- The notes of the lines that have been drawn.
use Rattle.std.proofs.Common.{◌≡◌, ◌∙◌, ◌+◌, ◌++◌, ℕ, List, [], ◌∷◌, length, refl, sym, subst, ap, arith}
use Rattle.std.proofs.Common.{append_assoc, inl, inr, length-append}
use Rattle.std.proofs.lemmas.List.Elements.{All-append, All-cons, All-nil, All-weaker}
use Rattle.std.specs.Prelude.{IfOk, Option, Some, None, Result, Ok, Err}
use Rattle.tl_chart.specs.declared.note.Note.{Note}
use Rattle.tl_chart.specs.declared.window.Window.{Window}
use Rattle.tl_lines.specs.code.Judging.{Ends, Finishes, Judges, Stops}
use Rattle.tl_lines.specs.code.Progress.{HasAll}
use Rattle.tl_lines.specs.declared.fault.Fault.{Fault}
use Rattle.tl_lines.specs.declared.status.Status.{Status}
use Rattle.tl_lines.specs.declared.status.Status.TheVariants.{Clean, Broken}
use Rattle.tl_event_chart.proofs.Narrowing.{narrows-on}
use Rattle.tl_event_chart.specs.code.Drawing.{Draws, DrawsLine, EndsCharted, HasNotes, KnowsCharted, MayNote, Narrows}
use Rattle.tl_event_chart.specs.declared.canvas.Canvas.{Canvas}
use Rattle.tl_event_chart.specs.declared.lines.ChartedLines.{ChartedLines}
use Rattle.tl_event_chart.specs.statement.Noted.{AreNoted, IsNoted}
use Rattle.tl_wide_event_lines.specs.code.EventWatching.{KnowsAnyLines}

-- ---- notes

module _ (win : Window) where
  noted-among : (lines more : List (List ℕ)) (note : Note) → IsNoted win lines note → IsNoted win (lines ++ more) note
  noted-among lines more note n = record {
    before = n.before;
    line = n.line;
    more = n.more ++ more;
    are_lines = ap (λ (l : List (List ℕ)). l ++ more) n.are_lines ∙ append_assoc n.before (n.line ∷ n.more) more;
    number = n.number;
    of_line = n.of_line;
    within = n.within;
  }

  -- notes of lines are notes of these and others after them
  pub are-noted-among : (lines more : List (List ℕ)) (notes : List Note) → AreNoted win lines notes
      → AreNoted win (lines ++ more) notes
  are-noted-among lines more notes noted =
      All-weaker (IsNoted win lines) (IsNoted win (lines ++ more)) (noted-among lines more) notes noted

  -- with one more line, and perhaps a note of it
  noted-with : (lines : List (List ℕ)) (line : List ℕ) (number : ℕ) (old new : Canvas) → number ≡ length lines + 1
      → Narrows win old.gatherer.window → AreNoted win lines old.notes.items → MayNote old new number line
      → AreNoted win (lines ++ line ∷ []) new.notes.items
  noted-with lines line number old new next narrows noted (inl same) =
      subst (AreNoted win (lines ++ line ∷ [])) (sym same) (are-noted-among lines (line ∷ []) old.notes.items noted)
  noted-with lines line number old new next narrows noted (inr (note, added, at, within, of_line)) =
      subst (AreNoted win (lines ++ line ∷ [])) (sym added)
      (All-append (IsNoted win (lines ++ line ∷ [])) old.notes.items (note ∷ [])
      (are-noted-among lines (line ∷ []) old.notes.items noted)
      (All-cons (IsNoted win (lines ++ line ∷ [])) note [] (record {
        before = lines;
        line = line;
        more = [];
        are_lines = refl;
        number = at ∙ next;
        of_line = of_line;
        within = (omega (arith, narrows.first_is, within.0), omega (arith, narrows.last_is, within.1));
      }) (All-nil (IsNoted win (lines ++ line ∷ [])))))

  -- one more line is drawn
  pub drawn-with : (lines : List (List ℕ)) (line : List ℕ) (number : ℕ) (old new : Canvas) → number ≡ length lines + 1
      → HasNotes old win lines → Draws old new number line → HasNotes new win (lines ++ line ∷ [])
  drawn-with lines line number old new next has draws = record {
    window_is = narrows-on win old.gatherer.window new.gatherer.window has.window_is draws.window_is;
    noted = noted-with lines line number old new next has.window_is has.noted draws.notes_are;
  }

  pub drawn-among : (canvas : Canvas) (lines more : List (List ℕ)) → HasNotes canvas win lines
      → HasNotes canvas win (lines ++ more)
  drawn-among canvas lines more has = record {
    window_is = has.window_is;
    noted = are-noted-among lines more canvas.notes.items has.noted;
  }

-- ---- the handler

abbrev Tells : Type 1
Tells = List (List ℕ) → List ℕ → Status → Type 0

module _ (old new : ChartedLines) (line was is : List ℕ) (tells : Tells) where
  pub charted-judged : (fault : Option Fault) → Judges KnowsAnyLines tells old.lines new.lines line was is fault
      → DrawsLine old new line → Judges KnowsCharted tells old new line was is fault
  charted-judged None judges draws = λ lines before known. (judges lines before known.0, draws lines known.1)
  charted-judged (Some found) judges draws = λ lines before known more. judges lines before known.0 more

pub charted-ends : (old new : ChartedLines) (line : List ℕ) → DrawsLine old new line
    → Ends KnowsCharted EndsCharted old new line
charted-ends old new line draws = λ lines text known more.
    subst (HasNotes new.canvas new.window) (append_assoc lines (line ∷ []) more)
    (drawn-among new.window new.canvas (lines ++ line ∷ []) more (draws lines known.1).has)

pub charted-open : (h : ChartedLines) (line : List ℕ) → Ends KnowsCharted EndsCharted h h line
charted-open h line = λ lines text known more. drawn-among h.window h.canvas lines (line ∷ more) known.1.has

pub charted-stops : (h : ChartedLines) (line said : List ℕ) (tells : Tells) (found : Fault)
    → Stops KnowsAnyLines tells h.lines line said said found → Stops KnowsCharted tells h line said said found
charted-stops h line said tells found stops = λ lines before known more. stops lines before known.0 more

pub charted-finishes : (h : ChartedLines) (count : ℕ) (was is : List ℕ) (tells : Tells) (fault : Option Fault)
    → Finishes KnowsAnyLines tells h.lines count was is fault → Finishes KnowsCharted tells h count was is fault
charted-finishes h count was is tells None ends = λ lines before known counted. ends lines before known.0 counted
charted-finishes h count was is tells (Some found) ends = λ lines before known counted.
    ends lines before known.0 counted

-- what is known once reading has stopped
pub drawn-at-end : (h : ChartedLines) (lines : List (List ℕ)) (status : Status)
    → HasAll KnowsCharted EndsCharted h lines status → HasNotes h.canvas h.window lines
drawn-at-end h lines Clean (text, known) = known.1.has
drawn-at-end h lines Broken has = has

-- the next line is drawn
pub draws-line : (old new : ChartedLines) (line : List ℕ) → new.count ≡ old.count + 1 → new.window ≡ old.window
    → Draws old.canvas new.canvas new.count line → DrawsLine old new line
draws-line old new line next asked draws = λ lines known. record {
  counted = omega (arith, next, known.counted, length-append lines (line ∷ []));
  has = subst (λ (w : Window). HasNotes new.canvas w (lines ++ line ∷ [])) (sym asked)
      (drawn-with old.window lines line new.count old.canvas new.canvas (omega (arith, next, known.counted)) known.has
      draws);
}

-- nothing is noted
pub drawn-none : (canvas : Canvas) (win : Window) (lines : List (List ℕ)) → canvas.notes.items ≡ []
    → Narrows win canvas.gatherer.window → HasNotes canvas win lines
drawn-none canvas win lines none narrows = record {
  window_is = narrows;
  noted = subst (AreNoted win lines) (sym none) (All-nil (IsNoted win lines));
}

-- a result is so if it is so by two facts
pub if-both : {A E : Type 0} {P Q R : A → Type 0} (r : Result A E) → ((x : A) → P x → Q x → R x) → IfOk r P → IfOk r Q
    → IfOk r R
if-both (Ok x) f p q = f x p q
if-both (Err e) f p q = tt
