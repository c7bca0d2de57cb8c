-- What a judge of wide beats has taken, beat by beat.
use Rattle.std.proofs.Common.{◌≡◌, ◌∙◌, ℕ, List, [], ◌∷◌, ◌++◌, length, refl, ap, sym, subst}
use Rattle.std.proofs.Common.{inl, inr}
use Rattle.std.proofs.lemmas.Grind.{reverse_onto}
use Rattle.std.proofs.lemmas.List.{length-reverse, reverse-reverse}
use Rattle.std.specs.Prelude.{false, true, Option, Some, None, reverse}
use mathlib.Core.List.{reverse_aux}
use Rattle.tl_beat.specs.declared.beat.Link.{Link}
use Rattle.tl_lines.specs.code.TraceJudging.{KnowsBeats}
use Rattle.tl_lines.specs.declared.fault.Fault.{Fault}
use Rattle.tl_lines.specs.declared.fault.Fault.TheVariants.{Beyond}
use Rattle.tl_wide.specs.declared.beat.WideBeat.{WideBeat}
use Rattle.tl_wide.specs.declared.parts.Parts.{Parts}
use Rattle.tl_wide.specs.statement.Naming.{WideTrace, is_beyond}
use Rattle.tl_wide.specs.statement.Narrowed.{beats_of, narrowed_from}
use Rattle.tl_wide.specs.statement.Narrowing.{Follows}
use Rattle.tl_wide.specs.statement.Pieces.{left_of}
use Rattle.tl_wide.specs.statement.Verdict.{joined}
use Rattle.tl_wide.specs.statement.Width.{part_width}
use Rattle.tl_wide_lines.proofs.FirstFaults.{next-bad, next-beats, next-beyond, next-taken, none-at-fault}
use Rattle.tl_wide_lines.proofs.PartsJudged.{all-taken}
use Rattle.tl_wide_lines.specs.code.FirstFault.{IsTaken, beats_taken, behind, fault_from, with_parts}
use Rattle.tl_wide_lines.specs.code.WideJudging.{JudgesWideBeat, KnowsNone}
use Rattle.tl_report.specs.code.Taking.{TakesItem}
use Rattle.tl_report.specs.code.WideJudging.{wide_takings}
use Rattle.tl_report.specs.code.WideTaking.{AnswersNext, KnowsTrace}
use Rattle.tl_report.specs.declared.wide.WideTaker.{WideTaker}
use Rattle.tl_report.specs.statement.Form.{Terms, first_fault_in}
use Rattle.tl_wide_lines.specs.declared.judge.WideJudge.{WideJudge}
use Rattle.tl_wide_lines.specs.statement.JudgedTrace.{first_fault_of}
use Rattle.tl_wide_lines.specs.statement.PartFaults.{part_fault, parts_taken}

-- a judge that has seen no beat has taken none
pub takes-none : (w p : ℕ) (terms : Terms) (judge : WideJudge p)
    → KnowsNone terms.together terms.levels terms.may judge → KnowsTrace {w = w} terms judge []
unfolding behind joined narrowed_from fault_from
takes-none w p terms judge (follows, known) = record {
  beats = λ q. [];
  are_beats = refl;
  follows = follows w;
  known = known;
  taken = record { complete = refl; good = refl };
}

-- ---- orders

behind-is : {A : Type 0} (xs ys : List A) → behind xs ys ≡ reverse_aux xs ys
unfolding behind
behind-is [] ys = refl
behind-is (x ∷ xs) ys = behind-is xs (x ∷ ys)

-- a trace turned round, and back
back : {A : Type 0} (t : List A) → behind (reverse t) [] ≡ t
back t = behind-is (reverse t) [] ∙ reverse-reverse t

-- in order, the newest is the last
pub newest-last : {A : Type 0} (x : A) (t : List A) → reverse (x ∷ t) ≡ reverse t ++ x ∷ []
newest-last x t = reverse_onto t x []

-- ---- the next beat

some-same : {A : Type 0} {x y : A} → Some x ≡ Some y → x ≡ y
some-same e = cc

module _ {w p : ℕ} (width : p ≡ part_width w) (terms : Terms)
    (old new : WideJudge p) (link : Link) (x : WideBeat w) (t : WideTrace w)
    (k : KnowsTrace terms old t) where
  -- what is so behind the trace in order is so behind the trace
  in-order : (P : WideTrace w → Type 0) → P t → P (behind (reverse t) [])
  in-order P is = subst P (sym (back t)) is

  -- the first fault of the trace with the beat
  with-it : (found : Option (ℕ × Fault))
      → first_fault_of terms.together terms.may terms.levels (reverse t ++ (link, x) ∷ []) ≡ found
      → first_fault_of terms.together terms.may terms.levels (reverse ((link, x) ∷ t)) ≡ found
  with-it found is = ap (first_fault_of terms.together terms.may terms.levels) (newest-last (link, x) t) ∙ is

  at-it : (fault : Fault)
      → first_fault_of terms.together terms.may terms.levels (reverse t ++ (link, x) ∷ []) ≡ Some (length (reverse t), fault)
      → first_fault_of terms.together terms.may terms.levels (reverse ((link, x) ∷ t)) ≡ Some (length t, fault)
  at-it fault is = with-it (Some (length t, fault)) (is ∙ ap (λ n. Some (n, fault)) (length-reverse t))

  -- the parts of the beat, as parts of any width
  module _ (parts : Parts) (within : is_beyond link ((link, x) ∷ t) ≡ false)
      (same : left_of {p = part_width w} x parts ≡ beats_of link x ((link, x) ∷ t)) where
    fault-is : (answer : Option Fault)
        → part_fault terms.together terms.levels terms.may link (left_of {p = p} x parts) (k.beats p) ≡ answer
        → part_fault terms.together terms.levels terms.may link (beats_of link x ((link, x) ∷ t)) (beats_taken (reverse t)) ≡ answer
    fault-is answer is =
        rw (same, k.are_beats) at
        (subst (λ q. part_fault terms.together terms.levels terms.may link (left_of {p = q} x parts) (k.beats q) ≡ answer) width is)

    within-order : is_beyond link ((link, x) ∷ behind (reverse t) []) ≡ false
    within-order = in-order (λ u. is_beyond link ((link, x) ∷ u) ≡ false) within

    fault-order : (answer : Option Fault)
        → part_fault terms.together terms.levels terms.may link (left_of {p = p} x parts) (k.beats p) ≡ answer
        → part_fault terms.together terms.levels terms.may link (beats_of link x ((link, x) ∷ behind (reverse t) []))
        (beats_taken (reverse t)) ≡ answer
    fault-order answer is =
        in-order (λ u. part_fault terms.together terms.levels terms.may link (beats_of link x ((link, x) ∷ u)) (beats_taken (reverse t))
        ≡ answer) (fault-is answer is)

    takes-it : part_fault terms.together terms.levels terms.may link (left_of {p = p} x parts) (k.beats p) ≡ None
        → KnowsBeats terms.together new.judge terms.levels terms.may
        (parts_taken terms.together terms.levels terms.may link (left_of {p = p} x parts) (k.beats p))
        → Follows new.narrower ((link, x) ∷ t) → KnowsTrace terms new ((link, x) ∷ t)
    takes-it good known follows = record {
      beats = λ q. with_parts link (left_of {p = q} x parts) (k.beats q);
      are_beats = beats-are;
      follows = follows;
      known = subst (λ u. KnowsBeats terms.together new.judge terms.levels terms.may u)
          (all-taken terms.together terms.levels terms.may link (left_of {p = p} x parts) (k.beats p) good) known;
      taken = subst (λ u. IsTaken terms.together terms.may terms.levels u) (sym (newest-last (link, x) t))
          (next-taken terms.together terms.may terms.levels (reverse t) k.taken (link, x) within-order (fault-order None good));
    }
      where
        parts-are : beats_of link x ((link, x) ∷ behind (reverse t) []) ≡ left_of {p = part_width w} x parts
        parts-are = in-order (λ u. beats_of link x ((link, x) ∷ u) ≡ left_of {p = part_width w} x parts) (sym same)

        beats-are : with_parts link (left_of {p = part_width w} x parts) (k.beats (part_width w))
            ≡ beats_taken (reverse ((link, x) ∷ t))
        beats-are =
            sym (ap (λ u. beats_taken u) (newest-last (link, x) t)
            ∙ next-beats (reverse t) k.taken.complete (link, x) within-order
            ∙ ap (λ l. with_parts link l (beats_taken (reverse t))) parts-are
            ∙ ap (λ u. with_parts link (left_of {p = part_width w} x parts) u) (sym k.are_beats))

  -- what a judge answers of the next beat
  pub next-answered : (answer : Option Fault) → JudgesWideBeat old new link x answer
      → AnswersNext terms new t (link, x) answer
  next-answered None (inl (parts, judged, narrowed)) =
      let (within, same, follows) = narrowed t k.follows in
      let (good, known) = judged terms.together terms.levels terms.may (k.beats p) k.known in
      takes-it parts within same good known follows
  next-answered (Some fault) (inl (parts, judged, narrowed)) =
      let (within, same, follows) = narrowed t k.follows in
      let (bad, known) = judged terms.together terms.levels terms.may (k.beats p) k.known in
      at-it fault (next-bad terms.together terms.may terms.levels (reverse t) k.taken (link, x) (within-order parts within same) fault
      (fault-order parts within same (Some fault) bad))
  next-answered None (inr (is, kept, past)) = absurd cc
  next-answered (Some fault) (inr (is, kept, past)) =
      let beyond = in-order (λ u. is_beyond link ((link, x) ∷ u) ≡ true) (past t k.follows).0 in
      subst (λ f. first_fault_in terms ((link, x) ∷ t) ≡ Some (length t, f)) (sym (some-same is))
      (at-it Beyond (next-beyond terms.together terms.may terms.levels (reverse t) k.taken (link, x) beyond))

-- a trace that was taken has no fault
pub none-found : {w p : ℕ} (terms : Terms) (judge : WideJudge p)
    (t : WideTrace w) → KnowsTrace terms judge t
    → first_fault_of terms.together terms.may terms.levels (reverse t) ≡ None
none-found terms judge t k = none-at-fault terms.together terms.may terms.levels (reverse t) k.taken

-- an empty trace has no fault
pub nothing-found : (w : ℕ) (terms : Terms)
    → first_fault_of {w = w} terms.together terms.may terms.levels (reverse []) ≡ None
unfolding joined narrowed_from fault_from
nothing-found w terms = none-at-fault terms.together terms.may terms.levels [] (record { complete = refl; good = refl })

-- ---- the answer to the next beat

-- a judge takes the next beat if it isn't at fault
pub takes-beat : {w p : ℕ} → p ≡ part_width w → (old new : WideTaker w p) (x : Link × WideBeat w) (answer : Option Fault)
    → JudgesWideBeat old.judge new.judge x.0 x.1 answer → TakesItem (wide_takings w p) old new x answer
takes-beat width old new x None judged = λ terms t k.
    let next = next-answered width terms old.judge new.judge x.0 x.1 t k None judged in
    (none-found terms new.judge (x ∷ t) next, next)
takes-beat width old new x (Some fault) judged = λ terms t k.
    next-answered width terms old.judge new.judge x.0 x.1 t k (Some fault) judged
