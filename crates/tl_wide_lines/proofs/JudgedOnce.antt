-- A trace has one verdict.
use Rattle.std.proofs.Common.{◌≡◌, ◌∙◌, ◌≤◌, ◌<◌, ◌+◌, ◌-◌, ℕ, suc, Bool, true, false}
use Rattle.std.proofs.Common.{List, [], ◌∷◌, ◌++◌, length, refl, ap, sym, subst}
use Rattle.std.proofs.Common.{arith, append_assoc, length-append, inl, inr}
use Rattle.std.proofs.lemmas.Bool.{le-ltb, lt-ltb, ltb-false}
use Rattle.std.proofs.lemmas.List.{append-nil}
use Rattle.std.specs.Prelude.{◌⊎◌, if◌then◌else◌, nat_lt, Option, Some, None, Result, Ok, Err}
use Rattle.std.specs.Result.{result_err}
use Rattle.tl_beat.specs.declared.beat.Link.{Link}
use Rattle.tl_beat.specs.declared.fault.LineFault.{LineFault}
use Rattle.tl_lines.specs.declared.fault.Fault.{Fault}
use Rattle.tl_lines.specs.declared.fault.Fault.TheVariants as fault
use Rattle.tl_lines.specs.declared.status.Status.{Status}
use Rattle.tl_lines.specs.statement.Fault.{fault_text}
use Rattle.tl_lines.specs.statement.JudgedLinks.{faults_by}
use Rattle.tl_params.specs.declared.level.Level.{Level}
use Rattle.tl_params.specs.declared.liberties.Liberties.{Liberties}
use Rattle.tl_rules.specs.statement.Conformance.{Trace}
use Rattle.tl_wide.proofs.Faults.{reading-fault}
use Rattle.tl_wide.proofs.SpelledLines.{reading-spelled}
use Rattle.tl_wide.specs.code.Reading.{reading}
use Rattle.tl_wide.specs.declared.beat.WideBeat.{WideBeat}
use Rattle.tl_wide.specs.statement.Line.{WideSpells, wide_line_fault}
use Rattle.tl_wide.specs.statement.Naming.{WideTrace, is_beyond}
use Rattle.tl_wide.specs.statement.Narrowed.{beats_of, narrowed, narrowed_from, on_one_link}
use Rattle.tl_wide.specs.statement.Verdict.{joined, owner}
use Rattle.tl_wide.specs.statement.Width.{IsWideWidth, part_width}
use Rattle.tl_wide_lines.proofs.FirstFaults.{beat_at_fault, first-is}
use Rattle.tl_wide_lines.specs.code.FirstFault.{fault_from, fault_here}
use Rattle.tl_wide_lines.specs.statement.JudgedTrace.{BeginWith, JudgedWide, SaidOf, first_fault_of}

-- the place of a fault, 0 if there is none
abbrev place_of : Option (ℕ × Fault) → ℕ
place_of None = 0
place_of (Some x) = x.0

-- ---- a longer trace

-- a longer trace becomes more, if all of it became beats, or else the same
abbrev Grown : {w : ℕ} → WideTrace w → WideTrace w → WideTrace w → Type 0
Grown {w} before trace more =
    (extra : List (Trace (part_width w)))
    × (narrowed_from before (trace ++ more) ≡ narrowed_from before trace ++ extra)
    × ((length (narrowed_from before trace) ≡ length trace)
    ⊎ ((extra ≡ []) × (length (narrowed_from before trace) < length trace)))

grows : {w : ℕ} (before trace more : WideTrace w) → Grown before trace more
unfolding narrowed_from
grows before [] more = (narrowed_from before more, refl, inl refl)
grows {w} before (x ∷ trace) more = go (is_beyond x.0 (x ∷ before)) refl (grows (x ∷ before) trace more)
  where
    go : (b : Bool) → is_beyond x.0 (x ∷ before) ≡ b → Grown (x ∷ before) trace more → Grown before (x ∷ trace) more
    go true is rest = rw is ([], refl, inr (refl, omega arith))
    go false is (extra, same, inl all) =
        rw is (extra, ap (λ l. on_one_link x.0 (beats_of x.0 x.1 (x ∷ before)) ∷ l) same, inl (ap suc all))
    go false is (extra, same, inr (none, less)) =
        rw is (
          extra,
          ap (λ l. on_one_link x.0 (beats_of x.0 x.1 (x ∷ before)) ∷ l) same,
          inr (none, omega (arith, less)),
        )

joined-all : {p : ℕ} (parts more : List (Trace p)) → joined (parts ++ more) ≡ joined parts ++ joined more
unfolding joined
joined-all [] more = refl
joined-all (first ∷ parts) more =
    ap (λ rest. first ++ rest) (joined-all parts more) ∙ sym (append_assoc first (joined parts) (joined more))

owner-kept : {p : ℕ} (parts more : List (Trace p)) (i : ℕ) → i < length (joined parts)
    → owner (parts ++ more) i ≡ owner parts i
unfolding owner joined
owner-kept [] more i within = absurd (omega (arith, within))
owner-kept (first ∷ parts) more i within = go (nat_lt i (length first)) refl (owner-kept parts more (i - length first))
  where
    go : (b : Bool) → nat_lt i (length first) ≡ b
        → (i - length first < length (joined parts) → owner (parts ++ more) (i - length first) ≡ owner parts
        (i - length first))
        → (if b then 0 else suc (owner (parts ++ more) (i - length first)))
        ≡ (if b then 0 else suc (owner parts (i - length first)))
    go true is rest = refl
    go false is rest =
        let all : length (joined (first ∷ parts)) ≡ length first + length (joined parts) =
        length-append first (joined parts) in
        let past : length first ≤ i = ltb-false i (length first) is in
        ap suc (rest (omega (arith, within, all, past)))

module _ {p : ℕ} (together : Bool) (levels : List Level) (may : Liberties) where
  -- a fault is that of the longer trace, and one of its own beats
  fault-kept : (before trace more : Trace p) (i : ℕ) (found : Fault)
      → fault_from together levels may before trace ≡ Some (i, found)
      → (fault_from together levels may before (trace ++ more) ≡ Some (i, found)) × (i < length before + length trace)
  unfolding fault_from
  fault-kept before [] more i found bad = absurd cc
  fault-kept before (x ∷ trace) more i found bad =
      go (faults_by together p levels may x before) (fault-kept (x ∷ before) trace more i found) bad
    where
      go : (o : Option Fault)
          → (fault_from together levels may (x ∷ before) trace ≡ Some (i, found)
          → (fault_from together levels may (x ∷ before) (trace ++ more) ≡ Some (i, found))
          × (i < suc (length before) + length trace))
          → fault_here o (length before) (fault_from together levels may (x ∷ before) trace) ≡ Some (i, found)
          → (fault_here o (length before) (fault_from together levels may (x ∷ before) (trace ++ more)) ≡ Some
          (i, found))
          × (i < length before + suc (length trace))
      go None after rest = let (same, within) = after rest in (same, omega (arith, within))
      go (Some other) after rest =
          let at : length before ≡ i = ap (λ (o : Option (ℕ × Fault)). place_of o) rest in
          (rest, omega (arith, at))

module _ {w : ℕ} (together : Bool) (may : Liberties) (levels : List Level) (trace more : WideTrace w) (x : ℕ × Fault)
  where
    -- the first fault of a longer trace, by that of what its beats become
    abbrev Longer : Type 0
    Longer =
        beat_at_fault (narrowed (trace ++ more)) (length (trace ++ more))
        (fault_from together levels may [] (joined (narrowed (trace ++ more)))) ≡ Some x

    first-of-part : (extra : List (Trace (part_width w))) → narrowed (trace ++ more) ≡ narrowed trace ++ extra → (i : ℕ)
        → (found : Fault) → fault_from together levels may [] (joined (narrowed trace)) ≡ Some (i, found)
        → beat_at_fault (narrowed trace) (length trace) (Some (i, found)) ≡ Some x → Longer
    first-of-part extra same i found is e =
        let joins = ap joined same ∙ joined-all (narrowed trace) extra in
        let (kept, within) = fault-kept together levels may [] (joined (narrowed trace)) (joined extra) i found is in
        ap (beat_at_fault (narrowed (trace ++ more)) (length (trace ++ more)))
        (ap (fault_from together levels may []) joins ∙ kept)
        ∙ ap (λ place. Some (place, found))
        (ap (λ parts. owner parts i) same ∙ owner-kept (narrowed trace) extra i (omega (arith, within))) ∙ e

    first-beyond : (extra : List (Trace (part_width w))) → narrowed (trace ++ more) ≡ narrowed trace ++ extra
        → extra ≡ []
        → length (narrowed trace) < length trace
        → fault_from together levels may [] (joined (narrowed trace)) ≡ None
        → beat_at_fault (narrowed trace) (length trace) None ≡ Some x → Longer
    first-beyond extra same none less is e =
        let whole : narrowed (trace ++ more) ≡ narrowed trace =
        same ∙ ap (λ l. narrowed trace ++ l) none ∙ append-nil (narrowed trace) in
        let longer = length-append trace more in
        let before = lt-ltb (length (narrowed trace)) (length trace) less in
        let after = lt-ltb (length (narrowed trace)) (length (trace ++ more)) (omega (arith, less, longer)) in
        let e_is : Some (length (narrowed trace), fault.Beyond) ≡ Some x = rw before at e in
        ap (λ parts. beat_at_fault parts (length (trace ++ more)) (fault_from together levels may [] (joined parts)))
        whole
        ∙ ap (beat_at_fault (narrowed trace) (length (trace ++ more))) is ∙ rw after e_is

    -- so the first fault of a trace is that of each longer one
    first-kept : first_fault_of together may levels trace ≡ Some x
        → first_fault_of together may levels (trace ++ more) ≡ Some x
    first-kept e =
        first-is together may levels (trace ++ more)
        ∙ go (grows [] trace more) (fault_from together levels may [] (joined (narrowed trace))) refl
        (sym (first-is together may levels trace) ∙ e)
      where
        go : Grown [] trace more → (o : Option (ℕ × Fault))
            → fault_from together levels may [] (joined (narrowed trace)) ≡ o
            → beat_at_fault (narrowed trace) (length trace)
            (fault_from together levels may [] (joined (narrowed trace)))
            ≡ Some x → Longer
        go (extra, same, ends) (Some (i, found)) is f =
            first-of-part extra same i found is (ap (beat_at_fault (narrowed trace) (length trace)) (sym is) ∙ f)
        go (extra, same, inr (none, less)) None is f =
            first-beyond extra same none less is (ap (beat_at_fault (narrowed trace) (length trace)) (sym is) ∙ f)
        go (extra, same, inl all) None is f =
            let never = le-ltb (length (narrowed trace)) (length trace) (omega (arith, all)) in
            let none : beat_at_fault (narrowed trace) (length trace) None ≡ Some x =
            ap (beat_at_fault (narrowed trace) (length trace)) (sym is) ∙ f in
            let no : None ≡ Some x = rw never at none in
            absurd cc

-- ---- lines

ok-same : {A : Type 0} {x y : A} (r : Result A LineFault) → r ≡ Ok x → r ≡ Ok y → x ≡ y
ok-same (Ok z) one two = cc
ok-same (Err e) one two = absurd cc

module _ (w : ℕ) (wide : IsWideWidth w) where
  -- a line spells one beat, and then it has no fault
  spelled-once : (line : List ℕ) (x y : Link × WideBeat w) → WideSpells line x.0 x.1 → WideSpells line y.0 y.1 → x ≡ y
  spelled-once line x y one two =
      ok-same (reading w line) (reading-spelled line x.0 x.1 wide one) (reading-spelled line y.0 y.1 wide two)

  spelled-good : (line : List ℕ) (x : Link × WideBeat w) (of_line : LineFault) → WideSpells line x.0 x.1
      → wide_line_fault w line ≡ Some of_line → ⊥
  spelled-good line x of_line spells bad =
      let no : None ≡ Some of_line =
      sym (ap (λ r. result_err r) (reading-spelled line x.0 x.1 wide spells)) ∙ reading-fault w line ∙ bad in
      absurd cc

-- two traces with which lines begin: one is the front of the other
abbrev Fronts : {w : ℕ} → WideTrace w → WideTrace w → List (List ℕ) → List (List ℕ) → Type 0
Fronts {w} one two rest other =
    ((more : WideTrace w) × (two ≡ one ++ more) × BeginWith more rest other)
    ⊎ ((more : WideTrace w) × (one ≡ two ++ more) × BeginWith more other rest)

fronts-of : (w : ℕ) → IsWideWidth w → (one two : WideTrace w) (lines rest other : List (List ℕ))
    → BeginWith one lines rest → BeginWith two lines other → Fronts one two rest other
unfolding BeginWith
fronts-of w wide [] two lines rest other first second =
    inl (two, refl, subst (λ l. BeginWith two l other) first second)
fronts-of w wide (x ∷ one) [] lines rest other first second =
    inr (x ∷ one, refl, subst (λ l. BeginWith (x ∷ one) l rest) second first)
fronts-of w wide (x ∷ one) (y ∷ two) [] rest other first second = absurd first
fronts-of w wide (x ∷ one) (y ∷ two) (line ∷ lines) rest other first second =
    go (spelled-once w wide line x y first.0 second.0) (fronts-of w wide one two lines rest other first.1 second.1)
  where
    go : x ≡ y → Fronts one two rest other → Fronts (x ∷ one) (y ∷ two) rest other
    go same (inl (more, is, begins)) =
        inl (more, ap (λ t. y ∷ t) is ∙ ap (λ z. z ∷ (one ++ more)) (sym same), begins)
    go same (inr (more, is, begins)) =
        inr (more, ap (λ t. x ∷ t) is ∙ ap (λ z. z ∷ (two ++ more)) same, begins)

-- ---- verdicts

some-same : {A : Type 0} {x y : A} → Some x ≡ Some y → x ≡ y
some-same e = cc

module _ (w : ℕ) (wide : IsWideWidth w) (together : Bool) where
  -- a text and a status that are these are those
  abbrev Alike : List ℕ → Status → List ℕ → Status → Type 0
  Alike text status other another = (text ≡ other) × (status ≡ another)

  said-once : (count : ℕ) (o : Option (ℕ × Fault)) (rest : List (List ℕ)) (text : List ℕ) (status : Status)
      (other : List ℕ) (another : Status) → SaidOf w together count o rest text status
      → SaidOf w together count o rest other another → Alike text status other another
  said-once count (Some found) rest text status other another a b = (a.0 ∙ sym b.0, a.1 ∙ sym b.1)
  said-once count None [] text status other another a b = (a.0 ∙ sym b.0, a.1 ∙ sym b.1)
  said-once count None (line ∷ rest) text status other another (f, is, a, c) (g, of, b, d) =
      let same : f ≡ g = some-same (sym is ∙ of) in
      (a ∙ ap (λ (h : LineFault). fault_text (count + 2) (fault.Line h)) same ∙ sym b, c ∙ sym d)

  module _ (may : Liberties) (levels : List Level) (trace : WideTrace w) where
    said-on : (more : WideTrace w) (rest left : List (List ℕ)) (text : List ℕ) (status : Status) (other : List ℕ)
        (another : Status) → BeginWith more rest left
        → SaidOf w together (length trace) (first_fault_of together may levels trace) rest text status
        → SaidOf w together (length (trace ++ more)) (first_fault_of together may levels (trace ++ more)) left other
        another
        → Alike text status other another
    unfolding BeginWith
    said-on more rest left text status other another begins a b =
        go (first_fault_of together may levels trace) refl a
      where
        none : (more : WideTrace w) (rest : List (List ℕ)) → BeginWith more rest left
            → SaidOf w together (length trace) (first_fault_of together may levels trace) rest text status
            → first_fault_of together may levels trace ≡ None
            → SaidOf w together (length (trace ++ more)) (first_fault_of together may levels (trace ++ more)) left other
            another
            → Alike text status other another
        none [] rest begins a is b =
            said-once (length trace) (first_fault_of together may levels trace) left text status other another
            (subst (λ l. SaidOf w together (length trace) (first_fault_of together may levels trace) l text status)
            begins a)
            (subst (λ t. SaidOf w together (length t) (first_fault_of together may levels t) left other another)
            (append-nil trace) b)
        none (y ∷ more) [] begins a is b = absurd begins
        none (y ∷ more) (line ∷ rest) begins a is b =
            let said : SaidOf w together (length trace) None (line ∷ rest) text status = rw is at a in
            absurd (spelled-good w wide line y said.0 begins.0 said.1)

        go : (o : Option (ℕ × Fault)) → first_fault_of together may levels trace ≡ o
            → SaidOf w together (length trace) (first_fault_of together may levels trace) rest text status
            → Alike text status other another
        go (Some x) is c =
            let said : SaidOf w together (length trace) (Some x) rest text status = rw is at c in
            let also : SaidOf w together (length (trace ++ more)) (Some x) left other another =
            rw (first-kept together may levels trace more x is) at b in
            (said.0 ∙ sym also.0, said.1 ∙ sym also.1)
        go None is c = none more rest begins c is b

pub wide-once : (w : ℕ) → IsWideWidth w → (together : Bool) (may : Liberties) (levels : List Level)
    (lines : List (List ℕ)) (text : List ℕ) (status : Status) (other : List ℕ) (another : Status)
    → JudgedWide w together may levels lines text status → JudgedWide w together may levels lines other another
    → (text ≡ other) × (status ≡ another)
wide-once w wide together may levels lines text status other another j k =
    go (fronts-of w wide j.trace k.trace lines j.rest k.rest j.begins k.begins)
  where
    go : Fronts j.trace k.trace j.rest k.rest → (text ≡ other) × (status ≡ another)
    go (inl (more, is, begins)) =
        said-on w wide together may levels j.trace more j.rest k.rest text status other another begins j.said
        (subst (λ t. SaidOf w together (length t) (first_fault_of together may levels t) k.rest other another) is
        k.said)
    go (inr (more, is, begins)) =
        let same = said-on w wide together may levels k.trace more k.rest j.rest other another text status begins k.said
        (subst (λ t. SaidOf w together (length t) (first_fault_of together may levels t) j.rest text status) is j.said)
        in
        (sym same.0, sym same.1)
