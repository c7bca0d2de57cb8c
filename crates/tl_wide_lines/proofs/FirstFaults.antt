-- The first fault of a wide trace with one more beat.
use Rattle.std.proofs.Common.{◌≡◌, ◌∙◌, ◌≤◌, ◌<◌, ◌+◌, ◌-◌, ℕ, suc, Bool, true}
use Rattle.std.proofs.Common.{false, List, [], ◌∷◌, ◌++◌, length, refl, ap, sym}
use Rattle.std.proofs.Common.{arith, append_assoc, length-append}
use Rattle.std.proofs.lemmas.Bool.{le-ltb, lt-ltb}
use Rattle.std.proofs.lemmas.List.{append-nil, length-map}
use Rattle.std.specs.Prelude.{if◌then◌else◌, nat_lt, option_map, Option, Some, None}
use Rattle.tl_beat.specs.declared.beat.Beat.{Beat}
use Rattle.tl_beat.specs.declared.beat.Link.{Link}
use Rattle.tl_lines.specs.declared.fault.Fault.{Fault}
use Rattle.tl_lines.specs.declared.fault.Fault.TheVariants as fault
use Rattle.tl_lines.specs.statement.Coherent.{fault_of_breach}
use Rattle.tl_lines.specs.statement.JudgedLinks.{faults_by}
use Rattle.tl_params.specs.declared.level.Level.{Level}
use Rattle.tl_params.specs.declared.liberties.Liberties.{Liberties}
use Rattle.tl_params.specs.declared.rule.Rule.{Rule}
use Rattle.tl_rules.specs.statement.Conformance.{Trace, fault_or}
use Rattle.tl_rules.specs.statement.Liberties.{broken_on_link_under, fault_from_under}
use Rattle.tl_together.specs.declared.breach.Breach.{Breach}
use Rattle.tl_together.specs.statement.Coherence.{breach_from, breach_or, broken_together}
use Rattle.tl_wide.specs.declared.beat.WideBeat.{WideBeat}
use Rattle.tl_wide.specs.statement.Naming.{WideTrace, is_beyond}
use Rattle.tl_wide.specs.statement.Narrowed.{beats_of, narrowed, narrowed_from, on_one_link}
use Rattle.tl_wide.specs.statement.Verdict.{Beyond, fault_of_parts, joined, owner}
use Rattle.tl_wide.specs.statement.Width.{part_width}
use Rattle.tl_wide_lines.specs.code.FirstFault.{IsTaken, beats_taken, behind, fault_from, fault_here, with_parts}
use Rattle.tl_wide_lines.specs.statement.PartFaults.{or_fault, part_fault}
use Rattle.tl_wide_lines.specs.statement.JudgedTrace.{first_fault_of, wide_fault_at}

-- ---- the first fault, by what beats are at fault for

-- a fault of a place, with another name
abbrev named_so : {R : Type 0} → (R → Fault) → Option (ℕ × R) → Option (ℕ × Fault)
named_so shown found = option_map (λ x. (x.0, shown x.1)) found

module _ {p : ℕ} (may : Liberties) (levels : List Level) where
  links-from : (before trace : Trace p)
      → fault_from false levels may before trace ≡ named_so fault.Rule (fault_from_under may levels before trace)
  unfolding fault_from fault_from_under
  links-from before [] = refl
  links-from before (x ∷ trace) = go (broken_on_link_under may levels x before) (links-from (x ∷ before) trace)
    where
      go : (o : Option Rule)
          → fault_from false levels may (x ∷ before) trace ≡ named_so fault.Rule
          (fault_from_under may levels (x ∷ before) trace)
          → fault_here (option_map fault.Rule o) (length before) (fault_from false levels may (x ∷ before) trace)
          ≡ named_so fault.Rule (fault_or o (length before) (fault_from_under may levels (x ∷ before) trace))
      go None same = same
      go (Some rule) same = refl

  breaches-from : (before trace : Trace p)
      → fault_from true levels may before trace ≡ named_so fault_of_breach (breach_from levels may before trace)
  unfolding fault_from breach_from
  breaches-from before [] = refl
  breaches-from before (x ∷ trace) = go (broken_together levels may x before) (breaches-from (x ∷ before) trace)
    where
      go : (o : Option Breach)
          → fault_from true levels may (x ∷ before) trace ≡ named_so fault_of_breach
          (breach_from levels may (x ∷ before) trace)
          → fault_here (option_map fault_of_breach o) (length before) (fault_from true levels may (x ∷ before) trace)
          ≡ named_so fault_of_breach (breach_or o (length before) (breach_from levels may (x ∷ before) trace))
      go None same = same
      go (Some rule) same = refl

-- the wide beat of a fault of the parts joined
abbrev pub beat_at_fault : {p : ℕ} → List (Trace p) → ℕ → Option (ℕ × Fault) → Option (ℕ × Fault)
beat_at_fault parts count found = wide_fault_at (λ (x : Fault). x) (fault_of_parts parts count found)

named-later : {p : ℕ} {R : Type 0} (shown : R → Fault) (parts : List (Trace p)) (count : ℕ) (found : Option (ℕ × R))
    → wide_fault_at shown (fault_of_parts parts count found) ≡ beat_at_fault parts count (named_so shown found)
named-later shown parts count (Some x) = refl
named-later shown parts count None = go (nat_lt (length parts) count)
  where
    go : (b : Bool) → wide_fault_at shown (if b then Some (length parts, Beyond) else None)
        ≡ wide_fault_at (λ (x : Fault). x) (if b then Some (length parts, Beyond) else None)
    go true = refl
    go false = refl

-- the first fault of a wide trace is that of what its beats become
pub first-is : {w : ℕ} (together : Bool) (may : Liberties) (levels : List Level) (trace : WideTrace w)
    → first_fault_of together may levels trace
    ≡ beat_at_fault (narrowed trace) (length trace) (fault_from together levels may [] (joined (narrowed trace)))
first-is false may levels trace =
    named-later fault.Rule (narrowed trace) (length trace) (fault_from_under may levels [] (joined (narrowed trace)))
    ∙ ap (beat_at_fault (narrowed trace) (length trace)) (sym (links-from may levels [] (joined (narrowed trace))))
first-is true may levels trace =
    named-later fault_of_breach (narrowed trace) (length trace) (breach_from levels may [] (joined (narrowed trace)))
    ∙ ap (beat_at_fault (narrowed trace) (length trace)) (sym (breaches-from may levels [] (joined (narrowed trace))))

-- ---- what one more beat becomes

behind-more : {A : Type 0} (xs ys before : List A) → behind (xs ++ ys) before ≡ behind ys (behind xs before)
unfolding behind
behind-more [] ys before = refl
behind-more (x ∷ xs) ys before = behind-more xs ys (x ∷ before)

-- one more is the newest
pub behind-last : {A : Type 0} (xs : List A) (x : A) → behind (xs ++ x ∷ []) [] ≡ x ∷ behind xs []
unfolding behind
behind-last xs x = behind-more xs (x ∷ []) []

pub behind-length : {A : Type 0} (xs before : List A) → length (behind xs before) ≡ length xs + length before
unfolding behind
behind-length [] before = omega arith
behind-length (x ∷ xs) before = let more = behind-length xs (x ∷ before) in omega (arith, more)

narrowed-more : {w : ℕ} (before trace : WideTrace w) (x : Link × WideBeat w)
    → length (narrowed_from before trace) ≡ length trace
    → narrowed_from before (trace ++ x ∷ []) ≡ narrowed_from before trace ++ narrowed_from (behind trace before)
    (x ∷ [])
unfolding narrowed_from behind
narrowed-more before [] x complete = refl
narrowed-more before (y ∷ trace) x complete =
    go (is_beyond y.0 (y ∷ before)) (narrowed-more (y ∷ before) trace x) complete
  where
    go : (b : Bool)
        → (length (narrowed_from (y ∷ before) trace) ≡ length trace
        → narrowed_from (y ∷ before) (trace ++ x ∷ [])
        ≡ narrowed_from (y ∷ before) trace ++ narrowed_from (behind trace (y ∷ before)) (x ∷ []))
        → length (if b then [] else on_one_link y.0 (beats_of y.0 y.1 (y ∷ before)) ∷ narrowed_from (y ∷ before) trace)
        ≡ suc (length trace)
        → (if b then [] else on_one_link y.0 (beats_of y.0 y.1 (y ∷ before)) ∷ narrowed_from (y ∷ before)
        (trace ++ x ∷ []))
        ≡ (if b then [] else on_one_link y.0 (beats_of y.0 y.1 (y ∷ before)) ∷ narrowed_from (y ∷ before) trace)
        ++ narrowed_from (behind trace (y ∷ before)) (x ∷ [])
    go true more never = absurd (omega (arith, never))
    go false more all =
        ap (λ rest. on_one_link y.0 (beats_of y.0 y.1 (y ∷ before)) ∷ rest) (more (omega (arith, all)))

narrowed-one : {w : ℕ} (before : WideTrace w) (x : Link × WideBeat w) → is_beyond x.0 (x ∷ before) ≡ false
    → narrowed_from before (x ∷ []) ≡ on_one_link x.0 (beats_of x.0 x.1 (x ∷ before)) ∷ []
unfolding narrowed_from
narrowed-one before x within = rw within refl

narrowed-beyond : {w : ℕ} (before : WideTrace w) (x : Link × WideBeat w) → is_beyond x.0 (x ∷ before) ≡ true
    → narrowed_from before (x ∷ []) ≡ []
unfolding narrowed_from
narrowed-beyond before x past = rw past refl

joined-more : {p : ℕ} (parts : List (Trace p)) (last : Trace p) → joined (parts ++ last ∷ []) ≡ joined parts ++ last
unfolding joined
joined-more [] last = append-nil last
joined-more (first ∷ parts) last =
    ap (λ rest. first ++ rest) (joined-more parts last) ∙ sym (append_assoc first (joined parts) last)

pub owner-last : {p : ℕ} (parts : List (Trace p)) (last : Trace p) (i : ℕ) → length (joined parts) ≤ i
    → i < length (joined parts) + length last → owner (parts ++ last ∷ []) i ≡ length parts
unfolding owner joined
owner-last [] last i from within = rw (lt-ltb i (length last) (omega (arith, within))) refl
owner-last (first ∷ parts) last i from within =
    let all : length (joined (first ∷ parts)) ≡ length first + length (joined parts) =
    length-append first (joined parts) in
    rw (le-ltb i (length first) (omega (arith, from, all)))
    (ap suc (owner-last parts last (i - length first) (omega (arith, from, all)) (omega (arith, from, within, all))))

-- ---- faults of one more beat

module _ {p : ℕ} (together : Bool) (levels : List Level) (may : Liberties) where
  from-more : (before first more : Trace p) → fault_from together levels may before first ≡ None
      → fault_from together levels may before (first ++ more) ≡ fault_from together levels may (behind first before)
      more
  unfolding fault_from behind
  from-more before [] more good = refl
  from-more before (x ∷ first) more good =
      go (faults_by together p levels may x before) (from-more (x ∷ before) first more) good
    where
      go : (o : Option Fault)
          → (fault_from together levels may (x ∷ before) first ≡ None
          → fault_from together levels may (x ∷ before) (first ++ more)
          ≡ fault_from together levels may (behind first (x ∷ before)) more)
          → fault_here o (length before) (fault_from together levels may (x ∷ before) first) ≡ None
          → fault_here o (length before) (fault_from together levels may (x ∷ before) (first ++ more))
          ≡ fault_from together levels may (behind first (x ∷ before)) more
      go None after rest = after rest
      go (Some found) after rest = absurd cc

  parts-good : (link : Link) (parts : List (Beat p)) (t : Trace p) → part_fault together levels may link parts t ≡ None
      → fault_from together levels may t (on_one_link link parts) ≡ None
  unfolding fault_from part_fault
  parts-good link [] t good = refl
  parts-good link (x ∷ parts) t good =
      go (faults_by together p levels may (link, x) t) (parts-good link parts ((link, x) ∷ t)) good
    where
      go : (o : Option Fault)
          → (part_fault together levels may link parts ((link, x) ∷ t) ≡ None
          → fault_from together levels may ((link, x) ∷ t) (on_one_link link parts) ≡ None)
          → or_fault o (part_fault together levels may link parts ((link, x) ∷ t)) ≡ None
          → fault_here o (length t) (fault_from together levels may ((link, x) ∷ t) (on_one_link link parts)) ≡ None
      go None after rest = after rest
      go (Some found) after rest = absurd cc

  -- a part that is at fault is one of these
  parts-bad : (link : Link) (parts : List (Beat p)) (t : Trace p) (found : Fault)
      → part_fault together levels may link parts t ≡ Some found
      → (i : ℕ) × (fault_from together levels may t (on_one_link link parts) ≡ Some (i, found)) × (length t ≤ i)
      × (i < length t + length parts)
  unfolding fault_from part_fault
  parts-bad link [] t found bad = absurd cc
  parts-bad link (x ∷ parts) t found bad =
      go (faults_by together p levels may (link, x) t) (parts-bad link parts ((link, x) ∷ t) found) bad
    where
      go : (o : Option Fault)
          → (part_fault together levels may link parts ((link, x) ∷ t) ≡ Some found
          → (i : ℕ) × (fault_from together levels may ((link, x) ∷ t) (on_one_link link parts) ≡ Some (i, found))
          × (suc (length t) ≤ i) × (i < suc (length t) + length parts))
          → or_fault o (part_fault together levels may link parts ((link, x) ∷ t)) ≡ Some found
          → (i : ℕ) × (fault_here o (length t) (fault_from together levels may ((link, x) ∷ t) (on_one_link link parts))
          ≡ Some (i, found)) × (length t ≤ i) × (i < length t + suc (length parts))
      go None after rest =
          let (i, is, past, within) = after rest in
          (i, is, omega (arith, past), omega (arith, within))
      go (Some other) after rest =
          let same : other ≡ found = cc in
          (length t, ap (λ (f : Fault). Some (length t, f)) same, omega arith, omega arith)

-- ---- what a wide trace with one more beat becomes

-- the parts of a beat after a wide trace
abbrev parts_after : {w : ℕ} → WideTrace w → Link × WideBeat w → List (Beat (part_width w))
parts_after trace x = beats_of x.0 x.1 (x ∷ behind trace [])

module _ {w : ℕ} (trace : WideTrace w) (complete : length (narrowed trace) ≡ length trace) (x : Link × WideBeat w)
    (within : is_beyond x.0 (x ∷ behind trace []) ≡ false) where
  pub becomes : narrowed (trace ++ x ∷ []) ≡ narrowed trace ++ on_one_link x.0 (parts_after trace x) ∷ []
  becomes =
      narrowed-more [] trace x complete
      ∙ ap (λ rest. narrowed trace ++ rest) (narrowed-one (behind trace []) x within)

  pub joins : joined (narrowed (trace ++ x ∷ [])) ≡ joined (narrowed trace) ++ on_one_link x.0 (parts_after trace x)
  joins = ap joined becomes ∙ joined-more (narrowed trace) (on_one_link x.0 (parts_after trace x))

  pub all-become : length (narrowed (trace ++ x ∷ [])) ≡ length (trace ++ x ∷ [])
  all-become =
      let parts = ap (λ (l : List (Trace (part_width w))). length l) becomes in
      let all = length-append (narrowed trace) (on_one_link x.0 (parts_after trace x) ∷ []) in
      let more = length-append trace (x ∷ []) in
      omega (arith, parts, all, complete, more)

  pub next-beats : beats_taken (trace ++ x ∷ []) ≡ with_parts x.0 (parts_after trace x) (beats_taken trace)
  next-beats =
      ap (λ beats. behind beats []) joins
      ∙ behind-more (joined (narrowed trace)) (on_one_link x.0 (parts_after trace x)) []

-- ---- a wide trace with one more beat

module _ {w : ℕ} (together : Bool) (may : Liberties) (levels : List Level) (trace : WideTrace w)
    (taken : IsTaken together may levels trace) where
  -- it has no fault
  pub none-at-fault : first_fault_of together may levels trace ≡ None
  none-at-fault =
      first-is together may levels trace ∙ ap (beat_at_fault (narrowed trace) (length trace)) taken.good
      ∙ rw (le-ltb (length (narrowed trace)) (length trace) (omega (arith, taken.complete))) refl

  module _ (x : Link × WideBeat w) where
    abbrev parts_of_it : List (Beat (part_width w))
    parts_of_it = parts_after trace x

    one-more : length (trace ++ x ∷ []) ≡ suc (length trace)
    one-more = let all = length-append trace (x ∷ []) in omega (arith, all)

    -- behind those that were taken its parts are judged
    judges : is_beyond x.0 (x ∷ behind trace []) ≡ false
        → fault_from together levels may [] (joined (narrowed (trace ++ x ∷ [])))
        ≡ fault_from together levels may (beats_taken trace) (on_one_link x.0 parts_of_it)
    judges within =
        ap (fault_from together levels may []) (joins trace taken.complete x within)
        ∙ from-more together levels may [] (joined (narrowed trace)) (on_one_link x.0 parts_of_it) taken.good

    pub next-taken : is_beyond x.0 (x ∷ behind trace []) ≡ false
        → part_fault together levels may x.0 parts_of_it (beats_taken trace) ≡ None
        → IsTaken together may levels (trace ++ x ∷ [])
    next-taken within good = record {
      complete = all-become trace taken.complete x within;
      good = judges within ∙ parts-good together levels may x.0 parts_of_it (beats_taken trace) good;
    }

    -- a part of the next beat is at fault
    pub next-bad : is_beyond x.0 (x ∷ behind trace []) ≡ false → (found : Fault)
        → part_fault together levels may x.0 parts_of_it (beats_taken trace) ≡ Some found
        → first_fault_of together may levels (trace ++ x ∷ []) ≡ Some (length trace, found)
    next-bad within found bad =
        let (i, is, past, below) = parts-bad together levels may x.0 parts_of_it (beats_taken trace) found bad in
        let so_many = behind-length (joined (narrowed trace)) [] in
        let many_parts = length-map {B = Link × Beat (part_width w)} parts_of_it (λ (y : Beat (part_width w)). (x.0, y))
        in
        let at = owner-last (narrowed trace) (on_one_link x.0 parts_of_it) i (omega (arith, past, so_many))
        (omega (arith, below, so_many, many_parts)) in
        first-is together may levels (trace ++ x ∷ [])
        ∙ ap (beat_at_fault (narrowed (trace ++ x ∷ [])) (length (trace ++ x ∷ []))) (judges within ∙ is)
        ∙ ap (λ place. Some (place, found))
        (ap (λ parts. owner parts i) (becomes trace taken.complete x within) ∙ at ∙ taken.complete)

    -- a beat that names one too many becomes nothing
    pub stays : is_beyond x.0 (x ∷ behind trace []) ≡ true → narrowed (trace ++ x ∷ []) ≡ narrowed trace
    stays past =
        narrowed-more [] trace x taken.complete
        ∙ ap (λ rest. narrowed trace ++ rest) (narrowed-beyond (behind trace []) x past)
        ∙ append-nil (narrowed trace)

    -- the next beat names one too many
    pub next-beyond : is_beyond x.0 (x ∷ behind trace []) ≡ true
        → first_fault_of together may levels (trace ++ x ∷ []) ≡ Some (length trace, fault.Beyond)
    next-beyond past =
        let less = lt-ltb (length (narrowed trace)) (length (trace ++ x ∷ [])) (omega (arith, one-more, taken.complete))
        in
        first-is together may levels (trace ++ x ∷ [])
        ∙ ap (λ parts. beat_at_fault parts (length (trace ++ x ∷ []))
        (fault_from together levels may [] (joined parts))) (stays past)
        ∙ ap (beat_at_fault (narrowed trace) (length (trace ++ x ∷ []))) taken.good
        ∙ rw less (ap (λ place. Some (place, fault.Beyond)) taken.complete)
