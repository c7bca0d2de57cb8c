-- What a trace is judged, line by line, whatever its header says and its beats are at fault for.
use Rattle.std.proofs.Common.{◌≡◌, ℕ, ◌+◌, ◌-◌, List, [], ◌∷◌, ◌++◌, length, refl, arith, append_assoc, length-append}
use Rattle.std.proofs.Common.{inl, inr}
use Rattle.std.proofs.lemmas.List.{append-nil}
use Rattle.std.specs.Prelude.{◌⊎◌, IsTrue, Option, Some, None}
use Rattle.tl_beat.specs.declared.beat.Link.{Link}
use Rattle.tl_beat.specs.declared.beat.Beat.{Beat}
use Rattle.tl_beat.specs.declared.fault.LineFault.{LineFault}
use Rattle.tl_beat.specs.statement.Line.{Spells, line_fault}
use Rattle.tl_params.specs.declared.level.Level.{Level}
use Rattle.tl_params.specs.declared.width.Width.{Width}
use Rattle.tl_params.specs.declared.width.Width.TheVariants as width
use Rattle.tl_rules.specs.statement.Conformance.{Trace}
use Rattle.tl_lines.specs.code.Watching.{KnowsTraceOf}
use Rattle.tl_lines.specs.declared.fault.Fault.{Fault}
use Rattle.tl_lines.specs.declared.fault.Fault.TheVariants.{Header, Line}
use Rattle.tl_lines.specs.declared.status.Status.{Status}
use Rattle.tl_lines.specs.declared.status.Status.TheVariants.{Clean, Broken}
use Rattle.tl_lines.specs.statement.Decoded.{is_width}
use Rattle.tl_lines.specs.statement.Fault.{fault_text}
use Rattle.tl_lines.specs.statement.Judged.{FaultsOf, Headers, IsAtFault, JudgedAfter, JudgedBy}
use Rattle.tl_lines.specs.statement.Width.{bytes_of}
use Rattle.tl_lines.proofs.Decoded.{judged_line}

module _ {May : Type 0} (heads : Headers May) (faults : FaultsOf May) (said : ℕ → List ℕ) where
  -- a header's line is judged with no text
  pub header_known : (wide : Width) (Known : List Level → May → Trace (bytes_of wide) → Type 0) (line : List ℕ)
      (may : May) (levels : List Level) → heads line wide may levels → Known levels may []
      → KnowsTraceOf Known heads faults said (line ∷ []) []
  unfolding JudgedBy
  header_known wide Known line may levels names known = record {
    levels = levels;
    may = may;
    trace = [];
    known = known;
    counted = refl;
    before = λ more rest status judged. inl (wide, may, levels, names, judged);
  }

  -- the first line is no header
  pub header_unread : (line before was : List ℕ) (lines : List (List ℕ))
      → ((wide : Width) (may : May) (levels : List Level) → ¬ heads line wide may levels) → lines ≡ []
      → before ++ was ≡ [] → (more : List (List ℕ))
      → JudgedBy heads faults said (lines ++ line ∷ more) (before ++ (was ++ fault_text (length lines + 1) Header)) Broken
  unfolding JudgedBy
  header_unread line before was lines none first empty more =
      rw (← append_assoc before was (fault_text (length lines + 1) Header), first, empty) (inr (none, refl, refl))

  -- there is no first line
  pub header_unseen : (before was : List ℕ) (lines : List (List ℕ)) → lines ≡ [] → before ++ was ≡ []
      → JudgedBy heads faults said lines (before ++ (was ++ fault_text (length lines + 1) Header)) Broken
  unfolding JudgedBy
  header_unseen before was lines first empty =
      rw (← append_assoc before was (fault_text (length lines + 1) Header), first, empty) (refl, refl)

  module _ {w : ℕ} (Known : List Level → May → Trace w → Type 0) (lines : List (List ℕ)) where
    -- a line spells a beat that isn't at fault
    pub good_beat : (Knows : List Level → May → Trace w → Type 0) (text line : List ℕ)
        (k : KnowsTraceOf Known heads faults said lines text) (link : Link) (beat : Beat w) → Spells line link beat
        → faults w k.levels k.may (link, beat) k.trace ≡ None → Knows k.levels k.may ((link, beat) ∷ k.trace)
        → KnowsTraceOf Knows heads faults said (lines ++ line ∷ []) text
    unfolding JudgedAfter
    good_beat Knows text line k link beat spells good known = record {
      levels = k.levels;
      may = k.may;
      trace = (link, beat) ∷ k.trace;
      known = known;
      counted = omega (arith, k.counted, length-append lines (line ∷ []));
      before = λ more rest status judged. rw (append_assoc lines (line ∷ []) more)
          (k.before (line ∷ more) rest status (inl (link, beat, spells, good, judged)));
    }

    -- a line is at fault
    pub bad_line : (before was line : List ℕ) (fault : Fault)
        (k : KnowsTraceOf Known heads faults said lines (before ++ was))
        → IsAtFault faults k.levels k.may k.trace line fault → (more : List (List ℕ))
        → JudgedBy heads faults said (lines ++ line ∷ more) (before ++ (was ++ fault_text (length lines + 1) fault))
        Broken
    unfolding JudgedAfter
    bad_line before was line fault k is more =
        let number : length lines + 1 ≡ length k.trace + 2 = omega (arith, k.counted) in
        rw (← append_assoc before was (fault_text (length lines + 1) fault), number)
        (k.before (line ∷ more) _ Broken (inr (fault, is, refl, refl)))

    -- the end of the input
    pub all_judged : (count : ℕ) (before was is : List ℕ) → is ≡ was ++ said (count - 1)
        → KnowsTraceOf Known heads faults said lines (before ++ was) → count ≡ length lines
        → JudgedBy heads faults said lines (before ++ is) Clean
    unfolding JudgedAfter
    all_judged count before was is says k counted =
        let number : count - 1 ≡ length k.trace = omega (arith, k.counted) in
        rw (says, number, ← append_assoc before was (said (length k.trace)))
        (rw append-nil at (k.before [] (said (length k.trace)) Clean (refl, refl)))

-- ---- each trace has a text

-- the line spells a beat that isn't at fault, or it is at fault
abbrev GoodOrBad : {May : Type 0} → (w : ℕ) → FaultsOf May → List Level → May → Trace w → List ℕ → Type 0
GoodOrBad w faults levels may t line =
    ((link : Link) × (beat : Beat w) × Spells line link beat × (faults w levels may (link, beat) t ≡ None))
    ⊎ ((fault : Fault) × IsAtFault faults levels may t line fault)

-- the line is a header, or it is none
abbrev pub IsReadable : {May : Type 0} → Headers May → List ℕ → Type 0
IsReadable {May} heads line =
    ((wide : Width) × (may : May) × (levels : List Level) × heads line wide may levels)
    ⊎ ((wide : Width) (may : May) (levels : List Level) → ¬ heads line wide may levels)

good_width : (wide : Width) → IsTrue (is_width (bytes_of wide))
good_width width.Four = refl
good_width width.Eight = refl
good_width width.Sixteen = refl

module _ {May : Type 0} (heads : Headers May) (faults : FaultsOf May) (said : ℕ → List ℕ) where
  fault_or_good : (w : ℕ) → IsTrue (is_width w) → (levels : List Level) (may : May) (t : Trace w) (line : List ℕ)
      → GoodOrBad w faults levels may t line
  fault_or_good w width levels may t line = go (judged_line w width line)
    where
      go : ((link : Link) × (beat : Beat w) × Spells line link beat)
          ⊎ ((fault : LineFault) × (line_fault w line ≡ Some fault)) → GoodOrBad w faults levels may t line
      go (inl (link, beat, spells)) = at_beat (faults w levels may (link, beat) t) refl
        where
          at_beat : (o : Option Fault) → faults w levels may (link, beat) t ≡ o → GoodOrBad w faults levels may t line
          at_beat None is = inl (link, beat, spells, is)
          at_beat (Some fault) is = inr (fault, inr (link, beat, spells, is))
      go (inr (fault, is)) = inr (Line fault, inl (fault, is, refl))

  pub judged_after : (w : ℕ) → IsTrue (is_width w) → (levels : List Level) (may : May) (t : Trace w)
      (lines : List (List ℕ)) → (text : List ℕ) × (status : Status)
      × JudgedAfter faults said levels may t lines text status
  unfolding JudgedAfter
  judged_after w width levels may t [] = (said (length t), Clean, (refl, refl))
  judged_after w width levels may t (line ∷ lines) =
      go (fault_or_good w width levels may t line)
      (λ link beat. judged_after w width levels may ((link, beat) ∷ t) lines)
    where
      go : GoodOrBad w faults levels may t line
          → ((link : Link) (beat : Beat w) → (text : List ℕ) × (status : Status)
          × JudgedAfter faults said levels may ((link, beat) ∷ t) lines text status)
          → (text : List ℕ) × (status : Status) × JudgedAfter faults said levels may t (line ∷ lines) text status
      go (inl (link, beat, spells, good)) more =
          let (text, status, judged) = more link beat in
          (text, status, inl (link, beat, spells, good, judged))
      go (inr (fault, is)) more = (fault_text (length t + 2) fault, Broken, inr (fault, is, refl, refl))

  pub judged_whole : ((line : List ℕ) → IsReadable heads line) → (lines : List (List ℕ))
      → (text : List ℕ) × (status : Status) × JudgedBy heads faults said lines text status
  unfolding JudgedBy
  judged_whole readable [] = (fault_text 1 Header, Broken, (refl, refl))
  judged_whole readable (line ∷ lines) = go (readable line)
    where
      go : IsReadable heads line
          → (text : List ℕ) × (status : Status) × JudgedBy heads faults said (line ∷ lines) text status
      go (inl (wide, may, levels, names)) =
          let (text, status, judged) = judged_after (bytes_of wide) (good_width wide) levels may [] lines in
          (text, status, inl (wide, may, levels, names, judged))
      go (inr none) = (fault_text 1 Header, Broken, inr (none, refl, refl))

  pub judged_behind : {w : ℕ} (Known : List Level → May → Trace w → Type 0) → IsTrue (is_width w)
      → (lines : List (List ℕ)) (text : List ℕ) → KnowsTraceOf Known heads faults said lines text
      → (more : List (List ℕ)) → (rest : List ℕ) × (status : Status)
      × JudgedBy heads faults said (lines ++ more) (text ++ rest) status
  judged_behind {w} Known width lines text k more =
      let (rest, status, judged) = judged_after w width k.levels k.may k.trace more in
      (rest, status, k.before more rest status judged)
