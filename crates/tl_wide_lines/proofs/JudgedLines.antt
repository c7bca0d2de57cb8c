-- What a trace of any version is judged, line by line.
use Rattle.std.proofs.Common.{◌≡◌, ◌∙◌, ◌+◌, ◌-◌, ℕ, Bool, true, false, List}
use Rattle.std.proofs.Common.{[], ◌∷◌, ◌++◌, length, refl, ap, sym, subst}
use Rattle.std.proofs.Common.{arith, append_assoc, length-append, inl, inr}
use Rattle.std.proofs.lemmas.List.{append-nil}
use Rattle.std.proofs.lemmas.Bool.{lt-ltb}
use Rattle.std.specs.Prelude.{◌⊎◌, ◌||◌, not, nat_lt, Option, Some, None, Result, Ok, Err}
use Rattle.std.specs.Result.{result_err}
use Rattle.std.specs.Io.BufRead.{ends_with_byte}
use Rattle.tl_beat.specs.declared.beat.Link.{Link}
use Rattle.tl_beat.specs.declared.fault.LineFault.{LineFault}
use Rattle.tl_beat.specs.declared.fault.LineFault.TheVariants.{F1}
use Rattle.tl_beat.specs.statement.First.{first_if}
use Rattle.tl_beat.specs.statement.Line.{pieces, without_last}
use Rattle.tl_lines.specs.statement.Lines.{IsOpen}
use Rattle.tl_lines.specs.code.TraceJudging.{KnowsBeats}
use Rattle.tl_lines.specs.statement.JudgedSo.{said_by}
use Rattle.tl_lines.specs.declared.fault.Fault.{Fault}
use Rattle.tl_lines.specs.declared.fault.Fault.TheVariants.{Beyond, Line}
use Rattle.tl_lines.specs.declared.status.Status.{Status}
use Rattle.tl_lines.specs.declared.status.Status.TheVariants.{Clean, Broken}
use Rattle.tl_lines.specs.statement.Fault.{fault_text}
use Rattle.tl_params.specs.declared.level.Level.{Level}
use Rattle.tl_params.specs.declared.liberties.Liberties.{Liberties}
use Rattle.tl_wide.proofs.Faults.{reading-fault}
use Rattle.tl_wide.proofs.ReadLines.{reading-spells}
use Rattle.tl_wide.specs.code.Reading.{reading}
use Rattle.tl_wide.specs.declared.beat.WideBeat.{WideBeat}
use Rattle.tl_wide.specs.declared.width.WideWidth.{WideWidth}
use Rattle.tl_wide.specs.statement.Line.{WideSpells, wide_fields_fault, wide_line_fault}
use Rattle.tl_wide.specs.statement.Naming.{WideTrace, is_beyond}
use Rattle.tl_wide.specs.statement.Narrowed.{beats_of, narrowed_from}
use Rattle.tl_wide.specs.statement.Narrowing.{Follows}
use Rattle.tl_wide.specs.statement.Verdict.{joined}
use Rattle.tl_wide.specs.statement.Width.{IsWideWidth, part_width, wide_bytes_of}
use Rattle.tl_wide_lines.proofs.FirstFaults.{behind-last, next-bad, next-beats, next-beyond, next-taken, none-at-fault}
use Rattle.tl_wide_lines.proofs.PartsJudged.{all-taken}
use Rattle.tl_wide_lines.specs.code.FirstFault.{beats_taken, behind, fault_from, with_parts}
use Rattle.tl_wide_lines.specs.statement.PartFaults.{part_fault}
use Rattle.tl_wide_lines.specs.code.WideJudging.{JudgesWideBeat, JudgesWideLine}
use Rattle.tl_wide_lines.specs.code.WideWatching.{KnowsWide}
use Rattle.tl_wide_lines.specs.declared.judge.WideJudge.{WideJudge}
use Rattle.tl_wide_lines.specs.statement.JudgedTrace.{BeginWith, JudgedTrace, JudgedWide, first_fault_of}
use Rattle.tl_wide_lines.specs.statement.WideHeader.{NamesWide}

-- ---- lines of wide beats

-- lines of wide beats, and of more
pub begin-both : {w : ℕ} (trace more : WideTrace w) (lines between rest : List (List ℕ)) → BeginWith trace lines between
    → BeginWith more between rest → BeginWith (trace ++ more) lines rest
unfolding BeginWith
begin-both [] more lines between rest begins next = rw begins next
begin-both (x ∷ trace) more [] between rest begins next = absurd begins
begin-both (x ∷ trace) more (line ∷ lines) between rest begins next =
    (begins.0, begin-both trace more lines between rest begins.1 next)

-- one more line of a wide beat
pub begin-more : {w : ℕ} (trace : WideTrace w) (x : Link × WideBeat w) (lines : List (List ℕ)) (line : List ℕ)
    (rest : List (List ℕ)) → BeginWith trace lines (line ∷ rest) → WideSpells line x.0 x.1
    → BeginWith (trace ++ x ∷ []) lines rest
unfolding BeginWith
begin-more trace x lines line rest begins spells =
    begin-both trace (x ∷ []) lines (line ∷ rest) rest begins (spells, refl)

-- the header's line is all
pub begin-none : (w : ℕ) (more : List (List ℕ)) → BeginWith {w = w} [] more more
unfolding BeginWith
begin-none w more = refl

-- the lines begin with those of some wide beats, and the next, if there is one, spells none
pub record Fronts (w : ℕ) (lines : List (List ℕ)) : Type 0 where
  pub trace : WideTrace w
  pub rest : List (List ℕ)
  pub begins : BeginWith trace lines rest
  pub ends : (rest ≡ []) ⊎ ((line : List ℕ) × (more : List (List ℕ)) × (of_line : LineFault) × (rest ≡ line ∷ more)
      × (wide_line_fault w line ≡ Some of_line))

pub fronts : (w : ℕ) → IsWideWidth w → (lines : List (List ℕ)) → Fronts w lines
unfolding BeginWith
fronts w wide [] = record { trace = []; rest = []; begins = refl; ends = inl refl }
fronts w wide (line ∷ lines) = go (reading w line) refl (fronts w wide lines)
  where
    go : (r : Result (Link × WideBeat w) LineFault) → reading w line ≡ r → Fronts w lines → Fronts w (line ∷ lines)
    go (Ok (link, x)) is more = record {
      trace = (link, x) ∷ more.trace;
      rest = more.rest;
      begins = (reading-spells line link x wide is, more.begins);
      ends = more.ends;
    }
    go (Err of_line) is more = record {
      trace = [];
      rest = line ∷ lines;
      begins = refl;
      ends = inr (line, lines, of_line, refl, sym (reading-fault w line) ∙ ap (λ r. result_err r) is);
    }

-- so lines of wide beats have a text
pub wide-total : (w : ℕ) → IsWideWidth w → (together : Bool) (may : Liberties) (levels : List Level)
    (lines : List (List ℕ))
    → (text : List ℕ) × (status : Status) × JudgedWide w together may levels lines text status
wide-total w wide together may levels lines =
    go (fronts w wide lines) (first_fault_of together may levels (fronts w wide lines).trace) refl
  where
    go : (f : Fronts w lines) (o : Option (ℕ × Fault)) → first_fault_of together may levels f.trace ≡ o
        → (text : List ℕ) × (status : Status) × JudgedWide w together may levels lines text status
    go f (Some found) is = (
      fault_text (found.0 + 2) found.1,
      Broken,
      record { trace = f.trace; rest = f.rest; begins = f.begins; said = rw is (refl, refl) },
    )
    go f None is = at_end f.ends
      where
        at_end : (f.rest ≡ []) ⊎ ((line : List ℕ) × (more : List (List ℕ)) × (of_line : LineFault)
            × (f.rest ≡ line ∷ more) × (wide_line_fault w line ≡ Some of_line))
            → (text : List ℕ) × (status : Status) × JudgedWide w together may levels lines text status
        at_end (inl none) = (
          said_by together (length f.trace),
          Clean,
          record { trace = f.trace; rest = f.rest; begins = f.begins; said = rw (is, none) (refl, refl) },
        )
        at_end (inr (line, more, of_line, left, bad)) = (
          fault_text (length f.trace + 2) (Line of_line),
          Broken,
          record { trace = f.trace; rest = f.rest; begins = f.begins; said = rw (is, left) (of_line, bad, refl, refl) },
        )

-- a line that has no LF, or is too long, spells no wide beat
pub open-fault : (w : ℕ) (line : List ℕ) → IsOpen line → wide_line_fault w line ≡ Some F1
open-fault w line (inl ends) = go (nat_lt 256 (length line))
  where
    go : (long : Bool) → first_if (long || not (ends_with_byte 10 line)) F1
        (wide_fields_fault w (pieces (without_last line))) ≡ Some F1
    go true = refl
    go false = rw ends refl
open-fault w line (inr long) = rw (lt-ltb 256 (length line) long) refl

-- ---- a handler that knows wide beats

module _ {wide : WideWidth} (together : Bool) (allow : Liberties) (old : WideJudge (part_width (wide_bytes_of wide)))
    (lines : List (List ℕ)) (text : List ℕ) (k : KnowsWide wide together allow old lines text) where
  so-many : length lines ≡ length k.trace + 1
  so-many = let many = ap (λ (l : List (List ℕ)). length l) k.are_lines in omega (arith, many, k.counted)

  -- the text of all that was said, and of a fault
  fault-said : (found : Fault) → text ++ fault_text (length lines + 1) found ≡ fault_text (length k.trace + 2) found
  fault-said found =
      let number : length lines + 1 ≡ length k.trace + 2 = omega (arith, so-many) in
      ap (λ (x : List ℕ). x ++ fault_text (length lines + 1) found) k.silent ∙ ap (λ n. fault_text n found) number

  -- what is said of a wide trace that the lines begin with is said of them
  told : (more : List (List ℕ)) (said : List ℕ) (status : Status)
      → JudgedWide (wide_bytes_of wide) together k.may k.levels (k.spelled ++ more) said status
      → JudgedTrace together allow (lines ++ more) said status
  told more said status judged = rw k.are_lines (inl (wide, k.may, k.levels, k.named, judged))

  -- the next line spells no wide beat
  pub line-stops : (line : List ℕ) (of_line : LineFault) → wide_line_fault (wide_bytes_of wide) line ≡ Some of_line
      → (more : List (List ℕ))
      → JudgedTrace together allow (lines ++ line ∷ more) (text ++ fault_text (length lines + 1) (Line of_line)) Broken
  line-stops line of_line bad more = told (line ∷ more) _ Broken (record {
    trace = k.trace;
    rest = line ∷ more;
    begins = k.begins (line ∷ more);
    said = rw (none-at-fault together k.may k.levels k.trace k.taken)
        (of_line, bad, fault-said (Line of_line), refl);
  })

  -- the next line spells one that is at fault
  pub beat-stops : (line : List ℕ) (link : Link) (x : WideBeat (wide_bytes_of wide)) (found : Fault)
      → WideSpells line link x
      → first_fault_of together k.may k.levels (k.trace ++ (link, x) ∷ []) ≡ Some (length k.trace, found)
      → (more : List (List ℕ))
      → JudgedTrace together allow (lines ++ line ∷ more) (text ++ fault_text (length lines + 1) found) Broken
  beat-stops line link x found spells bad more = told (line ∷ more) _ Broken (record {
    trace = k.trace ++ (link, x) ∷ [];
    rest = more;
    begins = begin-more k.trace (link, x) (k.spelled ++ line ∷ more) line more (k.begins (line ∷ more)) spells;
    said = rw bad (fault-said found, refl);
  })

  -- no line follows
  pub lines-end : JudgedTrace together allow lines (text ++ said_by together (length lines - 1)) Clean
  lines-end =
      let number : length lines - 1 ≡ length k.trace = omega (arith, so-many) in
      let said : text ++ said_by together (length lines - 1) ≡ said_by together (length k.trace) =
      ap (λ (x : List ℕ). x ++ said_by together (length lines - 1)) k.silent ∙ ap (said_by together) number in
      subst (λ (l : List (List ℕ)). JudgedTrace together allow l (text ++ said_by together (length lines - 1)) Clean)
      (append-nil lines)
      (told [] (text ++ said_by together (length lines - 1)) Clean (record {
        trace = k.trace;
        rest = [];
        begins = k.begins [];
        said = rw (none-at-fault together k.may k.levels k.trace k.taken) (said, refl);
      }))

  -- whatever lines follow
  pub lines-more : IsWideWidth (wide_bytes_of wide) → (more : List (List ℕ)) → (rest : List ℕ) × (status : Status)
      × JudgedTrace together allow (lines ++ more) (text ++ rest) status
  lines-more width more =
      let (rest, status, judged) = wide-total (wide_bytes_of wide) width together k.may k.levels (k.spelled ++ more) in
      (rest, status, rw k.silent (told more rest status judged))

  module _ (new : WideJudge (part_width (wide_bytes_of wide))) (line : List ℕ) where
    -- what a handler says of the next line
    abbrev Says : Option Fault → Type 0
    Says None = KnowsWide wide together allow new (lines ++ line ∷ []) text
    Says (Some found) = (more : List (List ℕ))
        → JudgedTrace together allow (lines ++ line ∷ more) (text ++ fault_text (length lines + 1) found) Broken

    abbrev pub beat-taken : (link : Link) (x : WideBeat (wide_bytes_of wide)) → WideSpells line link x
        → is_beyond link ((link, x) ∷ behind k.trace []) ≡ false
        → part_fault together k.levels k.may link (beats_of link x ((link, x) ∷ behind k.trace []))
        (beats_taken k.trace)
        ≡ None
        → Follows new.narrower ((link, x) ∷ behind k.trace [])
        → KnowsBeats together new.judge k.levels k.may
        (with_parts link (beats_of link x ((link, x) ∷ behind k.trace [])) (beats_taken k.trace))
        → KnowsWide wide together allow new (lines ++ line ∷ []) text
    beat-taken link x spells within good follows known = record {
      header = k.header;
      spelled = k.spelled ++ line ∷ [];
      may = k.may;
      levels = k.levels;
      trace = k.trace ++ (link, x) ∷ [];
      are_lines = ap (λ (l : List (List ℕ)). l ++ line ∷ []) k.are_lines;
      named = k.named;
      begins = λ more. begin-more k.trace (link, x) ((k.spelled ++ line ∷ []) ++ more) line more
          (rw (append_assoc k.spelled (line ∷ []) more) (k.begins (line ∷ more))) spells;
      counted =
          let all = length-append k.spelled (line ∷ []) in
          let beats = length-append k.trace ((link, x) ∷ []) in
          omega (arith, all, beats, k.counted);
      follows = subst (λ t. Follows new.narrower t) (sym (behind-last k.trace (link, x))) follows;
      known = subst (λ t. KnowsBeats together new.judge k.levels k.may t)
          (sym (next-beats k.trace k.taken.complete (link, x) within)) known;
      taken = next-taken together k.may k.levels k.trace k.taken (link, x) within good;
      silent = k.silent;
    }

    beat-says : (link : Link) (x : WideBeat (wide_bytes_of wide)) (answer : Option Fault) → WideSpells line link x
        → JudgesWideBeat old new link x answer → Says answer
    beat-says link x None spells (inl (parts, judged, narrowed)) =
        let (within, same, follows) = narrowed (behind k.trace []) k.follows in
        let (good, known) = (rw same at judged) together k.levels k.may (beats_taken k.trace) k.known in
        beat-taken link x spells within good follows
        (subst (λ t. KnowsBeats together new.judge k.levels k.may t)
        (all-taken together k.levels k.may link (beats_of link x ((link, x) ∷ behind k.trace [])) (beats_taken k.trace)
        good) known)
    beat-says link x (Some found) spells (inl (parts, judged, narrowed)) =
        let (within, same, follows) = narrowed (behind k.trace []) k.follows in
        let (bad, known) = (rw same at judged) together k.levels k.may (beats_taken k.trace) k.known in
        beat-stops line link x found spells (next-bad together k.may k.levels k.trace k.taken (link, x) within found
        bad)
    beat-says link x answer spells (inr (is, kept, past)) =
        rw is (beat-stops line link x Beyond spells (next-beyond together k.may k.levels k.trace k.taken (link, x)
        (past (behind k.trace []) k.follows).0))

    pub line-says : (answer : Option Fault) → JudgesWideLine (wide_bytes_of wide) old new line answer → Says answer
    line-says answer (inl (of_line, bad, is)) = rw is (line-stops line of_line bad)
    line-says answer (inr (link, x, spells, judged)) = beat-says link x answer spells judged

-- what its header begins
unfoldable pub header-known : (wide : WideWidth) (together : Bool) (allow : Liberties) (line : List ℕ) (may : Liberties)
    (levels : List Level) (judge : WideJudge (part_width (wide_bytes_of wide)))
    → NamesWide allow line wide may levels → ((w : ℕ) → Follows {w = w} judge.narrower [])
    → KnowsBeats together judge.judge levels may [] → KnowsWide wide together allow judge (line ∷ []) []
unfolding behind joined narrowed_from fault_from
header-known wide together allow line may levels judge named follows known = record {
  header = line;
  spelled = [];
  may = may;
  levels = levels;
  trace = [];
  are_lines = refl;
  named = named;
  begins = begin-none (wide_bytes_of wide);
  counted = refl;
  follows = follows (wide_bytes_of wide);
  known = known;
  taken = record { complete = refl; good = refl };
  silent = refl;
}
