-- The text of lines, line by line.
use Rattle.std.proofs.Common.{◌≡◌, ℕ, ◌+◌, List, [], ◌∷◌, ◌++◌, length, refl, arith, append_assoc, length-append, inl}
use Rattle.std.proofs.Common.{inr, eqb-true, eqb, lt-ltb, sym, ap, ◌∙◌}
use Rattle.std.specs.Prelude.{◌⊎◌, ◌||◌, Some, Bool, true, false, not, nat_lt, IsTrue, Result, Ok, Err}
use Rattle.std.proofs.lemmas.List.{append-nil}
use Rattle.tl_beat.specs.declared.beat.Link.{Link}
use Rattle.tl_beat.specs.declared.beat.Beat.{Beat}
use Rattle.tl_beat.specs.declared.fault.LineFault.{LineFault}
use Rattle.std.specs.Io.BufRead.{ends_with_byte}
use Rattle.tl_beat.specs.statement.Line.{Spells, line_fault, fields_fault, pieces, without_last}
use Rattle.tl_lines.specs.declared.fault.Fault.TheVariants.{Line}
use Rattle.tl_lines.specs.declared.status.Status.{Status}
use Rattle.tl_lines.specs.declared.status.Status.TheVariants.{Clean, Broken}
use Rattle.tl_lines.specs.statement.Decoded.{Decodes, DecodesBefore, is_width}
use Rattle.tl_beat.specs.declared.fault.LineFault.TheVariants.{F1}
use Rattle.tl_beat.specs.code.Reading.{reading}
use Rattle.tl_beat.specs.statement.Width.{IsWidth}
use Rattle.tl_beat.proofs.Faults.{reading-fault}
use Rattle.tl_beat.proofs.ReadLines.{reading-spells}
use Rattle.tl_beat.specs.statement.First.{first_if}
use Rattle.std.specs.Result.{result_err}
use Rattle.tl_lines.specs.statement.Lines.{IsOpen}
use Rattle.tl_lines.specs.statement.Fault.{fault_text}
use Rattle.tl_explain.specs.statement.Text.{text_of}

-- a line that spells a beat
pub before-line : (w : ℕ) (lines : List (List ℕ)) (text line : List ℕ) (link : Link) (beat : Beat w)
    → DecodesBefore w lines text → Spells line link beat
    → DecodesBefore w (lines ++ line ∷ []) (text ++ text_of link beat)
unfolding Decodes
before-line w lines text line link beat before spells = λ more rest status d.
    let number : length (lines ++ line ∷ []) + 1 ≡ length lines + 1 + 1 =
    omega (arith, length-append lines (line ∷ [])) in
    rw (append_assoc lines (line ∷ []) more, append_assoc text (text_of link beat) rest)
    (before (line ∷ more) (text_of link beat ++ rest) status (inl (link, beat, rest, spells, refl, rw number at d)))

-- a line at fault
pub before-fault : (w : ℕ) (lines : List (List ℕ)) (text line : List ℕ) (fault : LineFault) → DecodesBefore w lines text
    → line_fault w line ≡ Some fault
    → (more : List (List ℕ)) → Decodes w 1 (lines ++ line ∷ more) (text ++ fault_text (length lines + 1) (Line fault))
    Broken
unfolding Decodes
before-fault w lines text line fault before is more = before (line ∷ more) _ Broken (inr (fault, is, refl, refl))

-- the end of the input
pub before-end : (w : ℕ) (lines : List (List ℕ)) (text : List ℕ) → DecodesBefore w lines text
    → Decodes w 1 lines text Clean
unfolding Decodes
before-end w lines text before = rw (append-nil, append-nil) at (before [] [] Clean (refl, refl))

-- each line spells a beat or has a fault
abbrev pub Judged : ℕ → List ℕ → Type 0
Judged w line = ((link : Link) × (beat : Beat w) × Spells line link beat)
    ⊎ ((fault : LineFault) × (line_fault w line ≡ Some fault))

-- so lines have a text
pub decodes : (w n : ℕ) → ((line : List ℕ) → Judged w line) → (lines : List (List ℕ))
    → (text : List ℕ) × (status : Status) × Decodes w n lines text status
unfolding Decodes
decodes w n judged [] = ([], Clean, (refl, refl))
decodes w n judged (line ∷ lines) = go (judged line) (decodes w (n + 1) judged lines)
  where
    go : Judged w line → (text : List ℕ) × (status : Status) × Decodes w (n + 1) lines text status
        → (text : List ℕ) × (status : Status) × Decodes w n (line ∷ lines) text status
    go (inl (link, beat, spells)) (rest, status, d) =
        (text_of link beat ++ rest, status, inl (link, beat, rest, spells, refl, d))
    go (inr (fault, is)) (rest, status, d) = (fault_text n (Line fault), Broken, inr (fault, is, refl, refl))

pub decodes_more : (w : ℕ) → ((line : List ℕ) → Judged w line) → (lines : List (List ℕ)) (text : List ℕ)
    → DecodesBefore w lines text
    → (more : List (List ℕ)) → (rest : List ℕ) × (status : Status) × Decodes w 1 (lines ++ more) (text ++ rest) status
decodes_more w judged lines text before more =
    let (rest, status, d) = decodes w (length lines + 1) judged more in
    (rest, status, before more rest status d)

pub width_is : (w : ℕ) → IsTrue (is_width w) → IsWidth w
width_is w h = go (eqb w 4) refl (eqb w 8) refl (eqb w 16) refl h
  where
    go : (a : Bool) → eqb w 4 ≡ a → (b : Bool) → eqb w 8 ≡ b → (c : Bool) → eqb w 16 ≡ c → IsTrue (a || (b || c))
        → IsWidth w
    go true p b q c r h = inl (eqb-true w 4 p)
    go false p true q c r h = inr (inl (eqb-true w 8 q))
    go false p false q true r h = inr (inr (eqb-true w 16 r))
    go false p false q false r h = absurd cc

pub judged_line : (w : ℕ) → IsTrue (is_width w) → (line : List ℕ) → Judged w line
judged_line w width line = go (reading w line) refl (reading-fault w line)
  where
    go : (r : Result (Link × Beat w) LineFault) → reading w line ≡ r → result_err (reading w line) ≡ line_fault w line
        → Judged w line
    go (Ok read) is fault = inl (read.0, read.1, reading-spells line read.0 read.1 (width_is w width) is)
    go (Err f) is fault = inr (f, sym fault ∙ ap result_err is)

-- a line with no LF at its end, or of more than 256 bytes
pub open_fault : (w : ℕ) (line : List ℕ) → IsOpen line → line_fault w line ≡ Some F1
open_fault w line (inl ends) = go (nat_lt 256 (length line))
  where
    go : (b : Bool) → first_if (b || not (ends_with_byte 10 line)) F1 (fields_fault w (pieces (without_last line)))
        ≡ Some F1
    go true = refl
    go false = rw ends refl
open_fault w line (inr long) = rw (lt-ltb 256 (length line) long) refl

-- what a handler of lines answers, behind a text that has been written
pub good_line : (w : ℕ) (line old new : List ℕ) (link : Link) (beat : Beat w) → Spells line link beat
    → new ≡ old ++ text_of link beat
    → (lines : List (List ℕ)) (before : List ℕ) → DecodesBefore w lines (before ++ old)
    → DecodesBefore w (lines ++ line ∷ []) (before ++ new)
good_line w line old new link beat spells is lines before known =
    rw (is, ← append_assoc before old (text_of link beat)) (before-line w lines (before ++ old) line link beat known
    spells)

pub bad_line : (w : ℕ) (line was : List ℕ) (fault : LineFault) → line_fault w line ≡ Some fault
    → (lines : List (List ℕ)) (before : List ℕ) → DecodesBefore w lines (before ++ was)
    → (more : List (List ℕ))
    → Decodes w 1 (lines ++ line ∷ more) (before ++ (was ++ fault_text (length lines + 1) (Line fault))) Broken
bad_line w line was fault is lines before known more =
    rw (← append_assoc before was (fault_text (length lines + 1) (Line fault)))
    (before-fault w lines (before ++ was) line fault known is more)
