-- What lines of wide beats decode to, line by line.
use Rattle.std.proofs.Common.{◌≡◌, ◌∙◌, ◌+◌, ℕ, Bool, true, false, List, [], ◌∷◌, ◌++◌, length, refl, ap, sym}
use Rattle.std.proofs.Common.{arith, append_assoc, eqb, eqb-true, length-append, inl, inr}
use Rattle.std.proofs.lemmas.List.{append-nil, flat_map_more}
use Rattle.std.proofs.lemmas.Grind.{flat_map-append}
use Rattle.std.specs.Prelude.{◌⊎◌, ◌||◌, IsTrue, Some}
use Rattle.tl_beat.specs.declared.beat.Link.{Link}
use Rattle.tl_beat.specs.declared.fault.LineFault.{LineFault}
use Rattle.tl_lines.specs.declared.fault.Fault.TheVariants.{Line}
use Rattle.tl_lines.specs.declared.status.Status.{Status}
use Rattle.tl_lines.specs.declared.status.Status.TheVariants.{Clean, Broken}
use Rattle.tl_lines.specs.statement.Fault.{fault_text}
use Rattle.tl_wide.specs.declared.beat.WideBeat.{WideBeat}
use Rattle.tl_wide.specs.statement.Line.{WideSpells, wide_line_fault}
use Rattle.tl_wide.specs.statement.Width.{IsWideWidth}
use Rattle.tl_wide_lines.proofs.JudgedLines.{begin-both, begin-more, begin-none, fronts}
use Rattle.tl_wide_lines.specs.code.WideDecoding.{KnowsDecoded, is_wide_width}
use Rattle.tl_wide_lines.specs.statement.WideDecoded.{DecodedWide, EndsDecoded, wide_texts}
use Rattle.tl_wide_lines.specs.statement.WideText.{wide_text_of}

pub width-is : (w : ℕ) → IsTrue (is_wide_width w) → IsWideWidth w
width-is w h = go (eqb w 4) refl (eqb w 8) refl (eqb w 16) refl (eqb w 32) refl (eqb w 64) refl h
  where
    go : (a : Bool) → eqb w 4 ≡ a → (b : Bool) → eqb w 8 ≡ b → (c : Bool) → eqb w 16 ≡ c → (d : Bool) → eqb w 32 ≡ d
        → (e : Bool) → eqb w 64 ≡ e → IsTrue (a || (b || (c || (d || e)))) → IsWideWidth w
    go true p b q c r d s e t h = inl (eqb-true w 4 p)
    go false p true q c r d s e t h = inr (inl (eqb-true w 8 q))
    go false p false q true r d s e t h = inr (inr (inl (eqb-true w 16 r)))
    go false p false q false r true s e t h = inr (inr (inr (inl (eqb-true w 32 s))))
    go false p false q false r false s true t h = inr (inr (inr (inr (eqb-true w 64 t))))
    go false p false q false r false s false t h = absurd cc

-- no line has been read
pub decoded-none : (w : ℕ) → KnowsDecoded w [] []
decoded-none w = record { trace = []; begins = begin-none w; counted = refl; said = refl }

-- a line that spells a wide beat, behind a text that has been written
pub good-line : (w : ℕ) (line old new : List ℕ) (link : Link) (x : WideBeat w) → WideSpells line link x
    → new ≡ old ++ wide_text_of link x
    → (lines : List (List ℕ)) (before : List ℕ) → KnowsDecoded w lines (before ++ old)
    → KnowsDecoded w (lines ++ line ∷ []) (before ++ new)
good-line w line old new link x spells is lines before k = record {
  trace = k.trace ++ (link, x) ∷ [];
  begins = λ more. rw (append_assoc lines (line ∷ []) more)
      (begin-more k.trace (link, x) (lines ++ line ∷ more) line more (k.begins (line ∷ more)) spells);
  counted = omega (arith, k.counted, length-append lines (line ∷ []), length-append k.trace ((link, x) ∷ []));
  said =
      ap (λ (t : List ℕ). before ++ t) is ∙ sym (append_assoc before old (wide_text_of link x))
      ∙ ap (λ (t : List ℕ). t ++ wide_text_of link x) k.said
      ∙ flat_map_more (λ (y : Link × WideBeat w). wide_text_of y.0 y.1) [] k.trace (link, x);
}

-- a line that spells none
pub bad-line : (w : ℕ) (line was : List ℕ) (fault : LineFault) → wide_line_fault w line ≡ Some fault
    → (lines : List (List ℕ)) (before : List ℕ) → KnowsDecoded w lines (before ++ was) → (more : List (List ℕ))
    → DecodedWide w (lines ++ line ∷ more) (before ++ (was ++ fault_text (length lines + 1) (Line fault))) Broken
bad-line w line was fault is lines before k more = record {
  trace = k.trace;
  rest = line ∷ more;
  begins = k.begins (line ∷ more);
  ending = fault_text (length lines + 1) (Line fault);
  ends = (fault, is, ap (λ n. fault_text (n + 1) (Line fault)) k.counted, refl);
  said = sym (append_assoc before was (fault_text (length lines + 1) (Line fault)))
      ∙ ap (λ (t : List ℕ). t ++ fault_text (length lines + 1) (Line fault)) k.said;
}

-- the end of the input
pub decoded-end : (w : ℕ) (lines : List (List ℕ)) (text : List ℕ) → KnowsDecoded w lines text
    → DecodedWide w lines text Clean
decoded-end w lines text k = record {
  trace = k.trace;
  rest = [];
  begins = rw (append-nil lines) at (k.begins []);
  ending = [];
  ends = (refl, refl);
  said = k.said ∙ sym (append-nil (wide_texts k.trace));
}

-- whatever lines follow, they have a text
pub decoded-total : (w : ℕ) → IsWideWidth w → (lines : List (List ℕ)) (text : List ℕ) → KnowsDecoded w lines text
    → (more : List (List ℕ)) → (rest : List ℕ) × (status : Status) × DecodedWide w (lines ++ more) (text ++ rest) status
decoded-total w width lines text k more =
    let f = fronts w width more in
    let (ending, status, ends) = ended f.rest f.ends (length (k.trace ++ f.trace)) in (
      wide_texts f.trace ++ ending,
      status,
      record {
        trace = k.trace ++ f.trace;
        rest = f.rest;
        begins = begin-both k.trace f.trace (lines ++ more) more f.rest (k.begins more) f.begins;
        ending = ending;
        ends = ends;
        said = rw (k.said, flat_map-append (λ (y : Link × WideBeat w). wide_text_of y.0 y.1) k.trace f.trace)
            (sym (append_assoc (wide_texts k.trace) (wide_texts f.trace) ending));
      },
    )
  where
    ended : (rest : List (List ℕ)) → (rest ≡ []) ⊎ ((line : List ℕ) × (more : List (List ℕ)) × (of_line : LineFault)
        × (rest ≡ line ∷ more) × (wide_line_fault w line ≡ Some of_line))
        → (count : ℕ) → (ending : List ℕ) × (status : Status) × EndsDecoded w count rest ending status
    ended rest (inl none) count = ([], Clean, rw none (refl, refl))
    ended rest (inr (line, more, of_line, left, bad)) count =
        (fault_text (count + 1) (Line of_line), Broken, rw left (of_line, bad, refl, refl))
