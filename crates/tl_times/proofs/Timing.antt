-- The times of the lines that pieces cite, line by line.
use Rattle.std.proofs.Common.{◌≡◌, ℕ, suc, ◌+◌, List, [], ◌∷◌, ◌++◌, length, refl, ap, sym, arith, ◌∙◌, append_assoc}
use Rattle.std.proofs.Common.{inl, inr, length-append}
use Rattle.std.proofs.lemmas.List.{append-nil}
use Rattle.std.specs.List.{flat_map}
use Rattle.std.specs.Prelude.{Option, bytes_eq, decimal, if◌then◌else◌, ⊤}
use Rattle.std.specs.Io.KnownBytes.{Consumes}
use Rattle.tl_lines.specs.code.Judging.{Ends, GoesOn}
use Rattle.tl_lines.specs.code.Progress.{HasAll}
use Rattle.tl_lines.specs.declared.status.Status.{Status}
use Rattle.tl_lines.specs.declared.status.Status.TheVariants.{Broken, Clean}
use Rattle.tl_lines.specs.statement.Lines.{IsOpen, lines_of}
use Rattle.tl_lines.specs.statement.Run.{EndsAs}
use Rattle.tl_times.specs.code.Splitting.{AreUntimed, are_cited, cited}
use Rattle.tl_times.specs.code.Timing.{AreNoted, AreTimed, EndsTimes, KnowsTimes, cites, said}
use Rattle.tl_times.specs.declared.piece.Piece.{Piece}
use Rattle.tl_times.specs.declared.times.TimeLines.{TimeLines}
use Rattle.tl_times.specs.statement.Pieces.{Cited, pieces}
use Rattle.tl_times.specs.statement.Timed.{ReadsTimes, number_in, time_from, time_of, time_text, timed}

-- the time of a line by one line more
time_more : (n : ℕ) (lines : List (List ℕ)) (line digits : List ℕ)
    → time_from n (lines ++ line ∷ []) digits
    ≡ time_from n lines digits ++ (if bytes_eq digits (decimal (n + length lines)) then number_in line else [])
unfolding time_from
time_more n [] line digits =
    let same : n + 0 ≡ n = omega arith in rw same (append-nil _)
time_more n (first ∷ lines) line digits =
    let same : n + suc (length lines) ≡ suc n + length lines = omega arith in
    rw (same, time_more (suc n) lines line digits)
    (sym (append_assoc _ (time_from (suc n) lines digits) _))

-- what pieces cite stays, and each has the time of its line by one line more
pub noted : (lines : List (List ℕ)) (line number : List ℕ) (old new : List Piece)
    → number ≡ decimal (2 + length lines) → AreNoted number (number_in line) old new → AreTimed lines old
    → AreTimed (lines ++ line ∷ []) new
unfolding AreTimed
noted lines line number [] [] is noted_are timed = tt
noted lines line number [] (y ∷ ys) is noted_are timed = absurd noted_are
noted lines line number (x ∷ xs) [] is noted_are timed = absurd noted_are
noted lines line number (x ∷ xs) (y ∷ ys) is (first, rest) timed =
    let line_is : y.line.now ≡ x.line.now = ap (λ (c : Cited). c.line) first.0 in (
      rw (line_is, time_more 2 lines line x.line.now, ← is) (first.1
          ∙ ap (λ (time : List ℕ). time ++ (if bytes_eq x.line.now number then number_in line else [])) timed.0),
      noted lines line number xs ys is rest timed.1,
    )

pub cited_still : (number time : List ℕ) (old new : List Piece) → AreNoted number time old new
    → are_cited new ≡ are_cited old
cited_still number time [] [] are = refl
cited_still number time [] (y ∷ ys) are = absurd are
cited_still number time (x ∷ xs) [] are = absurd are
cited_still number time (x ∷ xs) (y ∷ ys) (first, rest) =
    rw first.0 (ap (λ (cs : List Cited). cited x ∷ cs) (cited_still number time xs ys rest))

-- without a line of times none is known
untimed : (pieces : List Piece) → AreUntimed pieces → AreTimed [] pieces
unfolding AreTimed time_from
untimed [] none = tt
untimed (x ∷ xs) none = (none 0 x (omega arith), untimed xs (λ k d lt. none (suc k) d (omega (arith, lt))))

-- pieces with their times are the explanation with these times
pub said_timed : (lines : List (List ℕ)) (pieces : List Piece) → AreTimed lines pieces
    → flat_map said pieces ≡ flat_map (λ (c : Cited). c.text ++ time_text (time_of lines c.line)) (are_cited pieces)
unfolding AreTimed
said_timed lines [] timed = refl
said_timed lines (x ∷ xs) timed = rw (timed.0, said_timed lines xs timed.1) refl

-- ---- the handler

-- one more line is read
pub times_on : (old new : TimeLines) (line number was is : List ℕ) → number ≡ decimal old.next
    → AreNoted number (number_in line) old.pieces.items new.pieces.items → new.next ≡ old.next + 1
    → GoesOn KnowsTimes old new line was is
times_on old new line number was is text notes next = λ lines before known.
    let count : old.next ≡ 2 + length lines = omega (arith, known.0) in (
      omega (arith, next, known.0, length-append lines (line ∷ [])),
      noted lines line number old.pieces.items new.pieces.items (text ∙ ap (λ (n : ℕ). decimal n) count) notes known.1,
    )

-- a line that has no LF, or more than 256 bytes
pub times_end : (t : TimeLines) (line : List ℕ) → IsOpen line → Ends KnowsTimes EndsTimes t t line
times_end t line open_is = λ lines text known more. (lines, line, more, refl, open_is, known.1)

pub begun : (t : TimeLines) → t.next ≡ 2 → AreUntimed t.pieces.items → KnowsTimes t [] []
begun t first none = (first, untimed t.pieces.items none)

-- the explanation with the times that were read
pub all_timed : (t : TimeLines) (read : List ℕ) (had left : Option (List ℕ)) (status : Status) (told text was is : List ℕ)
    → Consumes had left read → EndsAs (λ _ _ _. ⊤) left read told status → HasAll KnowsTimes EndsTimes t (lines_of read) status
    → cites t ≡ pieces text → is ≡ was ++ flat_map said t.pieces.items
    → (lines : List (List ℕ)) × ReadsTimes had left lines × (is ≡ was ++ timed lines text)
all_timed t read had left Clean told text was is consumed ended (said_so, known) cited_so made = (
  lines_of read,
  (read, consumed, inl (refl, ended)),
  made ∙ ap (λ (more : List ℕ). was ++ more)
      (said_timed (lines_of read) t.pieces.items known.1 ∙ ap (λ (cs : List Cited). flat_map (λ (c : Cited). c.text ++ time_text (time_of (lines_of read) c.line)) cs) cited_so),
)
all_timed t read had left Broken told text was is consumed ended (front, line, more, cut, open_is, timed_are) cited_so made = (
  front,
  (read, consumed, inr (line, more, cut, open_is)),
  made ∙ ap (λ (more : List ℕ). was ++ more)
      (said_timed front t.pieces.items timed_are ∙ ap (λ (cs : List Cited). flat_map (λ (c : Cited). c.text ++ time_text (time_of front c.line)) cs) cited_so),
)
