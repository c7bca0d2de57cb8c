-- The first fault of a commit's line is the one that reading gives.
use Rattle.std.proofs.Common.{◌≡◌, ℕ, Bool, true, false, not, cond, List, [], ◌∷◌, length, refl, sym, ◌∙◌, arith}
use Rattle.std.specs.Io.BufRead.{ends_with_byte}
use Rattle.std.specs.Prelude.{Result, Err, Ok, Option, Some, None, ◌||◌, ◌&&◌, nat_lt}
use Rattle.std.specs.Result.{result_err}
use Rattle.tl_beat.proofs.Faults.{checked, unless_equal}
use Rattle.tl_beat.specs.code.Reading.{◌>>=◌}
use Rattle.tl_beat.specs.declared.beat.Link.{Link}
use Rattle.tl_beat.specs.declared.fault.LineFault.{LineFault}
use Rattle.tl_beat.specs.declared.fault.LineFault.TheVariants.{F1, F3}
use Rattle.tl_beat.specs.statement.Digits.{is_digits, value_of}
use Rattle.tl_beat.specs.statement.First.{first_if}
use Rattle.tl_beat.specs.statement.Line.{field, pieces, without_last}
use Rattle.tl_events.specs.code.CommitReading.{loaded, reading_begin, reading_commit, reading_fields}
use Rattle.tl_events.specs.code.CommitReading.{reading_on, reading_valued, stored}
use Rattle.tl_events.specs.declared.commit.Commit.{Commit}
use Rattle.tl_events.specs.declared.commit.Piece.{Piece}
use Rattle.tl_events.specs.declared.read.ValuedPiece.{ValuedPiece}
use Rattle.tl_events.specs.statement.CommitLine.{L, I, S, Letter, commit_fault, commit_fields_fault, is_piece}
use Rattle.tl_events.specs.statement.CommitLine.{letter_fault, letter_named, value_digits}

abbrev Read : Type 0
Read = Result (Link × Commit) LineFault

-- what is made of what was read has no fault of its own
made-fault : (r : Result ValuedPiece LineFault) (make : ValuedPiece → Read)
    → ((x : ValuedPiece) → result_err (make x) ≡ None)
    → result_err (r >>= make) ≡ result_err r
made-fault (Ok x) make none = none x
made-fault (Err fault) make none = refl

-- the piece is read before its bytes
piece-last : (l s a p v : Bool)
    → first_if (not (l && (s && (a && (p && (v && true)))))) F3 None
    ≡ first_if (not ((l && (s && (a && (v && true)))) && p)) F3 None
piece-last true true true true true = refl
piece-last true true true true false = refl
piece-last true true true false true = refl
piece-last true true true false false = refl
piece-last true true false p v = refl
piece-last true false a p v = refl
piece-last false s a p v = refl

piece-alone : (l s a p : Bool)
    → first_if (not (l && (s && (a && (p && true))))) F3 None
    ≡ first_if (not ((l && (s && (a && true))) && p)) F3 None
piece-alone true true true true = refl
piece-alone true true true false = refl
piece-alone true true false p = refl
piece-alone true false a p = refl
piece-alone false s a p = refl

abbrev numbers : List ℕ → List ℕ → Piece
numbers size address = record { size = value_of size; address = value_of address }

-- a store or a load
valued-fault : (fs : List (List ℕ)) → result_err (reading_valued fs) ≡ letter_fault (Some S) fs
unfolding reading_valued
valued-fault (link ∷ letter ∷ size ∷ address ∷ value ∷ []) =
    checked (is_digits 2 link) (value_of link) _ _ _ (checked (is_digits 1 size) (value_of size) _ _ _
    (checked (is_digits 8 address) (value_of address) _ _ _
    (checked (is_piece (value_of size) (value_of address)) (numbers size address) _ _ _
    (checked (is_digits (value_digits (value_of size)) value) (value_of value) _ true None refl))))
    ∙ piece-last (is_digits 2 link) (is_digits 1 size) (is_digits 8 address)
    (is_piece (value_of size) (value_of address)) (is_digits (value_digits (value_of size)) value)
valued-fault (link ∷ letter ∷ size ∷ address ∷ value ∷ f ∷ fs) =
    sym (unless_equal (length (link ∷ letter ∷ size ∷ address ∷ value ∷ f ∷ fs)) 5 _ _ (λ e. omega arith))
valued-fault fs = refl

begin-fault : (fs : List (List ℕ)) → result_err (reading_begin fs) ≡ letter_fault (Some I) fs
unfolding reading_begin
begin-fault (link ∷ letter ∷ size ∷ address ∷ []) =
    checked (is_digits 2 link) (value_of link) _ _ _ (checked (is_digits 1 size) (value_of size) _ _ _
    (checked (is_digits 8 address) (value_of address) _ _ _
    (checked (is_piece (value_of size) (value_of address)) (numbers size address) _ true None refl)))
    ∙ piece-alone (is_digits 2 link) (is_digits 1 size) (is_digits 8 address)
    (is_piece (value_of size) (value_of address))
begin-fault (link ∷ letter ∷ size ∷ address ∷ f ∷ fs) =
    sym (unless_equal (length (link ∷ letter ∷ size ∷ address ∷ f ∷ fs)) 4 _ _ (λ e. omega arith))
begin-fault fs = refl

reading_on-fault : (letter : Option Letter) (fs : List (List ℕ)) → result_err (reading_on letter fs) ≡ letter_fault
    letter fs
reading_on-fault None fs = refl
reading_on-fault (Some S) fs = made-fault (reading_valued fs) stored (λ x. refl) ∙ valued-fault fs
reading_on-fault (Some L) fs = made-fault (reading_valued fs) loaded (λ x. refl) ∙ valued-fault fs
reading_on-fault (Some I) fs = begin-fault fs

reading_fields-fault : (fs : List (List ℕ)) → result_err (reading_fields fs) ≡ commit_fields_fault fs
unfolding reading_fields
reading_fields-fault fs = go (nat_lt (length fs) 2)
  where
    go : (b : Bool) → result_err (cond b (Err F1) (reading_on (letter_named (field fs 1)) fs)) ≡ first_if b F1
        (letter_fault (letter_named (field fs 1)) fs)
    go true = refl
    go false = reading_on-fault (letter_named (field fs 1)) fs

pub reading-fault : (line : List ℕ) → result_err (reading_commit line) ≡ commit_fault line
unfolding reading_commit
reading-fault line = go (nat_lt 256 (length line) || not (ends_with_byte 10 line))
  where
    go : (b : Bool) → result_err (cond b (Err F1) (reading_fields (pieces (without_last line)))) ≡ first_if b F1
        (commit_fields_fault (pieces (without_last line)))
    go true = refl
    go false = reading_fields-fault (pieces (without_last line))
