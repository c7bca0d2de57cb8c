-- Parts of a text, and pieces that are appended.
use Rattle.std.proofs.Common.{◌≡◌, ◌⊎◌, ◌<◌, ℕ, zero, suc, ◌+◌, ◌-◌, List, [], ◌∷◌, ◌++◌, length, take, drop, refl}
use Rattle.std.proofs.Common.{ap, sym, arith, ◌∙◌, append_assoc, length-append, inl, inr, false, true, Bool, get_or}
use Rattle.std.proofs.lemmas.Bool.{eqb-true}
use Rattle.std.proofs.lemmas.List.{append-nil}
use Rattle.std.proofs.Math.Seq.{take-append_seam}
use Rattle.std.specs.List.{flat_map}
use Rattle.std.specs.Prelude.{◌==◌, bytes_eq, codes, OnOk, Result, Ok, Err}
use Rattle.tl_times.specs.code.Splitting.{AddsPieces, AreUntimed, are_cited}
use Rattle.tl_times.specs.declared.piece.Piece.{Piece}
use Rattle.tl_times.specs.statement.Pieces.{Cited, after_digits, front_digits, is_digit, parts_at}
use Rattle.tl_times.specs.statement.Pieces.{pieces, plain, shown_pieces, word_pieces, words_pieces}

-- ---- parts

-- the first byte of this kind ends the first part
cut_here : (last : ℕ) (text : List ℕ) (k : ℕ) → k < length text
    → ((i : ℕ) → i < k → (get_or text i 0 == last) ≡ false) → (get_or text k 0 == last) ≡ true
    → parts_at last text ≡ take (suc k) text ∷ parts_at last (drop (suc k) text)
unfolding parts_at
cut_here last [] k lt before is = absurd (omega (arith, lt))
cut_here last (b ∷ text) zero lt before is = rw is refl
cut_here last (b ∷ text) (suc k) lt before is =
    let first : (b == last) ≡ false = before 0 (omega arith) in
    let more = cut_here last text k (omega (arith, lt)) (λ i near. before (suc i) (omega (arith, near))) is in
    rw (first, more) refl

pub cut_part : (last : ℕ) (text : List ℕ) (k : ℕ) → k < length text
    → ((i : ℕ) → i < k → (get_or text i 0 == last) ≡ false) → (get_or text k 0 == last) ≡ true
    → parts_at last text ≡ take (k + 1) text ∷ parts_at last (drop (k + 1) text)
cut_part last text k lt before is =
    let next : k + 1 ≡ suc k = omega arith in rw next (cut_here last text k lt before is)

one_more : (last b c : ℕ) (text : List ℕ) → (b == last) ≡ false
    → ((c ∷ text) ≡ []) ⊎ (parts_at last (c ∷ text) ≡ (c ∷ text) ∷ []) → parts_at last (b ∷ c ∷ text) ≡ (b ∷ c ∷ text) ∷ []
unfolding parts_at
one_more last b c text first (inl none) = absurd cc
one_more last b c text first (inr more) = rw (first, more) refl

-- a text without such a byte is one part
pub uncut : (last : ℕ) (text : List ℕ) → ((i : ℕ) → i < length text → (get_or text i 0 == last) ≡ false)
    → (text ≡ []) ⊎ (parts_at last text ≡ text ∷ parts_at last [])
unfolding parts_at
uncut last [] none = inl refl
uncut last (b ∷ []) none =
    let first : (b == last) ≡ false = none 0 (omega arith) in inr (rw first refl)
uncut last (b ∷ c ∷ text) none =
    inr (one_more last b c text (none 0 (omega arith))
    (uncut last (c ∷ text) (λ i near. none (suc i) (omega (arith, near)))))

-- ---- digits

pub ended_digits : (text : List ℕ) → text ≡ [] → text ≡ after_digits text
unfolding after_digits
ended_digits [] none = refl
ended_digits (b ∷ text) none = absurd cc

pub no_digit : (text rest : List ℕ) (b : ℕ) → text ≡ b ∷ rest → is_digit b ≡ false → text ≡ after_digits text
unfolding after_digits
no_digit text rest b is other = rw (is, other) refl

pub one_digit : (text rest : List ℕ) (b : ℕ) → text ≡ b ∷ rest → is_digit b ≡ true → after_digits rest ≡ after_digits text
unfolding after_digits
one_digit text rest b is digit = rw (is, digit) refl

-- the digits at the front are what the rest leaves
front_first : (b : ℕ) (text : List ℕ) (is : Bool) → is_digit b ≡ is
    → front_digits text ++ after_digits text ≡ text → front_digits (b ∷ text) ++ after_digits (b ∷ text) ≡ b ∷ text
unfolding front_digits after_digits
front_first b text true is more = rw is (ap (λ (rest : List ℕ). b ∷ rest) more)
front_first b text false is more = rw is refl

pub cut_digits : (text : List ℕ) → front_digits text ++ after_digits text ≡ text
unfolding front_digits after_digits
cut_digits [] = refl
cut_digits (b ∷ text) = front_first b text (is_digit b) refl (cut_digits text)

-- ---- pieces

-- pieces are appended after others
pub adds_more : (a b c : List Piece) (one two : List Cited) → AddsPieces a b one → AddsPieces b c two
    → AddsPieces a c (one ++ two)
adds_more a b c one two (is, untimed) (more, still) =
    (more ∙ (ap (λ (all : List Cited). all ++ two) is ∙ append_assoc (are_cited a) one two), λ none. still (untimed none))

-- the pieces of one more word are there
pub adds_word : (first old new : List Piece) (named : Bool) (word rest after : List ℕ) (all : List Cited)
    → (are_cited old ++ words_pieces named (parts_at 32 rest) ≡ all) → (AreUntimed first → AreUntimed old)
    → parts_at 32 rest ≡ word ∷ parts_at 32 after → AddsPieces old new (word_pieces named word)
    → (are_cited new ++ words_pieces (bytes_eq word (codes "line ")) (parts_at 32 after) ≡ all)
    × (AreUntimed first → AreUntimed new)
unfolding words_pieces
adds_word first old new named word rest after all so untimed cut (is, still) = (
  rw is (append_assoc (are_cited old) (word_pieces named word) _
      ∙ (ap (λ (parts : List (List ℕ)). are_cited old ++ words_pieces named parts) (sym cut) ∙ so)),
  λ none. still (untimed none),
)

-- what is left after the digits is what follows them
front_is : (text front rest : List ℕ) → front ++ rest ≡ text → take (length text - length rest) text ≡ front
front_is text front rest is =
    let size : length text ≡ length front + length rest = rw (← is) (length-append front rest) in
    let room : length text - length rest ≡ length front = omega (arith, size) in
    rw (room, ← is) (take-append_seam front rest)

pub digits_cut : (text front rest : List ℕ) (count : ℕ) → rest ≡ after_digits text → count ≡ length text - length rest
    → front ≡ take count text → front ≡ front_digits text
digits_cut text front rest count is size taken =
    rw (taken, size, is) (front_is text (front_digits text) (after_digits text) (cut_digits text))

-- ---- answers

pub on_ok : {T E A B : Type 0} (r : Result T E) → (A → B) → OnOk r A → OnOk r B
on_ok (Ok x) so is = so is
on_ok (Err e) so is = is

-- no word is left
pub no_words : (first old : List Piece) (named : Bool) (rest : List ℕ) (all : List Cited)
    → (are_cited old ++ words_pieces named (parts_at 32 rest) ≡ all) → (AreUntimed first → AreUntimed old)
    → rest ≡ [] → (are_cited old ≡ all) × (AreUntimed first → AreUntimed old)
unfolding parts_at words_pieces
no_words first old named [] all so untimed none = (sym (append-nil (are_cited old)) ∙ so, untimed)
no_words first old named (b ∷ rest) all so untimed none = absurd cc

-- a line that shows one of the trace
pub shows : (line number : List ℕ) → (length number == 0) ≡ false
    → shown_pieces line number ≡ record { text = take (length line - 1) line; line = number } ∷ plain (drop (length line - 1) line) ∷ []
shows line [] some = absurd cc
shows line (b ∷ number) some = refl

-- the pieces of one more line are there
pub adds_line : (f : List ℕ → List Cited) (first old new : List Piece) (line rest after : List ℕ) (all : List Cited)
    → (are_cited old ++ flat_map f (parts_at 10 rest) ≡ all) → (AreUntimed first → AreUntimed old)
    → parts_at 10 rest ≡ line ∷ parts_at 10 after → AddsPieces old new (f line)
    → (are_cited new ++ flat_map f (parts_at 10 after) ≡ all) × (AreUntimed first → AreUntimed new)
adds_line f first old new line rest after all so untimed cut (is, still) = (
  rw is (append_assoc (are_cited old) (f line) _
      ∙ (ap (λ (parts : List (List ℕ)). are_cited old ++ flat_map f parts) (sym cut) ∙ so)),
  λ none. still (untimed none),
)

pub no_lines : (f : List ℕ → List Cited) (first old : List Piece) (rest : List ℕ) (all : List Cited)
    → (are_cited old ++ flat_map f (parts_at 10 rest) ≡ all) → (AreUntimed first → AreUntimed old)
    → rest ≡ [] → (are_cited old ≡ all) × (AreUntimed first → AreUntimed old)
unfolding parts_at
no_lines f first old [] all so untimed none = (sym (append-nil (are_cited old)) ∙ so, untimed)
no_lines f first old (b ∷ rest) all so untimed none = absurd cc

pub no_items : (text : List ℕ) → length text ≡ 0 → text ≡ []
no_items [] none = refl
no_items (b ∷ text) none = absurd (omega (arith, none))

pub empty : (text : List ℕ) → true ≡ (length text == 0) → text ≡ []
empty text none = no_items text (eqb-true (length text) 0 (sym none))

-- a text that isn't empty has a first part
pub cut_first : (last : ℕ) (text part rest : List ℕ) → (length text == 0) ≡ false
    → (text ≡ []) ⊎ (parts_at last text ≡ part ∷ parts_at last rest) → parts_at last text ≡ part ∷ parts_at last rest
cut_first last text part rest some (inl none) =
    let other : true ≡ false = ap (λ (t : List ℕ). length t == 0) (sym none) ∙ some in absurd cc
cut_first last text part rest some (inr cut) = cut

pub not_true : (b : Bool) → (b ≡ true → ⊥) → b ≡ false
not_true true apart = absurd (apart refl)
not_true false apart = refl

pub no_pieces : (text : List ℕ) → text ≡ [] → [] ≡ pieces text
unfolding parts_at
no_pieces [] none = refl
no_pieces (b ∷ text) none = absurd cc
