-- A commit's line read from left to right is what its pieces are read as.
use Rattle.std.proofs.Common.{◌≡◌, ℕ, ◌+◌, Bool, true, false, cond, List, [], ◌∷◌}
use Rattle.std.proofs.Common.{length, refl, ap, subst, ◌∙◌, arith}
use Rattle.std.proofs.lemmas.Bool.{ne_eqb, le-ltb}
use Rattle.std.specs.List.{after_first}
use Rattle.std.specs.Prelude.{Result, Err, Some, None, ◌==◌, nat_lt}
use Rattle.tl_beat.proofs.FieldsAt.{then_number, digits_at-end}
use Rattle.tl_beat.proofs.LineAt.{behind, unless_equal}
use Rattle.tl_beat.proofs.Pieces.{NoSpace, NoSpaces, NoSpaces-pieces, length-pieces, spaced-pieces}
use Rattle.tl_beat.specs.code.FromLeft.{letter_in, spaces_in}
use Rattle.tl_beat.specs.code.Reading.{◌>>=◌}
use Rattle.tl_beat.specs.declared.beat.Link.{Link}
use Rattle.tl_beat.specs.declared.fault.LineFault.{LineFault}
use Rattle.tl_beat.specs.declared.fault.LineFault.TheVariants.{F1, F2}
use Rattle.tl_beat.specs.statement.Line.{pieces, spaced, without_last}
use Rattle.tl_events.specs.code.CommitReading.{loaded, reading_begin, reading_commit, reading_fields}
use Rattle.tl_events.specs.code.CommitReading.{reading_on, reading_valued, stored}
use Rattle.tl_events.specs.code.FromLeft.{begin_at, body_at, line_at, line_with, valued_at}
use Rattle.tl_events.specs.declared.commit.Commit.{Commit}
use Rattle.tl_events.specs.declared.read.ValuedPiece.{ValuedPiece}
use Rattle.tl_events.specs.statement.CommitLine.{L, I, S, letter_named, value_digits}

abbrev Read : Type 0
Read = Result (Link × Commit) LineFault

valued-reads : (n : ℕ) (link : List ℕ) (letter : ℕ) (fs : List (List ℕ)) (make : ValuedPiece → Read)
    → n ≡ length fs + 1 → NoSpace link → NoSpaces fs
    → cond (n == 4) (valued_at (spaced (link ∷ (letter ∷ []) ∷ fs)) >>= make) (Err F1)
    ≡ (reading_valued (link ∷ (letter ∷ []) ∷ fs) >>= make)
unfolding valued_at reading_valued spaced
valued-reads n link letter (size ∷ address ∷ value ∷ []) make e nl ns =
    rw e (ap (λ (r : Result ValuedPiece LineFault). r >>= make) (then_number 2 link _ _ _ nl
    (λ l. then_number 1 size _ _ _ ns.0 (λ s. then_number 8 address _ _ _ ns.1.0
    (λ a. rw (digits_at-end (value_digits s) value) refl)))))
valued-reads n link letter (size ∷ address ∷ value ∷ more ∷ fs) make e nl ns = unless_equal n 4 _ _ (λ f. omega arith)
valued-reads n link letter fs make e nl ns = rw e refl

begin-reads : (n : ℕ) (link : List ℕ) (letter : ℕ) (fs : List (List ℕ)) → n ≡ length fs + 1 → NoSpace link
    → NoSpaces fs
    → cond (n == 3) (begin_at (spaced (link ∷ (letter ∷ []) ∷ fs))) (Err F1)
    ≡ reading_begin (link ∷ (letter ∷ []) ∷ fs)
unfolding begin_at reading_begin spaced
begin-reads n link letter (size ∷ address ∷ []) e nl ns =
    rw e (then_number 2 link _ _ _ nl
    (λ l. then_number 1 size _ _ _ ns.0 (λ s. rw (digits_at-end 8 address) refl)))
begin-reads n link letter (size ∷ address ∷ more ∷ fs) e nl ns = unless_equal n 3 _ _ (λ f. omega arith)
begin-reads n link letter fs e nl ns = rw e refl

abbrev line_of_letter : Bool → Bool → Bool → Read → Read → Read → Read
line_of_letter s l i rs rl ri = cond s rs (cond l rl (cond i ri (Err F2)))

-- a letter behind the first field
with_letter : (n : ℕ) (link : List ℕ) (c : ℕ) (fs : List (List ℕ)) → n ≡ length fs + 1 → NoSpace link → NoSpaces fs
    → line_with (Some c) n (spaced (link ∷ (c ∷ []) ∷ fs)) ≡ reading_on (letter_named (c ∷ [])) (link ∷ (c ∷ []) ∷ fs)
with_letter n link c fs same nl ns =
    go (c == 83) (c == 76) (c == 73) (valued-reads n link c fs stored same nl ns)
    (valued-reads n link c fs loaded same nl ns) (begin-reads n link c fs same nl ns)
  where
    go : (s l i : Bool) {rs rl ri : Read}
        → rs ≡ (reading_valued (link ∷ (c ∷ []) ∷ fs) >>= stored)
        → rl ≡ (reading_valued (link ∷ (c ∷ []) ∷ fs) >>= loaded)
        → ri ≡ reading_begin (link ∷ (c ∷ []) ∷ fs)
        → line_of_letter s l i rs rl ri ≡ reading_on
        (cond s (Some S) (cond l (Some L) (cond i (Some I) None)))
        (link ∷ (c ∷ []) ∷ fs)
    go true l i ps pl pi = ps
    go false true i ps pl pi = pl
    go false false true ps pl pi = pi
    go false false false ps pl pi = refl

-- the second field, whatever it is
second_field : (n : ℕ) (link second : List ℕ) (fs : List (List ℕ)) → n ≡ length fs + 1 → NoSpace link
    → NoSpace second → NoSpaces fs
    → line_with (letter_in (spaced (second ∷ fs))) n (spaced (link ∷ second ∷ fs))
    ≡ reading_on (letter_named second) (link ∷ second ∷ fs)
unfolding spaced
second_field n link [] [] same nl nc ns = refl
second_field n link [] (f ∷ fs) same nl nc ns = go (spaced (f ∷ fs))
  where
    body : List ℕ
    body = spaced (link ∷ [] ∷ f ∷ fs)

    other : (b : Bool) → line_with (cond b (Some 32) None) n body ≡ Err F2
    other true = refl
    other false = refl

    go : (rest : List ℕ) → line_with (letter_in (32 ∷ rest)) n body ≡ Err F2
    go [] = refl
    go (d ∷ cs) = other (d == 32)
second_field n link (c ∷ []) [] same nl nc ns = with_letter n link c [] same nl ns
second_field n link (c ∷ []) (f ∷ fs) same nl nc ns = with_letter n link c (f ∷ fs) same nl ns
second_field n link (c ∷ d ∷ cs) [] same nl nc ns = rw nc.1.0 refl
second_field n link (c ∷ d ∷ cs) (f ∷ fs) same nl nc ns = rw nc.1.0 refl

fields-read : (n : ℕ) (fs : List (List ℕ)) → length fs ≡ n + 1 → NoSpaces fs
    → cond (n == 0) (Err F1) (line_with (letter_in (after_first (λ b. b == 32) (spaced fs))) n (spaced fs))
    ≡ reading_fields fs
unfolding reading_fields
fields-read n [] e ns = absurd (omega arith)
fields-read n (p ∷ []) e ns = let none : n ≡ 0 = omega arith in rw none refl
fields-read n (p ∷ q ∷ fs) e ns =
    let some : n ≡ 0 → ⊥ = λ z. omega arith in
    let two : nat_lt (length (p ∷ q ∷ fs)) 2 ≡ false = le-ltb (length (p ∷ q ∷ fs)) 2 (omega arith) in
    let count : n ≡ length fs + 1 = omega arith in
    rw (ne_eqb n 0 some, two)
    (ap (λ (rest : List ℕ). line_with (letter_in rest) n (spaced (p ∷ q ∷ fs))) (behind p q fs ns.0)
    ∙ second_field n p q fs count ns.0 ns.1.0 ns.1.1)

-- a line without its line feed
body_at-is : (body : List ℕ) → body_at body ≡ reading_fields (pieces body)
body_at-is body =
    subst (λ (b : List ℕ). cond (spaces_in body == 0) (Err F1)
    (line_with (letter_in (after_first (λ b. b == 32) b)) (spaces_in body) b)
    ≡ reading_fields (pieces body)) (spaced-pieces body)
    (fields-read (spaces_in body) (pieces body) (length-pieces body) (NoSpaces-pieces body))

pub line_at-is : (line : List ℕ) → line_at line ≡ reading_commit line
unfolding reading_commit
line_at-is line = rw (body_at-is (without_last line)) refl
