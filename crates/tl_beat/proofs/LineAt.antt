-- A line read from left to right is what its pieces are read as.
use Rattle.std.proofs.Common.{◌≡◌, ℕ, ◌+◌, ◌/◌, Bool, true, false, cond, List, [], ◌∷◌, length, refl, sym, ap, subst}
use Rattle.std.proofs.Common.{◌∙◌, arith}
use Rattle.std.specs.Prelude.{Result, Ok, Err, Some, None, ◌==◌, nat_lt}
use Rattle.std.specs.List.{after_first}
use Rattle.std.proofs.lemmas.Bool.{ne_eqb, le-ltb}
use Rattle.tl_beat.specs.declared.beat.Link.{Link}
use Rattle.tl_beat.specs.declared.beat.Beat.{Beat}
use Rattle.tl_beat.specs.declared.beat.Beat.TheVariants.{E}
use Rattle.tl_beat.specs.declared.channel.Channel.TheVariants as channel
use Rattle.tl_beat.specs.declared.fault.LineFault.{LineFault}
use Rattle.tl_beat.specs.declared.fault.LineFault.TheVariants.{F1, F2}
use Rattle.tl_beat.specs.statement.Line.{spaced, pieces, channel_named, without_last}
use Rattle.tl_beat.specs.code.Reading.{◌>>=◌, linked, reading_a, reading_b, reading_c, reading_d, reading_e, reading_on}
use Rattle.tl_beat.specs.code.Reading.{reading_fields, reading}
use Rattle.tl_beat.specs.code.FromLeft.{digits_at, at_end, line_a_at, line_b_at, line_c_at, line_d_at, line_e_at}
use Rattle.tl_beat.specs.code.FromLeft.{letter_in, spaces_in, line_with, body_at, line_at}
use Rattle.tl_beat.proofs.Pieces.{NoSpace, NoSpaces, NoSpaces-pieces, length-pieces, spaced-pieces, after_first-piece}
use Rattle.tl_beat.proofs.FieldsAt.{then_head, then_number, then_bit, then_tail, digits_at-end}

-- what follows a test that fails
pub unless_equal : {A : Type 0} (n k : ℕ) (x y : A) → (n ≡ k → ⊥) → cond (n == k) x y ≡ y
unless_equal n k x y apart = rw (ne_eqb n k apart) refl

pub bind-assoc : {A B C : Type 0} (m : Result A LineFault) (f : A → Result B LineFault) (g : B → Result C LineFault)
    → ((m >>= f) >>= g) ≡ (m >>= λ x. f x >>= g)
bind-assoc (Ok x) f g = refl
bind-assoc (Err e) f g = refl

abbrev Read : ℕ → Type 0
Read w = Result (Link × Beat w) LineFault

abbrev acknowledged : {w : ℕ} → ℕ → ℕ → Read w
acknowledged {w} link sink = Ok (linked {w = w} link (E (record { sink = sink })))

line_a-reads : {w : ℕ} (n : ℕ) (link : List ℕ) (letter : ℕ) (fs : List (List ℕ)) → n ≡ length fs + 1 → NoSpace link
    → NoSpaces fs
    → cond (n == 9) (line_a_at {w = w} (spaced (link ∷ (letter ∷ []) ∷ fs))) (Err F1) ≡ reading_a {w = w}
    (link ∷ (letter ∷ []) ∷ fs)
unfolding line_a_at reading_a spaced
line_a-reads {w} n link letter (opcode ∷ param ∷ size ∷ source ∷ address ∷ mask ∷ lanes ∷ corrupt ∷ []) e nl ns =
    rw e (then_head link opcode param size source letter _ _ _ nl ns.0 ns.1.0 ns.1.1.0 ns.1.1.1.0
    (λ l o p s t. then_number 8 address _ _ _ ns.1.1.1.1.0
    (λ a. then_number (w / 4) mask _ _ _ ns.1.1.1.1.1.0 (λ m. then_tail w lanes corrupt _ _ ns.1.1.1.1.1.1.0
    ns.1.1.1.1.1.1.1.0 (λ d b. refl)))))
line_a-reads n link letter (opcode ∷ param ∷ size ∷ source ∷ address ∷ mask ∷ lanes ∷ corrupt ∷ more ∷ fs) e nl ns =
    unless_equal n 9 _ _ (λ f. omega arith)
line_a-reads n link letter fs e nl ns = rw e refl

line_b-reads : {w : ℕ} (n : ℕ) (link : List ℕ) (letter : ℕ) (fs : List (List ℕ)) → n ≡ length fs + 1 → NoSpace link
    → NoSpaces fs
    → cond (n == 9) (line_b_at {w = w} (spaced (link ∷ (letter ∷ []) ∷ fs))) (Err F1) ≡ reading_b {w = w}
    (link ∷ (letter ∷ []) ∷ fs)
unfolding line_b_at reading_b spaced
line_b-reads {w} n link letter (opcode ∷ param ∷ size ∷ source ∷ address ∷ mask ∷ lanes ∷ corrupt ∷ []) e nl ns =
    rw e (then_head link opcode param size source letter _ _ _ nl ns.0 ns.1.0 ns.1.1.0 ns.1.1.1.0
    (λ l o p s t. then_number 8 address _ _ _ ns.1.1.1.1.0
    (λ a. then_number (w / 4) mask _ _ _ ns.1.1.1.1.1.0 (λ m. then_tail w lanes corrupt _ _ ns.1.1.1.1.1.1.0
    ns.1.1.1.1.1.1.1.0 (λ d b. refl)))))
line_b-reads n link letter (opcode ∷ param ∷ size ∷ source ∷ address ∷ mask ∷ lanes ∷ corrupt ∷ more ∷ fs) e nl ns =
    unless_equal n 9 _ _ (λ f. omega arith)
line_b-reads n link letter fs e nl ns = rw e refl

line_c-reads : {w : ℕ} (n : ℕ) (link : List ℕ) (letter : ℕ) (fs : List (List ℕ)) → n ≡ length fs + 1 → NoSpace link
    → NoSpaces fs
    → cond (n == 8) (line_c_at {w = w} (spaced (link ∷ (letter ∷ []) ∷ fs))) (Err F1) ≡ reading_c {w = w}
    (link ∷ (letter ∷ []) ∷ fs)
unfolding line_c_at reading_c spaced
line_c-reads {w} n link letter (opcode ∷ param ∷ size ∷ source ∷ address ∷ lanes ∷ corrupt ∷ []) e nl ns =
    rw e (then_head link opcode param size source letter _ _ _ nl ns.0 ns.1.0 ns.1.1.0 ns.1.1.1.0
    (λ l o p s t. then_number 8 address _ _ _ ns.1.1.1.1.0 (λ a. then_tail w lanes corrupt _ _ ns.1.1.1.1.1.0
    ns.1.1.1.1.1.1.0 (λ d b. refl))))
line_c-reads n link letter (opcode ∷ param ∷ size ∷ source ∷ address ∷ lanes ∷ corrupt ∷ more ∷ fs) e nl ns =
    unless_equal n 8 _ _ (λ f. omega arith)
line_c-reads n link letter fs e nl ns = rw e refl

line_d-reads : {w : ℕ} (n : ℕ) (link : List ℕ) (letter : ℕ) (fs : List (List ℕ)) → n ≡ length fs + 1 → NoSpace link
    → NoSpaces fs
    → cond (n == 9) (line_d_at {w = w} (spaced (link ∷ (letter ∷ []) ∷ fs))) (Err F1) ≡ reading_d {w = w}
    (link ∷ (letter ∷ []) ∷ fs)
unfolding line_d_at reading_d spaced
line_d-reads {w} n link letter (opcode ∷ param ∷ size ∷ source ∷ sink ∷ denied ∷ lanes ∷ corrupt ∷ []) e nl ns =
    rw e (then_head link opcode param size source letter _ _ _ nl ns.0 ns.1.0 ns.1.1.0 ns.1.1.1.0
    (λ l o p s t. then_number 2 sink _ _ _ ns.1.1.1.1.0
    (λ k. then_bit denied _ _ _ ns.1.1.1.1.1.0 (λ n. then_tail w lanes corrupt _ _ ns.1.1.1.1.1.1.0 ns.1.1.1.1.1.1.1.0
    (λ d b. refl)))))
line_d-reads n link letter (opcode ∷ param ∷ size ∷ source ∷ sink ∷ denied ∷ lanes ∷ corrupt ∷ more ∷ fs) e nl ns =
    unless_equal n 9 _ _ (λ f. omega arith)
line_d-reads n link letter fs e nl ns = rw e refl

line_e-reads : {w : ℕ} (n : ℕ) (link : List ℕ) (letter : ℕ) (fs : List (List ℕ)) → n ≡ length fs + 1 → NoSpace link
    → NoSpaces fs
    → cond (n == 2) (line_e_at {w = w} (spaced (link ∷ (letter ∷ []) ∷ fs))) (Err F1) ≡ reading_e {w = w}
    (link ∷ (letter ∷ []) ∷ fs)
unfolding line_e_at reading_e spaced
line_e-reads {w} n link letter (sink ∷ []) e nl ns =
    rw e (then_number 2 link _ _ _ nl (λ l. sym (bind-assoc (digits_at 0 2 sink) at_end (acknowledged {w = w} l))
    ∙ ap (λ (r : Result ℕ LineFault). r >>= acknowledged {w = w} l) (digits_at-end 2 sink)))
line_e-reads n link letter (sink ∷ more ∷ fs) e nl ns = unless_equal n 2 _ _ (λ f. omega arith)
line_e-reads n link letter fs e nl ns = rw e refl

abbrev line_of_letter : {w : ℕ} → Bool → Bool → Bool → Bool → Bool → Read w → Read w → Read w → Read w → Read w → Read w
line_of_letter a b c d e ra rb rc rd re = cond a ra (cond b rb (cond c rc (cond d rd (cond e re (Err F2)))))

-- a letter behind the first field
with_letter : {w : ℕ} (n : ℕ) (link : List ℕ) (c : ℕ) (fs : List (List ℕ)) → n ≡ length fs + 1 → NoSpace link
    → NoSpaces fs
    → line_with {w = w} (Some c) n (spaced (link ∷ (c ∷ []) ∷ fs)) ≡ reading_on {w = w} (channel_named (c ∷ []))
    (link ∷ (c ∷ []) ∷ fs)
with_letter {w} n link c fs same nl ns =
    go (c == 65) (c == 66) (c == 67) (c == 68) (c == 69)
    (line_a-reads n link c fs same nl ns) (line_b-reads n link c fs same nl ns) (line_c-reads n link c fs same nl ns)
    (line_d-reads n link c fs same nl ns) (line_e-reads n link c fs same nl ns)
  where
    go : (a b d e f : Bool) {ra rb rc rd re : Read w}
        → ra ≡ reading_a (link ∷ (c ∷ []) ∷ fs) → rb ≡ reading_b (link ∷ (c ∷ []) ∷ fs)
        → rc ≡ reading_c (link ∷ (c ∷ []) ∷ fs) → rd ≡ reading_d (link ∷ (c ∷ []) ∷ fs)
        → re ≡ reading_e (link ∷ (c ∷ []) ∷ fs)
        → line_of_letter a b d e f ra rb rc rd re ≡ reading_on
        (cond a (Some channel.A)
        (cond b (Some channel.B)
        (cond d (Some channel.C) (cond e (Some channel.D) (cond f (Some channel.E) None)))))
        (link ∷ (c ∷ []) ∷ fs)
    go true b d e f pa pb pc pd pe = pa
    go false true d e f pa pb pc pd pe = pb
    go false false true e f pa pb pc pd pe = pc
    go false false false true f pa pb pc pd pe = pd
    go false false false false true pa pb pc pd pe = pe
    go false false false false false pa pb pc pd pe = refl

-- the second field, whatever it is
second_field : {w : ℕ} (n : ℕ) (link second : List ℕ) (fs : List (List ℕ)) → n ≡ length fs + 1 → NoSpace link
    → NoSpace second → NoSpaces fs
    → line_with {w = w} (letter_in (spaced (second ∷ fs))) n (spaced (link ∷ second ∷ fs)) ≡ reading_on {w = w}
    (channel_named second) (link ∷ second ∷ fs)
unfolding spaced
second_field n link [] [] same nl nc ns = refl
second_field {w} n link [] (f ∷ fs) same nl nc ns = go (spaced (f ∷ fs))
  where
    body : List ℕ
    body = spaced (link ∷ [] ∷ f ∷ fs)

    other : (b : Bool) → line_with {w = w} (cond b (Some 32) None) n body ≡ Err F2
    other true = refl
    other false = refl

    go : (rest : List ℕ) → line_with {w = w} (letter_in (32 ∷ rest)) n body ≡ Err F2
    go [] = refl
    go (d ∷ cs) = other (d == 32)
second_field n link (c ∷ []) [] same nl nc ns = with_letter n link c [] same nl ns
second_field n link (c ∷ []) (f ∷ fs) same nl nc ns = with_letter n link c (f ∷ fs) same nl ns
second_field n link (c ∷ d ∷ cs) [] same nl nc ns = rw nc.1.0 refl
second_field n link (c ∷ d ∷ cs) (f ∷ fs) same nl nc ns = rw nc.1.0 refl

pub behind : (p q : List ℕ) (fs : List (List ℕ)) → NoSpace p → after_first (λ b. b == 32) (spaced (p ∷ q ∷ fs)) ≡ spaced
    (q ∷ fs)
unfolding spaced
behind p q fs none = after_first-piece p (spaced (q ∷ fs)) none

fields-read : {w : ℕ} (n : ℕ) (fs : List (List ℕ)) → length fs ≡ n + 1 → NoSpaces fs
    → cond (n == 0) (Err F1) (line_with {w = w} (letter_in (after_first (λ b. b == 32) (spaced fs))) n (spaced fs))
    ≡ reading_fields {w = w} fs
unfolding reading_fields
fields-read n [] e ns = absurd (omega arith)
fields-read n (p ∷ []) e ns = let none : n ≡ 0 = omega arith in rw none refl
fields-read {w} n (p ∷ q ∷ fs) e ns =
    let some : n ≡ 0 → ⊥ = λ z. omega arith in
    let two : nat_lt (length (p ∷ q ∷ fs)) 2 ≡ false = le-ltb (length (p ∷ q ∷ fs)) 2 (omega arith) in
    let count : n ≡ length fs + 1 = omega arith in
    rw (ne_eqb n 0 some, two)
    (ap (λ (rest : List ℕ). line_with {w = w} (letter_in rest) n (spaced (p ∷ q ∷ fs))) (behind p q fs ns.0)
    ∙ second_field n p q fs count ns.0 ns.1.0 ns.1.1)

-- a line without its line feed
pub body_at-is : (w : ℕ) (body : List ℕ) → body_at {w = w} body ≡ reading_fields {w = w} (pieces body)
body_at-is w body =
    subst (λ (b : List ℕ). cond (spaces_in body == 0) (Err F1)
    (line_with {w = w} (letter_in (after_first (λ b. b == 32) b)) (spaces_in body) b)
    ≡ reading_fields {w = w} (pieces body)) (spaced-pieces body)
    (fields-read (spaces_in body) (pieces body) (length-pieces body) (NoSpaces-pieces body))

pub line_at-is : (w : ℕ) (line : List ℕ) → line_at {w = w} line ≡ reading w line
unfolding reading
line_at-is w line = rw (body_at-is w (without_last line)) refl
