-- The fault of a line that spells no commit with an address of 64 bits.
use Rattle.std.proofs.Common.{◌≡◌, ◌≢◌, ◌<◌, ℕ, ◌*◌, ◌/◌, ◌^◌, Bool, true, false, not, cond, List, []}
use Rattle.std.proofs.Common.{◌∷◌, ◌++◌, length, refl, sym, ap, ◌∙◌, arith}
use Rattle.std.proofs.Math.Nat.{div-eq_of_lt, div-lt_iff_lt-mul}
use Rattle.std.proofs.lemmas.Bool.{and_parts, eqb-true, leb-true, le-ltb, le-leb}
use Rattle.std.proofs.lemmas.Nat.{pow_pos}
use Rattle.std.specs.Io.BufRead.{ends_with_byte}
use Rattle.std.specs.Prelude.{◌||◌, ◌&&◌, ◌==◌, Option, Some, None, Result, Ok, Err, nat_le, nat_lt}
use Rattle.tl_beat.proofs.Pieces.{NoSpaces, pieces-spaced, spaced-pieces}
use Rattle.tl_beat.proofs.ReadFields.{ok_is}
use Rattle.tl_beat.proofs.ReadLines.{cons_same, line-whole}
use Rattle.tl_beat.proofs.SpelledDigits.{Spelled, number_in-digits, number_in-ok}
use Rattle.tl_beat.proofs.SpelledLines.{NoSpace-digits, ends_with_byte-line, without_last-line}
use Rattle.tl_beat.specs.declared.beat.Link.{Link}
use Rattle.tl_beat.specs.declared.fault.LineFault.{LineFault}
use Rattle.tl_beat.specs.declared.fault.LineFault.TheVariants.{F1, F3}
use Rattle.tl_beat.specs.statement.Digits.{digits, is_digits, value_of}
use Rattle.tl_beat.specs.statement.First.{first_if}
use Rattle.tl_beat.specs.statement.Line.{are_of_form, field, pieces, spaced, without_last}
use Rattle.tl_events.specs.statement.CommitLine.{I, L, Letter, S, commit_fault, is_piece}
use Rattle.tl_events.specs.statement.CommitLine.{letter_fault, letter_named, value_digits}
use Rattle.tl_rules.specs.statement.Legality.{is_aligned}
use Rattle.tl_wide_events.proofs.HalvedLines.{halved}
use Rattle.tl_wide_events.specs.code.Halves.{IsFaultUnless}
use Rattle.tl_wide_events.specs.declared.commit.WideCommit.{WideCommit}
use Rattle.tl_wide_events.specs.declared.commit.WideCommit.TheVariants as wide
use Rattle.tl_wide_events.specs.declared.commit.WidePiece.{WidePiece}
use Rattle.tl_wide_events.specs.statement.WideCommitLine.{IsWideCommit, IsWidePiece, SpellsWideCommit, wide_commit_fault}
use Rattle.tl_wide_events.specs.statement.WideCommitLine.{wide_commit_fields, wide_commit_fields_fault, wide_commit_forms}
use Rattle.tl_wide_events.specs.statement.WideCommitLine.{wide_letter_fault}

-- ---- the fault of a commit's line, or a wrong field

-- the fault of the shorter form, or F3 if it has none
abbrev pub or_wrong_field : Option LineFault → LineFault
or_wrong_field None = F3
or_wrong_field (Some fault) = fault

-- the last tests of a line
last-fault : (wrong other : Bool)
    → IsFaultUnless (first_if wrong F3 None) (or_wrong_field (first_if other F3 None))
last-fault true true some = refl
last-fault true false some = refl
last-fault false other some = absurd (some refl)

same-first : (b : Bool) (found other : Option LineFault) (fault : LineFault)
    → IsFaultUnless found (or_wrong_field other)
    → IsFaultUnless (first_if b fault found) (or_wrong_field (first_if b fault other))
same-first true found other fault h some = refl
same-first false found other fault h some = h some

same-letter : (letter : Option Letter) (fields : List (List ℕ))
    → IsFaultUnless (wide_letter_fault letter fields) (or_wrong_field (letter_fault letter fields))
same-letter None fields = λ some. refl
same-letter (Some S) fields = same-first (not (length fields == 5)) _ _ F1 (last-fault _ _)
same-letter (Some L) fields = same-first (not (length fields == 5)) _ _ F1 (last-fault _ _)
same-letter (Some I) fields = same-first (not (length fields == 4)) _ _ F1 (last-fault _ _)

pub same-fault : (line : List ℕ) → IsFaultUnless (wide_commit_fault line) (or_wrong_field (commit_fault line))
same-fault line =
    same-first (nat_lt 256 (length line) || not (ends_with_byte 10 line)) _ _ F1
    (same-first (nat_lt (length (pieces (without_last line))) 2) _ _ F1
    (same-letter (letter_named (field (pieces (without_last line)) 1)) (pieces (without_last line))))

-- ---- a line that spells a commit has no fault

abbrev ok_if : Bool → ℕ → Result ℕ LineFault
ok_if b n = cond b (Ok n) (Err F3)

-- the field is the digits of this number
record AreDigits (w n : ℕ) (p : List ℕ) : Type 0 where
  form : is_digits w p ≡ true
  value : value_of p ≡ n

digits-are : (w n : ℕ) → n < 2 ^ (4 * w) → AreDigits w n (digits w n)
digits-are w n lt = go (is_digits w (digits w n)) refl (number_in-digits w n (sym (div-eq_of_lt lt)))
  where
    go : (b : Bool) → is_digits w (digits w n) ≡ b → ok_if b (value_of (digits w n)) ≡ Ok n
        → AreDigits w n (digits w n)
    go true is e = record { form = is; value = ok_is e }
    go false is e = absurd cc

fields-unfaulted : (link : Link) (x : WideCommit) → link.0 < 2 ^ 8 → IsWideCommit x
    → wide_commit_fields_fault (wide_commit_fields link x) ≡ None
fields-unfaulted link (wide.Store piece value) lt is =
    let l = digits-are 2 link.0 lt in
    let z = digits-are 1 piece.size (omega (arith, is.0.small)) in
    let a = digits-are 16 piece.address is.0.in_range in
    let v = digits-are (value_digits piece.size) value is.1 in
    rw (l.form, z.form, z.value, a.form, a.value, v.form, le-leb piece.size 3 is.0.small, is.0.aligned) refl
fields-unfaulted link (wide.Load piece value) lt is =
    let l = digits-are 2 link.0 lt in
    let z = digits-are 1 piece.size (omega (arith, is.0.small)) in
    let a = digits-are 16 piece.address is.0.in_range in
    let v = digits-are (value_digits piece.size) value is.1 in
    rw (l.form, z.form, z.value, a.form, a.value, v.form, le-leb piece.size 3 is.0.small, is.0.aligned) refl
fields-unfaulted link (wide.Begin piece) lt is =
    let l = digits-are 2 link.0 lt in
    let z = digits-are 1 piece.size (omega (arith, is.small)) in
    let a = digits-are 16 piece.address is.in_range in
    rw (l.form, z.form, z.value, a.form, a.value, le-leb piece.size 3 is.small, is.aligned) refl

no-spaces : (link : Link) (x : WideCommit) → NoSpaces (wide_commit_fields link x)
no-spaces link (wide.Store piece value) = (
  NoSpace-digits 2 link.0,
  (
    (refl, tt),
    (
      NoSpace-digits 1 piece.size,
      (NoSpace-digits 16 piece.address, (NoSpace-digits (value_digits piece.size) value, tt)),
    ),
  ),
)
no-spaces link (wide.Load piece value) = (
  NoSpace-digits 2 link.0,
  (
    (refl, tt),
    (
      NoSpace-digits 1 piece.size,
      (NoSpace-digits 16 piece.address, (NoSpace-digits (value_digits piece.size) value, tt)),
    ),
  ),
)
no-spaces link (wide.Begin piece) =
    (NoSpace-digits 2 link.0, ((refl, tt), (NoSpace-digits 1 piece.size, (NoSpace-digits 16 piece.address, tt))))

some-fields : (link : Link) (x : WideCommit) → 0 < length (wide_commit_fields link x)
some-fields link (wide.Store piece value) = omega arith
some-fields link (wide.Load piece value) = omega arith
some-fields link (wide.Begin piece) = omega arith

-- such a line is short, ends in LF, and has these fields
pub record Fields (line : List ℕ) (link : Link) (x : WideCommit) : Type 0 where
  pub whole : (nat_lt 256 (length line) || not (ends_with_byte 10 line)) ≡ false
  pub are : pieces (without_last line) ≡ wide_commit_fields link x

pub fields-of : (line : List ℕ) (link : Link) (x : WideCommit) → SpellsWideCommit line link x → Fields line link x
fields-of line link x s =
    let fs = wide_commit_fields link x in
    let short = le-ltb 256 (length line) (omega (arith, (halved line link x s).short)) in
    let ends : ends_with_byte 10 line ≡ true =
    ap (ends_with_byte 10) s.is_line ∙ ends_with_byte-line (spaced fs) in
    record {
      whole = rw (short, ends) refl;
      are = ap (λ (l : List ℕ). pieces (without_last l)) s.is_line ∙ ap pieces (without_last-line (spaced fs))
          ∙ pieces-spaced fs (some-fields link x) (no-spaces link x);
    }

pub unfaulted : (line : List ℕ) (link : Link) (x : WideCommit) → SpellsWideCommit line link x
    → wide_commit_fault line ≡ None
unfaulted line link x s =
    let f = fields-of line link x s in
    rw (f.whole, f.are) (fields-unfaulted link x s.link_in_range s.is_commit)

-- ---- a line without a fault spells a commit

-- a test that found no fault
passed : (b : Bool) (fault : LineFault) (found : Option LineFault) → first_if b fault found ≡ None
    → (b ≡ false) × (found ≡ None)
passed true fault found e = absurd cc
passed false fault found e = (refl, e)

same-count : (n k : ℕ) → not (n == k) ≡ false → n ≡ k
same-count n k e = go (n == k) refl e
  where
    go : (b : Bool) → (n == k) ≡ b → not b ≡ false → n ≡ k
    go true is f = eqb-true n k is
    go false is f = absurd cc

holds : (b : Bool) → not b ≡ false → b ≡ true
holds true e = refl
holds false e = absurd cc

number-of : (w : ℕ) (p : List ℕ) → is_digits w p ≡ true → Spelled w p (value_of p)
number-of w p is = number_in-ok w p (value_of p) (rw is refl)

value-below : (n room : ℕ) → 0 ≡ n / 2 ^ room → n < 2 ^ room
value-below n room none =
    let below : n < 1 * 2 ^ room = (div-lt_iff_lt-mul (pow_pos room)).0 (omega (arith, none)) in
    omega (arith, below)

-- what fields spell
record Spell (fs : List (List ℕ)) : Type 0 where
  link : Link
  commit : WideCommit
  are : fs ≡ wide_commit_fields link commit
  link_in_range : link.0 < 2 ^ 8
  is_commit : IsWideCommit commit

abbrev link_in : List ℕ → Link
link_in l = record { 0 = value_of l }

abbrev piece_in : List ℕ → List ℕ → WidePiece
piece_in z a = record { size = value_of z; address = value_of a }

piece-valid : (z a : List ℕ) → is_digits 16 a ≡ true → is_piece (value_of z) (value_of a) ≡ true
    → IsWidePiece (piece_in z a)
piece-valid z a is_a is =
    let (small, aligned) = and_parts (nat_le (value_of z) 3) (is_aligned (value_of a) (value_of z)) is in
    record {
      small = leb-true (value_of z) 3 small;
      in_range = omega (arith, (number-of 16 a is_a).fits);
      aligned = aligned;
    }

-- the tests of the fields of a store or a load, and of the beginning of a load
abbrev valued_tests : List ℕ → List ℕ → List ℕ → List ℕ → Bool
valued_tests l z a v =
    (is_digits 2 l && (true && (is_digits 1 z && (is_digits 16 a && (is_digits (value_digits (value_of z)) v && true)))))
    && is_piece (value_of z) (value_of a)

abbrev begin_tests : List ℕ → List ℕ → List ℕ → Bool
begin_tests l z a =
    (is_digits 2 l && (true && (is_digits 1 z && (is_digits 16 a && true)))) && is_piece (value_of z) (value_of a)

-- a store or a load, which `make` makes, with this letter
valued-spell : (c : ℕ) (make : WidePiece → ℕ → WideCommit) (l z a v : List ℕ)
    → ((link : Link) (piece : WidePiece) (value : ℕ) → wide_commit_fields link (make piece value)
    ≡ digits 2 link.0 ∷ (c ∷ []) ∷ digits 1 piece.size ∷ digits 16 piece.address
    ∷ digits (value_digits piece.size) value ∷ [])
    → ((piece : WidePiece) (value : ℕ) → IsWidePiece piece → value < 2 ^ (4 * value_digits piece.size)
    → IsWideCommit (make piece value))
    → valued_tests l z a v ≡ true → Spell (l ∷ (c ∷ []) ∷ z ∷ a ∷ v ∷ [])
valued-spell c make l z a v fields valid e =
    let (forms, is) = and_parts _ (is_piece (value_of z) (value_of a)) e in
    let (is_l, forms_z) = and_parts (is_digits 2 l) _ forms in
    let (is_z, forms_a) = and_parts (is_digits 1 z) _ forms_z in
    let (is_a, forms_v) = and_parts (is_digits 16 a) _ forms_a in
    let (is_v, end) = and_parts (is_digits (value_digits (value_of z)) v) true forms_v in
    let field_l = number-of 2 l is_l in
    let field_v = number-of (value_digits (value_of z)) v is_v in
    record {
      link = link_in l;
      commit = make (piece_in z a) (value_of v);
      are = cons_same field_l.spelled (cons_same refl (cons_same (number-of 1 z is_z).spelled
          (cons_same (number-of 16 a is_a).spelled (cons_same field_v.spelled refl))))
          ∙ sym (fields (link_in l) (piece_in z a) (value_of v));
      link_in_range = omega (arith, field_l.fits);
      is_commit = valid (piece_in z a) (value_of v) (piece-valid z a is_a is)
          (value-below (value_of v) (4 * value_digits (value_of z)) field_v.fits);
    }

begin-spell : (l z a : List ℕ) → begin_tests l z a ≡ true → Spell (l ∷ (73 ∷ []) ∷ z ∷ a ∷ [])
begin-spell l z a e =
    let (forms, is) = and_parts _ (is_piece (value_of z) (value_of a)) e in
    let (is_l, forms_z) = and_parts (is_digits 2 l) _ forms in
    let (is_z, forms_a) = and_parts (is_digits 1 z) _ forms_z in
    let (is_a, end) = and_parts (is_digits 16 a) true forms_a in
    let field_l = number-of 2 l is_l in
    record {
      link = link_in l;
      commit = wide.Begin (piece_in z a);
      are = cons_same field_l.spelled (cons_same refl (cons_same (number-of 1 z is_z).spelled
          (cons_same (number-of 16 a is_a).spelled refl)));
      link_in_range = omega (arith, field_l.fits);
      is_commit = piece-valid z a is_a is;
    }

-- the fields are of the form of this letter
abbrev right_fields : Letter → List (List ℕ) → Bool
right_fields letter fs =
    are_of_form (wide_commit_forms letter (value_of (field fs 2))) fs
    && is_piece (value_of (field fs 2)) (value_of (field fs 3))

-- the same of any number of fields
valued-fields : (c : ℕ) (make : WidePiece → ℕ → WideCommit) (l : List ℕ) (fs : List (List ℕ))
    → ((link : Link) (piece : WidePiece) (value : ℕ) → wide_commit_fields link (make piece value)
    ≡ digits 2 link.0 ∷ (c ∷ []) ∷ digits 1 piece.size ∷ digits 16 piece.address
    ∷ digits (value_digits piece.size) value ∷ [])
    → ((piece : WidePiece) (value : ℕ) → IsWidePiece piece → value < 2 ^ (4 * value_digits piece.size)
    → IsWideCommit (make piece value))
    → length (l ∷ (c ∷ []) ∷ fs) ≡ 5 → right_fields S (l ∷ (c ∷ []) ∷ fs) ≡ true → Spell (l ∷ (c ∷ []) ∷ fs)
valued-fields c make l (z ∷ a ∷ v ∷ []) fields valid count right = valued-spell c make l z a v fields valid right
valued-fields c make l [] fields valid count right = absurd (omega (arith, count))
valued-fields c make l (z ∷ []) fields valid count right = absurd (omega (arith, count))
valued-fields c make l (z ∷ a ∷ []) fields valid count right = absurd (omega (arith, count))
valued-fields c make l (z ∷ a ∷ v ∷ more ∷ fs) fields valid count right = absurd (omega (arith, count))

begin-fields : (c : ℕ) (l : List ℕ) (fs : List (List ℕ)) → c ≡ 73 → length (l ∷ (c ∷ []) ∷ fs) ≡ 4
    → right_fields I (l ∷ (c ∷ []) ∷ fs) ≡ true → Spell (l ∷ (c ∷ []) ∷ fs)
begin-fields c l (z ∷ a ∷ []) is count right = rw is (begin-spell l z a right)
begin-fields c l [] is count right = absurd (omega (arith, count))
begin-fields c l (z ∷ []) is count right = absurd (omega (arith, count))
begin-fields c l (z ∷ a ∷ more ∷ fs) is count right = absurd (omega (arith, count))

-- what the tests of a letter say
tests : (letter : Letter) (fs : List (List ℕ)) → wide_letter_fault (Some letter) fs ≡ None
    → (length fs ≡ length (wide_commit_forms letter 0)) × (right_fields letter fs ≡ true)
tests letter fs e =
    let (count, right) = passed (not (length fs == length (wide_commit_forms letter 0))) F1 _ e in (
      same-count (length fs) (length (wide_commit_forms letter 0)) count,
      holds (right_fields letter fs) (passed (not (right_fields letter fs)) F3 None right).0,
    )

fields-spell : (fs : List (List ℕ)) → wide_commit_fields_fault fs ≡ None → Spell fs
fields-spell [] e = absurd cc
fields-spell (l ∷ []) e = absurd cc
fields-spell (l ∷ [] ∷ fs) e =
    let (few, named) = passed (nat_lt (length (l ∷ [] ∷ fs)) 2) F1 _ e in absurd cc
fields-spell (l ∷ (c ∷ d ∷ cs) ∷ fs) e =
    let (few, named) = passed (nat_lt (length (l ∷ (c ∷ d ∷ cs) ∷ fs)) 2) F1 _ e in absurd cc
fields-spell (l ∷ (c ∷ []) ∷ fs) e =
    go (c == 83) (c == 76) (c == 73) refl refl refl (passed (nat_lt (length (l ∷ (c ∷ []) ∷ fs)) 2) F1 _ e).1
  where
    all : List (List ℕ)
    all = l ∷ (c ∷ []) ∷ fs

    go : (s m i : Bool) → (c == 83) ≡ s → (c == 76) ≡ m → (c == 73) ≡ i
        → wide_letter_fault (cond s (Some S) (cond m (Some L) (cond i (Some I) None))) all ≡ None → Spell all
    go true m i is_s is_m is_i f =
        let (count, right) = tests S all f in
        let is = eqb-true c 83 is_s in
        valued-fields c wide.Store l fs (λ link piece value. rw is refl) (λ piece value is lt. (is, lt)) count right
    go false true i is_s is_m is_i f =
        let (count, right) = tests L all f in
        let is = eqb-true c 76 is_m in
        valued-fields c wide.Load l fs (λ link piece value. rw is refl) (λ piece value is lt. (is, lt)) count right
    go false false true is_s is_m is_i f =
        let (count, right) = tests I all f in
        begin-fields c l fs (eqb-true c 73 is_i) count right
    go false false false is_s is_m is_i f = absurd cc

ends-of : (long ends : Bool) → (long || not ends) ≡ false → ends ≡ true
ends-of false true e = refl
ends-of false false e = absurd cc
ends-of true ends e = absurd cc

pub spelled-line : (line : List ℕ) → wide_commit_fault line ≡ None
    → (link : Link) × (x : WideCommit) × SpellsWideCommit line link x
spelled-line line e =
    let (whole, fields) = passed (nat_lt 256 (length line) || not (ends_with_byte 10 line)) F1 _ e in
    let ends = ends-of (nat_lt 256 (length line)) (ends_with_byte 10 line) whole in
    let s = fields-spell (pieces (without_last line)) fields in (
      s.link,
      s.commit,
      record {
        is_line = line-whole line ends ∙ ap (λ (b : List ℕ). b ++ 10 ∷ [])
            (sym (spaced-pieces (without_last line)) ∙ ap spaced s.are);
        link_in_range = s.link_in_range;
        is_commit = s.is_commit;
      },
    )

-- ---- what is read of a line

abbrev Read : Type 0
Read = Link × WideCommit

abbrev ok_read : Read → Result Read LineFault
ok_read x = Ok x

some-is : {A : Type 0} {x y : A} → Some x ≡ Some y → x ≡ y
some-is e = cc

pub read-same : (o : Option Read) (x y : Read) → o ≡ Some x → o ≡ Some y → ok_read x ≡ Ok y
read-same o x y is also = ap ok_read (some-is (sym is ∙ also))

pub err-ok : {A B : Type 0} (r : Result B LineFault) (fault : LineFault) (x : B) → r ≡ Err fault → r ≡ Ok x → A
err-ok (Ok y) fault x bad good = absurd cc
err-ok (Err other) fault x bad good = absurd cc

pub none-read : {A : Type 0} (o : Option Read) (x : Read) → o ≡ None → o ≡ Some x → A
none-read o x none some = let both : None ≡ Some x = sym none ∙ some in absurd cc

-- where nothing is read there is a fault
pub read-none : (line : List ℕ) (o : Option Read) (fault : LineFault) → o ≡ None
    → ((link : Link) (x : WideCommit) → SpellsWideCommit line link x → o ≡ Some (link, x))
    → IsFaultUnless (wide_commit_fault line) fault → Some fault ≡ wide_commit_fault line
read-none line o fault none every unless = sym (unless some)
  where
    some : wide_commit_fault line ≢ None
    some free =
        let (link, x, spells) = spelled-line line free in
        none-read {A = ⊥} o (link, x) none (every link x spells)
