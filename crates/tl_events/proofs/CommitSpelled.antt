-- What a commit's line spells is read, and what is read is spelled.
use Rattle.std.proofs.Common.{◌≡◌, ◌≤◌, ◌<◌, ℕ, zero, suc, ◌+◌, ◌*◌, ◌/◌, ◌^◌}
use Rattle.std.proofs.Common.{Bool, true, false, not, cond, List, [], ◌∷◌}
use Rattle.std.proofs.Common.{◌++◌, length, refl, sym, ap, subst, ◌∙◌, arith, length-append, lit<}
use Rattle.std.proofs.lemmas.Bool.{eqb-true, le-ltb, le-leb, leb-true}
use Rattle.std.proofs.Math.Nat.{div-eq_of_lt, lt-div-mul-add, pow-le-pow_right}
use Rattle.std.specs.Io.BufRead.{ends_with_byte}
use Rattle.std.specs.Prelude.{Result, Ok, Err, Option, Some, None, ◌||◌, ◌&&◌, IfOk, nat_le, nat_lt, ◌==◌}
use Rattle.tl_beat.proofs.Pieces.{NoSpaces, pieces-spaced, spaced-pieces}
use Rattle.tl_beat.proofs.ReadFields.{ok_of, ok_is, ok_step}
use Rattle.tl_beat.proofs.ReadLines.{cons_same, line-whole}
use Rattle.tl_beat.proofs.SpelledDigits.{number_in-digits, number_in-ok, length-digits}
use Rattle.tl_beat.proofs.SpelledLines.{NoSpace-digits, ends_with_byte-line, length-spaced, total, without_last-line}
use Rattle.tl_beat.specs.code.Reading.{◌>>=◌, number_in}
use Rattle.tl_beat.specs.declared.beat.Link.{Link}
use Rattle.tl_beat.specs.declared.fault.LineFault.{LineFault}
use Rattle.tl_beat.specs.declared.fault.LineFault.TheVariants.{F1, F3}
use Rattle.tl_beat.specs.statement.Digits.{digits}
use Rattle.tl_beat.specs.statement.Line.{field, pieces, spaced, without_last}
use Rattle.tl_rules.specs.statement.Legality.{is_aligned}
use Rattle.tl_events.specs.code.CommitReading.{loaded, piece_of, reading_begin, reading_commit, reading_fields}
use Rattle.tl_events.specs.code.CommitReading.{reading_on, reading_valued, stored, valued}
use Rattle.tl_events.specs.declared.commit.Commit.{Commit}
use Rattle.tl_events.specs.declared.commit.Commit.TheVariants as commit
use Rattle.tl_events.specs.declared.commit.Piece.{Piece}
use Rattle.tl_events.specs.declared.read.ValuedPiece.{ValuedPiece}
use Rattle.tl_events.specs.statement.CommitLine.{IsCommit, IsPiece, L, I, Letter, S, SpellsCommit, commit_fields}
use Rattle.tl_events.specs.statement.CommitLine.{letter_named, value_digits}

-- ---- pieces

-- a piece is one of its numbers
piece-read : (piece : Piece) → IsPiece piece → piece_of piece.size piece.address ≡ Ok piece
piece-read piece is = rw (le-leb piece.size 3 is.small, is.aligned) refl

-- a piece with these numbers
record IsRead (size address : ℕ) (piece : Piece) : Type 0 where
  size_is : piece.size ≡ size
  address_is : piece.address ≡ address
  small : size ≤ 3
  aligned : is_aligned address size ≡ true

piece-is : (size address : ℕ) (piece : Piece) → piece_of size address ≡ Ok piece → IsRead size address piece
piece-is size address piece e = go (nat_le size 3) (is_aligned address size) refl refl e
  where
    numbers : Piece
    numbers = record { size = size; address = address }

    go : (b c : Bool) → nat_le size 3 ≡ b → is_aligned address size ≡ c
        → cond (b && c) (Ok numbers) (Err F3) ≡ ok_of piece
        → IsRead size address piece
    go true true small aligned f =
        let same : numbers ≡ piece = ok_is f in
        record {
          size_is = ap (λ (p : Piece). p.size) (sym same);
          address_is = ap (λ (p : Piece). p.address) (sym same);
          small = leb-true size 3 small;
          aligned = aligned;
        }
    go true false small aligned f = absurd cc
    go false c small aligned f = absurd cc

-- ---- what is spelled is read

few-digits : (size : ℕ) → size ≤ 3 → value_digits size ≤ 16
few-digits zero small = omega arith
few-digits (suc zero) small = omega arith
few-digits (suc (suc zero)) small = omega arith
few-digits (suc (suc (suc zero))) small = omega arith
few-digits (suc (suc (suc (suc n)))) small = absurd (omega arith)

below-room : (n room : ℕ) → n < 2 ^ room → 0 ≡ n / 2 ^ room
below-room n room lt = sym (div-eq_of_lt lt)

power-some : (room : ℕ) → 0 < 2 ^ room
power-some room =
    let none : 0 ≤ room = omega arith in
    omega (arith, pow-le-pow_right {n = 2} (lit< tt) {i = 0} {j = room} none)

above-none : (n room : ℕ) → 0 ≡ n / 2 ^ room → n < 2 ^ room
above-none n room none =
    let bound : n < n / 2 ^ room * 2 ^ room + 2 ^ room = lt-div-mul-add (power-some room) in
    let same : n / 2 ^ room * 2 ^ room + 2 ^ room ≡ 2 ^ room = rw (sym none) (omega arith) in
    subst (λ (m : ℕ). n < m) same bound

-- a store or a load is read
valued-read : (link : ℕ) (letter : List ℕ) (piece : Piece) (value : ℕ) → link < 2 ^ 8 → IsPiece piece
    → value < 2 ^ (4 * value_digits piece.size)
    → reading_valued (digits 2 link ∷ letter ∷ digits 1 piece.size ∷ digits 8 piece.address
    ∷ digits (value_digits piece.size) value ∷ []) ≡ valued link piece value
unfolding reading_valued
valued-read link letter piece value small is room =
    rw (
      number_in-digits 2 link (omega arith),
      number_in-digits 1 piece.size (omega (arith, is.small)),
      number_in-digits 8 piece.address (omega (arith, is.in_range)),
      piece-read piece is,
      number_in-digits (value_digits piece.size) value (below-room value (4 * value_digits piece.size) room),
    ) refl

fields-read : (link : Link) (x : Commit) → link.0 < 2 ^ 8 → IsCommit x
    → reading_fields (commit_fields link x) ≡ Ok (link, x)
unfolding reading_fields reading_begin
fields-read link (commit.Store piece value) small is =
    rw (valued-read link.0 (83 ∷ []) piece value small is.0 is.1) refl
fields-read link (commit.Load piece value) small is =
    rw (valued-read link.0 (76 ∷ []) piece value small is.0 is.1) refl
fields-read link (commit.Begin piece) small is =
    rw (
      number_in-digits 2 link.0 (omega arith),
      number_in-digits 1 piece.size (omega (arith, is.small)),
      number_in-digits 8 piece.address (omega (arith, is.in_range)),
      piece-read piece is,
    ) refl

fields-no_space : (link : Link) (x : Commit) → NoSpaces (commit_fields link x)
fields-no_space link (commit.Store piece value) = (
  NoSpace-digits 2 link.0,
  (
    (refl, tt),
    (
      NoSpace-digits 1 piece.size,
      (NoSpace-digits 8 piece.address, (NoSpace-digits (value_digits piece.size) value, tt)),
    ),
  ),
)
fields-no_space link (commit.Load piece value) = (
  NoSpace-digits 2 link.0,
  (
    (refl, tt),
    (
      NoSpace-digits 1 piece.size,
      (NoSpace-digits 8 piece.address, (NoSpace-digits (value_digits piece.size) value, tt)),
    ),
  ),
)
fields-no_space link (commit.Begin piece) =
    (NoSpace-digits 2 link.0, ((refl, tt), (NoSpace-digits 1 piece.size, (NoSpace-digits 8 piece.address, tt))))

fields-short : (link : Link) (x : Commit) → IsCommit x → total (commit_fields link x) ≤ 255
fields-short link (commit.Store piece value) is =
    omega (
      arith,
      length-digits 2 link.0,
      length-digits 1 piece.size,
      length-digits 8 piece.address,
      length-digits (value_digits piece.size) value,
      few-digits piece.size is.0.small,
    )
fields-short link (commit.Load piece value) is =
    omega (
      arith,
      length-digits 2 link.0,
      length-digits 1 piece.size,
      length-digits 8 piece.address,
      length-digits (value_digits piece.size) value,
      few-digits piece.size is.0.small,
    )
fields-short link (commit.Begin piece) is =
    omega (arith, length-digits 2 link.0, length-digits 1 piece.size, length-digits 8 piece.address)

fields-some : (link : Link) (x : Commit) → 0 < length (commit_fields link x)
fields-some link (commit.Store piece value) = omega arith
fields-some link (commit.Load piece value) = omega arith
fields-some link (commit.Begin piece) = omega arith

reading-line : (body : List ℕ) → length body ≤ 255 → reading_commit (body ++ 10 ∷ []) ≡ reading_fields (pieces body)
unfolding reading_commit
reading-line body short =
    let fits : nat_lt 256 (length (body ++ 10 ∷ [])) ≡ false =
    le-ltb 256 (length (body ++ 10 ∷ [])) (omega (arith, length-append body (10 ∷ []))) in
    rw (fits, ends_with_byte-line body, without_last-line body) refl

pub reading-spelled : (line : List ℕ) (link : Link) (x : Commit) → SpellsCommit line link x
    → reading_commit line ≡ Ok (link, x)
reading-spelled line link x s =
    let body = spaced (commit_fields link x) in
    let short : length body ≤ 255 =
    omega (arith, length-spaced (commit_fields link x), fields-short link x s.is_commit) in
    ap reading_commit s.is_line ∙ reading-line body short
    ∙ ap reading_fields (pieces-spaced (commit_fields link x) (fields-some link x) (fields-no_space link x))
    ∙ fields-read link x s.link_in_range s.is_commit

-- ---- what is read is spelled

-- the fields spell the link and the commit
record AreFields (fs : List (List ℕ)) (link : Link) (x : Commit) : Type 0 where
  are : fs ≡ commit_fields link x
  link_in_range : link.0 < 2 ^ 8
  is_commit : IsCommit x

-- the fields of a store or a load spell these numbers
record AreValued (link_text letter size_text address_text value_text : List ℕ) (v : ValuedPiece) : Type 0 where
  link_is : link_text ≡ digits 2 v.link
  size_is : size_text ≡ digits 1 v.piece.size
  address_is : address_text ≡ digits 8 v.piece.address
  value_is : value_text ≡ digits (value_digits v.piece.size) v.value
  in_range : v.link < 2 ^ 8
  is_piece : IsPiece v.piece
  has_room : v.value < 2 ^ (4 * value_digits v.piece.size)

-- the piece of numbers that were read
piece-taken : (size address : ℕ) (piece : Piece) → 0 ≡ address / 2 ^ (4 * 8) → IsRead size address piece → IsPiece piece
piece-taken size address piece fits r = record {
  small = rw r.size_is r.small;
  in_range = rw r.address_is (omega (arith, fits));
  aligned = rw (r.size_is, r.address_is) r.aligned;
}

valued-taken : (link_text letter size_text address_text value_text : List ℕ) (v : ValuedPiece)
    → reading_valued (link_text ∷ letter ∷ size_text ∷ address_text ∷ value_text ∷ []) ≡ Ok v
    → AreValued link_text letter size_text address_text value_text v
unfolding reading_valued
valued-taken link_text letter size_text address_text value_text v e =
    ok_step (number_in 2 link_text) _ v _ e (λ l is_l e1.
    ok_step (number_in 1 size_text) _ v _ e1 (λ s is_s e2.
    ok_step (number_in 8 address_text) _ v _ e2 (λ a is_a e3.
    ok_step (piece_of s a) _ v _ e3 (λ piece is_piece e4.
    ok_step (number_in (value_digits s) value_text) _ v _ e4 (λ n is_n e5.
    let made : ValuedPiece = record { link = l; piece = piece; value = n } in
    let same : made ≡ v = ok_is e5 in
    let r = piece-is s a piece is_piece in
    let t_l = number_in-ok 2 link_text l is_l in
    let t_s = number_in-ok 1 size_text s is_s in
    let t_a = number_in-ok 8 address_text a is_a in
    let t_n = number_in-ok (value_digits s) value_text n is_n in
    subst (λ (z : ValuedPiece). AreValued link_text letter size_text address_text value_text z) same (record {
      link_is = t_l.spelled;
      size_is = t_s.spelled ∙ ap (digits 1) (sym r.size_is);
      address_is = t_a.spelled ∙ ap (digits 8) (sym r.address_is);
      value_is = t_n.spelled ∙ ap (λ (k : ℕ). digits (value_digits k) n) (sym r.size_is);
      in_range = omega (arith, t_l.fits);
      is_piece = piece-taken s a piece t_a.fits r;
      has_room = rw r.size_is (above-none n (4 * value_digits s) t_n.fits);
    }))))))

-- the letters
abbrev letter_text : Letter → List ℕ
letter_text S = 83 ∷ []
letter_text L = 76 ∷ []
letter_text I = 73 ∷ []

abbrev some_letter : Letter → Option Letter
some_letter letter = Some letter

some-is : {k letter : Letter} → some_letter k ≡ some_letter letter → k ≡ letter
some-is e = cc

letter-is : (field : List ℕ) (letter : Letter) → letter_named field ≡ Some letter → field ≡ letter_text letter
letter-is [] letter e = absurd cc
letter-is (c ∷ d ∷ cs) letter e = absurd cc
letter-is (c ∷ []) letter e = go (c == 83) refl (c == 76) refl (c == 73) refl e
  where
    go : (s : Bool) → (c == 83) ≡ s → (l : Bool) → (c == 76) ≡ l → (i : Bool) → (c == 73) ≡ i
        → cond s (Some S) (cond l (Some L) (cond i (Some I) None)) ≡ some_letter letter → c ∷ [] ≡ letter_text letter
    go true is_s l is_l i is_i f = let same : S ≡ letter = some-is f in
        subst (λ (k : Letter). c ∷ [] ≡ letter_text k) same (ap (λ (k : ℕ). k ∷ []) (eqb-true c 83 is_s))
    go false is_s true is_l i is_i f = let same : L ≡ letter = some-is f in
        subst (λ (k : Letter). c ∷ [] ≡ letter_text k) same (ap (λ (k : ℕ). k ∷ []) (eqb-true c 76 is_l))
    go false is_s false is_l true is_i f = let same : I ≡ letter = some-is f in
        subst (λ (k : Letter). c ∷ [] ≡ letter_text k) same (ap (λ (k : ℕ). k ∷ []) (eqb-true c 73 is_i))
    go false is_s false is_l false is_i f = absurd cc

store-taken : (fs : List (List ℕ)) (link : Link) (x : Commit) → letter_named (field fs 1) ≡ Some S
    → (reading_valued fs >>= stored) ≡ Ok (link, x) → AreFields fs link x
unfolding reading_valued
store-taken (l ∷ letter ∷ s ∷ a ∷ n ∷ []) link x named e =
    ok_step (reading_valued (l ∷ letter ∷ s ∷ a ∷ n ∷ [])) _ (link, x) _ e (λ v is_v e1.
    let t = valued-taken l letter s a n v is_v in
    let same : (record { 0 = v.link }, commit.Store v.piece v.value) ≡ (link, x) = ok_is e1 in
    subst (λ (z : Link × Commit). AreFields (l ∷ letter ∷ s ∷ a ∷ n ∷ []) z.0 z.1) same (record {
      are = cons_same t.link_is (cons_same (letter-is letter S named)
          (cons_same t.size_is (cons_same t.address_is (cons_same t.value_is refl))));
      link_in_range = t.in_range;
      is_commit = (t.is_piece, t.has_room);
    }))
store-taken fs link x named e = absurd cc

load-taken : (fs : List (List ℕ)) (link : Link) (x : Commit) → letter_named (field fs 1) ≡ Some L
    → (reading_valued fs >>= loaded) ≡ Ok (link, x) → AreFields fs link x
unfolding reading_valued
load-taken (l ∷ letter ∷ s ∷ a ∷ n ∷ []) link x named e =
    ok_step (reading_valued (l ∷ letter ∷ s ∷ a ∷ n ∷ [])) _ (link, x) _ e (λ v is_v e1.
    let t = valued-taken l letter s a n v is_v in
    let same : (record { 0 = v.link }, commit.Load v.piece v.value) ≡ (link, x) = ok_is e1 in
    subst (λ (z : Link × Commit). AreFields (l ∷ letter ∷ s ∷ a ∷ n ∷ []) z.0 z.1) same (record {
      are = cons_same t.link_is (cons_same (letter-is letter L named)
          (cons_same t.size_is (cons_same t.address_is (cons_same t.value_is refl))));
      link_in_range = t.in_range;
      is_commit = (t.is_piece, t.has_room);
    }))
load-taken fs link x named e = absurd cc

begin-taken : (fs : List (List ℕ)) (link : Link) (x : Commit) → letter_named (field fs 1) ≡ Some I
    → reading_begin fs ≡ Ok (link, x) → AreFields fs link x
unfolding reading_begin
begin-taken (l ∷ letter ∷ s ∷ a ∷ []) link x named e =
    ok_step (number_in 2 l) _ (link, x) _ e (λ l1 is_l e1.
    ok_step (number_in 1 s) _ (link, x) _ e1 (λ s1 is_s e2.
    ok_step (number_in 8 a) _ (link, x) _ e2 (λ a1 is_a e3.
    ok_step (piece_of s1 a1) _ (link, x) _ e3 (λ piece is_piece e4.
    let r = piece-is s1 a1 piece is_piece in
    let t_l = number_in-ok 2 l l1 is_l in
    let t_s = number_in-ok 1 s s1 is_s in
    let t_a = number_in-ok 8 a a1 is_a in
    let same : (record { 0 = l1 }, commit.Begin piece) ≡ (link, x) = ok_is e4 in
    subst (λ (z : Link × Commit). AreFields (l ∷ letter ∷ s ∷ a ∷ []) z.0 z.1) same (record {
      are = cons_same t_l.spelled (cons_same (letter-is letter I named)
          (cons_same (t_s.spelled ∙ ap (digits 1) (sym r.size_is))
          (cons_same (t_a.spelled ∙ ap (digits 8) (sym r.address_is)) refl)));
      link_in_range = omega (arith, t_l.fits);
      is_commit = piece-taken s1 a1 piece t_a.fits r;
    })))))
begin-taken fs link x named e = absurd cc

reading_on-taken : (fs : List (List ℕ)) (link : Link) (x : Commit) (letter : Option Letter)
    → letter_named (field fs 1) ≡ letter → reading_on letter fs ≡ Ok (link, x) → AreFields fs link x
reading_on-taken fs link x None named e = absurd cc
reading_on-taken fs link x (Some S) named e = store-taken fs link x named e
reading_on-taken fs link x (Some L) named e = load-taken fs link x named e
reading_on-taken fs link x (Some I) named e = begin-taken fs link x named e

reading_fields-taken : (fs : List (List ℕ)) (link : Link) (x : Commit) → reading_fields fs ≡ Ok (link, x)
    → AreFields fs link x
unfolding reading_fields
reading_fields-taken fs link x e = go (nat_lt (length fs) 2) e
  where
    go : (b : Bool) → cond b (Err F1) (reading_on (letter_named (field fs 1)) fs) ≡ ok_of (link, x)
        → AreFields fs link x
    go true f = absurd cc
    go false f = reading_on-taken fs link x (letter_named (field fs 1)) refl f

reading-spells : (line : List ℕ) (link : Link) (x : Commit) → reading_commit line ≡ Ok (link, x)
    → SpellsCommit line link x
unfolding reading_commit
reading-spells line link x e = go (nat_lt 256 (length line)) (ends_with_byte 10 line) refl e
  where
    go : (long ends : Bool) → ends_with_byte 10 line ≡ ends
        → cond (long || not ends) (Err F1) (reading_fields (pieces (without_last line))) ≡ ok_of (link, x)
        → SpellsCommit line link x
    go true ends is f = absurd cc
    go false false is f = absurd cc
    go false true is f =
        let r = reading_fields-taken (pieces (without_last line)) link x f in
        record {
          is_line = line-whole line is ∙ ap (λ (b : List ℕ). b ++ 10 ∷ [])
              (sym (spaced-pieces (without_last line)) ∙ ap spaced r.are);
          link_in_range = r.link_in_range;
          is_commit = r.is_commit;
        }

pub ok-spells : (line : List ℕ) (r : Result (Link × Commit) LineFault) → r ≡ reading_commit line
    → IfOk r (λ read. SpellsCommit line read.0 read.1)
ok-spells line (Ok read) e = reading-spells line read.0 read.1 (sym e)
ok-spells line (Err fault) e = tt
