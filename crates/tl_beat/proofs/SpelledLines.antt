-- What a line spells is read.
use Rattle.std.proofs.Common.{◌≡◌, ℕ, zero, suc, ◌+◌, ◌-◌, ◌*◌, ◌/◌, ◌%◌, ◌^◌, ◌<◌, ◌≤◌, Bool, true, false, List}
use Rattle.std.proofs.Common.{[], ◌∷◌, ◌++◌, length, get_or, take}
use Rattle.std.proofs.Common.{refl, sym, ap, ap₂, ◌∙◌, arith, length-append, inl, inr}
use Rattle.std.proofs.Math.Seq.{get_or-append_seam, take-append_seam}
use Rattle.std.proofs.lemmas.Bool.{lt-ltb, le-ltb}
use Rattle.std.specs.Prelude.{Result, Ok, Option, Some, None, ◌==◌, ◌&&◌, nat_lt}
use Rattle.std.specs.Io.BufRead.{ends_with_byte}
use Rattle.tl_beat.specs.declared.beat.Link.{Link}
use Rattle.tl_beat.specs.declared.beat.Beat.{Beat}
use Rattle.tl_beat.specs.declared.beat.Beat.TheVariants as beat
use Rattle.tl_beat.specs.declared.fault.LineFault.{LineFault}
use Rattle.tl_beat.specs.statement.Opcode.{a_code, b_code, c_code, d_code}
use Rattle.tl_beat.specs.statement.Digits.{digits, lane_digits, lanes_text, bit_text}
use Rattle.tl_beat.specs.statement.Line.{fields_of, spaced, IsWritable, AreLanes, IsInRange, Spells, pieces}
use Rattle.tl_beat.specs.statement.Line.{without_last}
use Rattle.tl_beat.specs.code.Reading.{at_most, reading_a, reading_b, reading_c, reading_d, reading_e, reading_fields}
use Rattle.tl_beat.specs.code.Reading.{reading}
use Rattle.tl_beat.specs.statement.Width.{IsWidth}
use Rattle.tl_beat.proofs.Pieces.{NoSpace, NoSpaces, pieces-spaced}
use Rattle.tl_beat.proofs.SpelledDigits.{digit_char-no_space, length-digits, number_in-digits, bit_in-text}
use Rattle.tl_beat.proofs.SpelledDigits.{length-lane_digits, data_in-text}
use Rattle.tl_beat.proofs.Made.{made_a-ok, made_b-ok, made_c-ok, made_d-ok}
use Rattle.tl_beat.proofs.OpcodeCodes.{a_with-code, a_code-digit, b_with-code, b_code-digit}
use Rattle.tl_beat.proofs.OpcodeCodes.{c_with-code, c_code-digit, d_with-code, d_code-digit}

pub at_most-ok : (greatest param : ℕ) → param < suc greatest → at_most greatest param ≡ Ok param
at_most-ok greatest param lt = rw (le-ltb greatest param (omega arith)) refl

mask-fits : (w mask : ℕ) → IsWidth w → mask < 2 ^ w → 0 ≡ mask / 2 ^ (4 * (w / 4))
mask-fits w mask (inl e) lt = let small : mask < 2 ^ 4 = rw e at lt in rw e (omega arith)
mask-fits w mask (inr (inl e)) lt = let small : mask < 2 ^ 8 = rw e at lt in rw e (omega arith)
mask-fits w mask (inr (inr e)) lt = let small : mask < 2 ^ 16 = rw e at lt in rw e (omega arith)

pub mask-below : (w mask : ℕ) → IsWidth w → 0 ≡ mask / 2 ^ (4 * (w / 4)) → mask < 2 ^ w
mask-below w mask (inl e) fits = let small : 0 ≡ mask / 2 ^ (4 * (4 / 4)) = rw e at fits in rw e (omega arith)
mask-below w mask (inr (inl e)) fits = let small : 0 ≡ mask / 2 ^ (4 * (8 / 4)) = rw e at fits in rw e (omega arith)
mask-below w mask (inr (inr e)) fits = let small : 0 ≡ mask / 2 ^ (4 * (16 / 4)) = rw e at fits in rw e (omega arith)

width-small : (w : ℕ) → IsWidth w → w ≤ 16
width-small w (inl e) = omega arith
width-small w (inr (inl e)) = omega arith
width-small w (inr (inr e)) = omega arith

-- ---- the spelling has no space within a field, and fits a line

pub NoSpace-digits : (w n : ℕ) → NoSpace (digits w n)
unfolding digits
NoSpace-digits zero n = tt
NoSpace-digits (suc w) n = (digit_char-no_space (n / 2 ^ (4 * w) % 16) (omega arith), NoSpace-digits w n)

pub NoSpace-append : (p q : List ℕ) → NoSpace p → NoSpace q → NoSpace (p ++ q)
NoSpace-append [] q np nq = nq
NoSpace-append (c ∷ cs) q np nq = (np.0, NoSpace-append cs q np.1 nq)

NoSpace-lane_digits : (lanes : List ℕ) → NoSpace (lane_digits lanes)
unfolding lane_digits
NoSpace-lane_digits [] = tt
NoSpace-lane_digits (x ∷ xs) = NoSpace-append (lane_digits xs) (digits 2 x) (NoSpace-lane_digits xs)
    (NoSpace-digits 2 x)

pub NoSpace-lanes : (lanes : Option (List ℕ)) → NoSpace (lanes_text lanes)
NoSpace-lanes None = (refl, tt)
NoSpace-lanes (Some lanes) = NoSpace-lane_digits lanes

pub NoSpace-bit : (b : Bool) → NoSpace (bit_text b)
NoSpace-bit false = (refl, tt)
NoSpace-bit true = (refl, tt)

pub length-lanes : (w : ℕ) (lanes : Option (List ℕ)) → AreLanes w lanes → length (lanes_text lanes) ≤ 2 * w + 1
length-lanes w None all = omega arith
length-lanes w (Some lanes) all = omega (arith, length-lane_digits lanes, all.0)

pub length-bit : (b : Bool) → length (bit_text b) ≡ 1
length-bit false = refl
length-bit true = refl

-- the bytes of fields, and one more for each
abbrev pub total : List (List ℕ) → ℕ
total [] = 0
total (f ∷ fs) = length f + 1 + total fs

pub length-spaced : (fs : List (List ℕ)) → length (spaced fs) ≤ total fs
unfolding spaced
length-spaced [] = omega arith
length-spaced (f ∷ []) = omega arith
length-spaced (f ∷ g ∷ fs) = omega (arith, length-append f (32 ∷ spaced (g ∷ fs)), length-spaced (g ∷ fs))

fields-no_space : {w : ℕ} (link : Link) (x : Beat w) → NoSpaces (fields_of link x)
fields-no_space {w} link (beat.A x) = (
  NoSpace-digits 2 link.0,
  (
    (refl, tt),
    (
      NoSpace-digits 1 (a_code x.opcode),
      (
        NoSpace-digits 1 x.param,
        (
          NoSpace-digits 1 x.size,
          (
            NoSpace-digits 2 x.source,
            (
              NoSpace-digits 8 x.address,
              (NoSpace-digits (w / 4) x.mask, (NoSpace-lanes x.lanes, (NoSpace-bit x.corrupt, tt))),
            ),
          ),
        ),
      ),
    ),
  ),
)
fields-no_space {w} link (beat.B x) = (
  NoSpace-digits 2 link.0,
  (
    (refl, tt),
    (
      NoSpace-digits 1 (b_code x.opcode),
      (
        NoSpace-digits 1 x.param,
        (
          NoSpace-digits 1 x.size,
          (
            NoSpace-digits 2 x.source,
            (
              NoSpace-digits 8 x.address,
              (NoSpace-digits (w / 4) x.mask, (NoSpace-lanes x.lanes, (NoSpace-bit x.corrupt, tt))),
            ),
          ),
        ),
      ),
    ),
  ),
)
fields-no_space {w} link (beat.C x) = (
  NoSpace-digits 2 link.0,
  (
    (refl, tt),
    (
      NoSpace-digits 1 (c_code x.opcode),
      (
        NoSpace-digits 1 x.param,
        (
          NoSpace-digits 1 x.size,
          (
            NoSpace-digits 2 x.source,
            (NoSpace-digits 8 x.address, (NoSpace-lanes x.lanes, (NoSpace-bit x.corrupt, tt))),
          ),
        ),
      ),
    ),
  ),
)
fields-no_space {w} link (beat.D x) = (
  NoSpace-digits 2 link.0,
  (
    (refl, tt),
    (
      NoSpace-digits 1 (d_code x.opcode),
      (
        NoSpace-digits 1 x.param,
        (
          NoSpace-digits 1 x.size,
          (
            NoSpace-digits 2 x.source,
            (NoSpace-digits 2 x.sink, (NoSpace-bit x.denied, (NoSpace-lanes x.lanes, (NoSpace-bit x.corrupt, tt)))),
          ),
        ),
      ),
    ),
  ),
)
fields-no_space {w} link (beat.E x) = (NoSpace-digits 2 link.0, ((refl, tt), (NoSpace-digits 2 x.sink, tt)))

fields-short : {w : ℕ} (link : Link) (x : Beat w) → w ≤ 16 → IsInRange x → total (fields_of link x) ≤ 255
fields-short {w} link (beat.A x) small within =
    omega (
      arith,
      length-digits 2 link.0,
      length-digits 1 (a_code x.opcode),
      length-digits 1 x.param,
      length-digits 1 x.size,
      length-digits 2 x.source,
      length-digits 8 x.address,
      length-digits (w / 4) x.mask,
      length-lanes w x.lanes within.2,
      length-bit x.corrupt,
    )
fields-short {w} link (beat.B x) small within =
    omega (
      arith,
      length-digits 2 link.0,
      length-digits 1 (b_code x.opcode),
      length-digits 1 x.param,
      length-digits 1 x.size,
      length-digits 2 x.source,
      length-digits 8 x.address,
      length-digits (w / 4) x.mask,
      length-lanes w x.lanes within.2,
      length-bit x.corrupt,
    )
fields-short {w} link (beat.C x) small within =
    omega (
      arith,
      length-digits 2 link.0,
      length-digits 1 (c_code x.opcode),
      length-digits 1 x.param,
      length-digits 1 x.size,
      length-digits 2 x.source,
      length-digits 8 x.address,
      length-lanes w x.lanes within.2,
      length-bit x.corrupt,
    )
fields-short {w} link (beat.D x) small within =
    omega (
      arith,
      length-digits 2 link.0,
      length-digits 1 (d_code x.opcode),
      length-digits 1 x.param,
      length-digits 1 x.size,
      length-digits 2 x.source,
      length-digits 2 x.sink,
      length-bit x.denied,
      length-lanes w x.lanes within.2,
      length-bit x.corrupt,
    )
fields-short {w} link (beat.E x) small within = omega (arith, length-digits 2 link.0, length-digits 2 x.sink)

-- ---- what is spelled is read

fields-read : {w : ℕ} (link : Link) (x : Beat w) → IsWidth w → link.0 < 2 ^ 8 → IsWritable x → IsInRange x
    → reading_fields (fields_of link x) ≡ Ok (link, x)
unfolding reading_fields reading_a reading_b reading_c reading_d reading_e
fields-read {w} link (beat.A x) width l writable within =
    let m = mask-fits w x.mask width writable.2 in
    rw (
      number_in-digits 2 link.0 (omega arith),
      number_in-digits 1 (a_code x.opcode) (a_code-digit x.opcode),
      number_in-digits 1 x.param (omega arith),
      number_in-digits 1 x.size (omega arith),
      number_in-digits 2 x.source (omega arith),
      number_in-digits 8 x.address (omega arith),
      number_in-digits (w / 4) x.mask m,
      data_in-text w x.lanes within.2,
      bit_in-text x.corrupt,
      ← made_a-ok x (a_code x.opcode) x.param (a_with-code x.opcode) (at_most-ok 7 x.param (omega arith)),
    ) refl
fields-read {w} link (beat.B x) width l writable within =
    let m = mask-fits w x.mask width writable.2 in
    rw (
      number_in-digits 2 link.0 (omega arith),
      number_in-digits 1 (b_code x.opcode) (b_code-digit x.opcode),
      number_in-digits 1 x.param (omega arith),
      number_in-digits 1 x.size (omega arith),
      number_in-digits 2 x.source (omega arith),
      number_in-digits 8 x.address (omega arith),
      number_in-digits (w / 4) x.mask m,
      data_in-text w x.lanes within.2,
      bit_in-text x.corrupt,
      ← made_b-ok x (b_code x.opcode) x.param (b_with-code x.opcode) (at_most-ok 7 x.param (omega arith)),
    ) refl
fields-read {w} link (beat.C x) width l writable within =
    rw (
      number_in-digits 2 link.0 (omega arith),
      number_in-digits 1 (c_code x.opcode) (c_code-digit x.opcode),
      number_in-digits 1 x.param (omega arith),
      number_in-digits 1 x.size (omega arith),
      number_in-digits 2 x.source (omega arith),
      number_in-digits 8 x.address (omega arith),
      data_in-text w x.lanes within.2,
      bit_in-text x.corrupt,
      ← made_c-ok x (c_code x.opcode) x.param (c_with-code x.opcode) (at_most-ok 7 x.param (omega arith)),
    ) refl
fields-read {w} link (beat.D x) width l writable within =
    rw (
      number_in-digits 2 link.0 (omega arith),
      number_in-digits 1 (d_code x.opcode) (d_code-digit x.opcode),
      number_in-digits 1 x.param (omega arith),
      number_in-digits 1 x.size (omega arith),
      number_in-digits 2 x.source (omega arith),
      number_in-digits 2 x.sink (omega arith),
      bit_in-text x.denied,
      data_in-text w x.lanes within.2,
      bit_in-text x.corrupt,
      ← made_d-ok x (d_code x.opcode) x.param (d_with-code x.opcode) (at_most-ok 3 x.param (omega arith)),
    ) refl
fields-read {w} link (beat.E x) width l writable within =
    rw (number_in-digits 2 link.0 (omega arith), number_in-digits 2 x.sink (omega arith)) refl

pub without_last-line : (body : List ℕ) → without_last (body ++ 10 ∷ []) ≡ body
without_last-line body =
    let len : length (body ++ 10 ∷ []) - 1 ≡ length body = omega (arith, length-append body (10 ∷ [])) in
    ap (λ (n : ℕ). take n (body ++ 10 ∷ [])) len ∙ take-append_seam body (10 ∷ [])

pub ends_with_byte-line : (body : List ℕ) → ends_with_byte 10 (body ++ 10 ∷ []) ≡ true
ends_with_byte-line body =
    let len : length (body ++ 10 ∷ []) - 1 ≡ length body = omega (arith, length-append body (10 ∷ [])) in
    let some : nat_lt 0 (length (body ++ 10 ∷ [])) ≡ true =
    lt-ltb 0 (length (body ++ 10 ∷ [])) (omega (arith, length-append body (10 ∷ []))) in
    let last : (get_or (body ++ 10 ∷ []) (length (body ++ 10 ∷ []) - 1) 0 == 10) ≡ true =
    ap (λ (i : ℕ). get_or (body ++ 10 ∷ []) i 0 == 10) len
    ∙ ap (λ (b : ℕ). b == 10) (get_or-append_seam body 10 [] 0) in
    ap₂ (λ (p q : Bool). p && q) some last

reading-line : (w : ℕ) (body : List ℕ) → length body ≤ 255 → reading w (body ++ 10 ∷ []) ≡ reading_fields (pieces body)
unfolding reading
reading-line w body short =
    let fits : nat_lt 256 (length (body ++ 10 ∷ [])) ≡ false =
    le-ltb 256 (length (body ++ 10 ∷ [])) (omega (arith, length-append body (10 ∷ []))) in
    rw (fits, ends_with_byte-line body, without_last-line body) refl

fields-some : {w : ℕ} (link : Link) (x : Beat w) → 0 < length (fields_of link x)
fields-some link (beat.A x) = omega arith
fields-some link (beat.B x) = omega arith
fields-some link (beat.C x) = omega arith
fields-some link (beat.D x) = omega arith
fields-some link (beat.E x) = omega arith

pub reading-spelled : {w : ℕ} (line : List ℕ) (link : Link) (x : Beat w) → IsWidth w → Spells line link x
    → reading w line ≡ Ok (link, x)
reading-spelled {w} line link x width s =
    let body = spaced (fields_of link x) in
    let short : length body ≤ 255 =
    omega (arith, length-spaced (fields_of link x), fields-short link x (width-small w width) s.in_range) in
    ap (reading w) s.is_line ∙ reading-line w body short
    ∙ ap (reading_fields {w = w}) (pieces-spaced (fields_of link x) (fields-some link x) (fields-no_space link x))
    ∙ fields-read link x width s.link_in_range s.writable s.in_range

abbrev ok_pair : {w : ℕ} → Link × Beat w → Result (Link × Beat w) LineFault
ok_pair x = Ok x

-- no two beats have one line
pub one-beat : {w : ℕ} (line : List ℕ) (k l : Link) (x y : Beat w) → IsWidth w → Spells line k x → Spells line l y
    → (k ≡ l) × (x ≡ y)
one-beat {w} line k l x y width s t =
    let same : (k, x) ≡ (l, y) = ok_same (sym (reading-spelled line k x width s) ∙ reading-spelled line l y width t) in
    (ap (λ (z : Link × Beat w). z.0) same, ap (λ (z : Link × Beat w). z.1) same)
  where
    ok_same : {a b : Link × Beat w} → ok_pair a ≡ ok_pair b → a ≡ b
    ok_same e = cc
