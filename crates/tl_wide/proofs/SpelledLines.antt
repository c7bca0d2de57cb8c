-- What a wide line spells is read.
use Rattle.std.proofs.Common.{◌≡◌, ℕ, ◌*◌, ◌/◌, ◌^◌, ◌<◌, ◌≤◌, false, List, [], ◌∷◌, ◌++◌, length, refl, ap, ◌∙◌}
use Rattle.std.proofs.Common.{arith, length-append, inl, inr}
use Rattle.std.proofs.lemmas.Bool.{le-ltb}
use Rattle.std.specs.Prelude.{Ok, nat_lt}
use Rattle.tl_beat.proofs.OpcodeCodes.{a_with-code, b_with-code, c_with-code, d_with-code, a_code-digit, b_code-digit}
use Rattle.tl_beat.proofs.OpcodeCodes.{c_code-digit, d_code-digit}
use Rattle.tl_beat.proofs.Pieces.{NoSpaces, pieces-spaced}
use Rattle.tl_beat.proofs.SpelledDigits.{number_in-digits, data_in-text, bit_in-text, length-digits}
use Rattle.tl_beat.proofs.SpelledLines.{NoSpace-digits, NoSpace-lanes, NoSpace-bit, at_most-ok, length-lanes}
use Rattle.tl_beat.proofs.SpelledLines.{length-bit, total, length-spaced, without_last-line, ends_with_byte-line}
use Rattle.tl_beat.specs.statement.Line.{spaced, pieces}
use Rattle.tl_beat.specs.statement.Opcode.{a_code, b_code, c_code, d_code}
use Rattle.tl_wide.specs.code.Reading.{reading_a, reading_b, reading_c, reading_d, reading_e, reading_fields, reading}
use Rattle.tl_wide.specs.statement.Line.{wide_fields, IsWideWritable, IsWideInRange, WideSpells}
use Rattle.tl_wide.specs.statement.Width.{IsWideWidth}
use Rattle.tl_beat.specs.declared.beat.Link.{Link}
use Rattle.tl_wide.specs.declared.beat.WideBeat.{WideBeat}
use Rattle.tl_wide.specs.declared.beat.WideBeat.TheVariants as wide
use Rattle.tl_wide.proofs.Made.{made_a-ok, made_b-ok, made_c-ok, made_d-ok}

mask-fits : (w mask : ℕ) → IsWideWidth w → mask < 2 ^ w → 0 ≡ mask / 2 ^ (4 * (w / 4))
mask-fits w mask (inl e) lt = let small : mask < 2 ^ 4 = rw e at lt in rw e (omega arith)
mask-fits w mask (inr (inl e)) lt = let small : mask < 2 ^ 8 = rw e at lt in rw e (omega arith)
mask-fits w mask (inr (inr (inl e))) lt = let small : mask < 2 ^ 16 = rw e at lt in rw e (omega arith)
mask-fits w mask (inr (inr (inr (inl e)))) lt = let small : mask < 2 ^ 32 = rw e at lt in rw e (omega arith)
mask-fits w mask (inr (inr (inr (inr e)))) lt = let small : mask < 2 ^ 64 = rw e at lt in rw e (omega arith)

pub mask-below : (w mask : ℕ) → IsWideWidth w → 0 ≡ mask / 2 ^ (4 * (w / 4)) → mask < 2 ^ w
mask-below w mask (inl e) fits = let small : 0 ≡ mask / 2 ^ (4 * (4 / 4)) = rw e at fits in rw e (omega arith)
mask-below w mask (inr (inl e)) fits = let small : 0 ≡ mask / 2 ^ (4 * (8 / 4)) = rw e at fits in rw e (omega arith)
mask-below w mask (inr (inr (inl e))) fits = let small : 0 ≡ mask / 2 ^ (4 * (16 / 4)) = rw e at fits in
    rw e (omega arith)
mask-below w mask (inr (inr (inr (inl e)))) fits = let small : 0 ≡ mask / 2 ^ (4 * (32 / 4)) = rw e at fits in
    rw e (omega arith)
mask-below w mask (inr (inr (inr (inr e)))) fits = let small : 0 ≡ mask / 2 ^ (4 * (64 / 4)) = rw e at fits in
    rw e (omega arith)

width-small : (w : ℕ) → IsWideWidth w → w ≤ 64
width-small w (inl e) = omega arith
width-small w (inr (inl e)) = omega arith
width-small w (inr (inr (inl e))) = omega arith
width-small w (inr (inr (inr (inl e)))) = omega arith
width-small w (inr (inr (inr (inr e)))) = omega arith

fields-no_space : {w : ℕ} (link : Link) (x : WideBeat w) → NoSpaces (wide_fields link x)
fields-no_space {w} link (wide.A x) = (
  NoSpace-digits 2 link.0,
  (
    (refl, tt),
    (
      NoSpace-digits 1 (a_code x.opcode),
      (
        NoSpace-digits 1 x.param,
        (
          NoSpace-digits 1 x.size,
          (
            NoSpace-digits 4 x.source,
            (
              NoSpace-digits 16 x.address,
              (NoSpace-digits (w / 4) x.mask, (NoSpace-lanes x.lanes, (NoSpace-bit x.corrupt, tt))),
            ),
          ),
        ),
      ),
    ),
  ),
)
fields-no_space {w} link (wide.B x) = (
  NoSpace-digits 2 link.0,
  (
    (refl, tt),
    (
      NoSpace-digits 1 (b_code x.opcode),
      (
        NoSpace-digits 1 x.param,
        (
          NoSpace-digits 1 x.size,
          (
            NoSpace-digits 4 x.source,
            (
              NoSpace-digits 16 x.address,
              (NoSpace-digits (w / 4) x.mask, (NoSpace-lanes x.lanes, (NoSpace-bit x.corrupt, tt))),
            ),
          ),
        ),
      ),
    ),
  ),
)
fields-no_space {w} link (wide.C x) = (
  NoSpace-digits 2 link.0,
  (
    (refl, tt),
    (
      NoSpace-digits 1 (c_code x.opcode),
      (
        NoSpace-digits 1 x.param,
        (
          NoSpace-digits 1 x.size,
          (
            NoSpace-digits 4 x.source,
            (NoSpace-digits 16 x.address, (NoSpace-lanes x.lanes, (NoSpace-bit x.corrupt, tt))),
          ),
        ),
      ),
    ),
  ),
)
fields-no_space {w} link (wide.D x) = (
  NoSpace-digits 2 link.0,
  (
    (refl, tt),
    (
      NoSpace-digits 1 (d_code x.opcode),
      (
        NoSpace-digits 1 x.param,
        (
          NoSpace-digits 1 x.size,
          (
            NoSpace-digits 4 x.source,
            (NoSpace-digits 4 x.sink, (NoSpace-bit x.denied, (NoSpace-lanes x.lanes, (NoSpace-bit x.corrupt, tt)))),
          ),
        ),
      ),
    ),
  ),
)
fields-no_space {w} link (wide.E x) = (NoSpace-digits 2 link.0, ((refl, tt), (NoSpace-digits 4 x.sink, tt)))

fields-short : {w : ℕ} (link : Link) (x : WideBeat w) → w ≤ 64 → IsWideInRange x → total (wide_fields link x) ≤ 255
fields-short {w} link (wide.A x) small within =
    omega (
      arith,
      length-digits 2 link.0,
      length-digits 1 (a_code x.opcode),
      length-digits 1 x.param,
      length-digits 1 x.size,
      length-digits 4 x.source,
      length-digits 16 x.address,
      length-digits (w / 4) x.mask,
      length-lanes w x.lanes within.2,
      length-bit x.corrupt,
    )
fields-short {w} link (wide.B x) small within =
    omega (
      arith,
      length-digits 2 link.0,
      length-digits 1 (b_code x.opcode),
      length-digits 1 x.param,
      length-digits 1 x.size,
      length-digits 4 x.source,
      length-digits 16 x.address,
      length-digits (w / 4) x.mask,
      length-lanes w x.lanes within.2,
      length-bit x.corrupt,
    )
fields-short {w} link (wide.C x) small within =
    omega (
      arith,
      length-digits 2 link.0,
      length-digits 1 (c_code x.opcode),
      length-digits 1 x.param,
      length-digits 1 x.size,
      length-digits 4 x.source,
      length-digits 16 x.address,
      length-lanes w x.lanes within.2,
      length-bit x.corrupt,
    )
fields-short {w} link (wide.D x) small within =
    omega (
      arith,
      length-digits 2 link.0,
      length-digits 1 (d_code x.opcode),
      length-digits 1 x.param,
      length-digits 1 x.size,
      length-digits 4 x.source,
      length-digits 4 x.sink,
      length-bit x.denied,
      length-lanes w x.lanes within.2,
      length-bit x.corrupt,
    )
fields-short {w} link (wide.E x) small within = omega (arith, length-digits 2 link.0, length-digits 4 x.sink)

-- ---- what is spelled is read

fields-read : {w : ℕ} (link : Link) (x : WideBeat w) → IsWideWidth w → link.0 < 2 ^ 8 → IsWideWritable x
    → IsWideInRange x
    → reading_fields (wide_fields link x) ≡ Ok (link, x)
unfolding reading_fields reading_a reading_b reading_c reading_d reading_e
fields-read {w} link (wide.A x) width l writable within =
    let m = mask-fits w x.mask width writable.2 in
    rw (
      number_in-digits 2 link.0 (omega arith),
      number_in-digits 1 (a_code x.opcode) (a_code-digit x.opcode),
      number_in-digits 1 x.param (omega arith),
      number_in-digits 1 x.size (omega arith),
      number_in-digits 4 x.source (omega arith),
      number_in-digits 16 x.address (omega arith),
      number_in-digits (w / 4) x.mask m,
      data_in-text w x.lanes within.2,
      bit_in-text x.corrupt,
      ← made_a-ok x (a_code x.opcode) x.param (a_with-code x.opcode) (at_most-ok 7 x.param (omega arith)),
    ) refl
fields-read {w} link (wide.B x) width l writable within =
    let m = mask-fits w x.mask width writable.2 in
    rw (
      number_in-digits 2 link.0 (omega arith),
      number_in-digits 1 (b_code x.opcode) (b_code-digit x.opcode),
      number_in-digits 1 x.param (omega arith),
      number_in-digits 1 x.size (omega arith),
      number_in-digits 4 x.source (omega arith),
      number_in-digits 16 x.address (omega arith),
      number_in-digits (w / 4) x.mask m,
      data_in-text w x.lanes within.2,
      bit_in-text x.corrupt,
      ← made_b-ok x (b_code x.opcode) x.param (b_with-code x.opcode) (at_most-ok 7 x.param (omega arith)),
    ) refl
fields-read {w} link (wide.C x) width l writable within =
    rw (
      number_in-digits 2 link.0 (omega arith),
      number_in-digits 1 (c_code x.opcode) (c_code-digit x.opcode),
      number_in-digits 1 x.param (omega arith),
      number_in-digits 1 x.size (omega arith),
      number_in-digits 4 x.source (omega arith),
      number_in-digits 16 x.address (omega arith),
      data_in-text w x.lanes within.2,
      bit_in-text x.corrupt,
      ← made_c-ok x (c_code x.opcode) x.param (c_with-code x.opcode) (at_most-ok 7 x.param (omega arith)),
    ) refl
fields-read {w} link (wide.D x) width l writable within =
    rw (
      number_in-digits 2 link.0 (omega arith),
      number_in-digits 1 (d_code x.opcode) (d_code-digit x.opcode),
      number_in-digits 1 x.param (omega arith),
      number_in-digits 1 x.size (omega arith),
      number_in-digits 4 x.source (omega arith),
      number_in-digits 4 x.sink (omega arith),
      bit_in-text x.denied,
      data_in-text w x.lanes within.2,
      bit_in-text x.corrupt,
      ← made_d-ok x (d_code x.opcode) x.param (d_with-code x.opcode) (at_most-ok 3 x.param (omega arith)),
    ) refl
fields-read {w} link (wide.E x) width l writable within =
    rw (number_in-digits 2 link.0 (omega arith), number_in-digits 4 x.sink (omega arith)) refl

reading-line : (w : ℕ) (body : List ℕ) → length body ≤ 255 → reading w (body ++ 10 ∷ []) ≡ reading_fields (pieces body)
unfolding reading
reading-line w body short =
    let fits : nat_lt 256 (length (body ++ 10 ∷ [])) ≡ false =
    le-ltb 256 (length (body ++ 10 ∷ [])) (omega (arith, length-append body (10 ∷ []))) in
    rw (fits, ends_with_byte-line body, without_last-line body) refl

fields-some : {w : ℕ} (link : Link) (x : WideBeat w) → 0 < length (wide_fields link x)
fields-some link (wide.A x) = omega arith
fields-some link (wide.B x) = omega arith
fields-some link (wide.C x) = omega arith
fields-some link (wide.D x) = omega arith
fields-some link (wide.E x) = omega arith

pub reading-spelled : {w : ℕ} (line : List ℕ) (link : Link) (x : WideBeat w) → IsWideWidth w → WideSpells line link x
    → reading w line ≡ Ok (link, x)
reading-spelled {w} line link x width s =
    let body = spaced (wide_fields link x) in
    let short : length body ≤ 255 =
    omega (arith, length-spaced (wide_fields link x), fields-short link x (width-small w width) s.in_range) in
    ap (reading w) s.is_line ∙ reading-line w body short
    ∙ ap (reading_fields {w = w}) (pieces-spaced (wide_fields link x) (fields-some link x) (fields-no_space link x))
    ∙ fields-read link x width s.link_in_range s.writable s.in_range
