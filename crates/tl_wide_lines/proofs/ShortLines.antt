-- A line without the higher digits of its names spells the lower halves of a wide beat.
use Rattle.std.proofs.Common.{◌≡◌, ◌≤◌, ◌<◌, ℕ, zero, suc, ◌+◌, ◌-◌, ◌*◌, ◌/◌, ◌%◌, ◌^◌, true, List, [], ◌∷◌, ◌++◌, length}
use Rattle.std.proofs.Common.{take, drop, refl, sym, ap, ap₂, ◌∙◌, arith, append-nil}
use Rattle.std.proofs.lemmas.List.{take-append-drop, drop-drop}
use Rattle.std.proofs.lemmas.Bool.{and_parts, ltb-true}
use Rattle.std.proofs.lemmas.Nat.{le_bytes_8}
use Rattle.std.specs.Int.{from_le_bytes, to_le_bytes}
use lib.ListN.{get_or}
use mir.Syntax.{w8, w16, w64}
use mir.Val.{Fits}
use Rattle.std.specs.Prelude.{Option, Some, None, Result, Ok, ◌&&◌, nat_lt, IfSome, slice_index}
use Rattle.tl_beat.proofs.AtPlaces.{digit_is}
use Rattle.tl_beat.proofs.FieldsAt.{digits_at-end}
use Rattle.tl_beat.proofs.SpelledDigits.{number_in-ok}
use Rattle.tl_beat.specs.code.FromLeft.{at_end, digits_at, value_or_16}
use Rattle.tl_beat.specs.code.Reading.{◌>>=◌, number_in}
use Rattle.tl_beat.specs.declared.beat.Beat.{Beat}
use Rattle.tl_beat.specs.declared.beat.Beat.TheVariants as beat
use Rattle.tl_beat.specs.declared.beat.BeatA.{BeatA}
use Rattle.tl_beat.specs.declared.beat.BeatB.{BeatB}
use Rattle.tl_beat.specs.declared.beat.BeatC.{BeatC}
use Rattle.tl_beat.specs.declared.beat.BeatD.{BeatD}
use Rattle.tl_beat.specs.declared.beat.Link.{Link}
use Rattle.tl_beat.specs.declared.channel.Channel.{Channel}
use Rattle.tl_beat.specs.declared.channel.Channel.TheVariants as channel
use Rattle.tl_beat.specs.declared.fault.LineFault.{LineFault}
use Rattle.tl_beat.specs.statement.Digits.{bit_text, digit_value, digits, is_digits, lanes_text, value_from}
use Rattle.tl_beat.specs.statement.Line.{Spells, letter, line_of, spaced}
use Rattle.tl_beat.specs.statement.Opcode.{a_code, b_code, c_code, d_code}
use Rattle.tl_wide.proofs.Digits.{high-digits}
use Rattle.tl_wide_lines.specs.code.ShortLine.{SpellsWidened, shortened, whole_address}
use Rattle.tl_wide_lines.specs.code.ShortLine.{whole_id, widened_a, widened_b, widened_c, widened_d}
use Rattle.tl_wide.specs.declared.beat.WideBeat.TheVariants as wide
use Rattle.tl_wide_lines.specs.declared.short.High.{High}
use Rattle.tl_wide.specs.statement.Line.{wide_line}

-- ---- digits

-- what is read of eight digits alone
eight-alone : (field : List ℕ) (number : ℕ)
    → ((rest : List ℕ) → digits_at 0 8 (field ++ rest) ≡ Ok (number, rest)) → number_in 8 field ≡ Ok number
eight-alone field number read =
    let alone : digits_at 0 8 field ≡ Ok (number, []) =
    ap (digits_at 0 8) (sym (append-nil field)) ∙ read [] in
    sym (digits_at-end 8 field)
    ∙ ap (λ (r : Result (ℕ × List ℕ) LineFault). r >>= at_end) alone

pub eight-some : (field : List ℕ) (read : Option ℕ)
    → IfSome read (λ number. (rest : List ℕ) → digits_at 0 8 (field ++ rest) ≡ Ok (number, rest))
    → IfSome read (λ number. number_in 8 field ≡ Ok number)
eight-some field None h = tt
eight-some field (Some number) h = eight-alone field number h

-- bytes of a part of a line are bytes
small-drop : (at : ℕ) (xs : List ℕ) → ((i : ℕ) → get_or xs i 0 < 256) → (i : ℕ) → get_or (drop at xs) i 0 < 256
small-drop zero xs small i = small i
small-drop (suc at) [] small i = small i
small-drop (suc at) (x ∷ xs) small i = small-drop at xs (λ k. small (suc k)) i

small-take : (n : ℕ) (xs : List ℕ) → ((i : ℕ) → get_or xs i 0 < 256) → (i : ℕ) → get_or (take n xs) i 0 < 256
small-take zero xs small i = omega arith
small-take (suc n) [] small i = small i
small-take (suc n) (x ∷ xs) small zero = small 0
small-take (suc n) (x ∷ xs) small (suc i) = small-take n xs (λ k. small (suc k)) i

pub eight-small : (line : List ℕ) (at : ℕ) → ((i : ℕ) → Fits w8 (get_or line i 0))
    → (i : ℕ) → get_or (take 8 (drop at line)) i 0 < 256
eight-small line at bytes = small-take 8 (drop at line) (small-drop at line (λ i. (bytes i).fits))

pub eight-zeros : (field : List ℕ) (number : ℕ) → length field ≡ 8 → ((i : ℕ) → get_or field i 0 < 256)
    → number ≡ from_le_bytes w64 field → number ≡ 3472328296227680304 → number_in 8 field ≡ Ok 0
unfolding is_digits value_from
eight-zeros field number long small is zeros =
    let same : field ≡ to_le_bytes w64 3472328296227680304 =
    sym (le_bytes_8 field number long small is) ∙ ap (to_le_bytes w64) zeros in
    rw same refl

-- two digits
pub two-zeros : (high low number : ℕ) → high < 2 ^ 8 → low < 2 ^ 8 → number ≡ from_le_bytes w16 (high ∷ low ∷ [])
    → number ≡ 12336 → number_in 2 (high ∷ low ∷ []) ≡ Ok 0
unfolding is_digits value_from
two-zeros high low number h l is zeros =
    let high_is : high ≡ 48 = omega (arith, h, l, is, zeros) in
    let low_is : low ≡ 48 = omega (arith, h, l, is, zeros) in
    rw (high_is, low_is) refl

pub two-digits : (high low high_value low_value : ℕ) → high_value ≡ value_or_16 high → low_value ≡ value_or_16 low
    → (nat_lt high_value 16 && nat_lt low_value 16) ≡ true
    → number_in 2 (high ∷ low ∷ []) ≡ Ok (16 * high_value + low_value)
unfolding is_digits value_from
two-digits high low high_value low_value h l small =
    let (is_h, is_l) = and_parts (nat_lt high_value 16) (nat_lt low_value 16) small in
    let dh = digit_is high high_value h (ltb-true high_value 16 is_h) in
    let dl = digit_is low low_value l (ltb-true low_value 16 is_l) in
    rw (dh.is, dl.is) (ap (λ (n : ℕ). Ok n) (value dh.value dl.value))
  where
    value : digit_value high ≡ high_value → digit_value low ≡ low_value
        → 16 * (16 * 0 + digit_value high) + digit_value low ≡ 16 * high_value + low_value
    value h l = rw (h, l) (omega arith)

-- the digits of halves
id-digits : (high low : ℕ) → low < 2 ^ 8 → digits 2 high ++ digits 2 low ≡ digits 4 (whole_id high low)
unfolding digits
id-digits high low lt =
    let d3 : (256 * high + low) / 2 ^ 12 % 16 ≡ high / 2 ^ 4 % 16 = omega arith in
    let d2 : (256 * high + low) / 2 ^ 8 % 16 ≡ high / 2 ^ 0 % 16 = omega arith in
    let d1 : (256 * high + low) / 2 ^ 4 % 16 ≡ low / 2 ^ 4 % 16 = omega arith in
    let d0 : (256 * high + low) / 2 ^ 0 % 16 ≡ low / 2 ^ 0 % 16 = omega arith in
    rw (d3, d2, d1, d0) refl

address-digits : (high low : ℕ) → low < 2 ^ 32 → digits 8 high ++ digits 8 low ≡ digits 16 (whole_address high low)
address-digits high low lt =
    let above : (16 ^ 8 * high + low) / 2 ^ 32 ≡ high = omega arith in
    let below : (16 ^ 8 * high + low) % 2 ^ 32 ≡ low = omega arith in
    ap₂ (λ (a b : ℕ). digits 8 a ++ digits 8 b) (sym above) (sym below)
    ∙ high-digits 16 (whole_address high low) (omega arith)

-- ---- lines

-- a shorter line with the higher digits put back
abbrev whole : List ℕ → List ℕ → List ℕ → List ℕ
whole source next short = take 11 short ++ (source ++ (take 3 (drop 11 short) ++ (next ++ drop 14 short)))

-- the digits that were left out
restored : (line : List ℕ) (more : ℕ) → 16 ≤ length line
    → line ≡ whole (take 2 (drop 11 line)) (take more (drop 16 line)) (shortened line more)
restored (x0 ∷ x1 ∷ x2 ∷ x3 ∷ x4 ∷ x5 ∷ x6 ∷ x7 ∷ x8 ∷ x9 ∷ x10 ∷ x11 ∷ x12 ∷ x13 ∷ x14 ∷ x15 ∷ rest) more long =
    let cut : drop (16 + more) (x0 ∷ x1 ∷ x2 ∷ x3 ∷ x4 ∷ x5 ∷ x6 ∷ x7 ∷ x8 ∷ x9 ∷ x10 ∷ x11 ∷ x12 ∷ x13 ∷ x14 ∷ x15 ∷
    rest) ≡ drop more rest = sym (drop-drop more 16 (x0 ∷ x1 ∷ x2 ∷ x3 ∷ x4 ∷ x5 ∷ x6 ∷ x7 ∷ x8 ∷ x9 ∷ x10 ∷ x11 ∷ x12
    ∷ x13 ∷ x14 ∷ x15 ∷ rest)) in
    rw cut (ap (λ (ys : List ℕ). x0 ∷ x1 ∷ x2 ∷ x3 ∷ x4 ∷ x5 ∷ x6 ∷ x7 ∷ x8 ∷ x9 ∷ x10 ∷ x11 ∷ x12 ∷ x13 ∷ x14 ∷ x15 ∷
    ys) (sym (take-append-drop more rest)))
restored line more long = absurd (omega (arith, long))

abbrev line_with : Link → Channel → ℕ → ℕ → ℕ → List ℕ → List ℕ → List (List ℕ) → List ℕ
line_with link channel code param size source next rest =
    spaced (digits 2 link.0 ∷ letter channel ∷ digits 1 code ∷ digits 1 param ∷ digits 1 size ∷ source ∷ next ∷ rest)
    ++ 10 ∷ []

-- the line of each channel, with the higher digits
whole-a : {w : ℕ} (link : Link) (x : BeatA w) (high : High) → x.source < 2 ^ 8 → x.address < 2 ^ 32
    → whole (digits 2 high.source) (digits 8 high.address) (line_of link (beat.A x))
    ≡ wide_line link (wide.A (widened_a x high))
unfolding spaced digits
whole-a {w} link x high source address =
    ap₂ (λ (s a : List ℕ). line_with link channel.A (a_code x.opcode) x.param x.size s a (digits (w / 4) x.mask
    ∷ lanes_text x.lanes ∷ bit_text x.corrupt ∷ []))
    (id-digits high.source x.source source) (address-digits high.address x.address address)

whole-b : {w : ℕ} (link : Link) (x : BeatB w) (high : High) → x.source < 2 ^ 8 → x.address < 2 ^ 32
    → whole (digits 2 high.source) (digits 8 high.address) (line_of link (beat.B x))
    ≡ wide_line link (wide.B (widened_b x high))
unfolding spaced digits
whole-b {w} link x high source address =
    ap₂ (λ (s a : List ℕ). line_with link channel.B (b_code x.opcode) x.param x.size s a (digits (w / 4) x.mask
    ∷ lanes_text x.lanes ∷ bit_text x.corrupt ∷ []))
    (id-digits high.source x.source source) (address-digits high.address x.address address)

whole-c : {w : ℕ} (link : Link) (x : BeatC w) (high : High) → x.source < 2 ^ 8 → x.address < 2 ^ 32
    → whole (digits 2 high.source) (digits 8 high.address) (line_of link (beat.C x))
    ≡ wide_line link (wide.C (widened_c x high))
unfolding spaced digits
whole-c link x high source address =
    ap₂ (λ (s a : List ℕ). line_with link channel.C (c_code x.opcode) x.param x.size s a (lanes_text x.lanes
    ∷ bit_text x.corrupt ∷ []))
    (id-digits high.source x.source source) (address-digits high.address x.address address)

whole-d : {w : ℕ} (link : Link) (x : BeatD w) (high : High) → x.source < 2 ^ 8 → x.sink < 2 ^ 8
    → whole (digits 2 high.source) (digits 2 high.sink) (line_of link (beat.D x))
    ≡ wide_line link (wide.D (widened_d x high))
unfolding spaced digits
whole-d link x high source sink =
    ap₂ (λ (s k : List ℕ). line_with link channel.D (d_code x.opcode) x.param x.size s k (bit_text x.denied
    ∷ lanes_text x.lanes ∷ bit_text x.corrupt ∷ []))
    (id-digits high.source x.source source) (id-digits high.sink x.sink sink)

-- ---- what is spelled

-- a number of so many digits
id-small : (n : ℕ) → 0 ≡ n / 2 ^ (4 * 2) → n < 2 ^ 8
id-small n fits = omega (arith, fits)

address-small : (n : ℕ) → 0 ≡ n / 2 ^ (4 * 8) → n < 2 ^ 32
address-small n fits = omega (arith, fits)

whole-small : (high low : ℕ) → high < 2 ^ 8 → low < 2 ^ 8 → whole_id high low < 2 ^ 16
whole-small high low h l = omega (arith, h, l)

whole-few : (high low : ℕ) → high < 2 ^ 32 → low < 2 ^ 32 → whole_address high low < 2 ^ 64
whole-few high low h l = omega (arith, h, l)

-- two bytes at a place
two-at : (line : List ℕ) (i : ℕ) → i + 2 ≤ length line
    → slice_index line i ∷ slice_index line (i + 1) ∷ [] ≡ take 2 (drop i line)
two-at [] i long = absurd (omega (arith, long))
two-at (c ∷ []) zero long = absurd (omega (arith, long))
two-at (c ∷ d ∷ cs) zero long = refl
two-at (c ∷ cs) (suc i) long =
    let next : suc i + 1 ≡ suc (i + 1) = omega arith in
    rw next (two-at cs i (omega (arith, long)))

pub number-at : (line : List ℕ) (i n : ℕ) → i + 2 ≤ length line
    → number_in 2 (slice_index line i ∷ slice_index line (i + 1) ∷ []) ≡ Ok n → number_in 2 (take 2 (drop i line)) ≡ Ok n
number-at line i n long e = ap (number_in 2) (sym (two-at line i long)) ∙ e

-- the line with the digits of two numbers that were left out
line-is : (line short : List ℕ) (more n k : ℕ) → 16 ≤ length line → short ≡ shortened line more
    → number_in 2 (take 2 (drop 11 line)) ≡ Ok n → number_in more (take more (drop 16 line)) ≡ Ok k
    → line ≡ whole (digits 2 n) (digits more k) short
line-is line short more n k long is source next =
    restored line more long
    ∙ ap₂ (λ (s a : List ℕ). whole s a (shortened line more)) (number_in-ok 2 _ n source).spelled
    (number_in-ok more _ k next).spelled
    ∙ ap (whole (digits 2 n) (digits more k)) (sym is)

-- the letter of a beat's channel
abbrev letter_in : {w : ℕ} → Beat w → ℕ
letter_in (beat.A x) = 65
letter_in (beat.B x) = 66
letter_in (beat.C x) = 67
letter_in (beat.D x) = 68
letter_in (beat.E x) = 69

letter-spelled : {w : ℕ} (link : Link) (b : Beat w) → slice_index (line_of link b) 3 ≡ letter_in b
unfolding spaced digits
letter-spelled link (beat.A x) = refl
letter-spelled link (beat.B x) = refl
letter-spelled link (beat.C x) = refl
letter-spelled link (beat.D x) = refl
letter-spelled link (beat.E x) = refl

letter-short : (line : List ℕ) (more : ℕ) → 16 ≤ length line
    → slice_index (shortened line more) 3 ≡ slice_index line 3
letter-short (x0 ∷ x1 ∷ x2 ∷ x3 ∷ rest) more long = refl
letter-short line more long = absurd (omega (arith, long))

-- it stands in the line
letter-is : {w : ℕ} (line short : List ℕ) (more : ℕ) (link : Link) (b : Beat w) → 16 ≤ length line
    → short ≡ shortened line more → Spells short link b → slice_index line 3 ≡ letter_in b
letter-is line short more link b long is s =
    sym (letter-short line more long) ∙ ap (λ (l : List ℕ). slice_index l 3) (sym is ∙ s.is_line)
    ∙ letter-spelled link b

pub message-spells : {w : ℕ} (line short : List ℕ) (link : Link) (b : Beat w) (high : High) → 16 ≤ length line
    → short ≡ shortened line 8 → number_in 2 (take 2 (drop 11 line)) ≡ Ok high.source
    → number_in 8 (take 8 (drop 16 line)) ≡ Ok high.address → slice_index line 3 ≤ 67 → Spells short link b
    → SpellsWidened line b (link, high)
message-spells line short link (beat.A x) high long is source address kind s =
    let h = id-small high.source (number_in-ok 2 _ high.source source).fits in
    let a = address-small high.address (number_in-ok 8 _ high.address address).fits in
    record {
      is_line = line-is line short 8 high.source high.address long is source address
          ∙ ap (whole (digits 2 high.source) (digits 8 high.address)) s.is_line
          ∙ whole-a link x high s.in_range.0 s.in_range.1;
      link_in_range = s.link_in_range;
      writable = s.writable;
      in_range = (
        whole-small high.source x.source h s.in_range.0,
        whole-few high.address x.address a s.in_range.1,
        s.in_range.2,
      );
    }
message-spells line short link (beat.B x) high long is source address kind s =
    let h = id-small high.source (number_in-ok 2 _ high.source source).fits in
    let a = address-small high.address (number_in-ok 8 _ high.address address).fits in
    record {
      is_line = line-is line short 8 high.source high.address long is source address
          ∙ ap (whole (digits 2 high.source) (digits 8 high.address)) s.is_line
          ∙ whole-b link x high s.in_range.0 s.in_range.1;
      link_in_range = s.link_in_range;
      writable = s.writable;
      in_range = (
        whole-small high.source x.source h s.in_range.0,
        whole-few high.address x.address a s.in_range.1,
        s.in_range.2,
      );
    }
message-spells line short link (beat.C x) high long is source address kind s =
    let h = id-small high.source (number_in-ok 2 _ high.source source).fits in
    let a = address-small high.address (number_in-ok 8 _ high.address address).fits in
    record {
      is_line = line-is line short 8 high.source high.address long is source address
          ∙ ap (whole (digits 2 high.source) (digits 8 high.address)) s.is_line
          ∙ whole-c link x high s.in_range.0 s.in_range.1;
      link_in_range = s.link_in_range;
      writable = s.writable;
      in_range = (
        whole-small high.source x.source h s.in_range.0,
        whole-few high.address x.address a s.in_range.1,
        s.in_range.2,
      );
    }
message-spells line short link (beat.D x) high long is source address kind s =
    absurd (omega (arith, kind, letter-is line short 8 link (beat.D x) long is s))
message-spells line short link (beat.E x) high long is source address kind s =
    absurd (omega (arith, kind, letter-is line short 8 link (beat.E x) long is s))

pub response-spells : {w : ℕ} (line short : List ℕ) (link : Link) (b : Beat w) (high : High) → 16 ≤ length line
    → short ≡ shortened line 2 → number_in 2 (take 2 (drop 11 line)) ≡ Ok high.source
    → number_in 2 (take 2 (drop 16 line)) ≡ Ok high.sink → slice_index line 3 ≡ 68 → Spells short link b
    → SpellsWidened line b (link, high)
response-spells line short link (beat.D x) high long is source sink kind s =
    let h = id-small high.source (number_in-ok 2 _ high.source source).fits in
    let k = id-small high.sink (number_in-ok 2 _ high.sink sink).fits in
    record {
      is_line = line-is line short 2 high.source high.sink long is source sink
          ∙ ap (whole (digits 2 high.source) (digits 2 high.sink)) s.is_line
          ∙ whole-d link x high s.in_range.0 s.in_range.1;
      link_in_range = s.link_in_range;
      writable = s.writable;
      in_range = (
        whole-small high.source x.source h s.in_range.0,
        whole-small high.sink x.sink k s.in_range.1,
        s.in_range.2,
      );
    }
response-spells line short link (beat.A x) high long is source sink kind s =
    absurd (omega (arith, kind, letter-is line short 2 link (beat.A x) long is s))
response-spells line short link (beat.B x) high long is source sink kind s =
    absurd (omega (arith, kind, letter-is line short 2 link (beat.B x) long is s))
response-spells line short link (beat.C x) high long is source sink kind s =
    absurd (omega (arith, kind, letter-is line short 2 link (beat.C x) long is s))
response-spells line short link (beat.E x) high long is source sink kind s =
    absurd (omega (arith, kind, letter-is line short 2 link (beat.E x) long is s))

-- a line of channel E, with the higher digits of its sink at its sixth and seventh place
ack-whole : (link : Link) (sink high l1 l0 b1 letter b2 s3 s2 s1 s0 end : ℕ) → sink < 2 ^ 8
    → s3 ∷ s2 ∷ [] ≡ digits 2 high
    → l1 ∷ l0 ∷ b1 ∷ letter ∷ b2 ∷ s1 ∷ s0 ∷ end ∷ [] ≡ line_of {w = 8} link (beat.E (record { sink = sink }))
    → l1 ∷ l0 ∷ b1 ∷ letter ∷ b2 ∷ s3 ∷ s2 ∷ s1 ∷ s0 ∷ end ∷ []
    ≡ wide_line {w = 8} link (wide.E (record { sink = whole_id high sink }))
unfolding spaced digits
ack-whole link sink high l1 l0 b1 letter b2 s3 s2 s1 s0 end lt above is =
    ap (λ (short : List ℕ). take 5 short ++ (s3 ∷ s2 ∷ drop 5 short)) is
    ∙ ap (λ (ds : List ℕ). digits 2 link.0 ++ 32 ∷ 69 ∷ 32 ∷ (ds ++ (digits 2 sink ++ 10 ∷ []))) above
    ∙ ap (λ (ds : List ℕ). digits 2 link.0 ++ 32 ∷ 69 ∷ 32 ∷ (ds ++ 10 ∷ [])) (id-digits high sink lt)

-- a line of channel E without the two digits
abbrev places : List ℕ → List ℕ
places line =
    slice_index line 0 ∷ slice_index line 1 ∷ slice_index line 2 ∷ 69 ∷ slice_index line 4
    ∷ slice_index line 7 ∷ slice_index line 8 ∷ slice_index line 9 ∷ []

ack-line : (line : List ℕ) (link : Link) (sink high : ℕ) → length line ≡ 10 → slice_index line 3 ≡ 69 → sink < 2 ^ 8
    → slice_index line 5 ∷ slice_index line 6 ∷ [] ≡ digits 2 high
    → places line ≡ line_of {w = 8} link (beat.E (record { sink = sink }))
    → line ≡ wide_line {w = 8} link (wide.E (record { sink = whole_id high sink }))
ack-line (l1 ∷ l0 ∷ b1 ∷ letter ∷ b2 ∷ s3 ∷ s2 ∷ s1 ∷ s0 ∷ end ∷ []) link sink high long named lt above is =
    ap (λ (c : ℕ). l1 ∷ l0 ∷ b1 ∷ c ∷ b2 ∷ s3 ∷ s2 ∷ s1 ∷ s0 ∷ end ∷ []) named
    ∙ ack-whole link sink high l1 l0 b1 69 b2 s3 s2 s1 s0 end lt above is
ack-line line link sink high long named lt above is = absurd (omega (arith, long))

pub acknowledgment-spells : {w : ℕ} (line : List ℕ) (link : Link) (b : Beat w) (high : High) → length line ≡ 10
    → number_in 2 (slice_index line 5 ∷ slice_index line 6 ∷ []) ≡ Ok high.sink → slice_index line 3 ≡ 69
    → Spells (places line) link b → SpellsWidened line b (link, high)
acknowledgment-spells line link (beat.E x) high long sink kind s =
    let k = id-small high.sink (number_in-ok 2 _ high.sink sink).fits in
    record {
      is_line = ack-line line link x.sink high.sink long kind s.in_range (number_in-ok 2 _ high.sink sink).spelled s.is_line;
      link_in_range = s.link_in_range;
      writable = tt;
      in_range = whole-small high.sink x.sink k s.in_range;
    }
acknowledgment-spells line link (beat.A x) high long sink kind s =
    absurd (omega (arith, ap (λ (l : List ℕ). slice_index l 3) s.is_line ∙ letter-spelled link (beat.A x)))
acknowledgment-spells line link (beat.B x) high long sink kind s =
    absurd (omega (arith, ap (λ (l : List ℕ). slice_index l 3) s.is_line ∙ letter-spelled link (beat.B x)))
acknowledgment-spells line link (beat.C x) high long sink kind s =
    absurd (omega (arith, ap (λ (l : List ℕ). slice_index l 3) s.is_line ∙ letter-spelled link (beat.C x)))
acknowledgment-spells line link (beat.D x) high long sink kind s =
    absurd (omega (arith, ap (λ (l : List ℕ). slice_index l 3) s.is_line ∙ letter-spelled link (beat.D x)))
