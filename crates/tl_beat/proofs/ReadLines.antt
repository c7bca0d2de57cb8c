-- A line spells what it is read as.
use Rattle.std.proofs.Common.{◌≡◌, ℕ, suc, ◌-◌, ◌/◌, ◌^◌, ◌<◌, Bool, true, false, not, cond, List, [], ◌∷◌, ◌++◌}
use Rattle.std.proofs.Common.{length, get_or, take, drop, refl, sym, ap, ap₂, subst, ◌∙◌, arith}
use Rattle.std.proofs.Math.Seq.{drop-cons}
use Rattle.std.proofs.lemmas.List.{take-append-drop, drop_all}
use Rattle.std.proofs.lemmas.Bool.{eqb-true, ltb-true, and_parts}
use Rattle.std.specs.Prelude.{Result, Ok, Err, Option, Some, None, ◌==◌, ◌||◌, nat_lt, IfOk}
use Rattle.std.specs.Io.BufRead.{ends_with_byte}
use Rattle.tl_beat.specs.declared.beat.Link.{Link}
use Rattle.tl_beat.specs.declared.beat.Beat.{Beat}
use Rattle.tl_beat.specs.declared.beat.Beat.TheVariants as beat
use Rattle.tl_beat.specs.declared.channel.Channel.{Channel}
use Rattle.tl_beat.specs.declared.channel.Channel.TheVariants as channel
use Rattle.tl_beat.specs.declared.fault.LineFault.{LineFault}
use Rattle.tl_beat.specs.declared.fault.LineFault.TheVariants.{F1}
use Rattle.tl_beat.specs.statement.Opcode.{a_code, b_code, c_code, d_code}
use Rattle.tl_beat.specs.statement.Digits.{digits, lanes_text, bit_text}
use Rattle.tl_beat.specs.statement.Line.{fields_of, spaced, IsWritable, IsInRange, Spells, pieces, field, letter}
use Rattle.tl_beat.specs.statement.Line.{channel_named, without_last}
use Rattle.tl_beat.specs.code.Reading.{number_in, data_in, bit_in, made_a, made_b, made_c}
use Rattle.tl_beat.specs.code.Reading.{made_d, linked, reading_a, reading_b}
use Rattle.tl_beat.specs.code.Reading.{reading_c, reading_d, reading_e, reading_on, reading_fields, reading}
use Rattle.tl_beat.specs.statement.Width.{IsWidth}
use Rattle.tl_beat.proofs.Pieces.{spaced-pieces}
use Rattle.tl_beat.proofs.SpelledDigits.{number_in-ok, bit_in-ok, data_in-ok}
use Rattle.tl_beat.proofs.SpelledLines.{mask-below}
use Rattle.tl_beat.proofs.ReadFields.{ok_of, ok_is, ok_step, made_a-is, made_b-is, made_c-is, made_d-is, letter-named}

-- the fields spell the link and the beat
record AreFields {w : ℕ} (fs : List (List ℕ)) (link : Link) (x : Beat w) : Type 0 where
  are : fs ≡ fields_of link x
  link_in_range : link.0 < 2 ^ 8
  writable : IsWritable x
  in_range : IsInRange x

pub cons_same : {p q : List ℕ} {ps qs : List (List ℕ)} → p ≡ q → ps ≡ qs → p ∷ ps ≡ q ∷ qs
cons_same e f = cc

reading_a-fields : {w : ℕ} (fs : List (List ℕ)) (link : Link) (x : Beat w) → IsWidth w
    → channel_named (field fs 1) ≡ Some channel.A → reading_a fs ≡ Ok (link, x) → AreFields fs link x
unfolding reading_a
reading_a-fields {w} (linked_to ∷ second ∷ opcode ∷ param ∷ size ∷ source ∷ address ∷ mask ∷ lanes ∷ corrupt ∷ []) link
    x width named e =
    ok_step (number_in 2 linked_to) _ (link, x) _ e (λ v1 h1 e1.
    ok_step (number_in 1 opcode) _ (link, x) _ e1 (λ v2 h2 e2.
    ok_step (number_in 1 param) _ (link, x) _ e2 (λ v3 h3 e3.
    ok_step (number_in 1 size) _ (link, x) _ e3 (λ v4 h4 e4.
    ok_step (number_in 2 source) _ (link, x) _ e4 (λ v5 h5 e5.
    ok_step (number_in 8 address) _ (link, x) _ e5 (λ v6 h6 e6.
    ok_step (number_in (w / 4) mask) _ (link, x) _ e6 (λ v7 h7 e7.
    ok_step (data_in w lanes) _ (link, x) _ e7 (λ v8 h8 e8.
    ok_step (bit_in corrupt) _ (link, x) _ e8 (λ v9 h9 e9.
    ok_step (made_a {w = w} v2 v3 v4 v5 v6 v7 v8 v9) _ (link, x) _ e9 (λ y is_y last.
    let s_linked_to = number_in-ok 2 linked_to v1 h1 in
    let s_opcode = number_in-ok 1 opcode v2 h2 in
    let s_param = number_in-ok 1 param v3 h3 in
    let s_size = number_in-ok 1 size v4 h4 in
    let s_source = number_in-ok 2 source v5 h5 in
    let s_address = number_in-ok 8 address v6 h6 in
    let s_mask = number_in-ok (w / 4) mask v7 h7 in
    let s_lanes = data_in-ok w lanes v8 h8 in
    let s_corrupt = bit_in-ok corrupt v9 h9 in
    let m = made_a-is y v2 v3 v4 v5 v6 v7 v8 v9 is_y in
    let q_link : linked_to ≡ digits 2 v1 = s_linked_to.spelled in
    let q_letter : second ≡ letter channel.A = letter-named second channel.A named in
    let q_opcode : opcode ≡ digits 1 (a_code y.opcode) = s_opcode.spelled ∙ ap (digits 1) (sym m.opcode) in
    let q_param : param ≡ digits 1 y.param = s_param.spelled ∙ ap (digits 1) (sym m.param.same) in
    let q_size : size ≡ digits 1 y.size = s_size.spelled ∙ ap (digits 1) (sym m.size) in
    let q_source : source ≡ digits 2 y.source = s_source.spelled ∙ ap (digits 2) (sym m.source) in
    let q_address : address ≡ digits 8 y.address = s_address.spelled ∙ ap (digits 8) (sym m.address) in
    let q_mask : mask ≡ digits (w / 4) y.mask = s_mask.spelled ∙ ap (digits (w / 4)) (sym m.mask) in
    let q_lanes : lanes ≡ lanes_text y.lanes = s_lanes.spelled ∙ ap lanes_text (sym m.lanes) in
    let q_corrupt : corrupt ≡ bit_text y.corrupt = s_corrupt ∙ ap bit_text (sym m.corrupt) in
    let same : linked {w = w} v1 (beat.A y) ≡ (link, x) = ok_is last in
    subst (λ (z : Link × Beat w). AreFields
    (linked_to ∷ second ∷ opcode ∷ param ∷ size ∷ source ∷ address ∷ mask ∷ lanes ∷ corrupt ∷ []) z.0 z.1) same
    (record {
      are =
          cons_same q_link (cons_same q_letter (cons_same q_opcode
          (cons_same q_param (cons_same q_size (cons_same q_source
          (cons_same q_address (cons_same q_mask (cons_same q_lanes (cons_same q_corrupt (refl))))))))));
      link_in_range = omega (arith, s_linked_to.fits);
      writable = (
        omega (arith, m.param.small),
        omega (arith, m.size, s_size.fits),
        rw m.mask
            (mask-below w v7 width s_mask.fits),
      );
      in_range = (
        omega (arith, m.source, s_source.fits),
        omega (arith, m.address, s_address.fits),
        rw m.lanes
            s_lanes.are_lanes,
      );
    })))))))))))
reading_a-fields fs link x width named e = absurd cc

reading_b-fields : {w : ℕ} (fs : List (List ℕ)) (link : Link) (x : Beat w) → IsWidth w
    → channel_named (field fs 1) ≡ Some channel.B → reading_b fs ≡ Ok (link, x) → AreFields fs link x
unfolding reading_b
reading_b-fields {w} (linked_to ∷ second ∷ opcode ∷ param ∷ size ∷ source ∷ address ∷ mask ∷ lanes ∷ corrupt ∷ []) link
    x width named e =
    ok_step (number_in 2 linked_to) _ (link, x) _ e (λ v1 h1 e1.
    ok_step (number_in 1 opcode) _ (link, x) _ e1 (λ v2 h2 e2.
    ok_step (number_in 1 param) _ (link, x) _ e2 (λ v3 h3 e3.
    ok_step (number_in 1 size) _ (link, x) _ e3 (λ v4 h4 e4.
    ok_step (number_in 2 source) _ (link, x) _ e4 (λ v5 h5 e5.
    ok_step (number_in 8 address) _ (link, x) _ e5 (λ v6 h6 e6.
    ok_step (number_in (w / 4) mask) _ (link, x) _ e6 (λ v7 h7 e7.
    ok_step (data_in w lanes) _ (link, x) _ e7 (λ v8 h8 e8.
    ok_step (bit_in corrupt) _ (link, x) _ e8 (λ v9 h9 e9.
    ok_step (made_b {w = w} v2 v3 v4 v5 v6 v7 v8 v9) _ (link, x) _ e9 (λ y is_y last.
    let s_linked_to = number_in-ok 2 linked_to v1 h1 in
    let s_opcode = number_in-ok 1 opcode v2 h2 in
    let s_param = number_in-ok 1 param v3 h3 in
    let s_size = number_in-ok 1 size v4 h4 in
    let s_source = number_in-ok 2 source v5 h5 in
    let s_address = number_in-ok 8 address v6 h6 in
    let s_mask = number_in-ok (w / 4) mask v7 h7 in
    let s_lanes = data_in-ok w lanes v8 h8 in
    let s_corrupt = bit_in-ok corrupt v9 h9 in
    let m = made_b-is y v2 v3 v4 v5 v6 v7 v8 v9 is_y in
    let q_link : linked_to ≡ digits 2 v1 = s_linked_to.spelled in
    let q_letter : second ≡ letter channel.B = letter-named second channel.B named in
    let q_opcode : opcode ≡ digits 1 (b_code y.opcode) = s_opcode.spelled ∙ ap (digits 1) (sym m.opcode) in
    let q_param : param ≡ digits 1 y.param = s_param.spelled ∙ ap (digits 1) (sym m.param.same) in
    let q_size : size ≡ digits 1 y.size = s_size.spelled ∙ ap (digits 1) (sym m.size) in
    let q_source : source ≡ digits 2 y.source = s_source.spelled ∙ ap (digits 2) (sym m.source) in
    let q_address : address ≡ digits 8 y.address = s_address.spelled ∙ ap (digits 8) (sym m.address) in
    let q_mask : mask ≡ digits (w / 4) y.mask = s_mask.spelled ∙ ap (digits (w / 4)) (sym m.mask) in
    let q_lanes : lanes ≡ lanes_text y.lanes = s_lanes.spelled ∙ ap lanes_text (sym m.lanes) in
    let q_corrupt : corrupt ≡ bit_text y.corrupt = s_corrupt ∙ ap bit_text (sym m.corrupt) in
    let same : linked {w = w} v1 (beat.B y) ≡ (link, x) = ok_is last in
    subst (λ (z : Link × Beat w). AreFields
    (linked_to ∷ second ∷ opcode ∷ param ∷ size ∷ source ∷ address ∷ mask ∷ lanes ∷ corrupt ∷ []) z.0 z.1) same
    (record {
      are =
          cons_same q_link (cons_same q_letter (cons_same q_opcode
          (cons_same q_param (cons_same q_size (cons_same q_source
          (cons_same q_address (cons_same q_mask (cons_same q_lanes (cons_same q_corrupt (refl))))))))));
      link_in_range = omega (arith, s_linked_to.fits);
      writable = (
        omega (arith, m.param.small),
        omega (arith, m.size, s_size.fits),
        rw m.mask
            (mask-below w v7 width s_mask.fits),
      );
      in_range = (
        omega (arith, m.source, s_source.fits),
        omega (arith, m.address, s_address.fits),
        rw m.lanes
            s_lanes.are_lanes,
      );
    })))))))))))
reading_b-fields fs link x width named e = absurd cc

reading_c-fields : {w : ℕ} (fs : List (List ℕ)) (link : Link) (x : Beat w) → IsWidth w
    → channel_named (field fs 1) ≡ Some channel.C → reading_c fs ≡ Ok (link, x) → AreFields fs link x
unfolding reading_c
reading_c-fields {w} (linked_to ∷ second ∷ opcode ∷ param ∷ size ∷ source ∷ address ∷ lanes ∷ corrupt ∷ []) link x width
    named e =
    ok_step (number_in 2 linked_to) _ (link, x) _ e (λ v1 h1 e1.
    ok_step (number_in 1 opcode) _ (link, x) _ e1 (λ v2 h2 e2.
    ok_step (number_in 1 param) _ (link, x) _ e2 (λ v3 h3 e3.
    ok_step (number_in 1 size) _ (link, x) _ e3 (λ v4 h4 e4.
    ok_step (number_in 2 source) _ (link, x) _ e4 (λ v5 h5 e5.
    ok_step (number_in 8 address) _ (link, x) _ e5 (λ v6 h6 e6.
    ok_step (data_in w lanes) _ (link, x) _ e6 (λ v7 h7 e7.
    ok_step (bit_in corrupt) _ (link, x) _ e7 (λ v8 h8 e8.
    ok_step (made_c {w = w} v2 v3 v4 v5 v6 v7 v8) _ (link, x) _ e8 (λ y is_y last.
    let s_linked_to = number_in-ok 2 linked_to v1 h1 in
    let s_opcode = number_in-ok 1 opcode v2 h2 in
    let s_param = number_in-ok 1 param v3 h3 in
    let s_size = number_in-ok 1 size v4 h4 in
    let s_source = number_in-ok 2 source v5 h5 in
    let s_address = number_in-ok 8 address v6 h6 in
    let s_lanes = data_in-ok w lanes v7 h7 in
    let s_corrupt = bit_in-ok corrupt v8 h8 in
    let m = made_c-is y v2 v3 v4 v5 v6 v7 v8 is_y in
    let q_link : linked_to ≡ digits 2 v1 = s_linked_to.spelled in
    let q_letter : second ≡ letter channel.C = letter-named second channel.C named in
    let q_opcode : opcode ≡ digits 1 (c_code y.opcode) = s_opcode.spelled ∙ ap (digits 1) (sym m.opcode) in
    let q_param : param ≡ digits 1 y.param = s_param.spelled ∙ ap (digits 1) (sym m.param.same) in
    let q_size : size ≡ digits 1 y.size = s_size.spelled ∙ ap (digits 1) (sym m.size) in
    let q_source : source ≡ digits 2 y.source = s_source.spelled ∙ ap (digits 2) (sym m.source) in
    let q_address : address ≡ digits 8 y.address = s_address.spelled ∙ ap (digits 8) (sym m.address) in
    let q_lanes : lanes ≡ lanes_text y.lanes = s_lanes.spelled ∙ ap lanes_text (sym m.lanes) in
    let q_corrupt : corrupt ≡ bit_text y.corrupt = s_corrupt ∙ ap bit_text (sym m.corrupt) in
    let same : linked {w = w} v1 (beat.C y) ≡ (link, x) = ok_is last in
    subst (λ (z : Link × Beat w). AreFields (linked_to ∷ second ∷ opcode ∷ param ∷ size ∷ source ∷ address ∷ lanes
    ∷ corrupt ∷ []) z.0 z.1) same (record {
      are =
          cons_same q_link (cons_same q_letter
          (cons_same q_opcode (cons_same q_param
          (cons_same q_size (cons_same q_source
          (cons_same q_address (cons_same q_lanes (cons_same q_corrupt (refl)))))))));
      link_in_range = omega (arith, s_linked_to.fits);
      writable = (omega (arith, m.param.small), omega (arith, m.size, s_size.fits));
      in_range = (
        omega (arith, m.source, s_source.fits),
        omega (arith, m.address, s_address.fits),
        rw m.lanes
            s_lanes.are_lanes,
      );
    }))))))))))
reading_c-fields fs link x width named e = absurd cc

reading_d-fields : {w : ℕ} (fs : List (List ℕ)) (link : Link) (x : Beat w) → IsWidth w
    → channel_named (field fs 1) ≡ Some channel.D → reading_d fs ≡ Ok (link, x) → AreFields fs link x
unfolding reading_d
reading_d-fields {w} (linked_to ∷ second ∷ opcode ∷ param ∷ size ∷ source ∷ sink ∷ denied ∷ lanes ∷ corrupt ∷ []) link x
    width named e =
    ok_step (number_in 2 linked_to) _ (link, x) _ e (λ v1 h1 e1.
    ok_step (number_in 1 opcode) _ (link, x) _ e1 (λ v2 h2 e2.
    ok_step (number_in 1 param) _ (link, x) _ e2 (λ v3 h3 e3.
    ok_step (number_in 1 size) _ (link, x) _ e3 (λ v4 h4 e4.
    ok_step (number_in 2 source) _ (link, x) _ e4 (λ v5 h5 e5.
    ok_step (number_in 2 sink) _ (link, x) _ e5 (λ v6 h6 e6.
    ok_step (bit_in denied) _ (link, x) _ e6 (λ v7 h7 e7.
    ok_step (data_in w lanes) _ (link, x) _ e7 (λ v8 h8 e8.
    ok_step (bit_in corrupt) _ (link, x) _ e8 (λ v9 h9 e9.
    ok_step (made_d {w = w} v2 v3 v4 v5 v6 v7 v8 v9) _ (link, x) _ e9 (λ y is_y last.
    let s_linked_to = number_in-ok 2 linked_to v1 h1 in
    let s_opcode = number_in-ok 1 opcode v2 h2 in
    let s_param = number_in-ok 1 param v3 h3 in
    let s_size = number_in-ok 1 size v4 h4 in
    let s_source = number_in-ok 2 source v5 h5 in
    let s_sink = number_in-ok 2 sink v6 h6 in
    let s_denied = bit_in-ok denied v7 h7 in
    let s_lanes = data_in-ok w lanes v8 h8 in
    let s_corrupt = bit_in-ok corrupt v9 h9 in
    let m = made_d-is y v2 v3 v4 v5 v6 v7 v8 v9 is_y in
    let q_link : linked_to ≡ digits 2 v1 = s_linked_to.spelled in
    let q_letter : second ≡ letter channel.D = letter-named second channel.D named in
    let q_opcode : opcode ≡ digits 1 (d_code y.opcode) = s_opcode.spelled ∙ ap (digits 1) (sym m.opcode) in
    let q_param : param ≡ digits 1 y.param = s_param.spelled ∙ ap (digits 1) (sym m.param.same) in
    let q_size : size ≡ digits 1 y.size = s_size.spelled ∙ ap (digits 1) (sym m.size) in
    let q_source : source ≡ digits 2 y.source = s_source.spelled ∙ ap (digits 2) (sym m.source) in
    let q_sink : sink ≡ digits 2 y.sink = s_sink.spelled ∙ ap (digits 2) (sym m.sink) in
    let q_denied : denied ≡ bit_text y.denied = s_denied ∙ ap bit_text (sym m.denied) in
    let q_lanes : lanes ≡ lanes_text y.lanes = s_lanes.spelled ∙ ap lanes_text (sym m.lanes) in
    let q_corrupt : corrupt ≡ bit_text y.corrupt = s_corrupt ∙ ap bit_text (sym m.corrupt) in
    let same : linked {w = w} v1 (beat.D y) ≡ (link, x) = ok_is last in
    subst (λ (z : Link × Beat w). AreFields (linked_to ∷ second ∷ opcode ∷ param ∷ size ∷ source ∷ sink ∷ denied ∷ lanes
    ∷ corrupt ∷ []) z.0 z.1) same (record {
      are =
          cons_same q_link (cons_same q_letter (cons_same q_opcode
          (cons_same q_param (cons_same q_size (cons_same q_source
          (cons_same q_sink (cons_same q_denied (cons_same q_lanes (cons_same q_corrupt (refl))))))))));
      link_in_range = omega (arith, s_linked_to.fits);
      writable = (omega (arith, m.param.small), omega (arith, m.size, s_size.fits));
      in_range = (
        omega (arith, m.source, s_source.fits),
        omega (arith, m.sink, s_sink.fits),
        rw m.lanes
            s_lanes.are_lanes,
      );
    })))))))))))
reading_d-fields fs link x width named e = absurd cc

reading_e-fields : {w : ℕ} (fs : List (List ℕ)) (link : Link) (x : Beat w) → IsWidth w
    → channel_named (field fs 1) ≡ Some channel.E → reading_e fs ≡ Ok (link, x) → AreFields fs link x
unfolding reading_e
reading_e-fields {w} (linked_to ∷ second ∷ sink ∷ []) link x width named e =
    ok_step (number_in 2 linked_to) _ (link, x) _ e (λ v1 h1 e1.
    ok_step (number_in 2 sink) _ (link, x) _ e1 (λ v2 h2 e2.
    let s_linked_to = number_in-ok 2 linked_to v1 h1 in
    let s_sink = number_in-ok 2 sink v2 h2 in
    let q_link : linked_to ≡ digits 2 v1 = s_linked_to.spelled in
    let q_letter : second ≡ letter channel.E = letter-named second channel.E named in
    let q_sink : sink ≡ digits 2 v2 = s_sink.spelled in
    let same : linked {w = w} v1 (beat.E (record { sink = v2 })) ≡ (link, x) = ok_is e2 in
    subst (λ (z : Link × Beat w). AreFields (linked_to ∷ second ∷ sink ∷ []) z.0 z.1) same (record {
      are = cons_same q_link (cons_same q_letter (cons_same q_sink (refl)));
      link_in_range = omega (arith, s_linked_to.fits);
      writable = tt;
      in_range = omega (arith, s_sink.fits);
    })))
reading_e-fields fs link x width named e = absurd cc

reading_on-fields : {w : ℕ} (fs : List (List ℕ)) (link : Link) (x : Beat w) (c : Option Channel) → IsWidth w
    → channel_named (field fs 1) ≡ c → reading_on c fs ≡ Ok (link, x) → AreFields fs link x
reading_on-fields fs link x None width named e = absurd cc
reading_on-fields fs link x (Some channel.A) width named e = reading_a-fields fs link x width named e
reading_on-fields fs link x (Some channel.B) width named e = reading_b-fields fs link x width named e
reading_on-fields fs link x (Some channel.C) width named e = reading_c-fields fs link x width named e
reading_on-fields fs link x (Some channel.D) width named e = reading_d-fields fs link x width named e
reading_on-fields fs link x (Some channel.E) width named e = reading_e-fields fs link x width named e

reading_fields-are : {w : ℕ} (fs : List (List ℕ)) (link : Link) (x : Beat w) → IsWidth w
    → reading_fields fs ≡ Ok (link, x) → AreFields fs link x
unfolding reading_fields
reading_fields-are {w} fs link x width e = go (nat_lt (length fs) 2) e
  where
    go : (b : Bool) → cond b (Err F1) (reading_on {w = w} (channel_named (field fs 1)) fs) ≡ ok_of (link, x)
        → AreFields fs link x
    go true f = absurd cc
    go false f = reading_on-fields fs link x (channel_named (field fs 1)) width refl f

-- a line with its line feed
pub line-whole : (line : List ℕ) → ends_with_byte 10 line ≡ true → line ≡ without_last line ++ 10 ∷ []
line-whole line e =
    let both = and_parts (nat_lt 0 (length line)) (get_or line (length line - 1) 0 == 10) e in
    let some : 0 < length line = ltb-true 0 (length line) both.0 in
    let last : get_or line (length line - 1) 0 ≡ 10 = eqb-true (get_or line (length line - 1) 0) 10 both.1 in
    let rest : drop (length line - 1) line ≡ 10 ∷ [] = drop-cons line (length line - 1) 0 (omega arith)
    ∙ ap₂ (λ (x : ℕ) (xs : List ℕ). x ∷ xs) last (drop_all (suc (length line - 1)) line (omega arith)) in
    sym (take-append-drop (length line - 1) line) ∙ ap (λ (xs : List ℕ). take (length line - 1) line ++ xs) rest

pub reading-spells : {w : ℕ} (line : List ℕ) (link : Link) (x : Beat w) → IsWidth w → reading w line ≡ Ok (link, x)
    → Spells line link x
unfolding reading
reading-spells {w} line link x width e = go (nat_lt 256 (length line)) (ends_with_byte 10 line) refl e
  where
    go : (long ends : Bool) → ends_with_byte 10 line ≡ ends
        → cond (long || not ends) (Err F1) (reading_fields {w = w} (pieces (without_last line))) ≡ ok_of (link, x)
        → Spells line link x
    go true ends is f = absurd cc
    go false false is f = absurd cc
    go false true is f =
        let r = reading_fields-are (pieces (without_last line)) link x width f in
        record {
          is_line = line-whole line is ∙ ap (λ (b : List ℕ). b ++ 10 ∷ [])
              (sym (spaced-pieces (without_last line)) ∙ ap spaced r.are);
          link_in_range = r.link_in_range;
          writable = r.writable;
          in_range = r.in_range;
        }

pub ok-spells : {w : ℕ} (line : List ℕ) (r : Result (Link × Beat w) LineFault) → IsWidth w → r ≡ reading w line
    → IfOk r (λ read. Spells line read.0 read.1)
ok-spells line (Ok read) width e = reading-spells line read.0 read.1 width (sym e)
ok-spells line (Err fault) width e = tt
