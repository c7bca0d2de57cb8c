-- A wide line spells what it is read as.
use Rattle.std.proofs.Common.{◌≡◌, ℕ, ◌/◌, ◌^◌, ◌<◌, Bool, true, false, not, cond, List, [], ◌∷◌, ◌++◌, length, refl}
use Rattle.std.proofs.Common.{sym, ap, subst, ◌∙◌, arith}
use Rattle.std.specs.Io.BufRead.{ends_with_byte}
use Rattle.std.specs.Prelude.{Result, Ok, Err, Option, Some, None, is_some, ok_or, ◌||◌, nat_lt, IfOk}
use Rattle.tl_beat.proofs.OpcodeCodes.{a_code-with, b_code-with, c_code-with, d_code-with}
use Rattle.tl_beat.proofs.Pieces.{spaced-pieces}
use Rattle.tl_beat.proofs.ReadFields.{ok_of, ok_is, ok_step, ok_or-ok, at_most-is, letter-named}
use Rattle.tl_beat.proofs.ReadLines.{cons_same, line-whole}
use Rattle.tl_beat.proofs.SpelledDigits.{number_in-ok, data_in-ok, bit_in-ok}
use Rattle.tl_beat.specs.code.Reading.{number_in, data_in, bit_in, at_most, agreement}
use Rattle.tl_beat.specs.statement.Digits.{digits}
use Rattle.tl_beat.specs.statement.Line.{spaced, pieces, field, letter, channel_named, without_last}
use Rattle.tl_beat.specs.statement.Opcode.{a_code, b_code, c_code, d_code, a_with, b_with, c_with, d_with}
use Rattle.tl_beat.specs.statement.Opcode.{a_carries_data, b_carries_data, c_carries_data, d_carries_data}
use Rattle.tl_wide.specs.code.Reading.{made_a, made_b, made_c, made_d, linked, reading_a, reading_b, reading_c}
use Rattle.tl_wide.specs.code.Reading.{reading_d, reading_e, reading_on, reading_fields, reading}
use Rattle.tl_wide.specs.statement.Line.{wide_fields, IsWideWritable, IsWideInRange, WideSpells}
use Rattle.tl_wide.specs.statement.Width.{IsWideWidth}
use Rattle.tl_beat.specs.declared.beat.Link.{Link}
use Rattle.tl_wide.specs.declared.beat.WideBeat.{WideBeat}
use Rattle.tl_wide.specs.declared.beat.WideBeatA.{WideBeatA}
use Rattle.tl_wide.specs.declared.beat.WideBeatB.{WideBeatB}
use Rattle.tl_wide.specs.declared.beat.WideBeatC.{WideBeatC}
use Rattle.tl_wide.specs.declared.beat.WideBeatD.{WideBeatD}
use Rattle.tl_beat.specs.declared.channel.Channel.{Channel}
use Rattle.tl_beat.specs.declared.fault.LineFault.{LineFault}
use Rattle.tl_beat.specs.declared.channel.Channel.TheVariants as channel
use Rattle.tl_wide.specs.declared.beat.WideBeat.TheVariants as wide
use Rattle.tl_beat.specs.declared.fault.LineFault.TheVariants.{F1, F4}
use Rattle.tl_wide.proofs.SpelledLines.{mask-below}

-- the fields spell the link and the beat
record AreFields {w : ℕ} (fs : List (List ℕ)) (link : Link) (x : WideBeat w) : Type 0 where
  are : fs ≡ wide_fields link x
  link_in_range : link.0 < 2 ^ 8
  writable : IsWideWritable x
  in_range : IsWideInRange x

reading_a-fields : {w : ℕ} (fs : List (List ℕ)) (link : Link) (x : WideBeat w) → IsWideWidth w
    → channel_named (field fs 1) ≡ Some channel.A → reading_a fs ≡ Ok (link, x) → AreFields fs link x
unfolding reading_a
reading_a-fields {w} (linked_to ∷ second ∷ opcode ∷ param ∷ size ∷ source ∷ address ∷ mask ∷ lanes ∷ corrupt ∷ []) link
    x width named e =
    ok_step (number_in 2 linked_to) _ (link, x) _ e (λ v_link h_link e_link.
    ok_step (number_in 1 opcode) _ (link, x) _ e_link (λ v_opcode h_opcode e_opcode.
    ok_step (number_in 1 param) _ (link, x) _ e_opcode (λ v_param h_param e_param.
    ok_step (number_in 1 size) _ (link, x) _ e_param (λ v_size h_size e_size.
    ok_step (number_in 4 source) _ (link, x) _ e_size (λ v_source h_source e_source.
    ok_step (number_in 16 address) _ (link, x) _ e_source (λ v_address h_address e_address.
    ok_step (number_in (w / 4) mask) _ (link, x) _ e_address (λ v_mask h_mask e_mask.
    ok_step (data_in w lanes) _ (link, x) _ e_mask (λ v_lanes h_lanes e_lanes.
    ok_step (bit_in corrupt) _ (link, x) _ e_lanes (λ v_corrupt h_corrupt e_corrupt.
    ok_step (made_a {w = w} v_opcode v_param v_size v_source v_address v_mask v_lanes v_corrupt) _ (link, x) _ e_corrupt
    (λ y is_y last.
    ok_step (ok_or (a_with v_opcode) F4) _ y _ is_y (λ o is_o y1.
    ok_step (at_most 7 v_param) _ y _ y1 (λ p is_p y2.
    ok_step (agreement (is_some v_lanes) (a_carries_data o)) _ y _ y2 (λ h is_h y3.
    let bound = at_most-is 7 v_param p is_p in
    let code : a_code o ≡ v_opcode = a_code-with v_opcode o (ok_or-ok (a_with v_opcode) o is_o) in
    let s_linked_to = number_in-ok 2 linked_to v_link h_link in
    let s_opcode = number_in-ok 1 opcode v_opcode h_opcode in
    let s_param = number_in-ok 1 param v_param h_param in
    let s_size = number_in-ok 1 size v_size h_size in
    let s_source = number_in-ok 4 source v_source h_source in
    let s_address = number_in-ok 16 address v_address h_address in
    let s_mask = number_in-ok (w / 4) mask v_mask h_mask in
    let s_lanes = data_in-ok w lanes v_lanes h_lanes in
    let s_corrupt = bit_in-ok corrupt v_corrupt h_corrupt in
    let same : linked {w = w} v_link (wide.A y) ≡ (link, x) = ok_is last in
    let made : WideBeatA w = record {
      opcode = o;
      param = p;
      size = v_size;
      source = v_source;
      address =
          v_address;
      mask = v_mask;
      lanes = v_lanes;
      corrupt = v_corrupt;
      carries = h;
    } in
    let is_made : made ≡ y = ok_is y3 in
    subst (λ (z : Link × WideBeat w). AreFields
    (linked_to ∷ second ∷ opcode ∷ param ∷ size ∷ source ∷ address ∷ mask ∷ lanes ∷ corrupt ∷ []) z.0 z.1)
    (ap (λ (z : WideBeatA w). linked {w = w} v_link (wide.A z)) is_made ∙ same) (record {
      are = cons_same s_linked_to.spelled
          (cons_same (letter-named second channel.A named) (cons_same (s_opcode.spelled ∙ ap (digits 1) (sym code))
          (cons_same (s_param.spelled ∙ ap (digits 1) (sym bound.same))
          (cons_same s_size.spelled
          (cons_same s_source.spelled
          (cons_same s_address.spelled
          (cons_same s_mask.spelled (cons_same s_lanes.spelled (cons_same s_corrupt refl)))))))));
      link_in_range = omega (arith, s_linked_to.fits);
      writable = (omega (arith, bound.small), omega (arith, s_size.fits), mask-below w v_mask width s_mask.fits);
      in_range = (omega (arith, s_source.fits), omega (arith, s_address.fits), s_lanes.are_lanes);
    }))))))))))))))
reading_a-fields fs link x width named e = absurd cc

reading_b-fields : {w : ℕ} (fs : List (List ℕ)) (link : Link) (x : WideBeat w) → IsWideWidth w
    → channel_named (field fs 1) ≡ Some channel.B → reading_b fs ≡ Ok (link, x) → AreFields fs link x
unfolding reading_b
reading_b-fields {w} (linked_to ∷ second ∷ opcode ∷ param ∷ size ∷ source ∷ address ∷ mask ∷ lanes ∷ corrupt ∷ []) link
    x width named e =
    ok_step (number_in 2 linked_to) _ (link, x) _ e (λ v_link h_link e_link.
    ok_step (number_in 1 opcode) _ (link, x) _ e_link (λ v_opcode h_opcode e_opcode.
    ok_step (number_in 1 param) _ (link, x) _ e_opcode (λ v_param h_param e_param.
    ok_step (number_in 1 size) _ (link, x) _ e_param (λ v_size h_size e_size.
    ok_step (number_in 4 source) _ (link, x) _ e_size (λ v_source h_source e_source.
    ok_step (number_in 16 address) _ (link, x) _ e_source (λ v_address h_address e_address.
    ok_step (number_in (w / 4) mask) _ (link, x) _ e_address (λ v_mask h_mask e_mask.
    ok_step (data_in w lanes) _ (link, x) _ e_mask (λ v_lanes h_lanes e_lanes.
    ok_step (bit_in corrupt) _ (link, x) _ e_lanes (λ v_corrupt h_corrupt e_corrupt.
    ok_step (made_b {w = w} v_opcode v_param v_size v_source v_address v_mask v_lanes v_corrupt) _ (link, x) _ e_corrupt
    (λ y is_y last.
    ok_step (ok_or (b_with v_opcode) F4) _ y _ is_y (λ o is_o y1.
    ok_step (at_most 7 v_param) _ y _ y1 (λ p is_p y2.
    ok_step (agreement (is_some v_lanes) (b_carries_data o)) _ y _ y2 (λ h is_h y3.
    let bound = at_most-is 7 v_param p is_p in
    let code : b_code o ≡ v_opcode = b_code-with v_opcode o (ok_or-ok (b_with v_opcode) o is_o) in
    let s_linked_to = number_in-ok 2 linked_to v_link h_link in
    let s_opcode = number_in-ok 1 opcode v_opcode h_opcode in
    let s_param = number_in-ok 1 param v_param h_param in
    let s_size = number_in-ok 1 size v_size h_size in
    let s_source = number_in-ok 4 source v_source h_source in
    let s_address = number_in-ok 16 address v_address h_address in
    let s_mask = number_in-ok (w / 4) mask v_mask h_mask in
    let s_lanes = data_in-ok w lanes v_lanes h_lanes in
    let s_corrupt = bit_in-ok corrupt v_corrupt h_corrupt in
    let same : linked {w = w} v_link (wide.B y) ≡ (link, x) = ok_is last in
    let made : WideBeatB w = record {
      opcode = o;
      param = p;
      size = v_size;
      source = v_source;
      address =
          v_address;
      mask = v_mask;
      lanes = v_lanes;
      corrupt = v_corrupt;
      carries = h;
    } in
    let is_made : made ≡ y = ok_is y3 in
    subst (λ (z : Link × WideBeat w). AreFields
    (linked_to ∷ second ∷ opcode ∷ param ∷ size ∷ source ∷ address ∷ mask ∷ lanes ∷ corrupt ∷ []) z.0 z.1)
    (ap (λ (z : WideBeatB w). linked {w = w} v_link (wide.B z)) is_made ∙ same) (record {
      are = cons_same s_linked_to.spelled
          (cons_same (letter-named second channel.B named) (cons_same (s_opcode.spelled ∙ ap (digits 1) (sym code))
          (cons_same (s_param.spelled ∙ ap (digits 1) (sym bound.same))
          (cons_same s_size.spelled
          (cons_same s_source.spelled
          (cons_same s_address.spelled
          (cons_same s_mask.spelled (cons_same s_lanes.spelled (cons_same s_corrupt refl)))))))));
      link_in_range = omega (arith, s_linked_to.fits);
      writable = (omega (arith, bound.small), omega (arith, s_size.fits), mask-below w v_mask width s_mask.fits);
      in_range = (omega (arith, s_source.fits), omega (arith, s_address.fits), s_lanes.are_lanes);
    }))))))))))))))
reading_b-fields fs link x width named e = absurd cc

reading_c-fields : {w : ℕ} (fs : List (List ℕ)) (link : Link) (x : WideBeat w) → IsWideWidth w
    → channel_named (field fs 1) ≡ Some channel.C → reading_c fs ≡ Ok (link, x) → AreFields fs link x
unfolding reading_c
reading_c-fields {w} (linked_to ∷ second ∷ opcode ∷ param ∷ size ∷ source ∷ address ∷ lanes ∷ corrupt ∷ []) link x width
    named e =
    ok_step (number_in 2 linked_to) _ (link, x) _ e (λ v_link h_link e_link.
    ok_step (number_in 1 opcode) _ (link, x) _ e_link (λ v_opcode h_opcode e_opcode.
    ok_step (number_in 1 param) _ (link, x) _ e_opcode (λ v_param h_param e_param.
    ok_step (number_in 1 size) _ (link, x) _ e_param (λ v_size h_size e_size.
    ok_step (number_in 4 source) _ (link, x) _ e_size (λ v_source h_source e_source.
    ok_step (number_in 16 address) _ (link, x) _ e_source (λ v_address h_address e_address.
    ok_step (data_in w lanes) _ (link, x) _ e_address (λ v_lanes h_lanes e_lanes.
    ok_step (bit_in corrupt) _ (link, x) _ e_lanes (λ v_corrupt h_corrupt e_corrupt.
    ok_step (made_c {w = w} v_opcode v_param v_size v_source v_address v_lanes v_corrupt) _ (link, x) _ e_corrupt
    (λ y is_y last.
    ok_step (ok_or (c_with v_opcode) F4) _ y _ is_y (λ o is_o y1.
    ok_step (at_most 7 v_param) _ y _ y1 (λ p is_p y2.
    ok_step (agreement (is_some v_lanes) (c_carries_data o)) _ y _ y2 (λ h is_h y3.
    let bound = at_most-is 7 v_param p is_p in
    let code : c_code o ≡ v_opcode = c_code-with v_opcode o (ok_or-ok (c_with v_opcode) o is_o) in
    let s_linked_to = number_in-ok 2 linked_to v_link h_link in
    let s_opcode = number_in-ok 1 opcode v_opcode h_opcode in
    let s_param = number_in-ok 1 param v_param h_param in
    let s_size = number_in-ok 1 size v_size h_size in
    let s_source = number_in-ok 4 source v_source h_source in
    let s_address = number_in-ok 16 address v_address h_address in
    let s_lanes = data_in-ok w lanes v_lanes h_lanes in
    let s_corrupt = bit_in-ok corrupt v_corrupt h_corrupt in
    let same : linked {w = w} v_link (wide.C y) ≡ (link, x) = ok_is last in
    let made : WideBeatC w = record {
      opcode = o;
      param = p;
      size = v_size;
      source = v_source;
      address =
          v_address;
      lanes = v_lanes;
      corrupt = v_corrupt;
      carries = h;
    } in
    let is_made : made ≡ y = ok_is y3 in
    subst (λ (z : Link × WideBeat w). AreFields (linked_to ∷ second ∷ opcode ∷ param ∷ size ∷ source ∷ address ∷ lanes
    ∷ corrupt ∷ []) z.0 z.1)
    (ap (λ (z : WideBeatC w). linked {w = w} v_link (wide.C z)) is_made ∙ same) (record {
      are = cons_same s_linked_to.spelled
          (cons_same (letter-named second channel.C named) (cons_same (s_opcode.spelled ∙ ap (digits 1) (sym code))
          (cons_same (s_param.spelled ∙ ap (digits 1) (sym bound.same))
          (cons_same s_size.spelled
          (cons_same s_source.spelled
          (cons_same s_address.spelled (cons_same s_lanes.spelled (cons_same s_corrupt refl))))))));
      link_in_range = omega (arith, s_linked_to.fits);
      writable = (omega (arith, bound.small), omega (arith, s_size.fits));
      in_range = (omega (arith, s_source.fits), omega (arith, s_address.fits), s_lanes.are_lanes);
    })))))))))))))
reading_c-fields fs link x width named e = absurd cc

reading_d-fields : {w : ℕ} (fs : List (List ℕ)) (link : Link) (x : WideBeat w) → IsWideWidth w
    → channel_named (field fs 1) ≡ Some channel.D → reading_d fs ≡ Ok (link, x) → AreFields fs link x
unfolding reading_d
reading_d-fields {w} (linked_to ∷ second ∷ opcode ∷ param ∷ size ∷ source ∷ sink ∷ denied ∷ lanes ∷ corrupt ∷ []) link x
    width named e =
    ok_step (number_in 2 linked_to) _ (link, x) _ e (λ v_link h_link e_link.
    ok_step (number_in 1 opcode) _ (link, x) _ e_link (λ v_opcode h_opcode e_opcode.
    ok_step (number_in 1 param) _ (link, x) _ e_opcode (λ v_param h_param e_param.
    ok_step (number_in 1 size) _ (link, x) _ e_param (λ v_size h_size e_size.
    ok_step (number_in 4 source) _ (link, x) _ e_size (λ v_source h_source e_source.
    ok_step (number_in 4 sink) _ (link, x) _ e_source (λ v_sink h_sink e_sink.
    ok_step (bit_in denied) _ (link, x) _ e_sink (λ v_denied h_denied e_denied.
    ok_step (data_in w lanes) _ (link, x) _ e_denied (λ v_lanes h_lanes e_lanes.
    ok_step (bit_in corrupt) _ (link, x) _ e_lanes (λ v_corrupt h_corrupt e_corrupt.
    ok_step (made_d {w = w} v_opcode v_param v_size v_source v_sink v_denied v_lanes v_corrupt) _ (link, x) _ e_corrupt
    (λ y is_y last.
    ok_step (ok_or (d_with v_opcode) F4) _ y _ is_y (λ o is_o y1.
    ok_step (at_most 3 v_param) _ y _ y1 (λ p is_p y2.
    ok_step (agreement (is_some v_lanes) (d_carries_data o)) _ y _ y2 (λ h is_h y3.
    let bound = at_most-is 3 v_param p is_p in
    let code : d_code o ≡ v_opcode = d_code-with v_opcode o (ok_or-ok (d_with v_opcode) o is_o) in
    let s_linked_to = number_in-ok 2 linked_to v_link h_link in
    let s_opcode = number_in-ok 1 opcode v_opcode h_opcode in
    let s_param = number_in-ok 1 param v_param h_param in
    let s_size = number_in-ok 1 size v_size h_size in
    let s_source = number_in-ok 4 source v_source h_source in
    let s_sink = number_in-ok 4 sink v_sink h_sink in
    let s_denied = bit_in-ok denied v_denied h_denied in
    let s_lanes = data_in-ok w lanes v_lanes h_lanes in
    let s_corrupt = bit_in-ok corrupt v_corrupt h_corrupt in
    let same : linked {w = w} v_link (wide.D y) ≡ (link, x) = ok_is last in
    let made : WideBeatD w = record {
      opcode = o;
      param = p;
      size = v_size;
      source = v_source;
      sink = v_sink;
      denied =
          v_denied;
      lanes = v_lanes;
      corrupt = v_corrupt;
      carries = h;
    } in
    let is_made : made ≡ y = ok_is y3 in
    subst (λ (z : Link × WideBeat w). AreFields
    (linked_to ∷ second ∷ opcode ∷ param ∷ size ∷ source ∷ sink ∷ denied ∷ lanes ∷ corrupt ∷ []) z.0 z.1)
    (ap (λ (z : WideBeatD w). linked {w = w} v_link (wide.D z)) is_made ∙ same) (record {
      are = cons_same s_linked_to.spelled
          (cons_same (letter-named second channel.D named) (cons_same (s_opcode.spelled ∙ ap (digits 1) (sym code))
          (cons_same (s_param.spelled ∙ ap (digits 1) (sym bound.same))
          (cons_same s_size.spelled
          (cons_same s_source.spelled
          (cons_same s_sink.spelled (cons_same s_denied (cons_same s_lanes.spelled (cons_same s_corrupt refl)))))))));
      link_in_range = omega (arith, s_linked_to.fits);
      writable = (omega (arith, bound.small), omega (arith, s_size.fits));
      in_range = (omega (arith, s_source.fits), omega (arith, s_sink.fits), s_lanes.are_lanes);
    }))))))))))))))
reading_d-fields fs link x width named e = absurd cc

reading_e-fields : {w : ℕ} (fs : List (List ℕ)) (link : Link) (x : WideBeat w) → IsWideWidth w
    → channel_named (field fs 1) ≡ Some channel.E → reading_e fs ≡ Ok (link, x) → AreFields fs link x
unfolding reading_e
reading_e-fields {w} (linked_to ∷ second ∷ sink ∷ []) link x width named e =
    ok_step (number_in 2 linked_to) _ (link, x) _ e (λ v1 h1 e1.
    ok_step (number_in 4 sink) _ (link, x) _ e1 (λ v2 h2 e2.
    let s_linked_to = number_in-ok 2 linked_to v1 h1 in
    let s_sink = number_in-ok 4 sink v2 h2 in
    let q_link : linked_to ≡ digits 2 v1 = s_linked_to.spelled in
    let q_letter : second ≡ letter channel.E = letter-named second channel.E named in
    let q_sink : sink ≡ digits 4 v2 = s_sink.spelled in
    let same : linked {w = w} v1 (wide.E (record { sink = v2 })) ≡ (link, x) = ok_is e2 in
    subst (λ (z : Link × WideBeat w). AreFields (linked_to ∷ second ∷ sink ∷ []) z.0 z.1) same (record {
      are = cons_same q_link (cons_same q_letter (cons_same q_sink (refl)));
      link_in_range = omega (arith, s_linked_to.fits);
      writable = tt;
      in_range = omega (arith, s_sink.fits);
    })))
reading_e-fields fs link x width named e = absurd cc

reading_on-fields : {w : ℕ} (fs : List (List ℕ)) (link : Link) (x : WideBeat w) (c : Option Channel) → IsWideWidth w
    → channel_named (field fs 1) ≡ c → reading_on c fs ≡ Ok (link, x) → AreFields fs link x
reading_on-fields fs link x None width named e = absurd cc
reading_on-fields fs link x (Some channel.A) width named e = reading_a-fields fs link x width named e
reading_on-fields fs link x (Some channel.B) width named e = reading_b-fields fs link x width named e
reading_on-fields fs link x (Some channel.C) width named e = reading_c-fields fs link x width named e
reading_on-fields fs link x (Some channel.D) width named e = reading_d-fields fs link x width named e
reading_on-fields fs link x (Some channel.E) width named e = reading_e-fields fs link x width named e

reading_fields-are : {w : ℕ} (fs : List (List ℕ)) (link : Link) (x : WideBeat w) → IsWideWidth w
    → reading_fields fs ≡ Ok (link, x) → AreFields fs link x
unfolding reading_fields
reading_fields-are {w} fs link x width e = go (nat_lt (length fs) 2) e
  where
    go : (b : Bool) → cond b (Err F1) (reading_on {w = w} (channel_named (field fs 1)) fs) ≡ ok_of (link, x)
        → AreFields fs link x
    go true f = absurd cc
    go false f = reading_on-fields fs link x (channel_named (field fs 1)) width refl f

pub reading-spells : {w : ℕ} (line : List ℕ) (link : Link) (x : WideBeat w) → IsWideWidth w
    → reading w line ≡ Ok (link, x)
    → WideSpells line link x
unfolding reading
reading-spells {w} line link x width e = go (nat_lt 256 (length line)) (ends_with_byte 10 line) refl e
  where
    go : (long ends : Bool) → ends_with_byte 10 line ≡ ends
        → cond (long || not ends) (Err F1) (reading_fields {w = w} (pieces (without_last line))) ≡ ok_of (link, x)
        → WideSpells line link x
    go true ends is f = absurd cc
    go false false is f = absurd cc
    go false true is f =
        let r = reading_fields-are (pieces (without_last line)) link x width f in
        record {
          is_line = line-whole line is ∙ ap (λ (b : List ℕ). b ++ 10 ∷ [])
              (sym (spaced-pieces (without_last line)) ∙ ap spaced r.are);
          link_in_range = r.link_in_range;
          writable = r.writable;
          in_range = r.in_range;
        }

pub ok-spells : {w : ℕ} (line : List ℕ) (r : Result (Link × WideBeat w) LineFault) → IsWideWidth w → r ≡ reading w line
    → IfOk r (λ read. WideSpells line read.0 read.1)
ok-spells line (Ok read) width e = reading-spells line read.0 read.1 width (sym e)
ok-spells line (Err fault) width e = tt
