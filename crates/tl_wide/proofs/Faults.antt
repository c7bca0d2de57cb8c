-- The first fault of a wide line is the one that reading gives.
use Rattle.std.proofs.Common.{◌≡◌, ℕ, ◌/◌, Bool, true, false, not, cond, List, [], ◌∷◌, length, refl, sym, ◌∙◌, arith}
use Rattle.std.specs.Io.BufRead.{ends_with_byte}
use Rattle.std.specs.Prelude.{Err, Option, Some, None, is_some, ◌||◌, nat_lt}
use Rattle.std.specs.Result.{result_err}
use Rattle.tl_beat.proofs.Faults.{checked, opcode-fault, result_err-map}
use Rattle.tl_beat.specs.statement.Digits.{is_digits, value_of, is_data, data_of, is_bit, bit_of}
use Rattle.tl_beat.specs.statement.First.{first_if}
use Rattle.tl_beat.specs.statement.Line.{pieces, field, letter, channel_named, without_last}
use Rattle.tl_beat.specs.statement.Opcode.{a_with, b_with, c_with, d_with, a_carries_data, b_carries_data}
use Rattle.tl_beat.specs.statement.Opcode.{c_carries_data, d_carries_data}
use Rattle.tl_wide.specs.code.Reading.{made_a, made_b, made_c, made_d, linked, reading_a, reading_b, reading_c}
use Rattle.tl_wide.specs.code.Reading.{reading_d, reading_e, reading_on, reading_fields, reading}
use Rattle.tl_wide.specs.statement.Line.{wide_channel_fault, wide_fields_fault, wide_line_fault}
use Rattle.tl_wide.specs.declared.beat.WideBeatA.{WideBeatA}
use Rattle.tl_wide.specs.declared.beat.WideBeatB.{WideBeatB}
use Rattle.tl_wide.specs.declared.beat.WideBeatC.{WideBeatC}
use Rattle.tl_wide.specs.declared.beat.WideBeatD.{WideBeatD}
use Rattle.tl_beat.specs.declared.channel.Channel.{Channel}
use Rattle.tl_beat.specs.declared.opcode.OpA.{OpA}
use Rattle.tl_beat.specs.declared.opcode.OpB.{OpB}
use Rattle.tl_beat.specs.declared.opcode.OpC.{OpC}
use Rattle.tl_beat.specs.declared.opcode.OpD.{OpD}
use Rattle.tl_beat.specs.declared.channel.Channel.TheVariants as channel
use Rattle.tl_wide.specs.declared.beat.WideBeat.TheVariants as wide
use Rattle.tl_beat.specs.declared.fault.LineFault.TheVariants.{F1}
use Rattle.tl_beat.proofs.Faults.{unless_equal}

abbrev built_a : {w : ℕ} (size source address mask : ℕ) (lanes : Option (List ℕ)) (corrupt : Bool) (opcode : OpA)
    (param : ℕ) → is_some lanes ≡ a_carries_data opcode → WideBeatA w
built_a size source address mask lanes corrupt opcode param h =
    record {
      opcode = opcode;
      param = param;
      size = size;
      source = source;
      address = address;
      mask = mask;
      lanes =
          lanes;
      corrupt = corrupt;
      carries = h;
    }

abbrev built_b : {w : ℕ} (size source address mask : ℕ) (lanes : Option (List ℕ)) (corrupt : Bool) (opcode : OpB)
    (param : ℕ) → is_some lanes ≡ b_carries_data opcode → WideBeatB w
built_b size source address mask lanes corrupt opcode param h =
    record {
      opcode = opcode;
      param = param;
      size = size;
      source = source;
      address = address;
      mask = mask;
      lanes =
          lanes;
      corrupt = corrupt;
      carries = h;
    }

abbrev built_c : {w : ℕ} (size source address : ℕ) (lanes : Option (List ℕ)) (corrupt : Bool) (opcode : OpC) (param : ℕ)
    → is_some lanes ≡ c_carries_data opcode → WideBeatC w
built_c size source address lanes corrupt opcode param h =
    record {
      opcode = opcode;
      param = param;
      size = size;
      source = source;
      address = address;
      lanes = lanes;
      corrupt =
          corrupt;
      carries = h;
    }

abbrev built_d : {w : ℕ} (size source sink : ℕ) (denied : Bool) (lanes : Option (List ℕ)) (corrupt : Bool)
    (opcode : OpD) (param : ℕ) → is_some lanes ≡ d_carries_data opcode → WideBeatD w
built_d size source sink denied lanes corrupt opcode param h =
    record {
      opcode = opcode;
      param = param;
      size = size;
      source = source;
      sink = sink;
      denied = denied;
      lanes =
          lanes;
      corrupt = corrupt;
      carries = h;
    }

reading_a-fault : (w : ℕ) (fs : List (List ℕ)) → result_err (reading_a {w = w} fs) ≡ wide_channel_fault w
    (Some channel.A) fs
unfolding reading_a
reading_a-fault w (link ∷ letter ∷ opcode ∷ param ∷ size ∷ source ∷ address ∷ mask ∷ lanes ∷ corrupt ∷ []) =
    checked (is_digits 2 link) (value_of link) _ _ _ (checked (is_digits 1 opcode) (value_of opcode) _ _ _
    (checked (is_digits 1 param) (value_of param) _ _ _
    (checked (is_digits 1 size) (value_of size) _ _ _ (checked (is_digits 4 source) (value_of source) _ _ _
    (checked (is_digits 16 address) (value_of address) _ _ _
    (checked (is_digits (w / 4) mask) (value_of mask) _ _ _
    (checked (is_data w lanes) (data_of lanes) _ _ _ (checked (is_bit corrupt) (bit_of corrupt) _ _ _
    ((result_err-map (made_a {w = w} (value_of opcode) (value_of param) (value_of size) (value_of source)
    (value_of address) (value_of mask)
    (data_of lanes) (bit_of corrupt)) (λ y. linked {w = w} (value_of link) (wide.A y)))
    ∙ opcode-fault (a_with (value_of opcode)) a_carries_data 7 (value_of param) lanes
    (built_a {w = w} (value_of size) (value_of source) (value_of address) (value_of mask) (data_of lanes)
    (bit_of corrupt)))))))))))
reading_a-fault w (link ∷ letter ∷ opcode ∷ param ∷ size ∷ source ∷ address ∷ mask ∷ lanes ∷ corrupt ∷ f ∷ fs) =
    sym (unless_equal (length (link ∷ letter ∷ opcode ∷ param ∷ size ∷ source ∷ address ∷ mask ∷ lanes ∷ corrupt ∷ f
    ∷ fs)) 10 _ _ (λ e. omega arith))
reading_a-fault w fs = refl

reading_b-fault : (w : ℕ) (fs : List (List ℕ)) → result_err (reading_b {w = w} fs) ≡ wide_channel_fault w
    (Some channel.B) fs
unfolding reading_b
reading_b-fault w (link ∷ letter ∷ opcode ∷ param ∷ size ∷ source ∷ address ∷ mask ∷ lanes ∷ corrupt ∷ []) =
    checked (is_digits 2 link) (value_of link) _ _ _ (checked (is_digits 1 opcode) (value_of opcode) _ _ _
    (checked (is_digits 1 param) (value_of param) _ _ _
    (checked (is_digits 1 size) (value_of size) _ _ _ (checked (is_digits 4 source) (value_of source) _ _ _
    (checked (is_digits 16 address) (value_of address) _ _ _
    (checked (is_digits (w / 4) mask) (value_of mask) _ _ _
    (checked (is_data w lanes) (data_of lanes) _ _ _ (checked (is_bit corrupt) (bit_of corrupt) _ _ _
    ((result_err-map (made_b {w = w} (value_of opcode) (value_of param) (value_of size) (value_of source)
    (value_of address) (value_of mask)
    (data_of lanes) (bit_of corrupt)) (λ y. linked {w = w} (value_of link) (wide.B y)))
    ∙ opcode-fault (b_with (value_of opcode)) b_carries_data 7 (value_of param) lanes
    (built_b {w = w} (value_of size) (value_of source) (value_of address) (value_of mask) (data_of lanes)
    (bit_of corrupt)))))))))))
reading_b-fault w (link ∷ letter ∷ opcode ∷ param ∷ size ∷ source ∷ address ∷ mask ∷ lanes ∷ corrupt ∷ f ∷ fs) =
    sym (unless_equal (length (link ∷ letter ∷ opcode ∷ param ∷ size ∷ source ∷ address ∷ mask ∷ lanes ∷ corrupt ∷ f
    ∷ fs)) 10 _ _ (λ e. omega arith))
reading_b-fault w fs = refl

reading_c-fault : (w : ℕ) (fs : List (List ℕ)) → result_err (reading_c {w = w} fs) ≡ wide_channel_fault w
    (Some channel.C) fs
unfolding reading_c
reading_c-fault w (link ∷ letter ∷ opcode ∷ param ∷ size ∷ source ∷ address ∷ lanes ∷ corrupt ∷ []) =
    checked (is_digits 2 link) (value_of link) _ _ _ (checked (is_digits 1 opcode) (value_of opcode) _ _ _
    (checked (is_digits 1 param) (value_of param) _ _ _
    (checked (is_digits 1 size) (value_of size) _ _ _ (checked (is_digits 4 source) (value_of source) _ _ _
    (checked (is_digits 16 address) (value_of address) _ _ _
    (checked (is_data w lanes) (data_of lanes) _ _ _ (checked (is_bit corrupt) (bit_of corrupt) _ _ _
    ((result_err-map (made_c {w = w} (value_of opcode) (value_of param) (value_of size) (value_of source)
    (value_of address) (data_of lanes)
    (bit_of corrupt)) (λ y. linked {w = w} (value_of link) (wide.C y)))
    ∙ opcode-fault (c_with (value_of opcode)) c_carries_data 7 (value_of param) lanes
    (built_c {w = w} (value_of size) (value_of source) (value_of address) (data_of lanes) (bit_of corrupt))))))))))
reading_c-fault w (link ∷ letter ∷ opcode ∷ param ∷ size ∷ source ∷ address ∷ lanes ∷ corrupt ∷ f ∷ fs) =
    sym (unless_equal (length (link ∷ letter ∷ opcode ∷ param ∷ size ∷ source ∷ address ∷ lanes ∷ corrupt ∷ f ∷ fs)) 9 _
    _ (λ e. omega arith))
reading_c-fault w fs = refl

reading_d-fault : (w : ℕ) (fs : List (List ℕ)) → result_err (reading_d {w = w} fs) ≡ wide_channel_fault w
    (Some channel.D) fs
unfolding reading_d
reading_d-fault w (link ∷ letter ∷ opcode ∷ param ∷ size ∷ source ∷ sink ∷ denied ∷ lanes ∷ corrupt ∷ []) =
    checked (is_digits 2 link) (value_of link) _ _ _ (checked (is_digits 1 opcode) (value_of opcode) _ _ _
    (checked (is_digits 1 param) (value_of param) _ _ _
    (checked (is_digits 1 size) (value_of size) _ _ _ (checked (is_digits 4 source) (value_of source) _ _ _
    (checked (is_digits 4 sink) (value_of sink) _ _ _ (checked (is_bit denied) (bit_of denied) _ _ _
    (checked (is_data w lanes) (data_of lanes) _ _ _ (checked (is_bit corrupt) (bit_of corrupt) _ _ _
    ((result_err-map (made_d {w = w} (value_of opcode) (value_of param) (value_of size) (value_of source)
    (value_of sink) (bit_of denied)
    (data_of lanes) (bit_of corrupt)) (λ y. linked {w = w} (value_of link) (wide.D y)))
    ∙ opcode-fault (d_with (value_of opcode)) d_carries_data 3 (value_of param) lanes
    (built_d {w = w} (value_of size) (value_of source) (value_of sink) (bit_of denied) (data_of lanes)
    (bit_of corrupt)))))))))))
reading_d-fault w (link ∷ letter ∷ opcode ∷ param ∷ size ∷ source ∷ sink ∷ denied ∷ lanes ∷ corrupt ∷ f ∷ fs) =
    sym (unless_equal (length (link ∷ letter ∷ opcode ∷ param ∷ size ∷ source ∷ sink ∷ denied ∷ lanes ∷ corrupt ∷ f
    ∷ fs)) 10 _ _ (λ e. omega arith))
reading_d-fault w fs = refl

reading_e-fault : (w : ℕ) (fs : List (List ℕ)) → result_err (reading_e {w = w} fs) ≡ wide_channel_fault w
    (Some channel.E) fs
unfolding reading_e
reading_e-fault w (link ∷ letter ∷ sink ∷ []) =
    checked (is_digits 2 link) (value_of link) _ _ _ (checked (is_digits 4 sink) (value_of sink) _ _ _ (refl))
reading_e-fault w (link ∷ letter ∷ sink ∷ f ∷ fs) =
    sym (unless_equal (length (link ∷ letter ∷ sink ∷ f ∷ fs)) 3 _ _ (λ e. omega arith))
reading_e-fault w fs = refl

reading_on-fault : (w : ℕ) (c : Option Channel) (fs : List (List ℕ))
    → result_err (reading_on {w = w} c fs) ≡ wide_channel_fault w c fs
reading_on-fault w None fs = refl
reading_on-fault w (Some channel.A) fs = reading_a-fault w fs
reading_on-fault w (Some channel.B) fs = reading_b-fault w fs
reading_on-fault w (Some channel.C) fs = reading_c-fault w fs
reading_on-fault w (Some channel.D) fs = reading_d-fault w fs
reading_on-fault w (Some channel.E) fs = reading_e-fault w fs

reading_fields-fault : (w : ℕ) (fs : List (List ℕ)) → result_err (reading_fields {w = w} fs) ≡ wide_fields_fault w fs
unfolding reading_fields
reading_fields-fault w fs = go (nat_lt (length fs) 2)
  where
    go : (b : Bool) → result_err (cond b (Err F1) (reading_on {w = w} (channel_named (field fs 1)) fs)) ≡ first_if b F1
        (wide_channel_fault w (channel_named (field fs 1)) fs)
    go true = refl
    go false = reading_on-fault w (channel_named (field fs 1)) fs

pub reading-fault : (w : ℕ) (line : List ℕ) → result_err (reading w line) ≡ wide_line_fault w line
unfolding reading
reading-fault w line = go (nat_lt 256 (length line) || not (ends_with_byte 10 line))
  where
    go : (b : Bool) → result_err (cond b (Err F1) (reading_fields {w = w} (pieces (without_last line)))) ≡ first_if b F1
        (wide_fields_fault w (pieces (without_last line)))
    go true = refl
    go false = reading_fields-fault w (pieces (without_last line))
