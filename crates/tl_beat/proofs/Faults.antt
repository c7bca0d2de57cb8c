-- The first fault of a line is the one that reading gives.
use Rattle.std.proofs.Common.{◌≡◌, ℕ, ◌/◌, Bool, true, false, not, cond, List, [], ◌∷◌, length, refl, sym, ◌∙◌, arith}
use Rattle.std.specs.Prelude.{Result, Ok, Err, Option, Some, None, is_some, is_none, option_map, ◌==◌, ◌&&◌, ◌||◌}
use Rattle.std.specs.Prelude.{nat_lt, ok_or}
use Rattle.std.specs.Result.{result_err}
use Rattle.std.specs.Io.BufRead.{ends_with_byte}
use Rattle.std.proofs.lemmas.Bool.{ne_eqb}
use Rattle.tl_beat.specs.declared.beat.BeatA.{BeatA}
use Rattle.tl_beat.specs.declared.beat.BeatB.{BeatB}
use Rattle.tl_beat.specs.declared.beat.BeatC.{BeatC}
use Rattle.tl_beat.specs.declared.beat.BeatD.{BeatD}
use Rattle.tl_beat.specs.declared.beat.Beat.TheVariants as beat
use Rattle.tl_beat.specs.declared.channel.Channel.{Channel}
use Rattle.tl_beat.specs.declared.channel.Channel.TheVariants as channel
use Rattle.tl_beat.specs.declared.opcode.OpA.{OpA}
use Rattle.tl_beat.specs.declared.opcode.OpB.{OpB}
use Rattle.tl_beat.specs.declared.opcode.OpC.{OpC}
use Rattle.tl_beat.specs.declared.opcode.OpD.{OpD}
use Rattle.tl_beat.specs.declared.fault.LineFault.{LineFault}
use Rattle.tl_beat.specs.declared.fault.LineFault.TheVariants.{F1, F3, F4, F5, F6}
use Rattle.tl_beat.specs.statement.Opcode.{a_with, b_with, c_with, d_with, a_carries_data, b_carries_data}
use Rattle.tl_beat.specs.statement.Opcode.{c_carries_data, d_carries_data}
use Rattle.tl_beat.specs.statement.Digits.{is_digits, value_of, is_data, is_dash, data_of, lanes_before, is_bit, bit_of}
use Rattle.tl_beat.specs.statement.Line.{pieces, field, channel_named, is_misplaced, channel_fault, fields_fault}
use Rattle.tl_beat.specs.statement.Line.{line_fault, without_last}
use Rattle.tl_beat.specs.code.Reading.{◌>>=◌, at_most, agreement, made_a, made_b, made_c, made_d, linked, reading_a}
use Rattle.tl_beat.specs.code.Reading.{reading_b, reading_c, reading_d, reading_e, reading_on, reading_fields, reading}
use Rattle.tl_beat.specs.statement.First.{first_if}

abbrev pub built : {A : Type 0} → A → Result A LineFault
built x = Ok x

-- one field's form, and then the others
pub checked : {A B : Type 0} (b : Bool) (v : A) (more : A → Result B LineFault) (rest : Bool) (last : Option LineFault)
    → result_err (more v) ≡ first_if (not rest) F3 last
    → result_err (cond b (Ok v) (Err F3) >>= more) ≡ first_if (not (b && rest)) F3 last
checked true v more rest last e = e
checked false v more rest last e = refl

abbrev disagreement : Bool → Bool → Option LineFault
disagreement true true = None
disagreement false false = None
disagreement true false = Some F6
disagreement false true = Some F6

agreement-fault : {A : Type 0} (b c : Bool) (build : b ≡ c → A)
    → result_err (agreement b c >>= λ h. built (build h)) ≡ disagreement b c
agreement-fault true true build = refl
agreement-fault true false build = refl
agreement-fault false true build = refl
agreement-fault false false build = refl

misplaced : (dash carries : Bool) (lanes field : List ℕ) → is_dash field ≡ dash
    → disagreement (is_some (cond dash None (Some lanes))) carries ≡ first_if (is_misplaced (Some carries) field) F6
    None
misplaced true true lanes field e = rw e refl
misplaced true false lanes field e = rw e refl
misplaced false true lanes field e = rw e refl
misplaced false false lanes field e = rw e refl

-- opcode, param and data, in this order
pub opcode-fault : {Op A : Type 0} (found : Option Op) (carries : Op → Bool) (greatest param : ℕ) (field : List ℕ)
    (build : (o : Op) → ℕ → is_some (data_of field) ≡ carries o → A)
    → result_err (ok_or found F4 >>= λ o. at_most greatest param >>= λ p. agreement (is_some (data_of field))
    (carries o) >>= λ h. built (build o p h))
    ≡ first_if (is_none (option_map carries found)) F4
    (first_if (nat_lt greatest param) F5 (first_if (is_misplaced (option_map carries found) field) F6 None))
opcode-fault None carries greatest param field build = refl
opcode-fault {Op} {A} (Some o) carries greatest param field build = go (nat_lt greatest param)
  where
    go : (b : Bool)
        → result_err (cond b (Err F5) (Ok param) >>= λ p. agreement (is_some (data_of field)) (carries o) >>= λ h. built
        (build o p h)) ≡ first_if b F5
        (first_if (is_misplaced (Some (carries o)) field) F6 None)
    go true = refl
    go false = agreement-fault (is_some (data_of field)) (carries o) (build o param) ∙ misplaced (is_dash field)
        (carries o) (lanes_before [] field) field refl

pub result_err-map : {A B : Type 0} (m : Result A LineFault) (f : A → B)
    → result_err (m >>= λ x. built (f x)) ≡ result_err
    m
result_err-map (Ok x) f = refl
result_err-map (Err e) f = refl

pub unless_equal : (n k : ℕ) (fault : LineFault) (last : Option LineFault) → (n ≡ k → ⊥)
    → first_if (not (n == k)) fault last ≡ Some fault
unless_equal n k fault last apart = rw (ne_eqb n k apart) refl

abbrev built_a : {w : ℕ} (size source address mask : ℕ) (lanes : Option (List ℕ)) (corrupt : Bool) (opcode : OpA)
    (param : ℕ) → is_some lanes ≡ a_carries_data opcode → BeatA w
built_a size source address mask lanes corrupt opcode param h =
    record {
      opcode = opcode;
      param = param;
      size = size;
      source = source;
      address = address;
      mask = mask;
      lanes =
          lanes;
      corrupt = corrupt;
      carries = h;
    }

abbrev built_b : {w : ℕ} (size source address mask : ℕ) (lanes : Option (List ℕ)) (corrupt : Bool) (opcode : OpB)
    (param : ℕ) → is_some lanes ≡ b_carries_data opcode → BeatB w
built_b size source address mask lanes corrupt opcode param h =
    record {
      opcode = opcode;
      param = param;
      size = size;
      source = source;
      address = address;
      mask = mask;
      lanes =
          lanes;
      corrupt = corrupt;
      carries = h;
    }

abbrev built_c : {w : ℕ} (size source address : ℕ) (lanes : Option (List ℕ)) (corrupt : Bool) (opcode : OpC) (param : ℕ)
    → is_some lanes ≡ c_carries_data opcode → BeatC w
built_c size source address lanes corrupt opcode param h =
    record {
      opcode = opcode;
      param = param;
      size = size;
      source = source;
      address = address;
      lanes = lanes;
      corrupt =
          corrupt;
      carries = h;
    }

abbrev built_d : {w : ℕ} (size source sink : ℕ) (denied : Bool) (lanes : Option (List ℕ)) (corrupt : Bool)
    (opcode : OpD) (param : ℕ) → is_some lanes ≡ d_carries_data opcode → BeatD w
built_d size source sink denied lanes corrupt opcode param h =
    record {
      opcode = opcode;
      param = param;
      size = size;
      source = source;
      sink = sink;
      denied = denied;
      lanes =
          lanes;
      corrupt = corrupt;
      carries = h;
    }

reading_a-fault : (w : ℕ) (fs : List (List ℕ)) → result_err (reading_a {w = w} fs) ≡ channel_fault w (Some channel.A) fs
unfolding reading_a
reading_a-fault w (link ∷ letter ∷ opcode ∷ param ∷ size ∷ source ∷ address ∷ mask ∷ lanes ∷ corrupt ∷ []) =
    checked (is_digits 2 link) (value_of link) _ _ _ (checked (is_digits 1 opcode) (value_of opcode) _ _ _
    (checked (is_digits 1 param) (value_of param) _ _ _
    (checked (is_digits 1 size) (value_of size) _ _ _ (checked (is_digits 2 source) (value_of source) _ _ _
    (checked (is_digits 8 address) (value_of address) _ _ _
    (checked (is_digits (w / 4) mask) (value_of mask) _ _ _
    (checked (is_data w lanes) (data_of lanes) _ _ _ (checked (is_bit corrupt) (bit_of corrupt) _ _ _
    ((result_err-map (made_a {w = w} (value_of opcode) (value_of param) (value_of size) (value_of source)
    (value_of address) (value_of mask)
    (data_of lanes) (bit_of corrupt)) (λ y. linked {w = w} (value_of link) (beat.A y)))
    ∙ opcode-fault (a_with (value_of opcode)) a_carries_data 7 (value_of param) lanes
    (built_a {w = w} (value_of size) (value_of source) (value_of address) (value_of mask) (data_of lanes)
    (bit_of corrupt)))))))))))
reading_a-fault w (link ∷ letter ∷ opcode ∷ param ∷ size ∷ source ∷ address ∷ mask ∷ lanes ∷ corrupt ∷ f ∷ fs) =
    sym (unless_equal (length (link ∷ letter ∷ opcode ∷ param ∷ size ∷ source ∷ address ∷ mask ∷ lanes ∷ corrupt ∷ f
    ∷ fs)) 10 _ _ (λ e. omega arith))
reading_a-fault w fs = refl

reading_b-fault : (w : ℕ) (fs : List (List ℕ)) → result_err (reading_b {w = w} fs) ≡ channel_fault w (Some channel.B) fs
unfolding reading_b
reading_b-fault w (link ∷ letter ∷ opcode ∷ param ∷ size ∷ source ∷ address ∷ mask ∷ lanes ∷ corrupt ∷ []) =
    checked (is_digits 2 link) (value_of link) _ _ _ (checked (is_digits 1 opcode) (value_of opcode) _ _ _
    (checked (is_digits 1 param) (value_of param) _ _ _
    (checked (is_digits 1 size) (value_of size) _ _ _ (checked (is_digits 2 source) (value_of source) _ _ _
    (checked (is_digits 8 address) (value_of address) _ _ _
    (checked (is_digits (w / 4) mask) (value_of mask) _ _ _
    (checked (is_data w lanes) (data_of lanes) _ _ _ (checked (is_bit corrupt) (bit_of corrupt) _ _ _
    ((result_err-map (made_b {w = w} (value_of opcode) (value_of param) (value_of size) (value_of source)
    (value_of address) (value_of mask)
    (data_of lanes) (bit_of corrupt)) (λ y. linked {w = w} (value_of link) (beat.B y)))
    ∙ opcode-fault (b_with (value_of opcode)) b_carries_data 7 (value_of param) lanes
    (built_b {w = w} (value_of size) (value_of source) (value_of address) (value_of mask) (data_of lanes)
    (bit_of corrupt)))))))))))
reading_b-fault w (link ∷ letter ∷ opcode ∷ param ∷ size ∷ source ∷ address ∷ mask ∷ lanes ∷ corrupt ∷ f ∷ fs) =
    sym (unless_equal (length (link ∷ letter ∷ opcode ∷ param ∷ size ∷ source ∷ address ∷ mask ∷ lanes ∷ corrupt ∷ f
    ∷ fs)) 10 _ _ (λ e. omega arith))
reading_b-fault w fs = refl

reading_c-fault : (w : ℕ) (fs : List (List ℕ)) → result_err (reading_c {w = w} fs) ≡ channel_fault w (Some channel.C) fs
unfolding reading_c
reading_c-fault w (link ∷ letter ∷ opcode ∷ param ∷ size ∷ source ∷ address ∷ lanes ∷ corrupt ∷ []) =
    checked (is_digits 2 link) (value_of link) _ _ _ (checked (is_digits 1 opcode) (value_of opcode) _ _ _
    (checked (is_digits 1 param) (value_of param) _ _ _
    (checked (is_digits 1 size) (value_of size) _ _ _ (checked (is_digits 2 source) (value_of source) _ _ _
    (checked (is_digits 8 address) (value_of address) _ _ _
    (checked (is_data w lanes) (data_of lanes) _ _ _ (checked (is_bit corrupt) (bit_of corrupt) _ _ _
    ((result_err-map (made_c {w = w} (value_of opcode) (value_of param) (value_of size) (value_of source)
    (value_of address) (data_of lanes)
    (bit_of corrupt)) (λ y. linked {w = w} (value_of link) (beat.C y)))
    ∙ opcode-fault (c_with (value_of opcode)) c_carries_data 7 (value_of param) lanes
    (built_c {w = w} (value_of size) (value_of source) (value_of address) (data_of lanes) (bit_of corrupt))))))))))
reading_c-fault w (link ∷ letter ∷ opcode ∷ param ∷ size ∷ source ∷ address ∷ lanes ∷ corrupt ∷ f ∷ fs) =
    sym (unless_equal (length (link ∷ letter ∷ opcode ∷ param ∷ size ∷ source ∷ address ∷ lanes ∷ corrupt ∷ f ∷ fs)) 9 _
    _ (λ e. omega arith))
reading_c-fault w fs = refl

reading_d-fault : (w : ℕ) (fs : List (List ℕ)) → result_err (reading_d {w = w} fs) ≡ channel_fault w (Some channel.D) fs
unfolding reading_d
reading_d-fault w (link ∷ letter ∷ opcode ∷ param ∷ size ∷ source ∷ sink ∷ denied ∷ lanes ∷ corrupt ∷ []) =
    checked (is_digits 2 link) (value_of link) _ _ _ (checked (is_digits 1 opcode) (value_of opcode) _ _ _
    (checked (is_digits 1 param) (value_of param) _ _ _
    (checked (is_digits 1 size) (value_of size) _ _ _ (checked (is_digits 2 source) (value_of source) _ _ _
    (checked (is_digits 2 sink) (value_of sink) _ _ _ (checked (is_bit denied) (bit_of denied) _ _ _
    (checked (is_data w lanes) (data_of lanes) _ _ _ (checked (is_bit corrupt) (bit_of corrupt) _ _ _
    ((result_err-map (made_d {w = w} (value_of opcode) (value_of param) (value_of size) (value_of source)
    (value_of sink) (bit_of denied)
    (data_of lanes) (bit_of corrupt)) (λ y. linked {w = w} (value_of link) (beat.D y)))
    ∙ opcode-fault (d_with (value_of opcode)) d_carries_data 3 (value_of param) lanes
    (built_d {w = w} (value_of size) (value_of source) (value_of sink) (bit_of denied) (data_of lanes)
    (bit_of corrupt)))))))))))
reading_d-fault w (link ∷ letter ∷ opcode ∷ param ∷ size ∷ source ∷ sink ∷ denied ∷ lanes ∷ corrupt ∷ f ∷ fs) =
    sym (unless_equal (length (link ∷ letter ∷ opcode ∷ param ∷ size ∷ source ∷ sink ∷ denied ∷ lanes ∷ corrupt ∷ f
    ∷ fs)) 10 _ _ (λ e. omega arith))
reading_d-fault w fs = refl

reading_e-fault : (w : ℕ) (fs : List (List ℕ)) → result_err (reading_e {w = w} fs) ≡ channel_fault w (Some channel.E) fs
unfolding reading_e
reading_e-fault w (link ∷ letter ∷ sink ∷ []) =
    checked (is_digits 2 link) (value_of link) _ _ _ (checked (is_digits 2 sink) (value_of sink) _ _ _ (refl))
reading_e-fault w (link ∷ letter ∷ sink ∷ f ∷ fs) =
    sym (unless_equal (length (link ∷ letter ∷ sink ∷ f ∷ fs)) 3 _ _ (λ e. omega arith))
reading_e-fault w fs = refl

reading_on-fault : (w : ℕ) (c : Option Channel) (fs : List (List ℕ))
    → result_err (reading_on {w = w} c fs) ≡ channel_fault w c fs
reading_on-fault w None fs = refl
reading_on-fault w (Some channel.A) fs = reading_a-fault w fs
reading_on-fault w (Some channel.B) fs = reading_b-fault w fs
reading_on-fault w (Some channel.C) fs = reading_c-fault w fs
reading_on-fault w (Some channel.D) fs = reading_d-fault w fs
reading_on-fault w (Some channel.E) fs = reading_e-fault w fs

reading_fields-fault : (w : ℕ) (fs : List (List ℕ)) → result_err (reading_fields {w = w} fs) ≡ fields_fault w fs
unfolding reading_fields
reading_fields-fault w fs = go (nat_lt (length fs) 2)
  where
    go : (b : Bool) → result_err (cond b (Err F1) (reading_on {w = w} (channel_named (field fs 1)) fs)) ≡ first_if b F1
        (channel_fault w (channel_named (field fs 1)) fs)
    go true = refl
    go false = reading_on-fault w (channel_named (field fs 1)) fs

pub reading-fault : (w : ℕ) (line : List ℕ) → result_err (reading w line) ≡ line_fault w line
unfolding reading
reading-fault w line = go (nat_lt 256 (length line) || not (ends_with_byte 10 line))
  where
    go : (b : Bool) → result_err (cond b (Err F1) (reading_fields {w = w} (pieces (without_last line)))) ≡ first_if b F1
        (fields_fault w (pieces (without_last line)))
    go true = refl
    go false = reading_fields-fault w (pieces (without_last line))
