-- What the fields of a line are read as, they spell.
use Rattle.std.proofs.Common.{◌≡◌, ℕ, ◌≤◌, Bool, true, false, cond, List, [], ◌∷◌}
use Rattle.std.proofs.Common.{refl, sym, ap, ◌∙◌, arith}
use Rattle.std.proofs.lemmas.Bool.{eqb-true, ltb-false}
use Rattle.std.specs.Prelude.{Result, Ok, Err, Option, Some, None, is_some, ◌==◌, nat_lt, ok_or}
use Rattle.tl_beat.specs.declared.beat.BeatA.{BeatA}
use Rattle.tl_beat.specs.declared.beat.BeatB.{BeatB}
use Rattle.tl_beat.specs.declared.beat.BeatC.{BeatC}
use Rattle.tl_beat.specs.declared.beat.BeatD.{BeatD}
use Rattle.tl_beat.specs.declared.channel.Channel.{Channel}
use Rattle.tl_beat.specs.declared.channel.Channel.TheVariants as channel
use Rattle.tl_beat.specs.declared.fault.LineFault.{LineFault}
use Rattle.tl_beat.specs.declared.fault.LineFault.TheVariants.{F4, F5}
use Rattle.tl_beat.specs.statement.Opcode.{a_code, b_code, c_code, d_code, a_with, b_with, c_with, d_with}
use Rattle.tl_beat.specs.statement.Opcode.{a_carries_data, b_carries_data, c_carries_data, d_carries_data}
use Rattle.tl_beat.specs.statement.Line.{letter}
use Rattle.tl_beat.specs.statement.Line.{channel_named}
use Rattle.tl_beat.specs.code.Reading.{◌>>=◌, at_most, agreement, made_a, made_b, made_c}
use Rattle.tl_beat.specs.code.Reading.{made_d}
use Rattle.tl_beat.specs.statement.Names.{letter_of}
use Rattle.tl_beat.proofs.OpcodeCodes.{a_code-with, b_code-with, c_code-with, d_code-with}

abbrev pub ok_of : {A : Type 0} → A → Result A LineFault
ok_of x = Ok x

pub ok_is : {A : Type 0} {x y : A} → ok_of x ≡ ok_of y → x ≡ y
ok_is e = cc

-- a step that was read, and what was read after it
pub ok_step : {A B : Type 0} (m : Result A LineFault) (more : A → Result B LineFault) (r : B) (P : Type 0)
    → (m >>= more) ≡ Ok r → ((v : A) → m ≡ Ok v → more v ≡ Ok r → P) → P
ok_step (Ok v) more r P e then = then v refl e
ok_step (Err f) more r P e then = absurd cc

abbrev some_channel : Channel → Option Channel
some_channel c = Some c

pub ok_or-ok : {A : Type 0} (o : Option A) (x : A) → ok_or o F4 ≡ Ok x → o ≡ Some x
ok_or-ok None x e = absurd cc
ok_or-ok (Some y) x e = let same : y ≡ x = cc in rw same refl

-- a param within bounds
pub record IsAtMost (greatest given param : ℕ) : Type 0 where
  pub same : param ≡ given
  pub small : param ≤ greatest

pub at_most-is : (greatest given param : ℕ) → at_most greatest given ≡ Ok param → IsAtMost greatest given param
at_most-is greatest given param e = go (nat_lt greatest given) refl e
  where
    go : (b : Bool) → nat_lt greatest given ≡ b → cond b (Err F5) (Ok given) ≡ ok_of param
        → IsAtMost greatest given param
    go true h f = absurd cc
    go false h f =
        let same : given ≡ param = cc in
        let le : given ≤ greatest = ltb-false greatest given h in
        record { same = sym same; small = omega arith }

pub record IsMadeA {w : ℕ} (y : BeatA w) (code given : ℕ) (size_given source_given address_given mask_given : ℕ)
    (lanes_given : Option (List ℕ)) (corrupt_given : Bool) : Type 0 where
  pub opcode : a_code y.opcode ≡ code
  pub param : IsAtMost 7 given y.param
  pub size : y.size ≡ size_given
  pub source : y.source ≡ source_given
  pub address : y.address ≡ address_given
  pub mask : y.mask ≡ mask_given
  pub lanes : y.lanes ≡ lanes_given
  pub corrupt : y.corrupt ≡ corrupt_given

pub made_a-is : {w : ℕ} (y : BeatA w) (code given : ℕ) (size source address mask : ℕ) (lanes : Option (List ℕ))
    (corrupt : Bool)
    → made_a {w = w} code given size source address mask lanes corrupt ≡ Ok y
    → IsMadeA y code given size source address mask lanes corrupt
made_a-is {w} y code given size source address mask lanes corrupt e =
    ok_step (ok_or (a_with code) F4) _ y _ e (λ o is_o e1.
    ok_step (at_most 7 given) _ y _ e1 (λ p is_p e2.
    ok_step (agreement (is_some lanes) (a_carries_data o)) _ y _ e2 (λ h is_h e3.
    let made : BeatA w = record {
      opcode = o;
      param = p;
      size = size;
      source = source;
      address = address;
      mask =
          mask;
      lanes = lanes;
      corrupt = corrupt;
      carries = h;
    } in
    let same : y ≡ made = sym (ok_is e3) in
    let bound = at_most-is 7 given p is_p in
    let param_is : y.param ≡ p = ap (λ (z : BeatA w). z.param) same in
    record {
      opcode = ap (λ (z : BeatA w). a_code z.opcode) same ∙ a_code-with code o (ok_or-ok (a_with code) o is_o);
      param = record { same = param_is ∙ bound.same; small = rw param_is bound.small };
      size = ap (λ (z : BeatA w). z.size) same;
      source = ap (λ (z : BeatA w). z.source) same;
      address = ap (λ (z : BeatA w). z.address) same;
      mask = ap (λ (z : BeatA w). z.mask) same;
      lanes = ap (λ (z : BeatA w). z.lanes) same;
      corrupt = ap (λ (z : BeatA w). z.corrupt) same;
    })))

pub record IsMadeB {w : ℕ} (y : BeatB w) (code given : ℕ) (size_given source_given address_given mask_given : ℕ)
    (lanes_given : Option (List ℕ)) (corrupt_given : Bool) : Type 0 where
  pub opcode : b_code y.opcode ≡ code
  pub param : IsAtMost 7 given y.param
  pub size : y.size ≡ size_given
  pub source : y.source ≡ source_given
  pub address : y.address ≡ address_given
  pub mask : y.mask ≡ mask_given
  pub lanes : y.lanes ≡ lanes_given
  pub corrupt : y.corrupt ≡ corrupt_given

pub made_b-is : {w : ℕ} (y : BeatB w) (code given : ℕ) (size source address mask : ℕ) (lanes : Option (List ℕ))
    (corrupt : Bool)
    → made_b {w = w} code given size source address mask lanes corrupt ≡ Ok y
    → IsMadeB y code given size source address mask lanes corrupt
made_b-is {w} y code given size source address mask lanes corrupt e =
    ok_step (ok_or (b_with code) F4) _ y _ e (λ o is_o e1.
    ok_step (at_most 7 given) _ y _ e1 (λ p is_p e2.
    ok_step (agreement (is_some lanes) (b_carries_data o)) _ y _ e2 (λ h is_h e3.
    let made : BeatB w = record {
      opcode = o;
      param = p;
      size = size;
      source = source;
      address = address;
      mask =
          mask;
      lanes = lanes;
      corrupt = corrupt;
      carries = h;
    } in
    let same : y ≡ made = sym (ok_is e3) in
    let bound = at_most-is 7 given p is_p in
    let param_is : y.param ≡ p = ap (λ (z : BeatB w). z.param) same in
    record {
      opcode = ap (λ (z : BeatB w). b_code z.opcode) same ∙ b_code-with code o (ok_or-ok (b_with code) o is_o);
      param = record { same = param_is ∙ bound.same; small = rw param_is bound.small };
      size = ap (λ (z : BeatB w). z.size) same;
      source = ap (λ (z : BeatB w). z.source) same;
      address = ap (λ (z : BeatB w). z.address) same;
      mask = ap (λ (z : BeatB w). z.mask) same;
      lanes = ap (λ (z : BeatB w). z.lanes) same;
      corrupt = ap (λ (z : BeatB w). z.corrupt) same;
    })))

pub record IsMadeC {w : ℕ} (y : BeatC w) (code given : ℕ) (size_given source_given address_given : ℕ)
    (lanes_given : Option (List ℕ)) (corrupt_given : Bool) : Type 0 where
  pub opcode : c_code y.opcode ≡ code
  pub param : IsAtMost 7 given y.param
  pub size : y.size ≡ size_given
  pub source : y.source ≡ source_given
  pub address : y.address ≡ address_given
  pub lanes : y.lanes ≡ lanes_given
  pub corrupt : y.corrupt ≡ corrupt_given

pub made_c-is : {w : ℕ} (y : BeatC w) (code given : ℕ) (size source address : ℕ) (lanes : Option (List ℕ))
    (corrupt : Bool)
    → made_c {w = w} code given size source address lanes corrupt ≡ Ok y
    → IsMadeC y code given size source address lanes corrupt
made_c-is {w} y code given size source address lanes corrupt e =
    ok_step (ok_or (c_with code) F4) _ y _ e (λ o is_o e1.
    ok_step (at_most 7 given) _ y _ e1 (λ p is_p e2.
    ok_step (agreement (is_some lanes) (c_carries_data o)) _ y _ e2 (λ h is_h e3.
    let made : BeatC w = record {
      opcode = o;
      param = p;
      size = size;
      source = source;
      address = address;
      lanes =
          lanes;
      corrupt = corrupt;
      carries = h;
    } in
    let same : y ≡ made = sym (ok_is e3) in
    let bound = at_most-is 7 given p is_p in
    let param_is : y.param ≡ p = ap (λ (z : BeatC w). z.param) same in
    record {
      opcode = ap (λ (z : BeatC w). c_code z.opcode) same ∙ c_code-with code o (ok_or-ok (c_with code) o is_o);
      param = record { same = param_is ∙ bound.same; small = rw param_is bound.small };
      size = ap (λ (z : BeatC w). z.size) same;
      source = ap (λ (z : BeatC w). z.source) same;
      address = ap (λ (z : BeatC w). z.address) same;
      lanes = ap (λ (z : BeatC w). z.lanes) same;
      corrupt = ap (λ (z : BeatC w). z.corrupt) same;
    })))

pub record IsMadeD {w : ℕ} (y : BeatD w) (code given : ℕ) (size_given source_given sink_given : ℕ) (denied_given : Bool)
    (lanes_given : Option (List ℕ)) (corrupt_given : Bool) : Type 0 where
  pub opcode : d_code y.opcode ≡ code
  pub param : IsAtMost 3 given y.param
  pub size : y.size ≡ size_given
  pub source : y.source ≡ source_given
  pub sink : y.sink ≡ sink_given
  pub denied : y.denied ≡ denied_given
  pub lanes : y.lanes ≡ lanes_given
  pub corrupt : y.corrupt ≡ corrupt_given

pub made_d-is : {w : ℕ} (y : BeatD w) (code given : ℕ) (size source sink : ℕ) (denied : Bool) (lanes : Option (List ℕ))
    (corrupt : Bool)
    → made_d {w = w} code given size source sink denied lanes corrupt ≡ Ok y
    → IsMadeD y code given size source sink denied lanes corrupt
made_d-is {w} y code given size source sink denied lanes corrupt e =
    ok_step (ok_or (d_with code) F4) _ y _ e (λ o is_o e1.
    ok_step (at_most 3 given) _ y _ e1 (λ p is_p e2.
    ok_step (agreement (is_some lanes) (d_carries_data o)) _ y _ e2 (λ h is_h e3.
    let made : BeatD w = record {
      opcode = o;
      param = p;
      size = size;
      source = source;
      sink = sink;
      denied =
          denied;
      lanes = lanes;
      corrupt = corrupt;
      carries = h;
    } in
    let same : y ≡ made = sym (ok_is e3) in
    let bound = at_most-is 3 given p is_p in
    let param_is : y.param ≡ p = ap (λ (z : BeatD w). z.param) same in
    record {
      opcode = ap (λ (z : BeatD w). d_code z.opcode) same ∙ d_code-with code o (ok_or-ok (d_with code) o is_o);
      param = record { same = param_is ∙ bound.same; small = rw param_is bound.small };
      size = ap (λ (z : BeatD w). z.size) same;
      source = ap (λ (z : BeatD w). z.source) same;
      sink = ap (λ (z : BeatD w). z.sink) same;
      denied = ap (λ (z : BeatD w). z.denied) same;
      lanes = ap (λ (z : BeatD w). z.lanes) same;
      corrupt = ap (λ (z : BeatD w). z.corrupt) same;
    })))

pub letter-named : (p : List ℕ) (c : Channel) → channel_named p ≡ Some c → p ≡ letter c
letter-named [] c e = absurd cc
letter-named (x ∷ []) c e = go (x == 65) refl (x == 66) refl (x == 67) refl (x == 68) refl (x == 69) refl e
  where
    named : {o : Channel} → x ≡ letter_of o → some_channel o ≡ some_channel c → x ∷ [] ≡ letter c
    named {o} h f = let same : o ≡ c = cc in rw (h, same) refl

    go : (p : Bool) → (x == 65) ≡ p → (q : Bool) → (x == 66) ≡ q → (r : Bool) → (x == 67) ≡ r → (s : Bool)
        → (x == 68) ≡ s → (t : Bool) → (x == 69) ≡ t
        → cond p (some_channel channel.A)
        (cond q (some_channel channel.B)
        (cond r (some_channel channel.C) (cond s (some_channel channel.D) (cond t (some_channel channel.E) None))))
        ≡ some_channel c
        → x ∷ [] ≡ letter c
    go true h q _ r _ s _ t _ f = named {o = channel.A} (eqb-true x 65 h) f
    go false _ true h r _ s _ t _ f = named {o = channel.B} (eqb-true x 66 h) f
    go false _ false _ true h s _ t _ f = named {o = channel.C} (eqb-true x 67 h) f
    go false _ false _ false _ true h t _ f = named {o = channel.D} (eqb-true x 68 h) f
    go false _ false _ false _ false _ true h f = named {o = channel.E} (eqb-true x 69 h) f
    go false _ false _ false _ false _ false _ f = absurd cc
letter-named (x ∷ y ∷ ys) c e = absurd cc
