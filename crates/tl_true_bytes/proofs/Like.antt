-- The access that is gathered from the beats of a request does what the request does.
use Rattle.tl_true_bytes.proofs.Imports.{Beat, BeatA, OpA, MessageA, IsBlankAfter, a_beat_of, begun, reaches}
use Rattle.tl_true_bytes.proofs.Imports.{length-begun, AccessResult, Memory, after, bytes_from, effect, asked_by}
use Rattle.tl_true_bytes.proofs.Imports.{writes, tail_is}
use Rattle.std.proofs.Common.{◌≡◌, ℕ, zero, suc, ◌+◌, ◌-◌, ◌*◌, ◌/◌, ◌%◌, ◌^◌, ◌<◌, Bool, true, false, List, ◌∷◌}
use Rattle.std.proofs.Common.{take, drop, refl, sym, ap, ◌∙◌, arith, eqb, inl, inr}
use Rattle.std.specs.Prelude.{if◌then◌else◌, is_some, min, Option, Some, None, replicate, slice_get, slice_index}
use Rattle.std.specs.Prelude.{unwrap_or}
use Rattle.std.{proofs.Math.Nat.mod-eq_of_lt, proofs.Math.Path.fun_ext, proofs.Math.Seq.take-add}
use Rattle.std.{proofs.lemmas.Bool.cases_lt, proofs.lemmas.Nat.mod-pow-add, proofs.lemmas.Nat.Bits.bit_at_above}
use Rattle.tl_beat.specs.statement.Opcode.{a_carries_data}
use Rattle.tl_burst.specs.declared.message.Message.{Message}
use Rattle.tl_burst.specs.statement.Burst.{bit, byte_at, byte_if, place_of}
use Rattle.tl_params.specs.statement.Param.{arithmetic_of, logical_of}
use Rattle.tl_rules.specs.statement.Admission.{bytes_carried}
use Rattle.tl_rules.specs.statement.Effect.{Bytes, access_result, arithmetic_result, by_param, byte_count, byte_of}
use Rattle.tl_rules.specs.statement.Effect.{logical_result, number_from, operand_of, with_number}
use Rattle.tl_bytes.specs.statement.Bytes.{carried_mask}
use Rattle.tl_concord.proofs.Beats.{same_a}
use Rattle.tl_true_bytes.specs.code.Like.{IsLike}

-- ---- what is gathered

mask_begun : {w : ℕ} (m : MessageA w) (n : ℕ) → carried_mask (begun (Message.A m) n) ≡ m.mask % 2 ^ (w * n)
unfolding carried_mask
mask_begun {w} m zero = let e : w * 0 ≡ 0 = omega arith in rw e (omega arith)
mask_begun {w} m (suc n) =
    let next : w * suc n ≡ w + w * n = omega arith in
    rw (next, length-begun (Message.A m) n, mask_begun m n) (omega (arith, mod-pow-add m.mask w (w * n)))

bytes_begun : {w : ℕ} (m : MessageA w) (n : ℕ) → a_carries_data m.opcode ≡ true
    → bytes_carried (begun (Message.A m) n) ≡ take (w * n) m.payload
unfolding bytes_carried
bytes_begun {w} m zero carries = let e : w * 0 ≡ 0 = omega arith in rw e refl
bytes_begun {w} m (suc n) carries =
    let next : w * suc n ≡ w * n + w = omega arith in
    let wide : w * n + w - w * n ≡ w = omega arith in
    rw (next, carries, bytes_begun m n carries, wide) (sym (take-add (w * n) w m.payload))

zero_there : (j i : ℕ) → slice_index (replicate j 0) i ≡ 0
zero_there (suc j) (suc i) = zero_there j i
zero_there v u = refl

index-taken : (k j : ℕ) (xs : List ℕ) (i : ℕ) → drop k xs ≡ replicate j 0 → slice_index (take k xs) i ≡ slice_index xs i
index-taken zero j xs i e = sym (ap (λ (l : List ℕ). slice_index l i) e ∙ zero_there j i)
index-taken (suc k) j (x ∷ xs) (suc i) e = index-taken k j xs i e
index-taken (suc k) j v u e = refl

pub get-taken : (k : ℕ) (xs : List ℕ) (i : ℕ) → i < k → slice_get (take k xs) i ≡ slice_get xs i
get-taken zero xs i lt = absurd (omega (arith, lt))
get-taken (suc k) (x ∷ xs) (suc i) lt = get-taken k xs i (omega (arith, lt))
get-taken (suc k) v u lt = refl

-- ---- what it does

module _ {w : ℕ} (p m : MessageA w) (opcode_is : p.opcode ≡ m.opcode) (param_is : p.param ≡ m.param)
    (size_is : p.size ≡ m.size) (address_is : p.address ≡ m.address)
    (byte_is : (address : ℕ) → byte_at 0 (Message.A p) address ≡ byte_at 0 (Message.A m) address)
    (operand_is : a_carries_data m.opcode ≡ true → (i : ℕ) → slice_index p.payload i ≡ slice_index m.payload i) where
  put_is : (f : Memory) → after OpA.PutFullData p f ≡ after OpA.PutFullData m f
  put_is f = fun_ext (λ i. ap (λ (o : Option ℕ). unwrap_or o (f i)) (byte_is i))

  number_is : a_carries_data m.opcode ≡ true → number_from (operand_of p) p.address (byte_count p)
      ≡ number_from (operand_of m) m.address (byte_count m)
  number_is carries =
      ap (λ (k : ℕ). number_from (operand_of p) k (byte_count p)) address_is
      ∙ ap (λ (k : ℕ). number_from (operand_of p) m.address (2 ^ k)) size_is
      ∙ ap (λ (g : Memory). number_from g m.address (byte_count m)) (fun_ext (λ i.
      ap (λ (k : ℕ). slice_index p.payload (i - w * (k / w))) address_is
      ∙ operand_is carries (i - w * (m.address / w))))

  -- a number in place of some bytes
  abbrev put : Memory → ℕ → ℕ → ℕ → Memory
  put f base size n i = if reaches base size i then byte_of n (i - base) else f i

  -- what an atomic makes of a number, and where it puts it
  atomic_is : (result : ℕ → ℕ → ℕ → ℕ → ℕ) (f : Memory) → a_carries_data m.opcode ≡ true
      → with_number p (result p.param (byte_count p) (number_from f p.address (byte_count p))
      (number_from (operand_of p) p.address (byte_count p))) f
      ≡ with_number m (result m.param (byte_count m) (number_from f m.address (byte_count m))
      (number_from (operand_of m) m.address (byte_count m))) f
  atomic_is result f carries =
      ap (λ (k : ℕ). with_number p (result p.param (byte_count p) (number_from f p.address (byte_count p)) k) f)
      (number_is carries)
      ∙ ap (λ (k : ℕ). put f p.address p.size (result k (2 ^ p.size) (number_from f p.address (2 ^ p.size)) operand))
      param_is
      ∙ ap (λ (k : ℕ). put f p.address k (result m.param (2 ^ k) (number_from f p.address (2 ^ k)) operand)) size_is
      ∙ ap (λ (k : ℕ). put f k m.size (result m.param (2 ^ m.size) (number_from f k (2 ^ m.size)) operand)) address_is
    where
      operand : ℕ
      operand = number_from (operand_of m) m.address (byte_count m)

  like : IsLike p m
  unfolding effect
  like = record {
    opcode_is = opcode_is;
    size_is = size_is;
    address_is = address_is;
    effect_is = λ f. ap (λ (o : OpA). (after o p f, access_result o p f)) opcode_is ∙ same m.opcode refl f;
    writes_is = λ i. ap (λ (o : OpA). writes o p i) opcode_is ∙ written m.opcode i;
  }
    where
      found : (f : Memory) → access_result OpA.Get p f ≡ access_result OpA.Get m f
      found f = ap (λ (k : ℕ). Bytes (bytes_from f p.address (2 ^ k))) size_is
          ∙ ap (λ (k : ℕ). Bytes (bytes_from f k (2 ^ m.size))) address_is

      same : (o : OpA) → m.opcode ≡ o → (f : Memory)
          → ◌≡◌ {A = Memory × AccessResult} (after o p f, access_result o p f) (after o m f, access_result o m f)
      same OpA.PutFullData e f = ap (λ (g : Memory). (g, access_result OpA.PutFullData m f)) (put_is f)
      same OpA.PutPartialData e f = ap (λ (g : Memory). (g, access_result OpA.PutPartialData m f)) (put_is f)
      same OpA.ArithmeticData e f =
          ap (λ (g : Memory). (g, access_result OpA.ArithmeticData p f))
          (atomic_is (λ param count old new. by_param (λ o. arithmetic_result o (8 * count)) (arithmetic_of param) old
          new) f (ap a_carries_data e))
          ∙ ap (λ r. (after OpA.ArithmeticData m f, r)) (found f)
      same OpA.LogicalData e f =
          ap (λ (g : Memory). (g, access_result OpA.LogicalData p f))
          (atomic_is (λ param count old new. by_param logical_result (logical_of param) old new) f
          (ap a_carries_data e))
          ∙ ap (λ r. (after OpA.LogicalData m f, r)) (found f)
      same OpA.Get e f = ap (λ r. (f, r)) (found f)
      same v e f = refl

      reached : (i : ℕ) → reaches p.address p.size i ≡ reaches m.address m.size i
      reached i = ap (λ (k : ℕ). reaches p.address k i) size_is ∙ ap (λ (k : ℕ). reaches k m.size i) address_is

      written : (o : OpA) (i : ℕ) → writes o p i ≡ writes o m i
      written OpA.PutFullData i = ap (λ (b : Option ℕ). is_some b) (byte_is i)
      written OpA.PutPartialData i = ap (λ (b : Option ℕ). is_some b) (byte_is i)
      written OpA.ArithmeticData i = reached i
      written OpA.LogicalData i = reached i
      written v i = refl

-- ---- the access that is gathered

-- the beats of a request have its opcode
pub asked-opcode : {w : ℕ} (x : BeatA w) (older : List (Beat w)) (m : MessageA w) (n : ℕ)
    → Beat.A x ∷ older ≡ begun (Message.A m) n → x.opcode ≡ m.opcode
asked-opcode x older m zero e = absurd cc
asked-opcode {w} x older m (suc k) e = ap (λ (z : BeatA w). z.opcode)
    (same_a x (a_beat_of m k) (tail_is (Beat.A x) (Beat.A (a_beat_of m k)) older (begun (Message.A m) k) e).0)

-- where all beats of the request have come, it is such an access
pub like-asked : {w : ℕ} (link : ℕ) (x : BeatA w) (older : List (Beat w)) (moment : ℕ) (m : MessageA w) (n : ℕ)
    → IsBlankAfter n (Message.A m) → Beat.A x ∷ older ≡ begun (Message.A m) n
    → IsLike (asked_by link x (Beat.A x ∷ older) moment).request m
like-asked link x older moment m zero blank e = absurd cc
like-asked {w} link x older moment m (suc k) blank e =
    like p m opcode_is (ap (λ (z : BeatA w). z.param) x_is) size_is address_is byte_is operand_is
  where
    beats : List (Beat w)
    beats = Beat.A x ∷ older

    p : MessageA w
    p = (asked_by link x beats moment).request

    given : OpA → ℕ → List ℕ → ℕ → ℕ → Option ℕ
    given o mask payload base address =
        if a_carries_data o then byte_if (λ i. bit mask i) payload (place_of w base address) else None

    x_is : x ≡ a_beat_of m k
    x_is = same_a x (a_beat_of m k) (tail_is (Beat.A x) (Beat.A (a_beat_of m k)) older (begun (Message.A m) k) e).0

    opcode_is : x.opcode ≡ m.opcode
    opcode_is = asked-opcode x older m (suc k) e

    address_is : x.address ≡ m.address
    address_is = ap (λ (z : BeatA w). z.address) x_is

    size_is : min x.size 6 ≡ m.size
    size_is = ap (λ (z : BeatA w). min z.size 6) x_is ∙ omega (arith, m.small)

    mask_is : carried_mask beats ≡ m.mask
    mask_is = ap carried_mask e ∙ mask_begun m (suc k) ∙ mod-eq_of_lt blank.1

    payload_is : a_carries_data m.opcode ≡ true → bytes_carried beats ≡ take (w * suc k) m.payload
    payload_is carries = ap bytes_carried e ∙ bytes_begun m (suc k) carries

    operand_is : a_carries_data m.opcode ≡ true → (i : ℕ)
        → slice_index (bytes_carried beats) i ≡ slice_index m.payload i
    operand_is carries i = ap (λ (l : List ℕ). slice_index l i) (payload_is carries)
        ∙ index-taken (w * suc k) (64 - w * suc k) m.payload i (rw carries at blank.0)

    byte_is : (address : ℕ) → byte_at 0 (Message.A p) address ≡ byte_at 0 (Message.A m) address
    byte_is address =
        ap (λ (o : OpA). given o (carried_mask beats) (bytes_carried beats) x.address address) opcode_is
        ∙ ap (λ (k : ℕ). given m.opcode k (bytes_carried beats) x.address address) mask_is
        ∙ ap (λ (k : ℕ). given m.opcode m.mask (bytes_carried beats) k address) address_is
        ∙ go (a_carries_data m.opcode) refl
      where
        inside : (q : ℕ) (b : Bool) → bit m.mask q ≡ b → (if b then slice_get (take (w * suc k) m.payload) q else None)
            ≡ (if b then slice_get m.payload q else None)
        inside q false set = refl
        inside q true set = elim (cases_lt q (w * suc k)) [
          | inl lt ↦ get-taken (w * suc k) m.payload q lt
          | inr past ↦ absurd (let none : bit m.mask q ≡ false =
              ap (λ i. eqb i 1) (bit_at_above m.mask (w * suc k) q blank.1 past) in
              let no : true ≡ false = sym set ∙ none in cc)
        ]

        placed : (o : Option ℕ) → byte_if (λ i. bit m.mask i) (take (w * suc k) m.payload) o
            ≡ byte_if (λ i. bit m.mask i) m.payload o
        placed None = refl
        placed (Some q) = inside q (bit m.mask q) refl

        go : (b : Bool) → a_carries_data m.opcode ≡ b
            → (if b then byte_if (λ i. bit m.mask i) (bytes_carried beats) (place_of w m.address address) else None)
            ≡ (if b then byte_if (λ i. bit m.mask i) m.payload (place_of w m.address address) else None)
        go false none = refl
        go true carries =
            ap (λ (l : List ℕ). byte_if (λ i. bit m.mask i) l (place_of w m.address address)) (payload_is carries)
            ∙ placed (place_of w m.address address)
