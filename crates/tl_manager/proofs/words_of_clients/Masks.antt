-- The mask of a request reaches no further than its beats.
use Rattle.tl_manager.proofs.Imports.{IsWidth, Beat, BeatA, Channel, OpA, History, on, unfinished, burst_length, Level}
use Rattle.tl_manager.proofs.Imports.{L1, L2, L3, L4, a_control, a_own, illegal, is_one_of, is_aligned, a_of_level}
use Rattle.tl_manager.proofs.Imports.{a_has_param, a_has_size, next_rule, both_none, illegal_a, Each, masks_carried}
use Rattle.std.proofs.Common.{◌≡◌, ℕ, suc, ◌+◌, ◌*◌, ◌^◌, ◌<◌, ◌≤◌, ◌==◌, Bool, true, false, not, ◌||◌, List, [], ◌∷◌}
use Rattle.std.proofs.Common.{length, None, refl, sym, ◌∙◌, arith, inl, inr}
use Rattle.std.specs.Prelude.{if◌then◌else◌}
use Rattle.std.proofs.lemmas.Bool.{cases_eq, or_cases, eqb-true, not-false}
use Rattle.std.proofs.lemmas.Nat.{mul-add-lt, pow-add, shl_whole}
use Rattle.tl_burst.{specs.statement.Burst.mask_at, proofs.Bits.mask_here, proofs.Bits.mask_earlier}
use Rattle.tl_beat.specs.declared.beat.Beat.TheVariants.{A}
use Rattle.tl_params.specs.declared.rule.Rule.TheVariants.{L5}
use Rattle.tl_rules.{specs.statement.Legality.a_has_mask, proofs.Takeable.full_mask-narrow}
use Rattle.tl_rules.{proofs.Takeable.part_mask-narrow, proofs.Sizes.access-small}
use Rattle.tl_manager.specs.statement.Request.{mask_of}

-- ---- the sizes that the rules let through

pub atomic_small : (size : ℕ) → is_one_of size (2 ∷ 3 ∷ []) ≡ true → size ≤ 6
atomic_small size e = elim (or_cases (size == 2) ((size == 3) || false) e) [
  | inl two ↦ let h = eqb-true size 2 two in omega (arith, h)
  | inr more ↦ elim (or_cases (size == 3) false more) [
    | inl three ↦ let h = eqb-true size 3 three in omega (arith, h)
    | inr none ↦ absurd cc
  ]
]

pub request_small : (w size : ℕ) (l : Level) (opcode : OpA) → IsWidth w → a_has_size w l opcode size ≡ true → size ≤ 6
request_small w size l OpA.ArithmeticData width e = atomic_small size e
request_small w size l OpA.LogicalData width e = atomic_small size e
request_small w size l OpA.AcquireBlock width e = let h = eqb-true size 6 e in omega (arith, h)
request_small w size l OpA.AcquirePerm width e = let h = eqb-true size 6 e in omega (arith, h)
request_small w size l v width e = access-small w size l width e

-- ---- masks

mask_narrow : (w size address mask : ℕ) (opcode : OpA) → IsWidth w → size ≤ 6 → mask < 2 ^ 16
    → is_aligned address size ≡ true → a_has_mask w opcode size address mask ≡ true → mask < 2 ^ w
mask_narrow w size address mask OpA.PutPartialData width small typed aligned e =
    part_mask-narrow w size address mask width small typed aligned e
mask_narrow w size address mask v width small typed aligned e =
    full_mask-narrow w size address mask width small typed aligned e

-- a request's beat that breaks no L rule
pub legal-narrow : {w : ℕ} (l : Level) (x : BeatA w) → IsWidth w → x.mask < 2 ^ 16 → illegal l Channel.A (A x) ≡ None
    → x.mask < 2 ^ w
legal-narrow {w} l x width typed e =
    let p = both_none (a_control w l x.opcode x.param x.size x.address)
    (a_own w x.opcode x.size x.address x.mask x.corrupt) (sym (illegal_a l x) ∙ e) in
    let one = next_rule (not (a_of_level l x.opcode)) L1 _ p.0 in
    let two = next_rule (not (a_has_param x.opcode x.param)) L2 _ one.1 in
    let three = next_rule (not (a_has_size w l x.opcode x.size)) L3 _ two.1 in
    let four = next_rule (not (is_aligned x.address x.size)) L4 None three.1 in
    let five = next_rule (not (a_has_mask w x.opcode x.size x.address x.mask)) L5 _ p.1 in
    mask_narrow w x.size x.address x.mask x.opcode width (request_small w x.size l x.opcode width (not-false _ three.0))
    typed (not-false _ four.0) (not-false _ five.0)

pub legal-small : {w : ℕ} (l : Level) (x : BeatA w) → IsWidth w → illegal l Channel.A (A x) ≡ None → x.size ≤ 6
legal-small {w} l x width e =
    let p = both_none (a_control w l x.opcode x.param x.size x.address)
    (a_own w x.opcode x.size x.address x.mask x.corrupt) (sym (illegal_a l x) ∙ e) in
    let one = next_rule (not (a_of_level l x.opcode)) L1 _ p.0 in
    let two = next_rule (not (a_has_param x.opcode x.param)) L2 _ one.1 in
    let three = next_rule (not (a_has_size w l x.opcode x.size)) L3 _ two.1 in
    request_small w x.size l x.opcode width (not-false _ three.0)

more_masks : (w m b n : ℕ) → m < 2 ^ (w * n) → b < 2 ^ w → m + b * 2 ^ (w * n) < 2 ^ (w * suc n)
more_masks w m b n low small =
    let turned : m + b * 2 ^ (w * n) ≡ b * 2 ^ (w * n) + m = omega arith in
    let place : w * suc n ≡ w * n + w = omega arith in
    rw (turned, place, pow-add 2 (w * n) w) (mul-add-lt b (2 ^ (w * n)) m (2 ^ w) small low)

pub masks-below : {w : ℕ} (beats : List (Beat w)) → Each (λ x. mask_of x < 2 ^ w) beats
    → masks_carried beats < 2 ^ (w * length beats)
unfolding masks_carried
masks-below {w} [] each = let place : w * 0 ≡ 0 = omega arith in rw place (omega arith)
masks-below {w} (x ∷ beats) each = more_masks w (masks_carried beats) (mask_of x) (length beats)
    (masks-below beats each.1) each.0

-- what holds of each beat of a link holds of those of its unfinished bursts
pub each_unfinished : {w : ℕ} (P : Beat w → Type 0) (ch : Channel) (t : History w) → Each P t → Each P (unfinished ch t)
unfolding unfinished
each_unfinished P ch [] each = tt
each_unfinished {w} P ch (x ∷ t) each = go (on ch x) (length (unfinished ch t) + 1 == burst_length x)
    (each_unfinished P ch t each.1)
  where
    go : (here last : Bool) → Each P (unfinished ch t)
        → Each P (if here then (if last then [] else x ∷ unfinished ch t) else unfinished ch t)
    go true true rest = tt
    go true false rest = (each.0, rest)
    go false last rest = rest

-- ---- the mask of each beat

pub each_mask : {w : ℕ} (P : ℕ → Type 0) (beats : List (Beat w)) (i : ℕ) → Each (λ x. mask_of x < 2 ^ w) beats
    → w * length beats ≤ 64 → Each (λ x. P (mask_of x)) beats → i < length beats
    → P (mask_at w (masks_carried beats) i)
unfolding masks_carried
each_mask P [] i small room each lt = absurd (omega arith)
each_mask {w} P (x ∷ beats) i small room each lt =
    let place : w * suc (length beats) ≡ w * length beats + w = omega arith in
    let below = masks-below beats small.1 in
    let le : w * length beats + w ≤ 64 = omega arith in
    let whole = shl_whole (mask_of x) w (w * length beats) 64 small.0 (omega arith) in
    elim (cases_eq i (length beats)) [
      | inl last ↦
          let here = mask_here w (length beats) (masks_carried beats) (mask_of x) (mask_of x) refl below small.0 le in
          let mine : mask_at w (masks_carried beats + mask_of x * 2 ^ (w * length beats)) (length beats) ≡ mask_of x =
          rw whole at here in
          rw (last, mine) each.0
      | inr other ↦
          let before : i < length beats = omega arith in
          let earlier = mask_earlier w (length beats) (masks_carried beats) (mask_of x) (mask_of x) i refl small.0 le
          before in
          let theirs : mask_at w (masks_carried beats + mask_of x * 2 ^ (w * length beats)) i ≡ mask_at w
          (masks_carried beats) i = rw whole at earlier in
          rw theirs (each_mask P beats i small.1 (omega arith) each.1 before)
    ]
