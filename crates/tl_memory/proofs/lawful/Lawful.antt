-- What is known of a beat that breaks no rule after those before it on its link.
use Rattle.tl_memory.proofs.Imports.{Beat, BeatA, OpA, first_if, IsWidth, History, breaks_burst, channel_of, unfinished}
use Rattle.tl_memory.proofs.Imports.{is_empty, is_small, Level, L1, L2, L3, all_liberties, broken_after_under, is_legal_under, begins}
use Rattle.tl_memory.proofs.Imports.{a_has_param, a_has_size, a_of_level}
use Rattle.std.proofs.Common.{◌≡◌, ℕ, Bool, true, false, ◌||◌, ◌^◌, ◌<◌, ◌≤◌, List, [], ◌∷◌, Option, Some, None, refl}
use Rattle.std.proofs.Common.{sym, ◌∙◌, arith}
use Rattle.std.specs.Prelude.{if◌then◌else◌, not, is_none, ◌==◌}
use Rattle.std.proofs.lemmas.Bool.{and_parts, eqb-true, le-leb, not-false}
use Rattle.tl_beat.specs.declared.channel.Channel.{Channel}
use Rattle.tl_params.specs.declared.rule.Rule.{Rule}
use Rattle.tl_params.specs.declared.rule.Rule.TheVariants.{L4, L5, L7, S1}
use Rattle.tl_rules.{specs.code.Control.a_control, specs.code.Control.a_own, proofs.Bursts.both_none}
use Rattle.tl_rules.{proofs.Bursts.next_rule, proofs.Sizes.access-small, proofs.Sizes.response_small}
use Rattle.tl_rules.{proofs.Takeable.full_mask-narrow, proofs.Takeable.part_mask-narrow, proofs.Verdicts.illegal_a}
use Rattle.tl_rules.specs.statement.Liberties.{breaks_l2_under, broken_given_under, broken_in_order_under}
use Rattle.tl_rules.specs.statement.Liberties.{broken_order_under, illegal_under}
use Rattle.tl_rules.specs.statement.Legality.{a_has_mask, breaks_l1, breaks_l3, breaks_l7, d_has_size, illegal}
use Rattle.tl_rules.specs.statement.Legality.{is_aligned, is_one_of}

-- ---- the beat and what came before it

none_is : {X : Type 0} (o : Option X) → is_none o ≡ true → o ≡ None
none_is None e = refl
none_is (Some x) e = absurd cc

pub legal-parts : {w : ℕ} (l : Level) (x : Beat w) (t : History w) → is_legal_under all_liberties l (x ∷ t) ≡ true
    → (broken_after_under all_liberties l x t ≡ None) × (is_legal_under all_liberties l t ≡ true)
unfolding is_legal_under
legal-parts l x t e =
    let both = and_parts (is_none (broken_after_under all_liberties l x t)) (is_legal_under all_liberties l t) e in
    (none_is (broken_after_under all_liberties l x t) both.0, both.1)

both_given : {w : ℕ} (o : Option Rule) (x : Beat w) (t : History w) → broken_given_under all_liberties o x t ≡ None
    → (o ≡ None) × (broken_in_order_under all_liberties x t ≡ None)
both_given None x t e = (refl, e)
both_given (Some r) x t e = absurd cc

pub by_itself : {w : ℕ} (l : Level) (x : Beat w) (t : History w) → broken_after_under all_liberties l x t ≡ None
    → illegal_under all_liberties l (channel_of x) x ≡ None
unfolding broken_after_under
by_itself l x t e = (both_given (illegal_under all_liberties l (channel_of x) x) x t e).0

in_order : {w : ℕ} (l : Level) (x : Beat w) (t : History w) → broken_after_under all_liberties l x t ≡ None
    → broken_in_order_under all_liberties x t ≡ None
unfolding broken_after_under
in_order l x t e = (both_given (illegal_under all_liberties l (channel_of x) x) x t e).1

-- it goes on as the burst that is unfinished
pub goes_on : {w : ℕ} (l : Level) (x : Beat w) (t : History w) → broken_after_under all_liberties l x t ≡ None
    → breaks_burst x (unfinished (channel_of x) t) ≡ false
goes_on {w} l x t e = go (unfinished (channel_of x) t) (in_order l x t e)
  where
    go : (burst : List (Beat w))
        → (if is_empty burst then broken_order_under all_liberties x t else first_if (breaks_burst x burst) S1 None) ≡ None
        → breaks_burst x burst ≡ false
    go [] e = refl
    go (y ∷ burst) e = (next_rule (breaks_burst x (y ∷ burst)) S1 None e).0

-- where it is the first, it breaks no rule of the order
pub begun_in_order : {w : ℕ} (l : Level) (x : Beat w) (t : History w) → broken_after_under all_liberties l x t ≡ None
    → begins x t ≡ true → broken_order_under all_liberties x t ≡ None
begun_in_order {w} l x t e first = go (broken_order_under all_liberties x t) _ (begins x t) first (in_order l x t e)
  where
    go : (o rest : Option Rule) (b : Bool) → b ≡ true → (if b then o else rest) ≡ None → o ≡ None
    go o rest true e h = h
    go o rest false e h = absurd cc

-- ---- its size and its mask

atomic_small : (size : ℕ) → is_one_of size (2 ∷ 3 ∷ []) ≡ true → size ≤ 6
atomic_small size e = go (size == 2) (size == 3) refl refl e
  where
    go : (two three : Bool) → (size == 2) ≡ two → (size == 3) ≡ three → (two || (three || false)) ≡ true → size ≤ 6
    go true three f g e = let h = eqb-true size 2 f in omega (arith, h)
    go false true f g e = let h = eqb-true size 3 g in omega (arith, h)
    go false false f g e = absurd cc

request_small : (w size : ℕ) (l : Level) (opcode : OpA) → IsWidth w → a_has_size w l opcode size ≡ true → size ≤ 6
request_small w size l OpA.ArithmeticData is e = atomic_small size e
request_small w size l OpA.LogicalData is e = atomic_small size e
request_small w size l OpA.AcquireBlock is e = let h = eqb-true size 6 e in omega (arith, h)
request_small w size l OpA.AcquirePerm is e = let h = eqb-true size 6 e in omega (arith, h)
request_small w size l v is e = access-small w size l is e

-- what a request is that breaks no rule by itself
pub record IsRequest (w : ℕ) (l : Level) (opcode : OpA) (param size address mask : ℕ) : Type 0 where
  pub of_level : a_of_level l opcode ≡ true
  pub has_param : a_has_param opcode param ≡ true
  pub has_size : a_has_size w l opcode size ≡ true
  pub aligned : is_aligned address size ≡ true
  pub has_mask : a_has_mask w opcode size address mask ≡ true
  pub small : size ≤ 6

-- no liberty changes the rules of a request by itself
request_alone : {w : ℕ} (l : Level) (x : BeatA w)
    → illegal_under all_liberties l Channel.A (Beat.A x) ≡ illegal l Channel.A (Beat.A x)
unfolding illegal illegal_under
request_alone l x = refl

pub is-request : {w : ℕ} (l : Level) (x : BeatA w) → IsWidth w
    → illegal_under all_liberties l Channel.A (Beat.A x) ≡ None
    → IsRequest w l x.opcode x.param x.size x.address x.mask
is-request {w} l x is e =
    let parts = both_none (a_control w l x.opcode x.param x.size x.address)
    (a_own w x.opcode x.size x.address x.mask x.corrupt) (sym (illegal_a l x) ∙ sym (request_alone l x) ∙ e) in
    let one = next_rule (not (a_of_level l x.opcode)) L1 _ parts.0 in
    let two = next_rule (not (a_has_param x.opcode x.param)) L2 _ one.1 in
    let three = next_rule (not (a_has_size w l x.opcode x.size)) L3 _ two.1 in
    let four = next_rule (not (is_aligned x.address x.size)) L4 None three.1 in
    let five = next_rule (not (a_has_mask w x.opcode x.size x.address x.mask)) L5 _ parts.1 in
    let sized = not-false (a_has_size w l x.opcode x.size) three.0 in
    record {
      of_level = not-false (a_of_level l x.opcode) one.0;
      has_param = not-false (a_has_param x.opcode x.param) two.0;
      has_size = sized;
      aligned = not-false (is_aligned x.address x.size) four.0;
      has_mask = not-false (a_has_mask w x.opcode x.size x.address x.mask) five.0;
      small = request_small w x.size l x.opcode is sized;
    }

of_size : {w : ℕ} (l : Level) (x : Beat w) → illegal_under all_liberties l (channel_of x) x ≡ None
    → breaks_l3 l x ≡ false
unfolding illegal_under
of_size l x e =
    let one = next_rule (breaks_l1 l (channel_of x) x) L1 _ e in
    let seven = next_rule (breaks_l7 x) L7 _ one.1 in
    let two = next_rule (breaks_l2_under all_liberties x) L2 _ seven.1 in
    (next_rule (breaks_l3 l x) L3 _ two.1).0

block_small : (size : ℕ) → not (size == 6) ≡ false → size ≤ 6
block_small size e = let h = eqb-true size 6 (not-false (size == 6) e) in omega (arith, h)

-- a message may have its size
pub small : {w : ℕ} (l : Level) (x : Beat w) → IsWidth w → illegal_under all_liberties l (channel_of x) x ≡ None
    → is_small x ≡ true
small l (Beat.A x) is e = le-leb x.size 6 (is-request l x is e).small
small l (Beat.B x) is e = le-leb x.size 6 (block_small x.size (of_size l (Beat.B x) e))
small l (Beat.C x) is e = le-leb x.size 6 (block_small x.size (of_size l (Beat.C x) e))
small {w} l (Beat.D x) is e = le-leb x.size 6
    (response_small w x.size l x.opcode is (not-false (d_has_size w l x.opcode x.size) (of_size l (Beat.D x) e)))
small l (Beat.E x) is e = refl

-- its mask names no lane that there isn't
pub narrow : (w : ℕ) (l : Level) (opcode : OpA) (param size address mask : ℕ) → IsWidth w → mask < 2 ^ 16
    → IsRequest w l opcode param size address mask → mask < 2 ^ w
narrow w l OpA.PutPartialData param size address mask is fits r =
    part_mask-narrow w size address mask is r.small fits r.aligned r.has_mask
narrow w l v param size address mask is fits r =
    full_mask-narrow w size address mask is r.small fits r.aligned r.has_mask
