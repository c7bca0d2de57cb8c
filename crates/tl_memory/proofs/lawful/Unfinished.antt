-- What is known of a burst that isn't complete, where no beat of its link broke a rule.
use Rattle.tl_memory.proofs.Imports.{Beat, BeatA, a_carries_data, c_carries_data, IsWidth, History, breaks_burst}
use Rattle.tl_memory.proofs.Imports.{burst_length, channel_of, grown, on, same_control, unfinished, control_a}
use Rattle.tl_memory.proofs.Imports.{control_d, Level, AreTyped, IsTyped, all_liberties, broken_after_under, is_legal_under, is_small}
use Rattle.tl_memory.proofs.Imports.{AreWide}
use Rattle.std.proofs.Common.{◌≡◌, ℕ, true, false, ◌+◌, ◌*◌, ◌<◌, ◌≤◌, List, [], ◌∷◌, length, refl, sym, ap, ◌∙◌, arith}
use Rattle.std.proofs.Common.{inl, inr}
use Rattle.std.specs.Prelude.{IfSome, is_some, Option, Some, None, unwrap_or, ⊤}
use Rattle.std.proofs.lemmas.Bool.{cases_Bool, cases_eq, eq-eqb, leb-true, ne_eqb, not-false}
use Rattle.tl_beat.specs.declared.channel.Channel.{Channel}
use Rattle.tl_beat.specs.statement.Opcode.{b_carries_data, d_carries_data}
use Rattle.tl_burst.{proofs.ControlFields.control_b, proofs.ControlFields.control_c, proofs.Bits.earlier_place}
use Rattle.tl_burst.{proofs.Splitting.some_data_beats}
use Rattle.tl_rules.{specs.statement.Liberties.illegal_under, proofs.Checks.data_room, proofs.Widths.width-bounds}
use Rattle.tl_memory.{specs.statement.Known.HasRoom, proofs.messages.Masks.positive}
use Rattle.tl_memory.proofs.lawful.Lawful.{by_itself, goes_on, is-request, legal-parts, narrow, small}

on-own : {w : ℕ} (ch : Channel) (x : Beat w) → on ch x ≡ true → channel_of x ≡ ch
on-own Channel.A (Beat.A x) e = refl
on-own Channel.B (Beat.B x) e = refl
on-own Channel.C (Beat.C x) e = refl
on-own Channel.D (Beat.D x) e = refl
on-own Channel.E (Beat.E x) e = refl
on-own _ _ e = absurd cc

-- beats with the same control fields are of bursts of one length
same_length : {w : ℕ} (x y : Beat w) → same_control x y ≡ true → burst_length x ≡ burst_length y
same_length (Beat.A x) (Beat.A y) e = let c = control_a x y e in rw (c.0, c.2) refl
same_length (Beat.B x) (Beat.B y) e = let c = control_b x y e in rw (c.0, c.2) refl
same_length (Beat.C x) (Beat.C y) e = let c = control_c x y e in rw (c.0, c.2) refl
same_length (Beat.D x) (Beat.D y) e = let c = control_d x y e in rw (c.0, c.2) refl
same_length (Beat.E x) (Beat.E y) e = refl
same_length _ _ e = absurd cc

some_beats : {w : ℕ} (x : Beat w) → IsWidth w → 0 < burst_length x
some_beats {w} (Beat.A x) is = some_data_beats w x.size (a_carries_data x.opcode) is
some_beats {w} (Beat.B x) is = some_data_beats w x.size (b_carries_data x.opcode) is
some_beats {w} (Beat.C x) is = some_data_beats w x.size (c_carries_data x.opcode) is
some_beats {w} (Beat.D x) is = some_data_beats w x.size (d_carries_data x.opcode) is
some_beats (Beat.E x) is = omega arith

-- a block has room for its bytes
burst_room : {w : ℕ} (x : Beat w) → IsWidth w → is_small x ≡ true → w * burst_length x ≤ 64
burst_room {w} (Beat.A x) is e = data_room w x.size (a_carries_data x.opcode) is (leb-true x.size 6 e)
burst_room {w} (Beat.B x) is e = data_room w x.size (b_carries_data x.opcode) is (leb-true x.size 6 e)
burst_room {w} (Beat.C x) is e = data_room w x.size (c_carries_data x.opcode) is (leb-true x.size 6 e)
burst_room {w} (Beat.D x) is e = data_room w x.size (d_carries_data x.opcode) is (leb-true x.size 6 e)
burst_room {w} (Beat.E x) is e = omega (arith, (width-bounds w is).1)

-- Each of these beats of a channel, the newest of which is first, breaks no rule by itself, goes on as those
-- before it, and isn't the last of their burst.
abbrev pub AreBegun : {w : ℕ} → Level → Channel → List (Beat w) → Type 0
AreBegun l ch [] = ⊤
AreBegun l ch (x ∷ burst) =
    (on ch x ≡ true) × (illegal_under all_liberties l ch x ≡ None) × (breaks_burst x burst ≡ false)
    × (length (x ∷ burst) < burst_length x) × AreBegun l ch burst

-- a beat that goes on as they did has room in the burst
pub fewer : {w : ℕ} (l : Level) (ch : Channel) (x : Beat w) (burst : List (Beat w)) → IsWidth w
    → breaks_burst x burst ≡ false → AreBegun l ch burst → length burst < burst_length x
fewer l ch x [] is e begun = some_beats x is
fewer l ch x (y ∷ burst) is e begun =
    let same = same_length x y (not-false (same_control x y) e) in
    omega (arith, begun.3, same)

grows : {w : ℕ} (l : Level) (ch : Channel) (x : Beat w) (burst : List (Beat w)) → IsWidth w → on ch x ≡ true
    → illegal_under all_liberties l ch x ≡ None → breaks_burst x burst ≡ false → AreBegun l ch burst → AreBegun l ch (grown x burst)
grows l ch x burst is own alone e begun = elim (cases_eq (length burst + 1) (burst_length x)) [
  | inl last ↦ rw (eq-eqb (length burst + 1) (burst_length x) last) tt
  | inr more ↦
      let less = fewer l ch x burst is e begun in
      rw (ne_eqb (length burst + 1) (burst_length x) more) (own, alone, e, omega (arith, less, more), begun)
]

-- so are the beats of each channel that are unfinished
pub are-begun : {w : ℕ} (l : Level) (ch : Channel) (t : History w) → IsWidth w → is_legal_under all_liberties l t ≡ true
    → AreBegun l ch (unfinished ch t)
unfolding unfinished
are-begun l ch [] is legal = tt
are-begun {w} l ch (x ∷ t) is legal = elim (cases_Bool (on ch x)) [
  | inr off ↦ rw off (are-begun l ch t is parts.1)
  | inl own ↦ rw own (grows l ch x (unfinished ch t) is own (alone own)
      (ap (λ c. breaks_burst x (unfinished c t)) (sym (on-own ch x own)) ∙ goes_on l x t parts.0)
      (are-begun l ch t is parts.1))
]
  where
    parts : (broken_after_under all_liberties l x t ≡ None) × (is_legal_under all_liberties l t ≡ true)
    parts = legal-parts l x t legal

    alone : on ch x ≡ true → illegal_under all_liberties l ch x ≡ None
    alone own = ap (λ c. illegal_under all_liberties l c x) (sym (on-own ch x own)) ∙ by_itself l x t parts.0

-- ---- a beat that breaks no rule

module _ {w : ℕ} (l : Level) (x : Beat w) (t : History w) (is : IsWidth w) (legal : is_legal_under all_liberties l t ≡ true)
    (fine : broken_after_under all_liberties l x t ≡ None) where
  abbrev before : List (Beat w)
  before = unfinished (channel_of x) t

  pub fewer-before : length before < burst_length x
  fewer-before = fewer l (channel_of x) x before is (goes_on l x t fine) (are-begun l (channel_of x) t is legal)

  pub small-beat : is_small x ≡ true
  small-beat = small l x is (by_itself l x t fine)

  pub room : w * length before + w ≤ 64
  room =
      let bytes = burst_room x is small-beat in
      let less = earlier_place w (burst_length x) (length before) fewer-before in
      omega (arith, bytes, less)

-- a block has room for its bytes, and its mask names no lane that there isn't
pub has-room : {w : ℕ} (l : Level) (x : Beat w) (t : History w) → IsWidth w → IsTyped x
    → is_legal_under all_liberties l t ≡ true → broken_after_under all_liberties l x t ≡ None → HasRoom x (unfinished (channel_of x) t)
has-room {w} l (Beat.A x) t is typed legal fine = (
  room l (Beat.A x) t is legal fine,
  narrow w l x.opcode x.param x.size x.address x.mask is typed.0 (is-request l x is (by_itself l (Beat.A x) t fine)),
)
has-room {w} l (Beat.B x) t is typed legal fine = (room l (Beat.B x) t is legal fine, positive w)
has-room {w} l (Beat.C x) t is typed legal fine = (room l (Beat.C x) t is legal fine, positive w)
has-room {w} l (Beat.D x) t is typed legal fine = (room l (Beat.D x) t is legal fine, positive w)
has-room {w} l (Beat.E x) t is typed legal fine = (room l (Beat.E x) t is legal fine, positive w)

-- ---- the lanes of a request's beats

wide_lanes : {w : ℕ} (x : BeatA w) → IsTyped (Beat.A x) → a_carries_data x.opcode ≡ true
    → length (unwrap_or x.lanes []) ≡ w
wide_lanes {w} x typed carries = go x.lanes (x.carries ∙ carries) typed.1
  where
    go : (o : Option (List ℕ)) → is_some o ≡ true → IfSome o (λ lanes. length lanes ≡ w) → length (unwrap_or o []) ≡ w
    go None some long = absurd cc
    go (Some lanes) some long = long

-- each of them has a byte for each lane where the last carries data
pub are-wide : {w : ℕ} (l : Level) (x : BeatA w) (burst : List (Beat w)) → AreTyped (Beat.A x ∷ burst)
    → breaks_burst (Beat.A x) burst ≡ false → AreBegun l Channel.A burst → a_carries_data x.opcode ≡ true
    → AreWide (Beat.A x ∷ burst)
are-wide l x [] typed e begun carries = (wide_lanes x typed.0 carries, tt)
are-wide l x (Beat.A y ∷ burst) typed e begun carries =
    let same = control_a x y (not-false (same_control (Beat.A x) (Beat.A y)) e) in (
      wide_lanes x typed.0 carries,
      are-wide l y burst typed.1 begun.2 begun.4 (ap a_carries_data (sym same.0) ∙ carries),
    )
are-wide l x v typed e begun carries = absurd (let no : false ≡ true = begun.0 in cc)
