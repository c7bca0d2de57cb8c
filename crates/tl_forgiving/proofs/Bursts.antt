-- What comes before a beat of a message on channel C or D, and what the two share.
use Rattle.tl_forgiving.proofs.Imports.{Beat, A, B, C, D, E, Channel, History, unfinished, completes}
use Rattle.tl_forgiving.proofs.Imports.{Liberties}
use Rattle.tl_forgiving.proofs.Lawful.{goes-on}
use Rattle.std.proofs.Common.{◌≡◌, ℕ, Bool, true, false, List, [], ◌∷◌, refl}
use Rattle.std.specs.Prelude.{if◌then◌else◌, IsTrue, None}
use Rattle.tl_beat.{specs.declared.beat.BeatC.BeatC, specs.declared.beat.BeatD.BeatD}
use Rattle.tl_burst.{specs.statement.Messages.grown, specs.statement.Messages.same_control}
use Rattle.tl_burst.{proofs.ControlFields.control_c, proofs.ControlFields.control_d}
use Rattle.tl_rules.specs.statement.Liberties.{broken_in_order_under}

is_true : (b : Bool) → b ≡ true → IsTrue b
is_true true e = refl
is_true false e = absurd cc

-- what beats of one message on channel C share
pub record IsSameC {w : ℕ} (x y : BeatC w) : Type 0 where
  pub opcode : x.opcode ≡ y.opcode
  pub source : x.source ≡ y.source
  pub address : x.address ≡ y.address

-- and on channel D
pub record IsSameD {w : ℕ} (x y : BeatD w) : Type 0 where
  pub opcode : x.opcode ≡ y.opcode
  pub source : x.source ≡ y.source
  pub sink : x.sink ≡ y.sink

same-c : {w : ℕ} (x y : BeatC w) → same_control (C x) (C y) ≡ true → IsSameC x y
same-c x y e =
    let fields = control_c x y (is_true (same_control (C x) (C y)) e) in
    record { opcode = fields.0; source = fields.3; address = fields.4 }

same-d : {w : ℕ} (x y : BeatD w) → same_control (D x) (D y) ≡ true → IsSameD x y
same-d x y e =
    let fields = control_d x y (is_true (same_control (D x) (D y)) e) in
    record { opcode = fields.0; source = fields.3; sink = fields.4 }

-- what is unfinished before a beat: nothing, or a beat of the same message
pub data Before {w : ℕ} {X : Type 0} (beat : X → Beat w) (IsSame : X → Type 0) (u : List (Beat w)) : Type 0 where
  Nothing : u ≡ [] → Before beat IsSame u
  Earlier : (z : X) (rest : List (Beat w)) → u ≡ beat z ∷ rest → IsSame z → Before beat IsSame u

module _ {w : ℕ} (l : Liberties) (t : History w) where
  pub before-c : (x : BeatC w) → broken_in_order_under l (C x) t ≡ None
      → Before C (λ z. IsSameC x z) (unfinished Channel.C t)
  before-c x ordered = go (unfinished Channel.C t) refl
    where
      same : (z : Beat w) (rest : List (Beat w)) → unfinished Channel.C t ≡ z ∷ rest → same_control (C x) z ≡ true
      same z rest e = goes-on l (C x) z rest t ordered e

      go : (burst : List (Beat w)) → unfinished Channel.C t ≡ burst
          → Before C (λ z. IsSameC x z) (unfinished Channel.C t)
      go [] e = Nothing e
      go (C z ∷ rest) e = Earlier z rest e (same-c x z (same (C z) rest e))
      go (A z ∷ rest) e = absurd (let wrong : false ≡ true = same (A z) rest e in cc)
      go (B z ∷ rest) e = absurd (let wrong : false ≡ true = same (B z) rest e in cc)
      go (D z ∷ rest) e = absurd (let wrong : false ≡ true = same (D z) rest e in cc)
      go (E z ∷ rest) e = absurd (let wrong : false ≡ true = same (E z) rest e in cc)

  pub before-d : (x : BeatD w) → broken_in_order_under l (D x) t ≡ None
      → Before D (λ z. IsSameD x z) (unfinished Channel.D t)
  before-d x ordered = go (unfinished Channel.D t) refl
    where
      same : (z : Beat w) (rest : List (Beat w)) → unfinished Channel.D t ≡ z ∷ rest → same_control (D x) z ≡ true
      same z rest e = goes-on l (D x) z rest t ordered e

      go : (burst : List (Beat w)) → unfinished Channel.D t ≡ burst
          → Before D (λ z. IsSameD x z) (unfinished Channel.D t)
      go [] e = Nothing e
      go (D z ∷ rest) e = Earlier z rest e (same-d x z (same (D z) rest e))
      go (A z ∷ rest) e = absurd (let wrong : false ≡ true = same (A z) rest e in cc)
      go (B z ∷ rest) e = absurd (let wrong : false ≡ true = same (B z) rest e in cc)
      go (C z ∷ rest) e = absurd (let wrong : false ≡ true = same (C z) rest e in cc)
      go (E z ∷ rest) e = absurd (let wrong : false ≡ true = same (E z) rest e in cc)

-- the newest beat of a burst that is unfinished with x is x, which doesn't complete it
pub grown-by : {w : ℕ} (x y : Beat w) (burst older : List (Beat w)) → grown x burst ≡ y ∷ older
    → (x ≡ y) × (completes x burst ≡ false)
grown-by x y burst older e = go (completes x burst) refl e
  where
    go : (last : Bool) → completes x burst ≡ last → (if last then [] else x ∷ burst) ≡ y ∷ older
        → (x ≡ y) × (completes x burst ≡ false)
    go true is f = absurd cc
    go false is f = (newest f, is)
      where
        newest : x ∷ burst ≡ y ∷ older → x ≡ y
        newest g = cc
