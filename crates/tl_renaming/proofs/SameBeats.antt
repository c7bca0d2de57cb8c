-- Beats that have the same fields are the same.
use mathlib.Core.Bool.{Bool-set}
use Rattle.std.proofs.Common.{◌≡◌, ℕ, Bool, List, ap, ◌∙◌, subst}
use Rattle.std.specs.Prelude.{is_some, Option}
use Rattle.tl_beat.specs.declared.beat.BeatA.{BeatA}
use Rattle.tl_beat.specs.declared.beat.BeatB.{BeatB}
use Rattle.tl_beat.specs.declared.beat.BeatC.{BeatC}
use Rattle.tl_beat.specs.declared.beat.BeatD.{BeatD}
use Rattle.tl_beat.specs.declared.opcode.OpA.{OpA}
use Rattle.tl_beat.specs.declared.opcode.OpB.{OpB}
use Rattle.tl_beat.specs.declared.opcode.OpC.{OpC}
use Rattle.tl_beat.specs.declared.opcode.OpD.{OpD}
use Rattle.tl_beat.specs.statement.Opcode.{a_carries_data, b_carries_data, c_carries_data, d_carries_data}

-- where an answer agrees, it does so in one way
one-way : (o p : Option (List ℕ)) (carries : Bool) {X : Type 0} (make : (q : Option (List ℕ)) → is_some q ≡ carries → X)
    (c : is_some o ≡ carries) (d : is_some p ≡ carries) → o ≡ p → make o c ≡ make p d
one-way o p carries {X} make c d e =
    subst (λ (q : Option (List ℕ)). (k : is_some q ≡ carries) → make o c ≡ make q k) e
    (λ k. ap (make o) (Bool-set (is_some o) carries c k)) d

module _ {w : ℕ} where
  abbrev pub make-a : (opcode : OpA) → ℕ → ℕ → Bool → ℕ → ℕ → ℕ → (o : Option (List ℕ))
      → is_some o ≡ a_carries_data opcode → BeatA w
  make-a opcode param size corrupt source address mask lanes carries = record { opcode = opcode; param = param; size = size; corrupt = corrupt; source = source; address = address; mask = mask; lanes = lanes; carries = carries }

  pub same-a : (opcode : OpA) (param : ℕ) (size : ℕ) (corrupt : Bool) (source source' address address' mask mask' : ℕ) (o p : Option (List ℕ))
      (c : is_some o ≡ a_carries_data opcode) (d : is_some p ≡ a_carries_data opcode) → source ≡ source' → address ≡ address' → mask ≡ mask' → o ≡ p
      → make-a opcode param size corrupt source address mask o c ≡ make-a opcode param size corrupt source' address' mask' p d
  same-a opcode param size corrupt source source' address address' mask mask' o p c d e0 e1 e2 e =
      ap (λ z. make-a opcode param size corrupt z address mask o c) e0
      ∙ ap (λ z. make-a opcode param size corrupt source' z mask o c) e1
      ∙ ap (λ z. make-a opcode param size corrupt source' address' z o c) e2
      ∙ one-way o p (a_carries_data opcode) (make-a opcode param size corrupt source' address' mask') c d e

  abbrev pub make-b : (opcode : OpB) → ℕ → ℕ → Bool → ℕ → ℕ → ℕ → (o : Option (List ℕ))
      → is_some o ≡ b_carries_data opcode → BeatB w
  make-b opcode param size corrupt source address mask lanes carries = record { opcode = opcode; param = param; size = size; corrupt = corrupt; source = source; address = address; mask = mask; lanes = lanes; carries = carries }

  pub same-b : (opcode : OpB) (param : ℕ) (size : ℕ) (corrupt : Bool) (source source' address address' mask mask' : ℕ) (o p : Option (List ℕ))
      (c : is_some o ≡ b_carries_data opcode) (d : is_some p ≡ b_carries_data opcode) → source ≡ source' → address ≡ address' → mask ≡ mask' → o ≡ p
      → make-b opcode param size corrupt source address mask o c ≡ make-b opcode param size corrupt source' address' mask' p d
  same-b opcode param size corrupt source source' address address' mask mask' o p c d e0 e1 e2 e =
      ap (λ z. make-b opcode param size corrupt z address mask o c) e0
      ∙ ap (λ z. make-b opcode param size corrupt source' z mask o c) e1
      ∙ ap (λ z. make-b opcode param size corrupt source' address' z o c) e2
      ∙ one-way o p (b_carries_data opcode) (make-b opcode param size corrupt source' address' mask') c d e

  abbrev pub make-c : (opcode : OpC) → ℕ → ℕ → Bool → ℕ → ℕ → (o : Option (List ℕ))
      → is_some o ≡ c_carries_data opcode → BeatC w
  make-c opcode param size corrupt source address lanes carries = record { opcode = opcode; param = param; size = size; corrupt = corrupt; source = source; address = address; lanes = lanes; carries = carries }

  pub same-c : (opcode : OpC) (param : ℕ) (size : ℕ) (corrupt : Bool) (source source' address address' : ℕ) (o p : Option (List ℕ))
      (c : is_some o ≡ c_carries_data opcode) (d : is_some p ≡ c_carries_data opcode) → source ≡ source' → address ≡ address' → o ≡ p
      → make-c opcode param size corrupt source address o c ≡ make-c opcode param size corrupt source' address' p d
  same-c opcode param size corrupt source source' address address' o p c d e0 e1 e =
      ap (λ z. make-c opcode param size corrupt z address o c) e0
      ∙ ap (λ z. make-c opcode param size corrupt source' z o c) e1
      ∙ one-way o p (c_carries_data opcode) (make-c opcode param size corrupt source' address') c d e

  abbrev pub make-d : (opcode : OpD) → ℕ → ℕ → Bool → Bool → ℕ → ℕ → (o : Option (List ℕ))
      → is_some o ≡ d_carries_data opcode → BeatD w
  make-d opcode param size denied corrupt source sink lanes carries = record { opcode = opcode; param = param; size = size; denied = denied; corrupt = corrupt; source = source; sink = sink; lanes = lanes; carries = carries }

  pub same-d : (opcode : OpD) (param : ℕ) (size : ℕ) (denied : Bool) (corrupt : Bool) (source source' sink sink' : ℕ) (o p : Option (List ℕ))
      (c : is_some o ≡ d_carries_data opcode) (d : is_some p ≡ d_carries_data opcode) → source ≡ source' → sink ≡ sink' → o ≡ p
      → make-d opcode param size denied corrupt source sink o c ≡ make-d opcode param size denied corrupt source' sink' p d
  same-d opcode param size denied corrupt source source' sink sink' o p c d e0 e1 e =
      ap (λ z. make-d opcode param size denied corrupt z sink o c) e0
      ∙ ap (λ z. make-d opcode param size denied corrupt source' z o c) e1
      ∙ one-way o p (d_carries_data opcode) (make-d opcode param size denied corrupt source' sink') c d e
