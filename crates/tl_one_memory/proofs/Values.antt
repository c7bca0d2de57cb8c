-- What an access writes, by the bytes that it found.
use Rattle.tl_one_memory.proofs.Imports.{Beat, reaches, Memory, effect, Access, access_writes, carried_byte, could_be}
use Rattle.tl_one_memory.proofs.Imports.{pending_value}
use Rattle.std.proofs.Common.{◌≡◌, ℕ, zero, suc, Bool, true, false, ◌||◌, ◌+◌, ◌-◌, ◌*◌, ◌^◌, ◌<◌, ◌≤◌, List, [], refl}
use Rattle.std.proofs.Common.{sym, ap, ◌∙◌, arith, subst}
use Rattle.std.specs.Prelude.{if◌then◌else◌, Option, Some, None, is_some, unwrap_or, find}
use Rattle.std.proofs.lemmas.Bool.{and_from, eq-eqb, le-leb, lt-ltb}
use Rattle.tl_beat.specs.declared.opcode.OpA.{OpA}
use Rattle.tl_burst.{specs.declared.message.Message.Message, specs.declared.message.MessageA.MessageA}
use Rattle.tl_burst.{specs.statement.Burst.byte_at}
use Rattle.tl_params.specs.statement.Param.{arithmetic_of, logical_of}
use Rattle.tl_rules.specs.statement.Admission.{is_spoiled}
use Rattle.tl_rules.specs.statement.Effect.{after, arithmetic_result, byte_count, byte_of, by_param, logical_result}
use Rattle.tl_rules.specs.statement.Effect.{number_from, number_stored, operand_of}
use Rattle.tl_bytes.specs.statement.Bytes.{found_memory, value_left, value_written, writes}
use Rattle.tl_one_memory.specs.statement.Run.{place_in, returns}

-- the burst has the bytes that the access found in this memory, if it returns them, and no beat of it is corrupt, or
-- denied
abbrev pub HasFound : {w : ℕ} → Memory → Access w → List (Beat w) → Type 0
HasFound found access burst = is_some (find is_spoiled burst) ≡ false → returns access.request.opcode ≡ true
    → (address : ℕ)
    → reaches access.request.address access.request.size address ≡ true
    → carried_byte burst (place_in access address) ≡ Some (found address)

-- the same bytes spell the same number
number-same : (f g : Memory) (base k : ℕ) → ((address : ℕ) → base ≤ address → address < base + k
    → f address ≡ g address) → number_from f base k ≡ number_from g base k
unfolding number_from
number-same f g base zero same = refl
number-same f g base (suc k) same =
    rw (
      same base (omega arith) (omega arith),
      number-same f g (base + 1) k (λ address from to. same address (omega (arith, from)) (omega (arith, to))),
    ) refl

some-or : (x : Option ℕ) (u v : ℕ) → is_some x ≡ true → unwrap_or x u ≡ unwrap_or x v
some-or (Some x) u v e = refl
some-or None u v e = absurd cc

none-or : (x : Option ℕ) (u : ℕ) → is_some x ≡ false → unwrap_or x u ≡ u
none-or None u e = refl
none-or (Some x) u e = absurd cc

module _ {w : ℕ} (r : MessageA w) (f g : Memory) where
  -- two memories that have the same bytes where the request reaches, if it reads
  abbrev AreSame : OpA → Type 0
  AreSame o = returns o ≡ true → (address : ℕ) → reaches r.address r.size address ≡ true → f address ≡ g address

  stored-same : (result : ℕ → ℕ → ℕ) → ((address : ℕ) → reaches r.address r.size address ≡ true → f address ≡ g address)
      → number_stored r result f ≡ number_stored r result g
  stored-same result same =
      ap (λ (i : ℕ). result i (number_from (operand_of r) r.address (byte_count r)))
      (number-same f g r.address (byte_count r) (λ address from to. same address (and_from _ _
      (le-leb r.address address from) (lt-ltb address (r.address + 2 ^ r.size) to))))

  number-written : (i j : ℕ) → i ≡ j → (b : Bool) → b ≡ true → (address : ℕ)
      → (if b then byte_of i (address - r.address) else f address)
      ≡ (if b then byte_of j (address - r.address) else g address)
  number-written i j e true t address = ap (λ (k : ℕ). byte_of k (address - r.address)) e
  number-written i j e false t address = absurd cc

  -- what is written is the same in both
  pub after-same : (o : OpA) (address : ℕ) → AreSame o → writes o r address ≡ true
      → after o r f address ≡ after o r g address
  after-same OpA.PutFullData address same e = some-or (byte_at 0 (Message.A r) address) (f address) (g address) e
  after-same OpA.PutPartialData address same e = some-or (byte_at 0 (Message.A r) address) (f address) (g address) e
  after-same OpA.ArithmeticData address same e = number-written _ _
      (stored-same (by_param (λ o. arithmetic_result o (8 * byte_count r)) (arithmetic_of r.param)) (same refl))
      (reaches r.address r.size address) e address
  after-same OpA.LogicalData address same e = number-written _ _
      (stored-same (by_param logical_result (logical_of r.param)) (same refl))
      (reaches r.address r.size address) e address
  after-same v address same e = absurd cc

-- and what isn't is as it was
pub after-unwritten : {w : ℕ} (o : OpA) (r : MessageA w) (f : Memory) (address : ℕ) → writes o r address ≡ false
    → after o r f address ≡ f address
after-unwritten OpA.PutFullData r f address e = none-or (byte_at 0 (Message.A r) address) (f address) e
after-unwritten OpA.PutPartialData r f address e = none-or (byte_at 0 (Message.A r) address) (f address) e
after-unwritten OpA.ArithmeticData r f address e = rw e refl
after-unwritten OpA.LogicalData r f address e = rw e refl
after-unwritten v r f address e = refl

-- the value that an access has written is the one that its answer tells
pub value-told : {w : ℕ} (p : Access w) (found : Memory) (burst : List (Beat w)) (address : ℕ) → HasFound found p burst
    → access_writes address p ≡ true
    → could_be (after p.request.opcode p.request found address) (value_written p burst address) ≡ true
unfolding effect
value-told {w} p found burst address has writing = go p.spoiled (is_some (find is_spoiled burst)) refl
  where
    same : is_some (find is_spoiled burst) ≡ false
        → after p.request.opcode p.request (found_memory p.request burst) address
        ≡ after p.request.opcode p.request found address
    same sound = after-same p.request (found_memory p.request burst) found p.request.opcode address
        (λ reads k reached. ap (λ (o : Option ℕ). unwrap_or o 0) (has sound reads k reached)) writing

    go : (a b : Bool) → is_some (find is_spoiled burst) ≡ b → could_be (after p.request.opcode p.request found address)
        (if a || b then None else Some (after p.request.opcode p.request (found_memory p.request burst) address)) ≡ true
    go true b e = refl
    go false true e = refl
    go false false e = eq-eqb _ _ (same e)

-- and the one that it may write while it is pending
pub value-pending : {w : ℕ} (p : Access w) (found : Memory) (address : ℕ) → access_writes address p ≡ true
    → could_be (after p.request.opcode p.request found address) (pending_value p.request.opcode p address) ≡ true
value-pending {w} p found address writing = go p.request.opcode refl
  where
    now : ℕ
    now = after p.request.opcode p.request found address

    put : returns p.request.opcode ≡ false → could_be now (value_written p [] address) ≡ true
    put none = value-told p found [] address (λ sound reads. absurd (let bad : false ≡ true = sym none ∙ reads in cc))
        writing

    go : (o : OpA) → p.request.opcode ≡ o → could_be now (pending_value o p address) ≡ true
    go OpA.PutFullData e = put (ap returns e)
    go OpA.PutPartialData e = put (ap returns e)
    go v e = refl

-- any, if its request was corrupt
pub spoilt-pending : {w : ℕ} (p : Access w) (v address : ℕ) → p.spoiled ≡ true
    → could_be v (pending_value p.request.opcode p address) ≡ true
spoilt-pending {w} p v address e = go p.request.opcode
  where
    go : (o : OpA) → could_be v (pending_value o p address) ≡ true
    go OpA.PutFullData = rw e refl
    go OpA.PutPartialData = rw e refl
    go o = refl

pub spoilt-left : {w : ℕ} (p : Access w) (burst : List (Beat w)) (v address : ℕ) → p.spoiled ≡ true
    → could_be v (value_left p.request.opcode p burst address) ≡ true
spoilt-left {w} p burst v address e = go p.request.opcode
  where
    go : (o : OpA) → could_be v (value_left o p burst address) ≡ true
    go OpA.PutFullData = rw e refl
    go OpA.PutPartialData = rw e refl
    go o = rw e refl

-- and the one that it leaves with its answer
pub value-left : {w : ℕ} (p : Access w) (found : Memory) (burst : List (Beat w)) (address : ℕ) → HasFound found p burst
    → access_writes address p ≡ true
    → could_be (after p.request.opcode p.request found address) (value_left p.request.opcode p burst address) ≡ true
value-left {w} p found burst address has writing = go p.request.opcode refl
  where
    now : ℕ
    now = after p.request.opcode p.request found address

    go : (o : OpA) → p.request.opcode ≡ o → could_be now (value_left o p burst address) ≡ true
    go OpA.PutFullData e = subst (λ o. could_be now (pending_value o p address) ≡ true) e
        (value-pending p found address writing)
    go OpA.PutPartialData e = subst (λ o. could_be now (pending_value o p address) ≡ true) e
        (value-pending p found address writing)
    go v e = value-told p found burst address has writing
