-- What accesses write, of renamed ones.
use Rattle.tl_renaming.proofs.Imports.{Beat, renamed, renamed_address}
use Rattle.tl_renaming.proofs.Accesses.{renamed_access, renamed_message}
use Rattle.tl_renaming.proofs.Carried.{carried-byte-kept, some-spoiled-kept}
use Rattle.tl_renaming.proofs.Places.{byte-kept, reached-block, reaches-kept, same-distance, same-offset}
use Rattle.tl_renaming.specs.statement.Renamed.{AreFaithful, Renamings, of_link}
use Rattle.std.proofs.Common.{◌≡◌, ℕ, Bool, true, false, ◌||◌, ◌+◌, ◌-◌, ◌*◌, ◌/◌, ◌%◌, ◌^◌, ◌≤◌, List, [], length}
use Rattle.std.proofs.Common.{map, refl, ap, ◌∙◌}
use Rattle.std.proofs.Math.Path.{ap₂}
use Rattle.std.specs.Prelude.{find, if◌then◌else◌, is_some, Option, Some, None, slice_index, unwrap_or}
use Rattle.tl_beat.{specs.declared.opcode.OpA.OpA, specs.statement.Opcode.a_carries_data, specs.statement.Width.IsWidth}
use Rattle.tl_burst.specs.declared.message.Message.TheVariants as message
use Rattle.tl_burst.specs.declared.message.MessageA.{MessageA}
use Rattle.tl_burst.specs.statement.Burst.{bit, byte_at, reaches}
use Rattle.tl_bytes.specs.statement.Bytes.{Access, access_writes, carried_byte, found_memory, pending_value, value_left}
use Rattle.tl_bytes.specs.statement.Bytes.{value_written, writes}
use Rattle.tl_params.specs.declared.liberties.Liberties.{Liberties}
use Rattle.tl_params.specs.statement.Param.{arithmetic_of, logical_of}
use Rattle.tl_rules.proofs.Places.{number_same}
use Rattle.tl_rules.specs.code.Place.{base_of}
use Rattle.tl_rules.specs.statement.Admission.{is_spoiled}
use Rattle.tl_rules.specs.statement.Effect.{after, arithmetic_result, by_param, byte_count, byte_of, effect}
use Rattle.tl_rules.specs.statement.Effect.{logical_result, number_from, number_stored, operand_of, with_number}

-- the message, and what its beats carry, lie in one block
pub record Fits {w : ℕ} (x : Access w) : Type 0 where
  pub in_payload : base_of w x.request.address + length x.request.payload ≤ 64
  pub in_block : x.request.address % 64 + 2 ^ x.request.size ≤ 64

-- a value that is there
unwrap-some : (o : Option ℕ) (d e : ℕ) → is_some o ≡ true → unwrap_or o d ≡ unwrap_or o e
unwrap-some None d e is = absurd cc
unwrap-some (Some v) d e is = refl

-- a choice whose test holds on both sides
chosen-same : {X : Type 0} (a b : Bool) (u v c d : X) → a ≡ true → b ≡ true → u ≡ v
    → (if a then u else c) ≡ (if b then v else d)
chosen-same a b u v c d e f same = rw (e, f) same

module _ {w : ℕ} (l : Liberties) (r : Renamings) (faithful : AreFaithful l r) (width : IsWidth w) where
  abbrev moved_by : ℕ → ℕ
  moved_by address = renamed_address (of_link r 0) address

  apart : (m n : ℕ) → r.block m ≡ r.block n → m ≡ n
  apart = (faithful 0).blocks_apart

  -- ---- which bytes an access writes

  byte-at-kept : (x : Access w) (address : ℕ) → Fits x
      → byte_at 0 (message.A (renamed_message (of_link r x.link) x.request)) (moved_by address)
      ≡ byte_at 0 (message.A x.request) address
  byte-at-kept x address fits =
      ap (λ o. if a_carries_data x.request.opcode then o else None)
      (byte-kept r.block apart w width x.request.address address (λ p. bit x.request.mask p) x.request.payload
      fits.in_payload)

  reached-kept : (x : Access w) (address : ℕ) → Fits x
      → reaches (moved_by x.request.address) x.request.size (moved_by address)
      ≡ reaches x.request.address x.request.size address
  reached-kept x address fits = reaches-kept r.block apart x.request.address x.request.size address fits.in_block

  pub writes-kept : (x : Access w) (address : ℕ) → Fits x
      → access_writes (moved_by address) (renamed_access r x) ≡ access_writes address x
  writes-kept x address fits = go x.request.opcode
    where
      go : (o : OpA) → writes o (renamed_message (of_link r x.link) x.request) (moved_by address)
          ≡ writes o x.request address
      go OpA.PutFullData = ap is_some (byte-at-kept x address fits)
      go OpA.PutPartialData = ap is_some (byte-at-kept x address fits)
      go OpA.ArithmeticData = reached-kept x address fits
      go OpA.LogicalData = reached-kept x address fits
      go OpA.Get = refl
      go OpA.Intent = refl
      go OpA.AcquireBlock = refl
      go OpA.AcquirePerm = refl

  -- ---- what it writes there

  module _ (link : ℕ) (x : Access w) (answer : List (Beat w)) where
    abbrev request : MessageA w
    request = renamed_message (of_link r x.link) x.request

    abbrev beats : List (Beat w)
    beats = map (renamed (of_link r link)) answer

    found-kept : number_from (found_memory request beats) request.address (byte_count request)
        ≡ number_from (found_memory x.request answer) x.request.address (byte_count x.request)
    found-kept = number_same (found_memory request beats) (found_memory x.request answer) request.address
        x.request.address (byte_count x.request) (λ i lt. ap (λ o. unwrap_or o 0)
        (ap (carried_byte beats) (same-offset r.block apart w width x.request.address i)
        ∙ carried-byte-kept (of_link r link) answer (x.request.address + i - w * (x.request.address / w))))

    operand-kept : number_from (operand_of request) request.address (byte_count request)
        ≡ number_from (operand_of x.request) x.request.address (byte_count x.request)
    operand-kept = number_same (operand_of request) (operand_of x.request) request.address x.request.address
        (byte_count x.request) (λ i lt. ap (slice_index x.request.payload)
        (same-offset r.block apart w width x.request.address i))

    stored-kept : (result : ℕ → ℕ → ℕ) → number_stored request result (found_memory request beats)
        ≡ number_stored x.request result (found_memory x.request answer)
    stored-kept result = ap₂ result found-kept operand-kept

    number-kept : (result : ℕ → ℕ → ℕ) (address : ℕ) → Fits x
        → reaches x.request.address x.request.size address ≡ true
        → with_number request (number_stored request result (found_memory request beats)) (found_memory request beats)
        (moved_by address)
        ≡ with_number x.request (number_stored x.request result (found_memory x.request answer))
        (found_memory x.request answer) address
    number-kept result address fits reached =
        chosen-same (reaches request.address request.size (moved_by address))
        (reaches x.request.address x.request.size address)
        (byte_of (number_stored request result (found_memory request beats)) (moved_by address - request.address))
        (byte_of (number_stored x.request result (found_memory x.request answer)) (address - x.request.address))
        (found_memory request beats (moved_by address)) (found_memory x.request answer address)
        (reached-kept x address fits ∙ reached) reached
        (ap₂ byte_of (stored-kept result) (same-distance r.block apart x.request.address address
        (reached-block r.block apart x.request.address x.request.size address fits.in_block reached)))

    put-kept : (address : ℕ) → Fits x → is_some (byte_at 0 (message.A x.request) address) ≡ true
        → unwrap_or (byte_at 0 (message.A request) (moved_by address)) (found_memory request beats (moved_by address))
        ≡ unwrap_or (byte_at 0 (message.A x.request) address) (found_memory x.request answer address)
    put-kept address fits some =
        ap (λ o. unwrap_or o (found_memory request beats (moved_by address))) (byte-at-kept x address fits)
        ∙ unwrap-some (byte_at 0 (message.A x.request) address) (found_memory request beats (moved_by address))
        (found_memory x.request answer address) some

    after-kept : (o : OpA) (address : ℕ) → Fits x → writes o x.request address ≡ true
        → after o request (found_memory request beats) (moved_by address)
        ≡ after o x.request (found_memory x.request answer) address
    after-kept OpA.PutFullData address fits written = put-kept address fits written
    after-kept OpA.PutPartialData address fits written = put-kept address fits written
    after-kept OpA.ArithmeticData address fits written =
        number-kept (by_param (λ o. arithmetic_result o (8 * byte_count x.request)) (arithmetic_of x.request.param))
        address fits written
    after-kept OpA.LogicalData address fits written =
        number-kept (by_param logical_result (logical_of x.request.param)) address fits written
    after-kept OpA.Get address fits written = absurd cc
    after-kept OpA.Intent address fits written = absurd cc
    after-kept OpA.AcquireBlock address fits written = absurd cc
    after-kept OpA.AcquirePerm address fits written = absurd cc

    pub written-kept : (address : ℕ) → Fits x → access_writes address x ≡ true
        → value_written (renamed_access r x) beats (moved_by address) ≡ value_written x answer address
    unfolding effect
    written-kept address fits written =
        rw (some-spoiled-kept (of_link r link) answer) (go (x.spoiled || is_some (find is_spoiled answer)))
      where
        go : (b : Bool)
            → (if b then None else Some (after x.request.opcode request (found_memory request beats) (moved_by address)))
            ≡ (if b then None else Some (after x.request.opcode x.request (found_memory x.request answer) address))
        go true = refl
        go false = ap Some (after-kept x.request.opcode address fits written)

  pub left-kept : (link : ℕ) (x : Access w) (answer : List (Beat w)) (address : ℕ) → Fits x
      → access_writes address x ≡ true
      → value_left x.request.opcode (renamed_access r x) (map (renamed (of_link r link)) answer) (moved_by address)
      ≡ value_left x.request.opcode x answer address
  left-kept link x answer address fits written = go x.request.opcode
    where
      go : (o : OpA)
          → value_left o (renamed_access r x) (map (renamed (of_link r link)) answer) (moved_by address)
          ≡ value_left o x answer address
      go OpA.PutFullData = written-kept link x [] address fits written
      go OpA.PutPartialData = written-kept link x [] address fits written
      go OpA.ArithmeticData = written-kept link x answer address fits written
      go OpA.LogicalData = written-kept link x answer address fits written
      go OpA.Get = written-kept link x answer address fits written
      go OpA.Intent = written-kept link x answer address fits written
      go OpA.AcquireBlock = written-kept link x answer address fits written
      go OpA.AcquirePerm = written-kept link x answer address fits written

  pub pending-value-kept : (x : Access w) (address : ℕ) → Fits x → access_writes address x ≡ true
      → pending_value x.request.opcode (renamed_access r x) (moved_by address)
      ≡ pending_value x.request.opcode x address
  pending-value-kept x address fits written = go x.request.opcode
    where
      go : (o : OpA) → pending_value o (renamed_access r x) (moved_by address) ≡ pending_value o x address
      go OpA.PutFullData = written-kept 0 x [] address fits written
      go OpA.PutPartialData = written-kept 0 x [] address fits written
      go OpA.ArithmeticData = refl
      go OpA.LogicalData = refl
      go OpA.Get = refl
      go OpA.Intent = refl
      go OpA.AcquireBlock = refl
      go OpA.AcquirePerm = refl
