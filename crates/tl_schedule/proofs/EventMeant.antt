-- The event that is meant by what a line says.
use Rattle.tl_schedule.proofs.Imports.{Asked, Said, Access, Fits, Get}
use Rattle.tl_schedule.proofs.Imports.{event_of, front, number_in, size_in}
use Rattle.std.proofs.Common.{◌≡◌, ℕ, ◌≤◌, Bool, true, false, List, refl, ap}
use Rattle.std.{proofs.Math.Bridge.le_prop, proofs.lemmas.Bool.leb-true, proofs.lemmas.Bool.le-leb}
use Rattle.std.specs.Prelude.{nat_le, Option, Some, None, option_map, replicate}
use Rattle.tl_beat.specs.declared.opcode.OpA.{OpA}
use Rattle.tl_burst.{specs.declared.message.Message.Message, specs.declared.message.MessageA.MessageA}
use Rattle.tl_client.specs.declared.operation.Op.{Op}
use Rattle.tl_coherence.specs.declared.event.Event.{Event}
use Rattle.tl_schedule.{specs.declared.access.Request.Request, specs.declared.name.Word.Word}
use Rattle.tl_schedule.{specs.statement.EventLine.lanes_of}
use Rattle.tl_schedule.specs.code.EventReading.{access_at, asked_at, meant, meant_by, request_of, size_if, small_size}

abbrev some_proof : {n : ℕ} → n ≤ 6 → Option (n ≤ 6)
some_proof h = Some h

-- there is one proof at most that a size is small
small_size-is : (n : ℕ) (h : n ≤ 6) → small_size n ≡ Some h
small_size-is n h = go (nat_le n 6) refl (le-leb n 6 h)
  where
    go : (b : Bool) (e : nat_le n 6 ≡ b) → b ≡ true → size_if n b e ≡ Some h
    go true e is = ap some_proof (le_prop (leb-true n 6 e) h)
    go false e is = absurd cc

pub meant-event : {w : ℕ} (said : Said) (fits : Fits w said) → meant {w = w} said ≡ Some (event_of said fits)
meant-event (Access client size address asked) fits = rw (small_size-is size fits.1) refl
meant-event v fits = refl

abbrev made : {w : ℕ} (size address : ℕ) → Request → size ≤ 6 → MessageA w
made size address r small = record {
  opcode = r.opcode;
  param = r.param;
  size = size;
  source = 0;
  address =
      address;
  payload = r.payload;
  mask = r.mask;
  corrupt = 0;
  small = small;
}

-- the access that was read is the one that is meant
pub access_meant : {w : ℕ} (k : Word) (client size address : ℕ) (fields others rest : List (List ℕ)) (r : Request)
    (small : size ≤ 6) → front (size_in 6) fields ≡ Some (size, others)
    → front (number_in 0 8) others ≡ Some (address, rest)
    → Some r ≡ option_map (request_of w size address) (asked_at w k size rest)
    → Some (Event.Ask client (Op.Access (Message.A (made {w = w} size address r small)))) ≡ meant_by
    (access_at w k client fields)
access_meant {w} k client size address fields others rest r small e f h = go (asked_at w k size rest) refl h
  where
    go : (o : Option Asked) → asked_at w k size rest ≡ o → Some r ≡ option_map (request_of w size address) o
        → Some (Event.Ask client (Op.Access (Message.A (made {w = w} size address r small)))) ≡ meant_by
        (access_at w k client fields)
    go None is g = absurd cc
    go (Some x) is g =
        let same : r ≡ request_of w size address x = cc in
        rw (e, f, is, same, small_size-is size small) refl

-- the message of a Get is the one that is meant
pub get_meant : {w : ℕ} (client size address mask : ℕ) (small : size ≤ 6) → mask ≡ lanes_of w size address 1
    → Some (Event.Ask client (Op.Access (Message.A (made {w = w} size address (record {
      opcode = OpA.Get;
      param = 0;
      payload = replicate 64 0;
      mask = mask;
    }) small)))) ≡ meant (Access client size address Get)
get_meant client size address mask small e = rw (e, small_size-is size small) refl
