-- The operation by its fields in C, if they are those of one.
use Rattle.std.specs.Prelude.{ℕ, Bool, true, false, ◌==◌, ◌≡◌, refl, nat_le, Option, Some, None, option_map}
use Rattle.std.specs.Prelude.{if◌then◌else◌}
use Rattle.std.proofs.lemmas.Bool.{leb-true}
use Rattle.tl_beat.specs.declared.opcode.OpA.{OpA}
use Rattle.tl_beat.specs.statement.Opcode.{a_with}
use Rattle.tl_burst.specs.declared.message.Message.TheVariants as message
use Rattle.tl_params.specs.statement.Param.{grow_of, prune_of}
use Rattle.tl_client.specs.declared.operation.Op.{Op}
use Rattle.tl_client.specs.declared.operation.Op.TheVariants as op
use Rattle.tl_pictures.specs.declared.operation.Operation.{Operation}

-- an Acquire, if the param is a grow
abbrev pub acquire_of : (w : ℕ) → Operation → Option (Op w)
acquire_of w x = option_map (λ grow. op.Acquire x.block grow) (grow_of x.param)

-- a Release, if the param is a prune
abbrev pub release_of : (w : ℕ) → Operation → Option (Op w)
release_of w x = option_map (λ prune. op.Release x.block prune) (prune_of x.param)

-- an access whose size is at most a block; the client replaces its source, and no beat is corrupt
abbrev pub access_if : (w : ℕ) (x : Operation) → Option OpA → (fits : Bool) → nat_le x.size 6 ≡ fits → Option (Op w)
access_if w x None fits is = None
access_if w x (Some opcode) false is = None
access_if w x (Some opcode) true is = Some (op.Access (message.A (record {
  opcode = opcode;
  param = x.param;
  size = x.size;
  source = 0;
  address = x.address;
  payload = x.bytes;
  mask = x.mask;
  corrupt = 0;
  small = leb-true x.size 6 is;
})))

-- an access, if the opcode is one of channel A and the size at most a block
abbrev pub access_of : (w : ℕ) → Operation → Option (Op w)
access_of w x = access_if w x (a_with x.opcode) (nat_le x.size 6) refl

-- the operation with these fields, if there is one
abbrev pub asked_for : (w : ℕ) → Operation → Option (Op w)
asked_for w x =
    if x.kind == 0 then Some (op.Load x.address x.size) else
    if x.kind == 1 then Some (op.Store x.address x.size x.value) else
    if x.kind == 2 then acquire_of w x else
    if x.kind == 3 then Some (op.AcquireWhole x.block x.bytes) else
    if x.kind == 4 then release_of w x else
    if x.kind == 5 then access_of w x else None
