-- The access that the fields of an operation show.
use Rattle.std.proofs.Common.{◌≡◌, ◌≤◌, ℕ, Bool, true, false, sym, ap, ◌∙◌, true≢false}
use Rattle.std.specs.Prelude.{nat_le, Option, Some}
use Rattle.std.proofs.lemmas.Bool.{leb-true, le-leb}
use Rattle.std.proofs.Math.Bridge.{le_prop}
use Rattle.tl_beat.specs.declared.opcode.OpA.{OpA}
use Rattle.tl_burst.specs.declared.message.Message.TheVariants as message
use Rattle.tl_client.specs.declared.operation.Op.{Op}
use Rattle.tl_client.specs.declared.operation.Op.TheVariants as op
use Rattle.tl_pictures.specs.declared.operation.Operation.{Operation}
use Rattle.tl_pictures.specs.statement.Operation.{access_if}

-- the access of these fields
made : (w : ℕ) (x : Operation) → OpA → x.size ≤ 6 → Option (Op w)
made w x opcode small = Some (op.Access (message.A (record {
  opcode = opcode;
  param = x.param;
  size = x.size;
  source = 0;
  address = x.address;
  payload = x.bytes;
  mask = x.mask;
  corrupt = 0;
  small = small;
})))

-- an access whose size is small is that of its fields
pub access_made : (w : ℕ) (x : Operation) (opcode : OpA) (o : Option OpA) (fits : Bool) (is : nat_le x.size 6 ≡ fits)
    → Some opcode ≡ o → (small : x.size ≤ 6)
    → Some (op.Access (message.A (record {
      opcode = opcode;
      param = x.param;
      size = x.size;
      source = 0;
      address = x.address;
      payload = x.bytes;
      mask = x.mask;
      corrupt = 0;
      small = small;
    }))) ≡ access_if w x o fits is
unfolding made
access_made w x opcode o false is e small = absurd (true≢false (sym (le-leb x.size 6 small) ∙ is))
access_made w x opcode o true is e small =
    ap (made w x opcode) (le_prop small (leb-true x.size 6 is)) ∙ ap (λ p. access_if w x p true is) e
