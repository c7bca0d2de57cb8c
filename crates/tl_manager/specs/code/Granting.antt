-- A Grant by its parts.
use Rattle.std.specs.Prelude.{ℕ, List, Option, Some, None, false}
use Rattle.std.proofs.Common.{lit≤}
use Rattle.tl_beat.specs.declared.opcode.OpD.{OpD}
use Rattle.tl_beat.specs.declared.opcode.OpD.TheVariants as d
use Rattle.tl_burst.specs.declared.message.Message.{Message}
use Rattle.tl_burst.specs.declared.message.Message.TheVariants as message
use Rattle.tl_params.specs.declared.param.Cap.{Cap}
use Rattle.tl_params.specs.statement.Param.{cap_code}
use Rattle.tl_manager.specs.statement.Handing.{no_payload}

abbrev pub grant_of_fields : {w : ℕ} → OpD → ℕ → ℕ → Cap → List ℕ → Message w
grant_of_fields opcode source sink cap payload = message.D (record {
  opcode = opcode;
  param = cap_code cap;
  size = 6;
  source = source;
  sink = sink;
  denied = false;
  payload = payload;
  corrupt = 0;
  small = lit≤ tt;
})

-- with its source and sink, its cap, and the bytes of its block if it carries them
abbrev pub grant_of : {w : ℕ} → ℕ → ℕ → Cap → Option (List ℕ) → Message w
grant_of source sink cap None = grant_of_fields d.Grant source sink cap no_payload
grant_of source sink cap (Some bytes) = grant_of_fields d.GrantData source sink cap bytes
