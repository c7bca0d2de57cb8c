-- Whether a client has an operation.
use Rattle.std.proofs.Common.{◌≡◌, ℕ, Bool, true, false, not, ◌&&◌, ◌||◌, nat_le, refl}
use Rattle.std.specs.Prelude.{Option, Some, None, is_some, slice_get}
use Rattle.tl_beat.specs.statement.First.{first_if}
use Rattle.tl_params.specs.declared.config.ClientConfig.{ClientConfig}
use Rattle.tl_params.specs.declared.config.Config.{Config}
use Rattle.tl_client.specs.declared.busy.Busy.{Busy}
use Rattle.tl_client.specs.declared.busy.Busy.TheVariants.{B4, B5}
use Rattle.tl_client.specs.declared.operation.Op.{Op}
use Rattle.tl_client.specs.statement.Ask.{breaks_b4, is_formed, op_block}
use Rattle.tl_coherence.specs.statement.System.{terms_at}
use Rattle.tl_random.specs.statement.Random.{has_operation}

-- what one is, the other isn't
pub turned : (a b : Bool) → a ≡ not b → b ≡ not a
turned true true e = e
turned true false e = refl
turned false true e = refl
turned false false e = e

-- there is no reason where neither is one
pub no_reason : (r : Option Busy) (x y : Bool) → r ≡ first_if x B4 (first_if y B5 None)
    → not (is_some r) ≡ (not x && not y)
no_reason r true y e = rw e refl
no_reason r false true e = rw e refl
no_reason r false false e = rw e refl

-- that of the client's terms
pub by_terms : {w : ℕ} (config : Config) (client : ℕ) (c : ClientConfig) (op : Op w) (b : Bool)
    → slice_get config.clients.items client ≡ Some c
    → b ≡ (not (breaks_b4 c.level op) && not (nat_le config.blocks (op_block op) || not (is_formed c.level op)))
    → b ≡ has_operation (terms_at config client) op
by_terms config client c op b is e = rw is e
