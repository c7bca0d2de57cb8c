-- Worked histories: until when a Grant counts as being granted.
use Rattle.std.proofs.Common.{◌≡◌, ℕ, false, true, [], ◌∷◌, refl}
use Rattle.std.specs.Prelude.{None, Some, replicate}
use Rattle.tl_beat.specs.declared.beat.Beat.{Beat}
use Rattle.tl_beat.specs.declared.opcode.{OpA.OpA, OpD.OpD}
use Rattle.tl_burst.specs.statement.Messages.{History, unfinished}
use Rattle.tl_params.specs.declared.liberties.Liberties.{Liberties}
use Rattle.tl_params.specs.declared.perm.Perm.{Perm}
use Rattle.tl_params.specs.statement.Liberties.{no_liberties}
use Rattle.tl_rules.specs.statement.History.{grant_sink, pending, request_of}
use Rattle.tl_rules.specs.statement.Liberties.{held_under}
use Rattle.tl_monitor.specs.statement.Granting.{coming, granted_under}

-- the liberty `early` alone
abbrev only_early : Liberties
only_early = record no_liberties { early = true }

-- a beat of a request for Trunk of block 0, of its Grant, and of a GrantAck
abbrev acquire : Beat 16
acquire = Beat.A (record {
  opcode = OpA.AcquireBlock;
  param = 1;
  size = 6;
  source = 0;
  address = 0;
  mask = 65535;
  lanes = None;
  corrupt = false;
  carries = refl;
})

abbrev grant : Beat 16
grant = Beat.D (record {
  opcode = OpD.GrantData;
  param = 0;
  size = 6;
  source = 0;
  sink = 3;
  denied = false;
  lanes = Some (replicate 16 0);
  corrupt = false;
  carries = refl;
})

abbrev acknowledge : ℕ → Beat 16
acknowledge sink = Beat.E (record { sink = sink })

-- the first beat of the Grant has come
abbrev granting : History 16
granting = grant ∷ acquire ∷ []

from_its_first_beat : coming 0 granting ≡ Some Perm.Trunk
unfolding unfinished pending request_of grant_sink
from_its_first_beat = refl

of_its_block_alone : coming 1 granting ≡ None
unfolding unfinished pending request_of grant_sink
of_its_block_alone = refl

-- its GrantAck comes before its other beats
until_its_grant_ack : coming 0 (grant ∷ acknowledge 3 ∷ granting) ≡ None
unfolding unfinished pending request_of grant_sink
until_its_grant_ack = refl

not_until_another_grant_ack : coming 0 (grant ∷ acknowledge 2 ∷ granting) ≡ Some Perm.Trunk
unfolding unfinished pending request_of grant_sink
not_until_another_grant_ack = refl

-- then what was granted is held
held_from_then_on : granted_under only_early 0 (acknowledge 3 ∷ granting) ≡ Perm.Trunk
unfolding unfinished pending request_of grant_sink held_under
held_from_then_on = refl

nothing_is_held_before : held_under only_early 0 granting ≡ Perm.None
unfolding unfinished pending request_of grant_sink held_under
nothing_is_held_before = refl
