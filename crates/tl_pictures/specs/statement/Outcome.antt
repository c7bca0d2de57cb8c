-- The numbers of a client's replies and answers in C.
use Rattle.std.specs.Prelude.{ℕ, List, replicate}
use Rattle.tl_params.specs.declared.perm.Perm.{Perm}
use Rattle.tl_params.specs.declared.perm.Perm.TheVariants as perm
use Rattle.tl_client.specs.declared.busy.Busy.{Busy}
use Rattle.tl_client.specs.declared.busy.Busy.TheVariants.{B1, B2, B3, B4, B5}
use Rattle.tl_client.specs.declared.reply.Reply.{Reply}
use Rattle.tl_client.specs.declared.reply.Reply.TheVariants as reply
use Rattle.tl_client.specs.declared.verdict.Finish.{Finish}
use Rattle.tl_client.specs.declared.verdict.Finish.TheVariants as finish
use Rattle.tl_client.specs.declared.verdict.Verdict.{Verdict}
use Rattle.tl_client.specs.declared.verdict.Verdict.TheVariants as verdict
use Rattle.tl_pictures.specs.declared.outcome.Outcome.{Outcome}
use Rattle.tl_pictures.specs.declared.outcome.Reception.{Reception}

-- the number of a reason why a client is busy
abbrev pub busy_number : Busy → ℕ
busy_number B1 = 1
busy_number B2 = 2
busy_number B3 = 3
busy_number B4 = 4
busy_number B5 = 5

-- the number of a permission
abbrev pub perm_number : Perm → ℕ
perm_number perm.None = 0
perm_number perm.Branch = 1
perm_number perm.Trunk = 2

-- the reply to an operation
abbrev pub outcome_of : Reply → Outcome
outcome_of (reply.Value value) = record { value = value; kind = 0; source = 0; busy = 0 }
outcome_of reply.Stored = record { value = 0; kind = 1; source = 0; busy = 0 }
outcome_of reply.Miss = record { value = 0; kind = 2; source = 0; busy = 0 }
outcome_of (reply.Started source) = record { value = 0; kind = 3; source = source; busy = 0 }
outcome_of (reply.Busy busy) = record { value = 0; kind = 4; source = 0; busy = busy_number busy }

-- 64 zeros
abbrev pub no_bytes : List ℕ
no_bytes = replicate 64 0

-- the result of the operation with this source
abbrev pub finish_of : ℕ → Finish → Reception
finish_of source finish.Ack = record { bytes = no_bytes; kind = 2; source = source; size = 0; perm = 0 }
finish_of source finish.Hint = record { bytes = no_bytes; kind = 3; source = source; size = 0; perm = 0 }
finish_of source (finish.Data size bytes) = record { bytes = bytes; kind = 4; source = source; size = size; perm = 0 }
finish_of source (finish.Granted perm) =
    record { bytes = no_bytes; kind = 5; source = source; size = 0; perm = perm_number perm }
finish_of source finish.Released = record { bytes = no_bytes; kind = 6; source = source; size = 0; perm = 0 }

-- the answer to a beat
abbrev pub reception_of : Verdict → Reception
reception_of verdict.Stalled = record { bytes = no_bytes; kind = 0; source = 0; size = 0; perm = 0 }
reception_of verdict.Taken = record { bytes = no_bytes; kind = 1; source = 0; size = 0; perm = 0 }
reception_of (verdict.Done source finish) = finish_of source finish
