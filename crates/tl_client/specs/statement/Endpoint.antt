-- A client's end of its link.
use Rattle.std.specs.Prelude.{ℕ, Bool, true, false, List, [], ◌==◌, if◌then◌else◌, replicate, unwrap_or, Option, None}
use Rattle.tl_burst.specs.declared.message.Message.{Message}
use Rattle.tl_burst.specs.statement.Messages.{History}
use Rattle.tl_params.specs.declared.level.Level.{Level}
use Rattle.tl_params.specs.declared.perm.Perm.{Perm}
use Rattle.tl_params.specs.declared.perm.Perm.TheVariants as perm
use Rattle.tl_params.specs.declared.profile.Profile.{Profile}
use Rattle.tl_rules.specs.statement.History.{held}
use Rattle.tl_rules.specs.statement.Admission.{sent}

-- the configuration of a client: level and profile of its link, its number of sources for requests and, as many, for
-- Releases, and the number of blocks of the map
pub record EndConfig : Type 0 where
  pub level : Level
  pub profile : Profile
  pub sources : ℕ
  pub blocks : ℕ

-- A client's end of its link. The permissions held and the pending keys are those of its history, which has the beats
-- that it took and the messages that it handed out. Blocks go by their number.
pub record Endpoint (w : ℕ) : Type 0 where
  pub past : History w
  -- a beat was refused
  pub closed : Bool
  -- the 64 bytes of each copy
  pub copies : ℕ → Option (List ℕ)
  -- the 64 bytes of each AcquireWhole that waits for its Grant
  pub waiting : ℕ → Option (List ℕ)

-- there are no bytes for any block
abbrev pub nothing : ℕ → Option (List ℕ)
nothing block = None

-- the end of a new client
abbrev pub fresh : {w : ℕ} → Endpoint w
fresh = record { past = []; closed = false; copies = nothing; waiting = nothing }

-- the bytes of a block, all zero
abbrev pub zeros : List ℕ
zeros = replicate 64 0

-- the bytes of a copy, zeros if there is none
abbrev pub copy_at : {w : ℕ} → Endpoint w → ℕ → List ℕ
copy_at e block = unwrap_or (e.copies block) zeros

-- the map `blocks`, with these bytes for this block
abbrev pub set_at : ℕ → Option (List ℕ) → (ℕ → Option (List ℕ)) → ℕ → Option (List ℕ)
set_at block bytes blocks = λ k. if k == block then bytes else blocks k

-- the end with this history
abbrev pub with_past : {w : ℕ} → History w → Endpoint w → Endpoint w
with_past t e = record e { past = t }

-- the end with these bytes as the copy of a block, or with no copy
abbrev pub with_copy : {w : ℕ} → ℕ → Option (List ℕ) → Endpoint w → Endpoint w
with_copy block bytes e = record e { copies = set_at block bytes e.copies }

-- the end with these bytes waiting for the Grant of a block, or with none
abbrev pub with_waiting : {w : ℕ} → ℕ → Option (List ℕ) → Endpoint w → Endpoint w
with_waiting block bytes e = record e { waiting = set_at block bytes e.waiting }

-- the end without the copy, if None is held of the block
abbrev pub kept_for : {w : ℕ} → ℕ → Perm → Endpoint w → Endpoint w
kept_for block perm.None e = with_copy block None e
kept_for block _ e = e

-- the permission held of a block
abbrev pub held_at : {w : ℕ} → Endpoint w → ℕ → Perm
held_at e block = held block e.past

-- the end after a message was handed out
abbrev pub sending : {w : ℕ} → Message w → Endpoint w → Endpoint w
sending m e = with_past (sent m e.past) e

-- the end after a beat was refused
abbrev pub shut : {w : ℕ} → Endpoint w → Endpoint w
shut e = record e { closed = true }
