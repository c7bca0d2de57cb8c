-- A message of a client that is complete with a beat.
use Rattle.std.specs.Prelude.{ℕ, ◌∷◌, ◌≡◌, ◌<◌, true}
use Rattle.tl_beat.specs.declared.beat.Beat.{Beat}
use Rattle.tl_beat.specs.declared.beat.Link.{Link}
use Rattle.tl_burst.specs.declared.message.Message.{Message}
use Rattle.tl_burst.specs.declared.message.Message.TheVariants as message
use Rattle.tl_burst.specs.statement.Burst.{IsBurst}
use Rattle.tl_burst.specs.statement.Messages.{channel_of, unfinished}
use Rattle.tl_params.specs.declared.config.Config.{Config}
use Rattle.tl_rules.specs.statement.Conformance.{on_link}
use Rattle.tl_rules.specs.statement.History.{ends, block_at}
use Rattle.tl_manager.specs.code.BlockState.{IsPlaced}
use Rattle.tl_rules.specs.laws.Typed.{HasBlock}
use Rattle.tl_manager.specs.code.Ready.{IsTaken}
use Rattle.tl_manager.specs.statement.End.{End}

-- the beat passes, and the message is that of its burst, with a payload of 64 bytes
pub record IsComplete {w : ℕ} (config : Config) (link : Link) (x : Beat w) (message : Message w) (e : End w) : Type 0
  where
    pub taken : IsTaken config link x e
    pub last : ends x (on_link link.0 e.trace) ≡ true
    pub burst : IsBurst message (x ∷ unfinished (channel_of x) (on_link link.0 e.trace))
    pub filled : HasBlock message

-- if there are this many blocks and clients, what is due for it can be done
abbrev pub IsDue : {w : ℕ} → ℕ → ℕ → Link → Message w → Type 0
IsDue blocks clients link (message.A m) = IsPlaced blocks clients link m
IsDue blocks clients link (message.C m) = block_at m.address < blocks
IsDue blocks clients link (message.E m) = m.sink < 8
IsDue blocks clients link _ = ⊥
