-- What a manager keeps of a link is true of it at its end.
use Rattle.std.specs.Prelude.{ℕ, Some, ◌≡◌, length}
use Rattle.tl_beat.specs.declared.beat.Link.{Link}
use Rattle.tl_beat.specs.declared.channel.Channel.TheVariants as channel
use Rattle.tl_burst.specs.statement.Messages.{History, unfinished}
use Rattle.tl_params.specs.declared.config.Config.{Config}
use Rattle.tl_params.specs.declared.perm.Perm.{Perm}
use Rattle.tl_rules.specs.statement.Conformance.{Trace, on_link}
use Rattle.tl_rules.specs.statement.Legality.{is_one_of}
use Rattle.tl_manager.specs.code.BlockState.{IsBlockState}
use Rattle.tl_manager.specs.code.Kept.{IsKept}
use Rattle.tl_manager.specs.statement.End.{End}
use Rattle.tl_manager.specs.statement.Offer.{level_of}
use Rattle.tl_manager.specs.declared.manager.block_state.BlockState.{BlockState}
use Rattle.tl_manager.specs.declared.manager.link_state.LinkState.{LinkState}

-- the bursts that are unfinished on a link
pub record IsCarried {w : ℕ} (link_state : LinkState w) (client : ℕ) (t : Trace w) : Type 0 where
  pub requests : link_state.requests ≡ unfinished channel.A (on_link client t)
  pub reports : link_state.reports ≡ unfinished channel.C (on_link client t)

-- with its level, and the mark of a refusal
pub record IsLinkState {w : ℕ} (config : Config) (link_state : LinkState w) (client : ℕ) (e : End w) : Type 0 where
  pub level : level_of config client ≡ Some link_state.level
  pub closed : link_state.closed ≡ is_one_of client e.closed
  pub carried : IsCarried link_state client e.trace

-- the link and the blocks are those of an end with this history of the link
pub record IsLinkPast {w : ℕ} {D : Type 0} (perm_of : D → ℕ → ℕ → Perm) (link : Link) (link_state : LinkState w)
    (block_state : BlockState w D) (t : History w) : Type 0 where
  pub config : Config
  pub end : End w
  pub kept : IsKept config end
  pub block_state_is : IsBlockState perm_of config block_state end.trace end.memory
  pub link_state_is : IsLinkState config link_state link.0 end
  pub size : length block_state.blocks.bytes.items ≡ config.blocks
  pub past : t ≡ on_link link.0 end.trace
