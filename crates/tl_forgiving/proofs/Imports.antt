-- What many files of this folder speak of.
pub use Rattle.tl_beat.specs.declared.beat.Beat.{Beat}
pub use Rattle.tl_beat.specs.declared.beat.Beat.TheVariants.{A, B, C, D, E}
pub use Rattle.tl_beat.specs.declared.channel.Channel.{Channel}
pub use Rattle.tl_burst.specs.statement.Messages.{History, channel_of}
unfoldable pub use Rattle.tl_burst.specs.statement.Messages.{unfinished}
pub use Rattle.tl_burst.specs.statement.Part.{completes, is_empty}
pub use Rattle.tl_params.specs.declared.level.Level.{Level}
pub use Rattle.tl_params.specs.declared.liberties.Liberties.{Liberties}
pub use Rattle.tl_params.specs.declared.rule.Rule.{Rule}
pub use Rattle.tl_rules.specs.statement.History.{asks_for, begins, block_at, ends, is_grant, is_release}
pub use Rattle.tl_rules.specs.statement.History.{is_release_ack}
unfoldable pub use Rattle.tl_rules.specs.statement.History.{grant_sink, pending, release_of, request_of}
pub use Rattle.tl_forgiving.specs.statement.Forgiving.{IsWithin}
