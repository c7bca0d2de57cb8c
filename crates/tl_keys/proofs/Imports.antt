-- What many files of this folder speak of.
pub use Rattle.tl_beat.specs.declared.beat.Beat.{Beat}
pub use Rattle.tl_beat.specs.declared.beat.Beat.TheVariants.{A, B, C, D, E}
pub use Rattle.tl_beat.specs.declared.beat.BeatD.{BeatD}
pub use Rattle.tl_beat.specs.declared.channel.Channel.{Channel}
pub use Rattle.tl_burst.specs.statement.Messages.{History, channel_of}
unfoldable pub use Rattle.tl_burst.specs.statement.Messages.{unfinished}
pub use Rattle.tl_burst.specs.statement.Part.{completes, is_empty}
pub use Rattle.tl_keys.specs.statement.Restricted.{Name, is_kept, names}
unfoldable pub use Rattle.tl_keys.specs.statement.Restricted.{restricted}
pub use Rattle.tl_keys.specs.statement.Restricted.Name.{OfBlock, OfSink, OfSource}
pub use Rattle.tl_params.specs.declared.profile.Profile.{Profile}
pub use Rattle.tl_rules.specs.statement.History.{asks_for, begins, block_at, ends}
unfoldable pub use Rattle.tl_rules.specs.statement.History.{pending, release_of, request_of}
