-- What many files of this folder speak of.
pub use Rattle.tl_beat.specs.declared.beat.Beat.{Beat}
pub use Rattle.tl_beat.specs.declared.beat.Beat.TheVariants.{A, B, C, D, E}
pub use Rattle.tl_beat.specs.declared.beat.BeatA.{BeatA}
pub use Rattle.tl_beat.specs.declared.beat.BeatB.{BeatB}
pub use Rattle.tl_beat.specs.declared.beat.BeatC.{BeatC}
pub use Rattle.tl_beat.specs.declared.beat.BeatD.{BeatD}
pub use Rattle.tl_beat.specs.declared.beat.BeatE.{BeatE}
pub use Rattle.tl_beat.specs.declared.channel.Channel.{Channel}
pub use Rattle.tl_burst.specs.statement.Messages.{History, channel_of}
unfoldable pub use Rattle.tl_burst.specs.statement.Messages.{unfinished}
pub use Rattle.tl_params.specs.declared.liberties.Liberties.{Liberties}
pub use Rattle.tl_rules.specs.statement.History.{begins, block_at, ends}
unfoldable pub use Rattle.tl_rules.specs.statement.History.{grant_sink, pending, probe_of, release_of, request_of}
pub use Rattle.tl_renaming.specs.statement.Renamed.{IsFaithful, IsOneToOne, Renaming, renamed, renamed_a, renamed_address}
pub use Rattle.tl_renaming.specs.statement.Renamed.{renamed_b, renamed_c, renamed_d, renamed_e, renamed_history}
