-- What many files of this folder speak of.
pub use Rattle.tl_beat.specs.declared.channel.Channel.{Channel}
unfoldable pub use Rattle.tl_beat.specs.statement.Digits.{digits, lane_digits}
pub use Rattle.tl_beat.specs.statement.Line.{channel_named}
unfoldable pub use Rattle.tl_beat.specs.statement.Line.{pieces, spaced}
pub use Rattle.tl_params.proofs.Options.{some_pair}
pub use Rattle.tl_schedule.specs.code.EventReading.{ask_at}
pub use Rattle.tl_schedule.specs.code.FieldReading.{bytes_in, front, last, size_in}
unfoldable pub use Rattle.tl_schedule.specs.code.FieldReading.{number_in}
pub use Rattle.tl_schedule.specs.code.Then.{◌>>=◌}
pub use Rattle.tl_schedule.specs.statement.EventLine.{Access, Acquire, Asked, Deliver, Fits, Get, Load, Release, Said}
pub use Rattle.tl_schedule.specs.statement.EventLine.{Store, Whole, event_of, said_fields}
