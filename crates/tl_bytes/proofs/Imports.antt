-- What many files of this folder speak of.
pub use Rattle.tl_beat.specs.declared.beat.Beat.{Beat}
pub use Rattle.tl_beat.specs.declared.beat.Link.{Link}
unfoldable pub use Rattle.tl_burst.specs.statement.Messages.{unfinished}
pub use Rattle.tl_bytes.specs.declared.block_bytes.BlockBytes.{BlockBytes}
pub use Rattle.tl_bytes.specs.declared.telling.Telling.{Telling}
pub use Rattle.tl_bytes.specs.declared.telling.Told.{Told}
pub use Rattle.tl_bytes.specs.declared.write.Write.{Write}
pub use Rattle.tl_bytes.specs.statement.Bytes.{Access, told_as}
unfoldable pub use Rattle.tl_bytes.specs.statement.Bytes.{carried_byte, last_told, last_window, may_be, may_read}
unfoldable pub use Rattle.tl_bytes.specs.statement.Bytes.{pending_accesses, window_began, windows_since}
pub use Rattle.tl_bytes.specs.statement.Known.{KnowsBlock, tellings_of}
unfoldable pub use Rattle.tl_bytes.specs.statement.Known.{tellings_at}
pub use Rattle.tl_rules.specs.statement.Conformance.{Trace}
unfoldable pub use Rattle.tl_rules.specs.statement.Conformance.{on_link}
unfoldable pub use Rattle.tl_bytes.specs.statement.Free.{is_free}
