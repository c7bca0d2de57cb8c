-- What many files of this folder speak of.
pub use Rattle.tl_beat.specs.declared.beat.Beat.{Beat}
pub use Rattle.tl_beat.specs.declared.beat.BeatD.{BeatD}
pub use Rattle.tl_beat.specs.declared.beat.Link.{Link}
pub use Rattle.tl_beat.specs.declared.channel.Channel.{Channel}
pub use Rattle.tl_burst.specs.statement.Burst.{reaches}
unfoldable pub use Rattle.tl_burst.specs.statement.Messages.{unfinished}
pub use Rattle.tl_bytes.proofs.Finding.{Among, among-filter, among-map, none-some, same-some}
pub use Rattle.tl_bytes.proofs.Pending.{IsPending, asked-by_now}
pub use Rattle.tl_bytes.specs.declared.telling.Telling.{Telling}
pub use Rattle.tl_bytes.specs.statement.Bytes.{Access, access_writes, could_be, is_of, pending_value}
unfoldable pub use Rattle.tl_bytes.specs.statement.Bytes.{carried_byte, pending_accesses, windows_since}
unfoldable pub use Rattle.tl_bytes.specs.statement.Free.{is_free}
pub use Rattle.tl_one_memory.specs.statement.Run.{IsAnswer, IsPerformed, IsTaken, Leaves, Performs, Run, Stores}
pub use Rattle.tl_one_memory.specs.statement.Run.{Takes}
unfoldable pub use Rattle.tl_one_memory.specs.statement.Run.{IsClean, IsRun, found_in, memory_in, trace_in}
pub use Rattle.tl_params.specs.declared.perm.Perm.{Perm}
pub use Rattle.tl_rules.specs.statement.Conformance.{Trace}
unfoldable pub use Rattle.tl_rules.specs.statement.Conformance.{on_link}
pub use Rattle.tl_rules.specs.statement.Effect.{Memory}
unfoldable pub use Rattle.tl_rules.specs.statement.Effect.{effect}
pub use Rattle.tl_rules.specs.statement.History.{block_at, is_release_ack}
pub use Rattle.tl_commits.specs.statement.Events.{Events}
unfoldable pub use Rattle.tl_commits.specs.statement.Events.{beats_of}
unfoldable pub use Rattle.tl_commits.specs.statement.Seen.{seen}
pub use Rattle.tl_commit_memory.specs.statement.CommitRun.{CommitRun, Committed, Happened}
unfoldable pub use Rattle.tl_commit_memory.specs.statement.CommitRun.{IsCommitRun, events_in, run_in}
