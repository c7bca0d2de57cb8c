-- What many files of this folder speak of.
pub use Rattle.tl_beat.specs.declared.beat.Beat.{Beat}
pub use Rattle.tl_beat.specs.declared.beat.BeatA.{BeatA}
pub use Rattle.tl_beat.specs.declared.beat.BeatD.{BeatD}
pub use Rattle.tl_beat.specs.declared.opcode.OpD.{OpD}
pub use Rattle.tl_burst.specs.declared.message.Message.{Message}
pub use Rattle.tl_burst.specs.statement.Burst.{beat_of, begun, d_beat_of}
pub use Rattle.tl_burst.specs.statement.Messages.{History, channel_of}
unfoldable pub use Rattle.tl_burst.specs.statement.Messages.{unfinished}
pub use Rattle.tl_bytes.specs.statement.Bytes.{could_be, tells}
unfoldable pub use Rattle.tl_bytes.specs.statement.Bytes.{carried_byte}
pub use Rattle.tl_bytes.proofs.LateAnswers.{tells_late}
pub use Rattle.tl_client.specs.statement.Send.{sourced}
pub use Rattle.tl_coherence.proofs.flow.FlowTaken.{each-taken}
pub use Rattle.tl_coherence.proofs.flow.FlowTraces.{trace-flows}
pub use Rattle.tl_coherence.proofs.flow.Flows.{flowed}
pub use Rattle.tl_coherence.proofs.links.FromInvariant.{matched-given}
pub use Rattle.tl_coherence.proofs.protocol.HeadOfD.{IsGrantDue, answer-due, grant-due, grant-rendered, own_view}
pub use Rattle.tl_coherence.proofs.queues.Carried.{IsNext}
pub use Rattle.tl_coherence.proofs.queues.FirstToken.{IsFirst, first-token}
pub use Rattle.tl_coherence.proofs.queues.Phases.{and_left, and_right}
pub use Rattle.tl_coherence.proofs.queues.Tokens.{holds-first}
pub use Rattle.tl_coherence.specs.protocol.Packet.{Acquire, Answer, Grant, GrantAck, Kind, Probe, ProbeAck, Release}
pub use Rattle.tl_coherence.specs.protocol.Packet.{ReleaseAck, Request}
pub use Rattle.tl_coherence.specs.protocol.Protocol.{Acquires, Block, SourceState, is_on, packet, view}
pub use Rattle.tl_coherence.specs.refinement.AbstractStep.{AbstractState}
pub use Rattle.tl_coherence.specs.refinement.MemoryRelation.{IsOpened}
pub use Rattle.tl_coherence.specs.refinement.PacketMessages.{message_of, message_of_kind}
unfoldable pub use Rattle.tl_coherence.specs.refinement.PacketMessages.{block_message}
pub use Rattle.tl_coherence.specs.refinement.SimulationRelation.{MonitorRelations, SimulationRelation, is_caching}
unfoldable pub use Rattle.tl_coherence.specs.statement.Flow.{flow, trace_of}
pub use Rattle.tl_coherence.specs.statement.Headline.{IsGiven}
pub use Rattle.tl_coherence.specs.statement.Log.{Log}
unfoldable pub use Rattle.tl_coherence.specs.statement.Log.{system_after}
pub use Rattle.tl_coherence.specs.statement.Machine.{Requests}
unfoldable pub use Rattle.tl_coherence.specs.statement.OneMemory.{one_memory_after}
pub use Rattle.tl_manager.specs.statement.Service.{is_access_answer}
pub use Rattle.tl_params.specs.declared.config.Config.{Config}
pub use Rattle.tl_params.specs.declared.perm.Perm.{Perm}
pub use Rattle.tl_rules.specs.statement.Conformance.{same_perm}
unfoldable pub use Rattle.tl_rules.specs.statement.Conformance.{on_link}
pub use Rattle.tl_rules.specs.statement.Effect.{Memory}
pub use Rattle.tl_rules.specs.statement.History.{asks_for, block_at, ends, grants, says_held}
unfoldable pub use Rattle.tl_rules.specs.statement.History.{held, request_of}
pub use Rattle.tl_rules.specs.statement.Windows.{leaves}
unfoldable pub use Rattle.tl_rules.specs.statement.Windows.{is_free}
