-- What many files of this folder speak of.
pub use Rattle.tl_beat.specs.declared.beat.Beat.{Beat}
pub use Rattle.tl_beat.specs.declared.beat.BeatA.{BeatA}
pub use Rattle.tl_beat.specs.declared.beat.BeatD.{BeatD}
pub use Rattle.tl_beat.specs.declared.beat.Link.{Link}
pub use Rattle.tl_beat.specs.declared.channel.Channel.{Channel}
pub use Rattle.tl_beat.specs.declared.opcode.OpA.{OpA}
pub use Rattle.tl_beat.specs.declared.opcode.OpD.{OpD}
pub use Rattle.tl_beat.specs.statement.Width.{IsWidth}
pub use Rattle.tl_burst.proofs.Begun.{length-begun}
pub use Rattle.tl_burst.specs.declared.message.MessageA.{MessageA}
pub use Rattle.tl_burst.specs.statement.Burst.{IsBlankAfter, a_beat_of, beats_of, begun, data_beats, reaches}
pub use Rattle.tl_burst.specs.statement.Messages.{History, channel_of}
unfoldable pub use Rattle.tl_burst.specs.statement.Messages.{unfinished}
pub use Rattle.tl_bytes.specs.statement.Bytes.{Access, asked_by, ends_request, is_access, is_of, writes}
unfoldable pub use Rattle.tl_bytes.specs.statement.Bytes.{carried_byte, pending_accesses}
pub use Rattle.tl_client.specs.declared.operation.Op.{Op}
pub use Rattle.tl_client.specs.declared.reply.Reply.{Reply}
pub use Rattle.tl_client.specs.declared.verdict.Finish.{Finish}
pub use Rattle.tl_client.specs.statement.Endpoint.{EndConfig}
pub use Rattle.tl_client.specs.statement.Send.{sourced}
pub use Rattle.tl_coherence.proofs.bound.Settling.{given-before}
pub use Rattle.tl_coherence.proofs.deliveries.Matching.{shadow}
pub use Rattle.tl_coherence.proofs.flow.FlowTraces.{trace-flows}
pub use Rattle.tl_coherence.proofs.flow.Flows.{flowed}
pub use Rattle.tl_coherence.proofs.links.FromInvariant.{matched-given}
pub use Rattle.tl_coherence.proofs.memory.OneMemory.{effect-sourced}
pub use Rattle.tl_coherence.proofs.queues.Carried.{tail_is}
pub use Rattle.tl_coherence.proofs.theorem.Continuing.{answering-delivered}
pub use Rattle.tl_coherence.specs.declared.event.Event.{Event}
pub use Rattle.tl_coherence.specs.declared.event.Event.TheVariants.{Ask, Deliver}
pub use Rattle.tl_coherence.specs.declared.event.Outcome.{Outcome}
pub use Rattle.tl_coherence.specs.refinement.AbstractStep.{AbstractState}
pub use Rattle.tl_coherence.specs.refinement.SimulationRelation.{IsRequest, MonitorRelations, SimulationRelation}
unfoldable pub use Rattle.tl_coherence.specs.statement.Flow.{EachTaken, trace_of}
pub use Rattle.tl_coherence.specs.statement.Headline.{IsGiven}
pub use Rattle.tl_coherence.specs.statement.Log.{Log}
unfoldable pub use Rattle.tl_coherence.specs.statement.Log.{IsLog, system_after}
pub use Rattle.tl_coherence.specs.statement.Machine.{Machine, Open, Requests, after_reply, moved, pool_of, with_memory}
pub use Rattle.tl_coherence.specs.statement.Machine.{with_open}
unfoldable pub use Rattle.tl_coherence.specs.statement.OneMemory.{accesses_answered, one_memory_after}
unfoldable pub use Rattle.tl_coherence.specs.statement.Step.{stepped}
pub use Rattle.tl_concord.proofs.Beats.{same_d}
pub use Rattle.tl_concord.proofs.Responses.{responses}
pub use Rattle.tl_concord.proofs.WritesBeside.{same_open}
pub use Rattle.tl_concord.specs.statement.Accesses.{IsOfAccess}
pub use Rattle.tl_concord.specs.statement.Responses.{IsResponse, IsRightBeat}
pub use Rattle.tl_manager.specs.code.Kept.{illegal_message_at}
pub use Rattle.tl_manager.specs.statement.Offer.{level_of}
pub use Rattle.tl_one_memory.specs.statement.Run.{Performs, Run, Takes, everywhere}
unfoldable pub use Rattle.tl_one_memory.specs.statement.Run.{found_in, memory_in, run_before, trace_in}
pub use Rattle.tl_params.specs.declared.config.Config.{Config}
pub use Rattle.tl_params.specs.declared.level.Level.{Level}
pub use Rattle.tl_rules.specs.declared.past.Request.{Request}
pub use Rattle.tl_rules.specs.statement.Conformance.{Trace}
unfoldable pub use Rattle.tl_rules.specs.statement.Conformance.{on_link}
pub use Rattle.tl_rules.specs.statement.Effect.{AccessResult, Memory, after}
unfoldable pub use Rattle.tl_rules.specs.statement.Effect.{bytes_from, effect}
pub use Rattle.tl_rules.specs.statement.History.{block_at, ends, grants, is_grant, is_release_ack}
unfoldable pub use Rattle.tl_rules.specs.statement.History.{held, pending, request_of}
pub use Rattle.tl_rules.specs.statement.Windows.{leaves}
unfoldable pub use Rattle.tl_rules.specs.statement.Windows.{is_free}
pub use Rattle.tl_true_bytes.specs.code.Beside.{IsBeside, IsOpenAs, after_access, happened, performed_all, result_in}
pub use Rattle.tl_true_bytes.specs.code.Beside.{with_end, with_reply, with_whole}
unfoldable pub use Rattle.tl_true_bytes.specs.code.Beside.{run_of}
