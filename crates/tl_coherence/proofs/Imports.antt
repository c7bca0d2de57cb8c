-- What many proofs speak of, of std, of the other crates and of the definitions of this one.
pub use Rattle.std.proofs.Math.Bool.{and-false, and_comm, or-true}
pub use Rattle.std.proofs.lemmas.Bool.{and_from, and_parts, and_right, cases_eq, cases_lt, eqb-false, not-false}
pub use Rattle.std.proofs.lemmas.Bool.{not-true, or_parts, or_right, true_from_ne_false}
pub use Rattle.std.proofs.lemmas.Bool.Decides.{nat_tests}
pub use Rattle.std.proofs.lemmas.List.{drop_all, length-replicate, reverse-append}
pub use Rattle.std.proofs.lemmas.List.Elements.{All-append, All-cons, All-head, All-nil}
pub use Rattle.std.proofs.lemmas.Nat.{mod_below}
pub use Rattle.std.proofs.lemmas.Option.{same_Some}
pub use Rattle.std.specs.Bool.{beq}
pub use Rattle.std.specs.Prelude.{⊤}
pub use Rattle.tl_beat.specs.declared.beat.Beat.{Beat}
pub use Rattle.tl_beat.specs.declared.beat.Beat.TheVariants.{B, C}
pub use Rattle.tl_beat.specs.declared.beat.BeatA.{BeatA}
pub use Rattle.tl_beat.specs.declared.beat.BeatB.{BeatB}
pub use Rattle.tl_beat.specs.declared.beat.BeatC.{BeatC}
pub use Rattle.tl_beat.specs.declared.beat.BeatD.{BeatD}
pub use Rattle.tl_beat.specs.declared.beat.BeatE.{BeatE}
pub use Rattle.tl_beat.specs.declared.beat.Link.{Link}
pub use Rattle.tl_beat.specs.declared.channel.Channel.{Channel}
pub use Rattle.tl_beat.specs.declared.opcode.OpA.{OpA}
pub use Rattle.tl_beat.specs.declared.opcode.OpB.{OpB}
pub use Rattle.tl_beat.specs.declared.opcode.OpC.{OpC}
pub use Rattle.tl_beat.specs.declared.opcode.OpD.{OpD}
pub use Rattle.tl_beat.specs.statement.First.{first_if}
pub use Rattle.tl_beat.specs.statement.Line.{IsInRange, IsWritable}
pub use Rattle.tl_beat.specs.statement.Opcode.{a_carries_data, b_carries_data, c_carries_data, d_carries_data}
pub use Rattle.tl_beat.specs.statement.Width.{IsWidth}
pub use Rattle.tl_burst.proofs.Begun.{length-begun}
pub use Rattle.tl_burst.proofs.Splitting.{beats-positive}
pub use Rattle.tl_burst.specs.declared.message.Message.{Message}
pub use Rattle.tl_burst.specs.declared.message.Message.TheVariants.{A, D, E}
pub use Rattle.tl_burst.specs.declared.message.MessageA.{MessageA}
pub use Rattle.tl_burst.specs.declared.message.MessageC.{MessageC}
pub use Rattle.tl_burst.specs.declared.message.MessageD.{MessageD}
pub use Rattle.tl_burst.specs.declared.message.MessageE.{MessageE}
pub use Rattle.tl_burst.specs.statement.Burst.{IsBlankAfter, IsZeroFrom, a_beat_of, beat_of, beats_of, begun, burst_of}
pub use Rattle.tl_burst.specs.statement.Burst.{c_beat_of, d_beat_of, data_beats, lanes_at, reaches}
pub use Rattle.tl_burst.specs.statement.Messages.{History, channel_in, channel_of, grown, same_control}
unfoldable pub use Rattle.tl_burst.specs.statement.Messages.{unfinished}
pub use Rattle.tl_burst.specs.statement.Part.{completes, is_empty}
pub use Rattle.tl_params.specs.declared.config.ClientConfig.{ClientConfig}
pub use Rattle.tl_params.specs.declared.config.Config.{Config}
pub use Rattle.tl_params.specs.declared.key.Key.{Key}
pub use Rattle.tl_params.specs.declared.key.Key.TheVariants.{AcquireOf, GrantAckOf, GrantSink, ProbeOf, ReleaseOf}
pub use Rattle.tl_params.specs.declared.key.Key.TheVariants.{ReleaseSource, RequestSource}
pub use Rattle.tl_params.specs.declared.level.Level.{Level}
pub use Rattle.tl_params.specs.declared.param.Cap.{Cap}
pub use Rattle.tl_params.specs.declared.param.Grow.{Grow}
pub use Rattle.tl_params.specs.declared.param.Prune.{Prune}
pub use Rattle.tl_params.specs.declared.param.Report.{Report}
pub use Rattle.tl_params.specs.declared.perm.Perm.{Perm}
pub use Rattle.tl_params.specs.declared.profile.Profile.{Profile}
pub use Rattle.tl_params.specs.declared.rule.Rule.{Rule}
pub use Rattle.tl_params.specs.declared.rule.Rule.TheVariants.{H1, H13, H4, H5, L1, L2, L3}
pub use Rattle.tl_params.specs.statement.Config.{all_sources_fit, blocks_fit, config_fault, sources_fit, trackers_fit}
pub use Rattle.tl_params.specs.statement.Param.{cap_code, cap_of, cap_right, grow_code, grow_left, prune_code}
pub use Rattle.tl_params.specs.statement.Param.{prune_left, prune_of, prune_right, report_at, report_code, report_left}
pub use Rattle.tl_params.specs.statement.Param.{report_right}
pub use Rattle.tl_params.specs.statement.Range.{is_from_to}
pub use Rattle.tl_rules.proofs.Bursts.{control_aligned, control_of_legal, next_rule}
pub use Rattle.tl_rules.proofs.Checks.{beats_room}
pub use Rattle.tl_rules.proofs.Handed.{held-whole, pending-whole, release_of-whole}
pub use Rattle.tl_rules.proofs.Later.{later-legal}
pub use Rattle.tl_rules.proofs.Legal.{legal_beat}
pub use Rattle.tl_rules.proofs.Local.{after-local, bytes_same, reply-local}
pub use Rattle.tl_rules.proofs.Payload.{payload-d}
pub use Rattle.tl_rules.proofs.Rooms.{room_in_block}
pub use Rattle.tl_rules.proofs.Sent.{held-sent_d, held_unsaid, is_last, not_last, pending-quiet}
pub use Rattle.tl_rules.proofs.Takeable.{part_bit}
pub use Rattle.tl_rules.proofs.Widths.{whole_block}
pub use Rattle.tl_rules.specs.code.Open.{open_request}
pub use Rattle.tl_rules.specs.statement.Admission.{is_outside, is_spoiled, payload_of, sent}
pub use Rattle.tl_rules.specs.statement.Conformance.{Trace, broken_in_order, comes_in_grant, comes_in_release}
pub use Rattle.tl_rules.specs.statement.Conformance.{comes_in_request, fits_grow, grows_from, is_acquire_block}
pub use Rattle.tl_rules.specs.statement.Conformance.{is_grant_without_data, prunes_from, same_perm}
unfoldable pub use Rattle.tl_rules.specs.statement.Conformance.{broken_after, broken_order, on_link}
pub use Rattle.tl_rules.specs.statement.Effect.{AccessResult, IsBlock, Memory, SameBlock, answer_of, as_payload}
pub use Rattle.tl_rules.specs.statement.Effect.{byte_of}
unfoldable pub use Rattle.tl_rules.specs.statement.Effect.{bytes_from, effect, number_from}
pub use Rattle.tl_rules.specs.statement.History.{asks_for, begins, block_at, capped, closes, ends, grants, is_acquire}
pub use Rattle.tl_rules.specs.statement.History.{is_grant, is_probe, is_probe_ack, is_release, is_release_ack, opens}
pub use Rattle.tl_rules.specs.statement.History.{reported}
unfoldable pub use Rattle.tl_rules.specs.statement.History.{grant_sink, held, pending, probe_of, release_of, request_of}
pub use Rattle.tl_rules.specs.statement.Legality.{a_has_param, a_has_size, has_transfers, illegal_message, is_one_of}
unfoldable pub use Rattle.tl_rules.specs.statement.Legality.{beats_from, illegal}
pub use Rattle.tl_rules.specs.statement.Windows.{is_free, leaves, needs}
pub use Rattle.tl_client.proofs.caching_client.Stores.{length-stored, word_room}
pub use Rattle.tl_client.proofs.endpoint.AfterAsked.{kept_closed, kept_copies}
pub use Rattle.tl_client.proofs.endpoint.Cases.{NotBusy, asked-cases}
pub use Rattle.tl_client.proofs.endpoint.HeldAfter.{kept_past, reported-report, same_block, swapped}
pub use Rattle.tl_client.proofs.endpoint.Outstanding.{unfinished-asked}
pub use Rattle.tl_client.proofs.messages.Calls.{kept_up}
pub use Rattle.tl_client.proofs.pending.Accounted.{accounted-offered}
pub use Rattle.tl_client.proofs.pending.AccountedResponse.{release_of-d}
pub use Rattle.tl_client.proofs.pending.Free.{least_free-some}
pub use Rattle.tl_client.proofs.pending.KeptAsked.{kept-asked, kept_waiting}
pub use Rattle.tl_client.proofs.pending.KeptOffered.{kept-fresh, kept-offered}
pub use Rattle.tl_client.proofs.pending.Opens.{open_beat-c, request_of-d}
pub use Rattle.tl_client.specs.declared.busy.Busy.{Busy}
pub use Rattle.tl_client.specs.declared.operation.Op.{Op}
pub use Rattle.tl_client.specs.declared.operation.Op.TheVariants.{Access}
pub use Rattle.tl_client.specs.declared.reply.Reply.{Reply}
pub use Rattle.tl_client.specs.declared.verdict.Finish.{Finish}
pub use Rattle.tl_client.specs.declared.verdict.Verdict.{Verdict}
pub use Rattle.tl_client.specs.laws.After.{is_refused}
pub use Rattle.tl_client.specs.statement.Ask.{copy_stored, done, free_release, free_request, is_word, op_block}
pub use Rattle.tl_client.specs.statement.Ask.{same_bytes, source_or_0, store, whole_grow}
pub use Rattle.tl_client.specs.statement.Endpoint.{EndConfig, Endpoint, copy_at, held_at, sending, with_past, zeros}
pub use Rattle.tl_client.specs.statement.EndpointInvariant.{holds, is_acquire_beat}
pub use Rattle.tl_client.specs.statement.Offer.{Offered, address_asked, broken_before, broken_later, ended, finish_of}
pub use Rattle.tl_client.specs.statement.Offer.{granted, is_stalled, judged_later, report_for, responded, silent, taken}
pub use Rattle.tl_client.specs.statement.Offer.{waits}
unfoldable pub use Rattle.tl_client.specs.statement.Offer.{offered}
pub use Rattle.tl_client.specs.statement.Requests.{open_beat}
pub use Rattle.tl_client.specs.statement.Send.{about, access, acquisition, grant_ack, probe_ack, release, sourced}
pub use Rattle.tl_manager.proofs.blocks.Memories.{memory-elsewhere}
pub use Rattle.tl_manager.proofs.blocks.Placing.{limits}
pub use Rattle.tl_manager.proofs.blocks.Recording.{cap-gives}
pub use Rattle.tl_manager.proofs.blocks.Written.{bytes_are}
pub use Rattle.tl_manager.proofs.calls.Events.{memory_with, performed-access, performed-acquire, reaction-ack}
pub use Rattle.tl_manager.proofs.calls.Events.{reaction-part}
pub use Rattle.tl_manager.proofs.calls.Keeping.{is_taken}
pub use Rattle.tl_manager.proofs.calls.Reactions.{reaction_handable}
pub use Rattle.tl_manager.proofs.judging.Judged.{judged-passes, passed}
pub use Rattle.tl_manager.proofs.messages.Filled.{length-bytes}
pub use Rattle.tl_manager.proofs.messages.Lawful.{IsHandable}
pub use Rattle.tl_manager.proofs.pending.Accepted.{grant_sink-a, probe_of-a}
pub use Rattle.tl_manager.proofs.pending.Acked.{request_of-e}
pub use Rattle.tl_manager.proofs.pending.Answered.{no_ack_grant}
pub use Rattle.tl_manager.proofs.pending.Granted.{of_served}
pub use Rattle.tl_manager.proofs.pending.Handed.{after_sent, other_link, own_link, whole-taken}
pub use Rattle.tl_manager.proofs.pending.LinkHistories.{beat-keeps, other_beat, own_beat, whole-e}
pub use Rattle.tl_manager.proofs.pending.Performed.{grants_by_opcode}
pub use Rattle.tl_manager.proofs.pending.Probing.{grant_sink-c, probe_of-c, request_of-c}
pub use Rattle.tl_manager.proofs.pending.Replied.{IsReply}
pub use Rattle.tl_manager.proofs.pending.Replies.{reply-quiet, request-reply}
pub use Rattle.tl_manager.proofs.services.Serving.{some_is, tracker_among}
pub use Rattle.tl_manager.specs.code.Kept.{AreApart, Each, IsKept, IsSound, blocks_of, illegal_at, illegal_message_at}
pub use Rattle.tl_manager.specs.code.Ready.{IsReady}
pub use Rattle.tl_manager.specs.code.Releases.{comes_of}
pub use Rattle.tl_manager.specs.laws.Pending.{IsProbed, is_any, one_if}
pub use Rattle.tl_manager.specs.statement.End.{End}
pub use Rattle.tl_manager.specs.statement.Handing.{Handed, Reaction, access_answer, cap_granted, grant, grant_opcode}
pub use Rattle.tl_manager.specs.statement.Handing.{no_payload, nothing, performed, probe_of_block, probes, release_ack}
unfoldable pub use Rattle.tl_manager.specs.statement.Handing.{with_handed}
pub use Rattle.tl_manager.specs.statement.Holders.{cap_probed, is_nobody, is_settled, is_spared, probed, recorded}
unfoldable pub use Rattle.tl_manager.specs.statement.Holders.{clients_from}
pub use Rattle.tl_manager.specs.statement.Offer.{Passes, before_stall, is_from_client, level_of, must_wait, offered_as}
pub use Rattle.tl_manager.specs.statement.Offer.{open_level}
pub use Rattle.tl_manager.specs.statement.Reaction.{with_block}
unfoldable pub use Rattle.tl_manager.specs.statement.Reaction.{reaction}
pub use Rattle.tl_manager.specs.statement.Service.{is_access_answer, is_in_service, service_of_block, trackers_of}
unfoldable pub use Rattle.tl_manager.specs.statement.Service.{least_untaken, services}
pub use Rattle.tl_coherence.specs.bound.Rank.{Left, acquire_weight, client_weight, is_let, is_used, let_weight}
pub use Rattle.tl_coherence.specs.bound.Rank.{letting_weight, open_releases, open_requests, pair_weight, probes_weight}
pub use Rattle.tl_coherence.specs.bound.Rank.{probing_weight, rank, total, use_weight}
pub use Rattle.tl_coherence.specs.declared.event.Event.{Event}
pub use Rattle.tl_coherence.specs.declared.event.Event.TheVariants.{Ask, Deliver}
pub use Rattle.tl_coherence.specs.declared.event.Outcome.{Outcome}
pub use Rattle.tl_coherence.specs.declared.event.Outcome.TheVariants.{Done, Moved}
pub use Rattle.tl_coherence.specs.protocol.Invariant.{AreNamed, AreOutside, IsAskedCap, IsAwaited, IsInvariant}
pub use Rattle.tl_coherence.specs.protocol.Invariant.{IsOwnSource, IsWell, acquires_of, acquires_with, cap_asked}
pub use Rattle.tl_coherence.specs.protocol.Invariant.{is_asked, is_busy, is_of, is_out, is_replied, is_serving}
pub use Rattle.tl_coherence.specs.protocol.Invariant.{releases_with, resting, serves_of, serves_with, tracks_with}
pub use Rattle.tl_coherence.specs.protocol.Packet.{Acquire, Answer, Grant, GrantAck, Holds, IsOrdered, Kind, Packet}
pub use Rattle.tl_coherence.specs.protocol.Packet.{Probe, ProbeAck, Release, ReleaseAck, Request, is, same_kind, set}
pub use Rattle.tl_coherence.specs.protocol.Packet.{set_at}
unfoldable pub use Rattle.tl_coherence.specs.protocol.Packet.{count}
pub use Rattle.tl_coherence.specs.protocol.Phase.{Acknowledging, AcquireOpen, AcquirePhase, ClientBlock, GrantedOther}
pub use Rattle.tl_coherence.specs.protocol.Phase.{Granting, Idle, NoAcquire, NoProbe, NoRelease, Other, Own}
pub use Rattle.tl_coherence.specs.protocol.Phase.{ProbeAnswered, ProbePhase, ProbeSent, ReleaseAcked, ReleasePhase}
pub use Rattle.tl_coherence.specs.protocol.Phase.{ReleaseSent, View, cap_fits, grant_fits, grow_fits, is_idle}
pub use Rattle.tl_coherence.specs.protocol.Phase.{is_unacquired, is_unprobed, is_unreleased, is_whole, same_cap}
pub use Rattle.tl_coherence.specs.protocol.Phase.{same_report}
unfoldable pub use Rattle.tl_coherence.specs.protocol.Phase.{ok}
pub use Rattle.tl_coherence.specs.protocol.PhaseSteps.{after_acquire, after_grant, after_grant_sent, after_probe}
pub use Rattle.tl_coherence.specs.protocol.PhaseSteps.{after_release, after_release_ack, after_release_taken}
pub use Rattle.tl_coherence.specs.protocol.PhaseSteps.{after_report, after_served, is_above, is_granted_data}
pub use Rattle.tl_coherence.specs.protocol.Protocol.{Acquires, Asked, Block, Free, GrantSent, GrantTaken, InService}
pub use Rattle.tl_coherence.specs.protocol.Protocol.{Replied, Service, SourceFree, SourceState, State, Waits}
pub use Rattle.tl_coherence.specs.protocol.Protocol.{access_answered, access_asked, access_served, acquire_asked}
pub use Rattle.tl_coherence.specs.protocol.Protocol.{acquire_granted, acquire_served, acquiring_block, answer_taken}
pub use Rattle.tl_coherence.specs.protocol.Protocol.{answered_link, block_stored, ended_block, ended_link, freed_block}
pub use Rattle.tl_coherence.specs.protocol.Protocol.{grant_ack_taken, grant_taken, granted_at_once, granted_block}
pub use Rattle.tl_coherence.specs.protocol.Protocol.{granted_copy, granted_link, granted_pair, granted_truth, is_on}
pub use Rattle.tl_coherence.specs.protocol.Protocol.{is_probed, let_block, let_go_block, let_link, on, packet}
pub use Rattle.tl_coherence.specs.protocol.Protocol.{packets_on, performed_block, popped_link, probe_taken}
pub use Rattle.tl_coherence.specs.protocol.Protocol.{probed_block, probed_link, release_ack_taken, release_asked}
pub use Rattle.tl_coherence.specs.protocol.Protocol.{release_taken, releasing_block, report_answers, report_grants}
pub use Rattle.tl_coherence.specs.protocol.Protocol.{report_taken, reported_block, served_block, served_link}
pub use Rattle.tl_coherence.specs.protocol.Protocol.{served_pair, stored_block, taken_block, taken_link, view, with_a}
pub use Rattle.tl_coherence.specs.protocol.Protocol.{with_c, with_d, with_probe, written}
pub use Rattle.tl_coherence.specs.protocol.Tokens.{is_acked, is_acknowledging, is_answered, is_granting, is_releasing}
pub use Rattle.tl_coherence.specs.protocol.Tokens.{is_sent, is_transfer, is_unserved, is_wanting, shown, shows}
pub use Rattle.tl_coherence.specs.refinement.AbstractStep.{AbstractState, abstract_delivery, abstract_step}
pub use Rattle.tl_coherence.specs.refinement.AbstractStep.{abstract_step_by, access_taken, ack_taken, acquire_opcode}
pub use Rattle.tl_coherence.specs.refinement.AbstractStep.{acquire_taken, answers, asked, bytes_at}
pub use Rattle.tl_coherence.specs.refinement.AbstractStep.{first_abstract_state, first_state, gift, granted_after}
pub use Rattle.tl_coherence.specs.refinement.AbstractStep.{is_unheld, kind_taken, last_taken, packet_taken, performs}
pub use Rattle.tl_coherence.specs.refinement.AbstractStep.{probes_some, request_taken, taken_by_client, with_state}
unfoldable pub use Rattle.tl_coherence.specs.refinement.AbstractStep.{some_below}
pub use Rattle.tl_coherence.specs.refinement.Carried.{IsCarried}
pub use Rattle.tl_coherence.specs.refinement.ChannelRelation.{ChannelRelation}
pub use Rattle.tl_coherence.specs.refinement.ClientRelation.{ClientRelation, comes_granting}
pub use Rattle.tl_coherence.specs.refinement.ManagerRelation.{ManagerRelation, client_in, is_own, service_with}
pub use Rattle.tl_coherence.specs.refinement.MemoryRelation.{Answers, IsAccess, IsLet, IsOpened, IsReach}
pub use Rattle.tl_coherence.specs.refinement.MemoryRelation.{MemoryRelation, op_of}
pub use Rattle.tl_coherence.specs.refinement.MonitorRelation.{MonitorRelation, is_let_by, is_release_pending}
pub use Rattle.tl_coherence.specs.refinement.MonitorRelation.{is_requested}
pub use Rattle.tl_coherence.specs.refinement.Move.{AreMoved, IsMoved, Move, Pops, Pushes, Stays, agrees, channel_for}
pub use Rattle.tl_coherence.specs.refinement.Move.{is_own_move}
pub use Rattle.tl_coherence.specs.refinement.PacketMessages.{AccessMessages, acquire_of, cap_sent, grant_of, message_of}
pub use Rattle.tl_coherence.specs.refinement.PacketMessages.{message_of_kind, messages_on, probe_beat, prune_told}
pub use Rattle.tl_coherence.specs.refinement.PacketMessages.{report_told}
unfoldable pub use Rattle.tl_coherence.specs.refinement.PacketMessages.{block_message}
pub use Rattle.tl_coherence.specs.refinement.SimulationRelation.{AreLanes, AreSized, IsAcquireOf, IsAnswer, IsAnswered}
pub use Rattle.tl_coherence.specs.refinement.SimulationRelation.{IsGivenAsked, IsRequest, IsServedWith, IsSourced}
pub use Rattle.tl_coherence.specs.refinement.SimulationRelation.{MonitorRelations, SimulationRelation, asked_by}
pub use Rattle.tl_coherence.specs.refinement.SimulationRelation.{asked_for, block_used, first_of, gives_asked}
pub use Rattle.tl_coherence.specs.refinement.SimulationRelation.{is_caching, request_source}
pub use Rattle.tl_coherence.specs.refinement.SourceRelation.{IsFor, OpenSourceRelation, ServedSourceRelation}
pub use Rattle.tl_coherence.specs.refinement.SourceRelation.{cap_waited, is_granted, is_served}
pub use Rattle.tl_coherence.specs.statement.Coherent.{IsCoherent}
unfoldable pub use Rattle.tl_coherence.specs.statement.Coherent.{started}
pub use Rattle.tl_coherence.specs.statement.Delivery.{IsExact, IsFifo, Moves, capacity, is_stall, receiver, sources_of}
pub use Rattle.tl_coherence.specs.statement.Draining.{IsDrained, grown_to, is_delivery, is_moving}
pub use Rattle.tl_coherence.specs.statement.Flow.{taken_at, taken_on, trace_of}
unfoldable pub use Rattle.tl_coherence.specs.statement.Flow.{flow}
pub use Rattle.tl_coherence.specs.statement.Headline.{Continues, IsGiven, IsTyped, IsTypedOp}
pub use Rattle.tl_coherence.specs.statement.Load.{ends_release, ends_request, load, outstanding, starts_release}
pub use Rattle.tl_coherence.specs.statement.Load.{starts_request}
unfoldable pub use Rattle.tl_coherence.specs.statement.Load.{releases, requests}
pub use Rattle.tl_coherence.specs.statement.Log.{Log}
unfoldable pub use Rattle.tl_coherence.specs.statement.Log.{system_after}
pub use Rattle.tl_coherence.specs.statement.Machine.{Ends, Machine, Open, Pool, Releases, Requests, Run, after_end}
pub use Rattle.tl_coherence.specs.statement.Machine.{after_reply, cap_named, finish_with, first, is_client}
pub use Rattle.tl_coherence.specs.statement.Machine.{memory_after, moved, performed_op, performed_open, pool_of}
pub use Rattle.tl_coherence.specs.statement.Machine.{pool_of_op, same_pool, with_memory, with_number, with_open}
pub use Rattle.tl_coherence.specs.statement.Movable.{moves, stalls, with_delivery}
unfoldable pub use Rattle.tl_coherence.specs.statement.Movable.{first_movable, is_movable, next_delivery}
unfoldable pub use Rattle.tl_coherence.specs.statement.OneMemory.{accesses_answered, one_memory_after, performing}
pub use Rattle.tl_coherence.specs.statement.Permissions.{perm_le}
pub use Rattle.tl_coherence.specs.statement.Ranged.{AreBytes}
pub use Rattle.tl_coherence.specs.statement.Step.{Step, client_of, client_took, delivered, handed_by, handing}
pub use Rattle.tl_coherence.specs.statement.Step.{is_to_client, judged, manager_took, only, outcome_of, replied}
pub use Rattle.tl_coherence.specs.statement.Step.{stepped_at}
unfoldable pub use Rattle.tl_coherence.specs.statement.Step.{stepped}
pub use Rattle.tl_coherence.specs.statement.System.{System, channel_of_message, fresh, same_channel, terms_at}
pub use Rattle.tl_coherence.specs.statement.System.{with_channel, with_client, with_manager, with_message}
unfoldable pub use Rattle.tl_coherence.specs.statement.System.{with_messages}
