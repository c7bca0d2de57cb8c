-- What many files of this folder speak of.
pub use Rattle.tl_beat.specs.declared.beat.Beat.{Beat}
pub use Rattle.tl_beat.specs.declared.beat.BeatA.{BeatA}
pub use Rattle.tl_beat.specs.declared.beat.BeatC.{BeatC}
pub use Rattle.tl_beat.specs.declared.beat.BeatE.{BeatE}
pub use Rattle.tl_beat.specs.declared.beat.Link.{Link}
pub use Rattle.tl_beat.specs.declared.channel.Channel.{Channel}
pub use Rattle.tl_beat.specs.declared.opcode.OpA.{OpA}
pub use Rattle.tl_beat.specs.declared.opcode.OpC.{OpC}
pub use Rattle.tl_beat.specs.declared.opcode.OpD.{OpD}
pub use Rattle.tl_beat.specs.statement.First.{first_if}
pub use Rattle.tl_beat.specs.statement.Opcode.{a_carries_data, c_carries_data}
pub use Rattle.tl_beat.specs.statement.Width.{IsWidth}
pub use Rattle.tl_burst.proofs.Splitting.{beats-positive}
pub use Rattle.tl_burst.specs.declared.message.Message.{Message}
pub use Rattle.tl_burst.specs.declared.message.Message.TheVariants.{A, B, C, D, E}
pub use Rattle.tl_burst.specs.declared.message.MessageA.{MessageA}
pub use Rattle.tl_burst.specs.declared.message.MessageD.{MessageD}
pub use Rattle.tl_burst.specs.statement.Burst.{IsBurst, IsZeroFrom, a_beat_of, beat_of, beats_of, begun, burst_of}
pub use Rattle.tl_burst.specs.statement.Messages.{History, breaks_burst, burst_length, channel_of, on, same_control}
unfoldable pub use Rattle.tl_burst.specs.statement.Messages.{unfinished}
pub use Rattle.tl_burst.specs.statement.Part.{is_empty}
pub use Rattle.tl_params.specs.declared.config.Config.{Config}
pub use Rattle.tl_params.specs.declared.key.Key.TheVariants.{AcquireOf, GrantAckOf, GrantSink, ProbeOf, RequestSource}
pub use Rattle.tl_params.specs.declared.level.Level.{Level}
pub use Rattle.tl_params.specs.declared.param.Cap.{Cap}
pub use Rattle.tl_params.specs.declared.perm.Perm.{Perm}
pub use Rattle.tl_params.specs.declared.profile.Profile.{Profile}
pub use Rattle.tl_params.specs.declared.rule.Rule.{Rule}
pub use Rattle.tl_params.specs.declared.rule.Rule.TheVariants.{A1, A2, L1, L2, L3, L4, S1}
pub use Rattle.tl_params.specs.statement.Param.{cap_code}
pub use Rattle.tl_rules.proofs.Bursts.{both_none, next_rule}
pub use Rattle.tl_rules.proofs.Handed.{pending-sent_b, pending-sent_d}
pub use Rattle.tl_rules.proofs.Open.{never}
pub use Rattle.tl_rules.proofs.Sent.{pending-quiet, unfinished-sent_other}
pub use Rattle.tl_rules.proofs.Verdicts.{illegal_a}
pub use Rattle.tl_rules.specs.code.Control.{a_control, a_own}
pub use Rattle.tl_rules.specs.declared.answer.Answer.{Answer}
pub use Rattle.tl_rules.specs.statement.Admission.{is_outside, is_spoiled, payload_of, sent}
pub use Rattle.tl_rules.specs.statement.Conformance.{Trace, broken_in_order, comes_in_request}
unfoldable pub use Rattle.tl_rules.specs.statement.Conformance.{broken_order, on_link}
pub use Rattle.tl_rules.specs.statement.Effect.{Memory, answer_of}
unfoldable pub use Rattle.tl_rules.specs.statement.Effect.{bytes_from, effect}
pub use Rattle.tl_rules.specs.statement.History.{asks_for, begins, block_at, capped, closes, ends, is_acquire, is_grant}
pub use Rattle.tl_rules.specs.statement.History.{is_probe_ack, is_release, is_release_ack, opens, says_held}
unfoldable pub use Rattle.tl_rules.specs.statement.History.{grant_sink, held, pending, probe_of, request_of}
pub use Rattle.tl_rules.specs.statement.Legality.{a_has_param, a_has_size, a_of_level, breaks_l1, is_aligned, is_one_of}
unfoldable pub use Rattle.tl_rules.specs.statement.Legality.{illegal}
pub use Rattle.tl_manager.specs.code.Admission.{admission_of}
pub use Rattle.tl_manager.specs.code.Bit.{bit_if}
pub use Rattle.tl_manager.specs.code.BlockState.{IsBlockState, IsBlockStateWithout, IsDone, IsReadyAt}
pub use Rattle.tl_manager.specs.code.Blocks.{AreBlocks}
pub use Rattle.tl_manager.specs.code.Complete.{IsComplete}
pub use Rattle.tl_rules.specs.laws.Typed.{HasBlock}
pub use Rattle.tl_manager.specs.code.Kept.{AreApart, Each, IsKept, IsPerformable, IsSound, IsTyped, blocks_of}
pub use Rattle.tl_manager.specs.code.Kept.{illegal_at, illegal_message_at, is_granting}
pub use Rattle.tl_manager.specs.code.Knows.{Knows}
pub use Rattle.tl_manager.specs.code.LinkState.{IsLinkState}
pub use Rattle.tl_manager.specs.code.Ready.{IsPassed, IsReady, IsServed, IsTaken, IsWhole}
pub use Rattle.tl_manager.specs.code.Tracked.{IsTracked, service_with}
pub use Rattle.tl_manager.specs.code.Trackers.{tracker_at}
pub use Rattle.tl_manager.specs.code.Tracking.{is_free, is_of}
pub use Rattle.tl_manager.specs.declared.manager.block_state.BlockState.{BlockState}
pub use Rattle.tl_manager.specs.declared.manager.link_state.LinkState.{LinkState}
pub use Rattle.tl_manager.specs.declared.manager.state.ManagerState.{ManagerState}
pub use Rattle.tl_manager.specs.declared.manager.tracker.Tracker.{Tracker}
pub use Rattle.tl_manager.specs.declared.manager.tracker.Tracker.TheVariants.{Free, Granted, Probing}
pub use Rattle.tl_manager.specs.laws.After.{is_of_clients}
pub use Rattle.tl_manager.specs.laws.Pending.{HasFields, IsAccounted, IsBegun, IsHandled, IsNamed, IsProbed}
pub use Rattle.tl_manager.specs.laws.Pending.{IsReporting, IsSteady, count_where, is_acquiring, is_asking, is_awaited}
pub use Rattle.tl_manager.specs.laws.Pending.{is_granted, is_granted_to, one_if}
pub use Rattle.tl_manager.specs.laws.Record.{granted_by}
pub use Rattle.tl_manager.specs.statement.End.{End, fresh}
pub use Rattle.tl_manager.specs.statement.Handing.{Handed, Reaction, access_answer, grant, grant_opcode, nothing}
pub use Rattle.tl_manager.specs.statement.Handing.{performed, probe_beat, probe_of_block, probes, release_ack}
unfoldable pub use Rattle.tl_manager.specs.statement.Handing.{with_handed}
pub use Rattle.tl_manager.specs.statement.Holders.{cap_probed, has_copy, is_above, is_missing, is_nobody, is_settled}
pub use Rattle.tl_manager.specs.statement.Holders.{is_spared, is_unheld, probed, recorded}
unfoldable pub use Rattle.tl_manager.specs.statement.Holders.{clients_from}
pub use Rattle.tl_manager.specs.statement.Offer.{Breaks, Judgement, Passes, Refused, Sent, Stalled, Waits, breaks_or}
pub use Rattle.tl_manager.specs.statement.Offer.{is_from_client, judged, level_of, must_wait, offered_as, open_level}
pub use Rattle.tl_manager.specs.statement.Offer.{refused, taken}
unfoldable pub use Rattle.tl_manager.specs.statement.Offer.{judged_at, offered}
pub use Rattle.tl_manager.specs.statement.Reaction.{begun_if_any, begun_with, completed, completed_c, finish}
pub use Rattle.tl_manager.specs.statement.Reaction.{performed_if_any, probing_or, with_block, written}
unfoldable pub use Rattle.tl_manager.specs.statement.Reaction.{reaction}
pub use Rattle.tl_manager.specs.statement.Request.{request_if}
unfoldable pub use Rattle.tl_manager.specs.statement.Request.{corrupt_carried, masks_carried, request_carried}
pub use Rattle.tl_manager.specs.statement.Service.{Service, is_access_answer, is_ended_by, is_in_service}
pub use Rattle.tl_manager.specs.statement.Service.{service_of_block, services_after, trackers_of, with_service}
unfoldable pub use Rattle.tl_manager.specs.statement.Service.{least_untaken, services}
