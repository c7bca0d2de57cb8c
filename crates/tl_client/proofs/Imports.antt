-- What many files of this folder speak of.
pub use Rattle.tl_beat.specs.declared.beat.Beat.{Beat}
pub use Rattle.tl_beat.specs.declared.beat.BeatA.{BeatA}
pub use Rattle.tl_beat.specs.declared.beat.BeatB.{BeatB}
pub use Rattle.tl_beat.specs.declared.beat.BeatC.{BeatC}
pub use Rattle.tl_beat.specs.declared.beat.BeatD.{BeatD}
pub use Rattle.tl_beat.specs.declared.channel.Channel.{Channel}
pub use Rattle.tl_beat.specs.declared.opcode.OpA.{OpA}
pub use Rattle.tl_beat.specs.declared.opcode.OpB.{OpB}
pub use Rattle.tl_beat.specs.declared.opcode.OpC.{OpC}
pub use Rattle.tl_beat.specs.declared.opcode.OpD.{OpD}
pub use Rattle.tl_beat.specs.statement.First.{first_if}
pub use Rattle.tl_beat.specs.statement.Opcode.{d_carries_data}
pub use Rattle.tl_beat.specs.statement.Width.{IsWidth}
pub use Rattle.tl_burst.proofs.Splitting.{beats-positive}
pub use Rattle.tl_burst.specs.declared.message.Message.{Message}
pub use Rattle.tl_burst.specs.declared.message.Message.TheVariants.{A, B, C, D, E}
pub use Rattle.tl_burst.specs.declared.message.MessageA.{MessageA}
pub use Rattle.tl_burst.specs.declared.message.MessageC.{MessageC}
pub use Rattle.tl_burst.specs.declared.message.MessageE.{MessageE}
pub use Rattle.tl_burst.specs.statement.Burst.{a_beat_of, beat_of, beats_of}
pub use Rattle.tl_burst.specs.statement.Messages.{History, breaks_burst, grown, same_control}
unfoldable pub use Rattle.tl_burst.specs.statement.Messages.{unfinished}
pub use Rattle.tl_burst.specs.statement.Part.{completes}
pub use Rattle.tl_params.specs.declared.key.Key.{Key}
pub use Rattle.tl_params.specs.declared.key.Key.TheVariants.{AcquireOf, GrantAckOf, GrantSink, ProbeOf, ReleaseOf}
pub use Rattle.tl_params.specs.declared.key.Key.TheVariants.{ReleaseSource, RequestSource}
pub use Rattle.tl_params.specs.declared.level.Level.{Level}
pub use Rattle.tl_params.specs.declared.param.Cap.{Cap}
pub use Rattle.tl_params.specs.declared.param.Grow.{Grow}
pub use Rattle.tl_params.specs.declared.param.Prune.{Prune}
pub use Rattle.tl_params.specs.declared.param.Report.{Report}
pub use Rattle.tl_params.specs.declared.perm.Perm.{Perm}
pub use Rattle.tl_params.specs.declared.profile.Profile.{Profile}
pub use Rattle.tl_params.specs.declared.rule.Rule.{Rule}
pub use Rattle.tl_params.specs.declared.rule.Rule.TheVariants.{A3, H2, H3, L1, L7, S1}
pub use Rattle.tl_params.specs.statement.Param.{cap_of, prune_code, prune_left, prune_right, report_at, report_code}
pub use Rattle.tl_params.specs.statement.Param.{report_right}
pub use Rattle.tl_params.specs.statement.Refusal.{ok_unless}
pub use Rattle.tl_rules.proofs.Bursts.{both_none, next_rule}
pub use Rattle.tl_rules.proofs.Handed.{pending-whole, release_of-whole, request_of-whole, unfinished-whole}
pub use Rattle.tl_rules.proofs.Open.{not_release_ack}
pub use Rattle.tl_rules.proofs.Sent.{held-sent_unsaid, held_unsaid, pending-closed, pending-quiet}
pub use Rattle.tl_rules.specs.laws.Handed.{pending_with, release_if_any, release_with, request_if_any}
pub use Rattle.tl_rules.specs.statement.Admission.{payload_of, sent, sent_if_any}
pub use Rattle.tl_rules.specs.statement.Conformance.{admits, answers, broken_in_order, comes_in_grant, same_perm}
unfoldable pub use Rattle.tl_rules.specs.statement.Conformance.{broken_order}
pub use Rattle.tl_rules.specs.statement.History.{asks_for, block_at, capped, ends, grants, is_acquire, is_grant}
pub use Rattle.tl_rules.specs.statement.History.{is_probe, is_probe_ack, is_release, is_release_ack, opens, releases}
unfoldable pub use Rattle.tl_rules.specs.statement.History.{grant_sink, held, pending, release_of, request_of}
pub use Rattle.tl_rules.specs.statement.Legality.{breaks_l1, has_transfers}
unfoldable pub use Rattle.tl_rules.specs.statement.Legality.{illegal}
pub use Rattle.tl_client.specs.code.KnowsCaching.{KnowsCaching, has_sink, is_granting, caching_terms}
pub use Rattle.tl_client.specs.code.KnowsPlain.{KnowsPlain}
pub use Rattle.tl_client.specs.code.Plain.{response_rule}
pub use Rattle.tl_client.specs.code.Sources.{open_at}
pub use Rattle.tl_client.specs.code.Table.{copy_in, held_in, waiting_in}
pub use Rattle.tl_client.specs.declared.busy.Busy.{Busy}
pub use Rattle.tl_client.specs.declared.busy.Busy.TheVariants.{B1, B2, B3, B4, B5}
pub use Rattle.tl_client.specs.declared.caching.Caching.{Caching}
pub use Rattle.tl_client.specs.declared.operation.Op.{Op}
pub use Rattle.tl_client.specs.declared.operation.Op.TheVariants.{Access, Acquire, AcquireWhole, Load, Release, Store}
pub use Rattle.tl_client.specs.declared.plain.Plain.{Plain}
pub use Rattle.tl_client.specs.declared.reply.Reply.{Reply}
pub use Rattle.tl_client.specs.declared.request.Request.{Request}
pub use Rattle.tl_client.specs.declared.verdict.Finish.{Finish}
pub use Rattle.tl_client.specs.declared.verdict.Verdict.{Verdict}
pub use Rattle.tl_client.specs.declared.verdict.Verdict.TheVariants.{Done, Stalled, Taken}
pub use Rattle.tl_client.specs.laws.Accounted.{IsAcked, IsClaimed, comes_granting}
pub use Rattle.tl_client.specs.laws.After.{copy_granted, handed, heard, is_refused, waiting_granted}
pub use Rattle.tl_client.specs.laws.Inside.{IsInside}
pub use Rattle.tl_client.specs.statement.Ask.{asked_given, breaks_b1, breaks_b2, breaks_b3, breaks_b4, copy_stored}
pub use Rattle.tl_client.specs.statement.Ask.{done, free_release, free_request, is_access_of, is_clean, load, only}
pub use Rattle.tl_client.specs.statement.Ask.{op_block, source_or_0, store, whole_grow}
unfoldable pub use Rattle.tl_client.specs.statement.Ask.{asked, busy, least_free, low_bytes}
pub use Rattle.tl_client.specs.statement.Endpoint.{EndConfig, Endpoint, copy_at, fresh, held_at, kept_for, sending}
pub use Rattle.tl_client.specs.statement.Endpoint.{set_at, with_past, zeros}
pub use Rattle.tl_client.specs.statement.EndpointInvariant.{IsEndpointInvariant, IsGranting, acquires, holds}
pub use Rattle.tl_client.specs.statement.EndpointInvariant.{is_acquire_beat, is_acquire_perm}
pub use Rattle.tl_client.specs.statement.Offer.{Offered, broken_before, broken_later, ended, granted, granted_perm}
pub use Rattle.tl_client.specs.statement.Offer.{is_sent_on, judged, judged_later, refused, report_for, responded}
pub use Rattle.tl_client.specs.statement.Offer.{silent, taken, waits}
unfoldable pub use Rattle.tl_client.specs.statement.Offer.{offered, stalls}
pub use Rattle.tl_client.specs.statement.Requests.{fields_of, open_beat, open_release, open_request, release_fields}
pub use Rattle.tl_client.specs.statement.Requests.{start_with}
pub use Rattle.tl_client.specs.statement.Send.{about, access, acquire, acquisition, grant_ack, on_c, probe_ack, release}
pub use Rattle.tl_client.specs.statement.Send.{sourced}
