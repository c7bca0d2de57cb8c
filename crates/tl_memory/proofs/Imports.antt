-- What many files of this folder speak of.
pub use Rattle.tl_beat.specs.declared.beat.Beat.{Beat}
pub use Rattle.tl_beat.specs.declared.beat.BeatA.{BeatA}
pub use Rattle.tl_beat.specs.declared.beat.BeatC.{BeatC}
pub use Rattle.tl_beat.specs.declared.beat.BeatD.{BeatD}
pub use Rattle.tl_beat.specs.declared.beat.Link.{Link}
pub use Rattle.tl_beat.specs.declared.opcode.OpA.{OpA}
pub use Rattle.tl_beat.specs.declared.opcode.OpD.{OpD}
pub use Rattle.tl_beat.specs.statement.First.{first_if}
pub use Rattle.tl_beat.specs.statement.Opcode.{a_carries_data, c_carries_data}
pub use Rattle.tl_beat.specs.statement.Width.{IsWidth}
pub use Rattle.tl_burst.proofs.ControlFields.{control_a, control_d}
pub use Rattle.tl_burst.specs.declared.message.MessageA.{MessageA}
pub use Rattle.tl_burst.specs.statement.Burst.{bit, data_beats, reaches}
pub use Rattle.tl_burst.specs.statement.Messages.{History, breaks_burst, burst_length, channel_of, grown, on}
pub use Rattle.tl_burst.specs.statement.Messages.{same_control}
unfoldable pub use Rattle.tl_burst.specs.statement.Messages.{unfinished}
pub use Rattle.tl_burst.specs.statement.Part.{is_empty, is_small}
pub use Rattle.tl_bytes.specs.statement.Bytes.{Access, access_writes, asked_by, ends_request, is_access, is_of, tells}
pub use Rattle.tl_bytes.specs.statement.Bytes.{may_find, others, writes, written_as}
unfoldable pub use Rattle.tl_bytes.specs.statement.Bytes.{may_be, may_read, pending_accesses}
pub use Rattle.tl_bytes.specs.statement.Known.{KnowsBlock, KnowsGrant, may_bring}
pub use Rattle.tl_memory.specs.code.Elsewhere.{IsElsewhere, LeavesHeld, PassesBy, WritesNot, block_asked, block_borne}
pub use Rattle.tl_memory.specs.code.Taking.{IsLegalBeat, IsResponse}
pub use Rattle.tl_memory.specs.code.Writers.{AreRenewed, IsRenewed, found_by, keeps, staying}
pub use Rattle.tl_memory.specs.declared.block.BlockState.{BlockState}
pub use Rattle.tl_memory.specs.declared.expected.Expected.{Expected}
pub use Rattle.tl_memory.specs.declared.free.Freedom.{Freedom}
pub use Rattle.tl_memory.specs.declared.link.LinkState.{LinkState}
pub use Rattle.tl_memory.specs.declared.pending.PendingAccess.{PendingAccess}
pub use Rattle.tl_memory.specs.declared.writer.Writer.{Writer}
pub use Rattle.tl_memory.specs.statement.Expecting.{ExpectsAgain, ExpectsBeat, ExpectsGrant, ExpectsLater, ExpectsRead}
pub use Rattle.tl_memory.specs.statement.Expecting.{ExpectsResponse}
pub use Rattle.tl_memory.specs.statement.Known.{AllWriteInside, AnyIsTo, AreKnown, AreWide, Expects, IsAsked}
pub use Rattle.tl_memory.specs.statement.Known.{KeepsFound, KnowsAccess, KnowsAccesses, KnowsState, KnowsUnseen, WritesInside}
pub use Rattle.tl_memory.specs.statement.Known.{closed, free_for, freedom, is_to, open_for}
pub use Rattle.tl_memory.specs.statement.Links.{AreLegal, IsLegal, KnowsLink}
pub use Rattle.tl_params.specs.declared.level.Level.{Level}
pub use Rattle.tl_params.specs.declared.rule.Rule.TheVariants.{L1, L2, L3}
pub use Rattle.tl_rules.proofs.Rooms.{base_in_memory}
pub use Rattle.tl_rules.specs.code.Open.{open_request, request_fields}
pub use Rattle.tl_rules.specs.code.Place.{base_of}
pub use Rattle.tl_rules.specs.declared.past.Request.{Request}
pub use Rattle.tl_rules.specs.laws.Typed.{AreTyped, IsTyped}
pub use Rattle.tl_rules.specs.statement.Conformance.{Trace, answers}
unfoldable pub use Rattle.tl_rules.specs.statement.Conformance.{on_link}
unfoldable pub use Rattle.tl_rules.specs.statement.Liberties.{broken_after_under, is_legal_under}
pub use Rattle.tl_rules.specs.statement.History.{begins, block_at, ends, is_grant, is_release_ack}
unfoldable pub use Rattle.tl_rules.specs.statement.History.{request_of}
pub use Rattle.tl_rules.specs.statement.Legality.{a_has_param, a_has_size, a_of_level}
unfoldable pub use Rattle.tl_bytes.specs.statement.Free.{all_liberties, is_free}
