-- The permission of a block that a message leaves which is complete with a beat, by the state of a recorder.
use Rattle.std.specs.Prelude.{ℕ, Bool, not, ◌==◌, ◌&&◌, ◌||◌, if◌then◌else◌, Option, Some, None, is_none}
use Rattle.tl_beat.specs.declared.beat.Beat.{Beat}
use Rattle.tl_beat.specs.declared.beat.Beat.TheVariants as beat
use Rattle.tl_beat.specs.declared.beat.BeatA.{BeatA}
use Rattle.tl_beat.specs.declared.beat.BeatC.{BeatC}
use Rattle.tl_beat.specs.declared.beat.BeatD.{BeatD}
use Rattle.tl_beat.specs.declared.beat.BeatE.{BeatE}
use Rattle.tl_beat.specs.declared.channel.Channel.TheVariants as channel
use Rattle.tl_beat.specs.declared.control.Control.{Control}
use Rattle.tl_monitor.specs.code.LinkState.{given_by_control, left_by_control}
use Rattle.tl_params.specs.declared.liberties.Liberties.{Liberties}
use Rattle.tl_params.specs.declared.perm.Perm.{Perm}
use Rattle.tl_params.specs.declared.perm.Perm.TheVariants as perm
use Rattle.tl_rules.specs.statement.History.{block_at, capped, is_acquire, is_grant, is_probe_ack, is_release}
use Rattle.tl_rules.specs.statement.History.{is_release_ack, reported}
use Rattle.tl_rules.specs.statement.Liberties.{grows_from_none}
use Rattle.tl_explain.specs.declared.bursts.Begun.{Begun}
use Rattle.tl_explain.specs.declared.recorder.Recorder.{Recorder}
use Rattle.tl_explain.specs.declared.told.Told.{Told}
use Rattle.tl_explain.specs.declared.turns.Moment.{Moment}
use Rattle.tl_explain.specs.code.Recorded.{begun_on, is_number, open_message, sink_in}

-- the same for the burst that isn't complete, if there is one
abbrev pub said_by_burst : (Control → Option Perm) → Option Begun → Option Perm
said_by_burst says None = None
said_by_burst says (Some b) = says b.newest

-- of block k, by a beat that begins its message or doesn't
abbrev pub said_on_a : {w : ℕ} → Liberties → ℕ → Bool → BeatA w → Option Perm
said_on_a l k first x =
    if l.drops && (first && (is_acquire x.opcode && grows_from_none x.param))
    then (if block_at x.address == k then Some perm.None else None)
    else None

-- if this Release of the block is open
abbrev pub said_on_c : {w : ℕ} → Liberties → ℕ → Bool → Option Told → BeatC w → Option Perm
said_on_c l k first release x =
    if l.early && (is_release x.opcode && (not first && is_none release)) then None else
    if (is_probe_ack x.opcode || is_release x.opcode) && (block_at x.address == k) then Some (reported x.param) else None

-- if this Grant of the block is open, the beat's message is of this block, and this is unfinished on channel C
abbrev pub said_on_d : {w : ℕ} → Liberties → ℕ → Bool → Option Told → Option ℕ → Option Begun → BeatD w → Option Perm
said_on_d l k first grant block burst x =
    if l.denied && x.denied then None else
    if l.early && (is_grant x.opcode && (not first && is_none grant)) then None else
    if l.early && is_release_ack x.opcode
    then (if is_number k block then said_by_burst (left_by_control x.source) burst else None)
    else if is_grant x.opcode && is_number k block then Some (capped x.param) else None

-- if this Grant of the block is open, and this is unfinished on channel D
abbrev pub said_on_e : Liberties → Option Told → Option Begun → BeatE → Option Perm
said_on_e l grant burst x =
    if l.early && is_number x.sink (sink_in grant) then said_by_burst (given_by_control x.sink) burst else None

-- by a beat of this moment, of the subject's block
abbrev pub said_by : {w : ℕ} → Recorder → Moment → Beat w → Option Perm
said_by r m (beat.A x) = said_on_a r.liberties r.subject.block m.first x
said_by r m (beat.B x) = None
said_by r m (beat.C x) = said_on_c r.liberties r.subject.block m.first (open_message r.turns.release) x
said_by r m (beat.D x) =
    said_on_d r.liberties r.subject.block m.first (open_message r.turns.grant_ack) m.block (begun_on r channel.C) x
said_by r m (beat.E x) = said_on_e r.liberties (open_message r.turns.grant_ack) (begun_on r channel.D) x
