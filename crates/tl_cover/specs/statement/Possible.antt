-- The bins of links by their level and liberties.
use Rattle.std.specs.Prelude.{ℕ, Bool, true, false, ◌&&◌, nat_le, if◌then◌else◌, Option, Some, None}
use Rattle.tl_beat.specs.declared.opcode.OpA.{OpA}
use Rattle.tl_beat.specs.declared.opcode.OpA.TheVariants as a
use Rattle.tl_beat.specs.declared.opcode.OpC.TheVariants as c
use Rattle.tl_beat.specs.declared.opcode.OpD.{OpD}
use Rattle.tl_beat.specs.declared.opcode.OpD.TheVariants as d
use Rattle.tl_cover.specs.declared.message.MessageKind.{MessageKind}
use Rattle.tl_cover.specs.declared.message.MessageKind.TheVariants as kind
use Rattle.tl_cover.specs.declared.message.Param.{Param}
use Rattle.tl_cover.specs.declared.message.Param.TheVariants as param
use Rattle.tl_cover.specs.declared.situation.Bytes.{Bytes}
use Rattle.tl_cover.specs.declared.situation.Situation.{Situation}
use Rattle.tl_cover.specs.declared.situation.Pending.{Pending}
use Rattle.tl_cover.specs.declared.situation.Pending.TheVariants as pending
use Rattle.tl_cover.specs.declared.situation.Situation.TheVariants.{Aligned, Among, Sent}
use Rattle.tl_cover.specs.statement.Kinds.{number_of}
use Rattle.tl_cover.specs.statement.Messages.{fields}
use Rattle.tl_params.specs.declared.level.Level.{Level}
use Rattle.tl_params.specs.declared.level.Level.TheVariants as level
use Rattle.tl_params.specs.declared.liberties.Liberties.{Liberties}
use Rattle.tl_params.specs.declared.param.Cap.TheVariants as cap
use Rattle.tl_params.specs.declared.param.Report.TheVariants as report

-- the least level whose links have requests of this opcode
abbrev pub least_of_request : OpA → Level
least_of_request a.PutFullData = level.UL
least_of_request a.PutPartialData = level.UL
least_of_request a.Get = level.UL
least_of_request a.ArithmeticData = level.UH
least_of_request a.LogicalData = level.UH
least_of_request a.Intent = level.UH
least_of_request _ = level.C

-- the least level whose links have responses of this opcode
abbrev pub least_of_response : OpD → Level
least_of_response d.AccessAck = level.UL
least_of_response d.AccessAckData = level.UL
least_of_response d.HintAck = level.UH
least_of_response _ = level.C

-- the least level whose links have messages of this kind
abbrev pub least_level : MessageKind → Level
least_level (kind.A opcode param bytes) = least_of_request opcode
least_level (kind.D opcode param bytes) = least_of_response opcode
least_level _ = level.C

-- the least level whose links have messages of this kind
abbrev pub level_of : Pending → Level
level_of pending.Get = level.UL
level_of pending.Put = level.UL
level_of pending.Atomic = level.UH
level_of _ = level.C

-- the place of a level
abbrev pub rank : Level → ℕ
rank level.UL = 0
rank level.UH = 1
rank level.C = 2

-- accesses at the level may have this many bytes: at UL no more than a beat
abbrev pub fits : ℕ → Level → Bytes → Bool
fits w level.UL bytes = nat_le (number_of bytes) w
fits w _ bytes = true

-- the bytes of a message fit, if it has any
abbrev pub fields_fit : ℕ → Level → Option (Param × Bytes) → Bool
fields_fit w level None = true
fields_fit w level (Some f) = fits w level f.1

-- the report keeps the permission
abbrev pub keeps : Param → Bool
keeps (param.Report report.TtoT) = true
keeps (param.Report report.BtoB) = true
keeps (param.Report report.NtoN) = true
keeps _ = false

-- the cap gives nothing
abbrev pub gives_none : Param → Bool
gives_none (param.Cap cap.ToN) = true
gives_none _ = false

-- a kind of message needs no liberty, or the link has that one: a Release that keeps its permission `reports`, a
-- Grant toN `denied`
abbrev pub is_allowed : Liberties → MessageKind → Bool
is_allowed l (kind.C c.Release param bytes) = if keeps param then l.reports else true
is_allowed l (kind.C c.ReleaseData param bytes) = if keeps param then l.reports else true
is_allowed l (kind.D d.Grant param bytes) = if gives_none param then l.denied else true
is_allowed l (kind.D d.GrantData param bytes) = if gives_none param then l.denied else true
is_allowed l _ = true

-- a link of this level with these liberties, whose beats have w bytes, has messages of this kind
abbrev pub has_kind : ℕ → Liberties → Level → MessageKind → Bool
has_kind w l level kind =
    nat_le (rank (least_level kind)) (rank level) && (fields_fit w level (fields kind) && is_allowed l kind)

-- messages on such a link begin in this bin
abbrev pub is_possible : ℕ → Liberties → Level → Situation → Bool
is_possible w l level (Sent kind) = has_kind w l level kind
is_possible w l level (Aligned bytes many) = fits w level bytes
is_possible w l level (Among kind depth) = nat_le (rank (level_of kind)) (rank level)
is_possible w l level.C _ = true
is_possible w l _ _ = false
