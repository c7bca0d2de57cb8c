-- The kinds of messages: by channel, opcode, param and size.
use Rattle.std.specs.Prelude.{ℕ, Bool, true, false, ◌==◌, ◌&&◌, List, codes, Option, Some, None}
use Rattle.tl_beat.specs.declared.beat.Beat.{Beat}
use Rattle.tl_beat.specs.declared.beat.Beat.TheVariants as beat
use Rattle.tl_beat.specs.statement.Names.{a_name, b_name, c_name, d_name}
use Rattle.tl_beat.specs.statement.Opcode.{a_code, b_code, c_code, d_code}
use Rattle.tl_cover.specs.declared.message.MessageKind.{MessageKind}
use Rattle.tl_cover.specs.declared.message.MessageKind.TheVariants as kind
use Rattle.tl_cover.specs.declared.message.Param.{Param}
use Rattle.tl_cover.specs.declared.message.Param.TheVariants as param
use Rattle.tl_cover.specs.declared.situation.Bytes.{Bytes}
use Rattle.tl_cover.specs.statement.Kinds.{size_of}
use Rattle.tl_params.specs.statement.Names.{arithmetic_name, cap_name, grow_name, intent_name, logical_name, report_name}
use Rattle.tl_params.specs.statement.Param.{arithmetic_code, cap_code, grow_code, intent_code, logical_code, report_code}

-- the number of a param
abbrev pub param_code : Param → ℕ
param_code param.Zero = 0
param_code (param.Grow grow) = grow_code grow
param_code (param.Cap cap) = cap_code cap
param_code (param.Report report) = report_code report
param_code (param.Arithmetic operation) = arithmetic_code operation
param_code (param.Logical operation) = logical_code operation
param_code (param.Intent intent) = intent_code intent

-- the numbers are those of the param and of the number of bytes
abbrev pub has : Param → Bytes → ℕ → ℕ → Bool
has param bytes number size = (param_code param == number) && (size_of bytes == size)

-- the beat is of a message of this channel, opcode, param and number of bytes
abbrev pub is_of_kind : {w : ℕ} → MessageKind → Beat w → Bool
is_of_kind (kind.A opcode param bytes) (beat.A x) = (a_code opcode == a_code x.opcode) && has param bytes x.param x.size
is_of_kind (kind.B opcode param bytes) (beat.B x) = (b_code opcode == b_code x.opcode) && has param bytes x.param x.size
is_of_kind (kind.C opcode param bytes) (beat.C x) = (c_code opcode == c_code x.opcode) && has param bytes x.param x.size
is_of_kind (kind.D opcode param bytes) (beat.D x) = (d_code opcode == d_code x.opcode) && has param bytes x.param x.size
is_of_kind kind.E (beat.E x) = true
is_of_kind _ _ = false

-- ---- names

-- the specification's name of a param, if it has one
abbrev pub param_name : Param → Option (List ℕ)
param_name param.Zero = None
param_name (param.Grow grow) = Some (grow_name grow)
param_name (param.Cap cap) = Some (cap_name cap)
param_name (param.Report report) = Some (report_name report)
param_name (param.Arithmetic operation) = Some (arithmetic_name operation)
param_name (param.Logical operation) = Some (logical_name operation)
param_name (param.Intent intent) = Some (intent_name intent)

-- the letter of the channel
abbrev pub letter : MessageKind → List ℕ
letter (kind.A opcode param bytes) = codes "A"
letter (kind.B opcode param bytes) = codes "B"
letter (kind.C opcode param bytes) = codes "C"
letter (kind.D opcode param bytes) = codes "D"
letter kind.E = codes "E"

-- the specification's name of the opcode
abbrev pub opcode_name : MessageKind → List ℕ
opcode_name (kind.A opcode param bytes) = a_name opcode
opcode_name (kind.B opcode param bytes) = b_name opcode
opcode_name (kind.C opcode param bytes) = c_name opcode
opcode_name (kind.D opcode param bytes) = d_name opcode
opcode_name kind.E = codes "GrantAck"

-- the param, and the bytes; None for a GrantAck
abbrev pub fields : MessageKind → Option (Param × Bytes)
fields (kind.A opcode param bytes) = Some (param, bytes)
fields (kind.B opcode param bytes) = Some (param, bytes)
fields (kind.C opcode param bytes) = Some (param, bytes)
fields (kind.D opcode param bytes) = Some (param, bytes)
fields kind.E = None
