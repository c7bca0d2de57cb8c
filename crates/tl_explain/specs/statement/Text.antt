-- The readable line of a beat.
use Rattle.std.specs.Prelude.{ℕ, ◌/◌, List, [], ◌∷◌, ◌++◌, codes, Option, unwrap_or}
use Rattle.tl_beat.specs.declared.beat.Link.{Link}
use Rattle.tl_beat.specs.declared.beat.Beat.{Beat}
use Rattle.tl_beat.specs.declared.beat.Beat.TheVariants.{A, B, C, D, E}
use Rattle.tl_beat.specs.declared.channel.Channel.TheVariants as channel
use Rattle.tl_beat.specs.statement.Digits.{digits, lanes_text, bit_text}
use Rattle.tl_beat.specs.statement.Line.{letter, spaced}
use Rattle.tl_beat.specs.statement.Names.{a_name, b_name, c_name, d_name}
use Rattle.tl_explain.specs.statement.ParamNames.{a_param_name, b_param_name, c_param_name, d_param_name}

-- a param by its name, or by its digit if it has none
abbrev pub param_text : Option (List ℕ) → ℕ → List ℕ
param_text name param = unwrap_or name (digits 1 param)

-- the fields of a beat's readable line
abbrev pub text_fields : {w : ℕ} → Link → Beat w → List (List ℕ)
text_fields {w} link (A x) =
    digits 2 link.0 ∷ letter channel.A ∷ a_name x.opcode ∷ param_text (a_param_name x.opcode x.param) x.param
    ∷ (codes "size=" ++ digits 1 x.size) ∷ (codes "source=" ++ digits 2 x.source) ∷ (codes "address=" ++ digits 8
    x.address)
    ∷ (codes "mask=" ++ digits (w / 4) x.mask) ∷ (codes "data=" ++ lanes_text x.lanes) ∷ (codes "corrupt=" ++ bit_text
    x.corrupt) ∷ []
text_fields {w} link (B x) =
    digits 2 link.0 ∷ letter channel.B ∷ b_name x.opcode ∷ param_text (b_param_name x.opcode x.param) x.param
    ∷ (codes "size=" ++ digits 1 x.size) ∷ (codes "source=" ++ digits 2 x.source) ∷ (codes "address=" ++ digits 8
    x.address)
    ∷ (codes "mask=" ++ digits (w / 4) x.mask) ∷ (codes "data=" ++ lanes_text x.lanes) ∷ (codes "corrupt=" ++ bit_text
    x.corrupt) ∷ []
text_fields {w} link (C x) =
    digits 2 link.0 ∷ letter channel.C ∷ c_name x.opcode ∷ param_text (c_param_name x.opcode x.param) x.param
    ∷ (codes "size=" ++ digits 1 x.size) ∷ (codes "source=" ++ digits 2 x.source) ∷ (codes "address=" ++ digits 8
    x.address)
    ∷ (codes "data=" ++ lanes_text x.lanes) ∷ (codes "corrupt=" ++ bit_text x.corrupt) ∷ []
text_fields {w} link (D x) =
    digits 2 link.0 ∷ letter channel.D ∷ d_name x.opcode ∷ param_text (d_param_name x.opcode x.param) x.param
    ∷ (codes "size=" ++ digits 1 x.size) ∷ (codes "source=" ++ digits 2 x.source) ∷ (codes "sink=" ++ digits 2 x.sink)
    ∷ (codes "denied=" ++ bit_text x.denied) ∷ (codes "data=" ++ lanes_text x.lanes) ∷ (codes "corrupt=" ++ bit_text
    x.corrupt) ∷ []
text_fields {w} link (E x) =
    digits 2 link.0 ∷ letter channel.E ∷ codes "GrantAck" ∷ (codes "sink=" ++ digits 2 x.sink) ∷ []

-- the readable line of a beat: its fields with a space between each two, and a line feed
abbrev pub text_of : {w : ℕ} → Link → Beat w → List ℕ
text_of link beat = spaced (text_fields link beat) ++ 10 ∷ []
