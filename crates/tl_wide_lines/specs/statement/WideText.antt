-- The readable line of a wide beat: that of a beat, with more digits of address, source, sink and mask.
use Rattle.std.specs.Prelude.{ℕ, ◌/◌, List, [], ◌∷◌, ◌++◌, codes}
use Rattle.tl_beat.specs.declared.beat.Link.{Link}
use Rattle.tl_beat.specs.declared.channel.Channel.{Channel}
use Rattle.tl_beat.specs.declared.channel.Channel.TheVariants as channel
use Rattle.tl_beat.specs.statement.Digits.{digits, lanes_text, bit_text}
use Rattle.tl_beat.specs.statement.Line.{letter, spaced}
use Rattle.tl_beat.specs.statement.Names.{a_name, b_name, c_name, d_name}
use Rattle.tl_explain.specs.statement.ParamNames.{a_param_name, b_param_name, c_param_name, d_param_name}
use Rattle.tl_explain.specs.statement.Text.{param_text}
use Rattle.tl_wide.specs.declared.beat.WideBeat.{WideBeat}
use Rattle.tl_wide.specs.declared.beat.WideBeat.TheVariants as wide

-- the fields that readable lines of channels A to D begin with
abbrev pub head_fields : Link → Channel → List ℕ → List ℕ → ℕ → ℕ → List (List ℕ)
head_fields link channel name param size source =
    digits 2 link.0 ∷ letter channel ∷ name ∷ param ∷ (codes "size=" ++ digits 1 size)
    ∷ (codes "source=" ++ digits 4 source) ∷ []

-- the fields of a wide beat's readable line
abbrev pub wide_text_fields : {w : ℕ} → Link → WideBeat w → List (List ℕ)
wide_text_fields {w} link (wide.A x) =
    head_fields link channel.A (a_name x.opcode) (param_text (a_param_name x.opcode x.param) x.param) x.size x.source
    ++ ((codes "address=" ++ digits 16 x.address) ∷ (codes "mask=" ++ digits (w / 4) x.mask)
    ∷ (codes "data=" ++ lanes_text x.lanes) ∷ (codes "corrupt=" ++ bit_text x.corrupt) ∷ [])
wide_text_fields {w} link (wide.B x) =
    head_fields link channel.B (b_name x.opcode) (param_text (b_param_name x.opcode x.param) x.param) x.size x.source
    ++ ((codes "address=" ++ digits 16 x.address) ∷ (codes "mask=" ++ digits (w / 4) x.mask)
    ∷ (codes "data=" ++ lanes_text x.lanes) ∷ (codes "corrupt=" ++ bit_text x.corrupt) ∷ [])
wide_text_fields link (wide.C x) =
    head_fields link channel.C (c_name x.opcode) (param_text (c_param_name x.opcode x.param) x.param) x.size x.source
    ++ ((codes "address=" ++ digits 16 x.address) ∷ (codes "data=" ++ lanes_text x.lanes)
    ∷ (codes "corrupt=" ++ bit_text x.corrupt) ∷ [])
wide_text_fields link (wide.D x) =
    head_fields link channel.D (d_name x.opcode) (param_text (d_param_name x.opcode x.param) x.param) x.size x.source
    ++ ((codes "sink=" ++ digits 4 x.sink) ∷ (codes "denied=" ++ bit_text x.denied)
    ∷ (codes "data=" ++ lanes_text x.lanes) ∷ (codes "corrupt=" ++ bit_text x.corrupt) ∷ [])
wide_text_fields link (wide.E x) =
    digits 2 link.0 ∷ letter channel.E ∷ codes "GrantAck" ∷ (codes "sink=" ++ digits 4 x.sink) ∷ []

-- the readable line of a wide beat: its fields with a space between each two, and a line feed
abbrev pub wide_text_of : {w : ℕ} → Link → WideBeat w → List ℕ
wide_text_of link beat = spaced (wide_text_fields link beat) ++ 10 ∷ []
