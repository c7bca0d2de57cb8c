-- A message in words, and text for SVG.
use Rattle.std.specs.Prelude.{ℕ, Bool, List, [], ◌∷◌, ◌++◌, ◌==◌, codes, if◌then◌else◌, nat_le, Option}
use Rattle.std.specs.Prelude.{Some, None}
use Rattle.std.specs.Fmt.{decimal}
use Rattle.std.specs.List.{flat_map}
use Rattle.tl_beat.specs.declared.control.Control.{Control}
use Rattle.tl_beat.specs.declared.control.Control.TheVariants as control
use Rattle.tl_beat.specs.statement.Digits.{digits}
use Rattle.tl_beat.specs.statement.Line.{letter}
use Rattle.tl_beat.specs.statement.Names.{a_name, b_name, c_name, d_name}
use Rattle.tl_chart.specs.declared.arrow.Arrow.{Arrow}
use Rattle.tl_chart.specs.declared.names.Names.{Names}
use Rattle.tl_chart.specs.statement.Messages.{channel_in}
use Rattle.tl_chart.specs.statement.Names.{beats_named, block_name, sink_name, source_name}
use Rattle.tl_explain.specs.statement.ParamNames.{a_param_name, b_param_name, c_param_name, d_param_name}
use Rattle.tl_rules.specs.statement.History.{is_grant}

-- a byte, escaped for SVG
abbrev pub escaped_byte : ℕ → List ℕ
escaped_byte c = if c == 38 then codes "&amp;" else if c == 60 then codes "&lt;" else if c == 62 then codes "&gt;" else
    c ∷ []

-- bytes, escaped for SVG
abbrev pub escaped : List ℕ → List ℕ
escaped bytes = flat_map escaped_byte bytes

-- the name of a message
abbrev pub message_name : Control → List ℕ
message_name (control.A x) = a_name x.opcode
message_name (control.B x) = b_name x.opcode
message_name (control.C x) = c_name x.opcode
message_name (control.D x) = d_name x.opcode
message_name (control.E x) = codes "GrantAck"

-- the name of the message's param, if it has one
abbrev pub message_param : Control → Option (List ℕ)
message_param (control.A x) = a_param_name x.opcode x.param
message_param (control.B x) = b_param_name x.opcode x.param
message_param (control.C x) = c_param_name x.opcode x.param
message_param (control.D x) = d_param_name x.opcode x.param
message_param (control.E x) = None

-- a word after a space, if there is one
abbrev pub word_text : Option (List ℕ) → List ℕ
word_text None = []
word_text (Some word) = codes " " ++ word

-- the block, if there is one
unfoldable pub block_text : Names → Option ℕ → List ℕ
block_text names None = []
block_text names (Some k) = codes " block " ++ block_name names k

-- the source, of this link
unfoldable pub source_text : Names → ℕ → ℕ → List ℕ
source_text names link s = codes " source " ++ source_name names link s

-- the sink
unfoldable pub sink_text : Names → ℕ → List ℕ
sink_text names s = codes " sink " ++ sink_name names s

-- source and sink, if the message has them
unfoldable pub ends_text : Names → ℕ → Control → List ℕ
ends_text names link (control.A x) = source_text names link x.source
ends_text names link (control.B x) = []
ends_text names link (control.C x) = source_text names link x.source
ends_text names link (control.D x) =
    if is_grant x.opcode then source_text names link x.source ++ sink_text names x.sink
    else source_text names link x.source
ends_text names link (control.E x) = sink_text names x

-- the number of beats of the message, if it is more than one
unfoldable pub count_text : ℕ → List ℕ
count_text beats = if nat_le beats 1 then [] else codes " " ++ decimal beats ++ codes " beats"

-- the same, and whether beats are missing
unfoldable pub beats_text : ℕ → Bool → List ℕ
beats_text beats complete = count_text beats ++ (if complete then [] else codes ", not all")

-- link, channel, name and param
unfoldable pub name_text : Arrow → List ℕ
name_text m =
    digits 2 m.link.0 ++ codes " " ++ letter (channel_in m.control) ++ codes " " ++ message_name m.control
    ++ word_text (message_param m.control)

-- a message in words, with these names
abbrev pub words_of : Names → Arrow → List ℕ
words_of names m =
    name_text m ++ block_text names m.block ++ ends_text names m.link.0 m.control
    ++ beats_text (beats_named names m.beats) m.complete
