-- The picture: the places of a chart's parts, and the drawing of messages, notes and permissions. Each message and each
-- note has a row. Rows count from 1, and row 0 is the upper end of the lifelines.
use Rattle.std.specs.Prelude.{ℕ, ◌+◌, ◌*◌, ◌-◌, Bool, true, false, List, [], ◌∷◌, ◌++◌, ◌==◌, codes, count_by}
use Rattle.std.specs.Prelude.{if◌then◌else◌, length, min, nat_le, nat_lt}
use Rattle.std.specs.Fmt.{decimal}
use Rattle.std.specs.List.{flat_map}
use Rattle.tl_beat.specs.declared.control.Control.{Control}
use Rattle.tl_beat.specs.declared.control.Control.TheVariants as control
use Rattle.tl_beat.specs.statement.Line.{letter}
use Rattle.tl_chart.specs.declared.arrow.Arrow.{Arrow}
use Rattle.tl_chart.specs.declared.mark.Mark.{Mark}
use Rattle.tl_chart.specs.declared.names.Names.{Names}
use Rattle.tl_chart.specs.declared.note.Note.{Note}
use Rattle.tl_chart.specs.statement.Words.{escaped, words_of}
use Rattle.tl_chart.specs.statement.Messages.{channel_in}
use Rattle.tl_params.specs.declared.perm.Perm.{Perm}
use Rattle.tl_params.specs.declared.perm.Perm.TheVariants as perm

-- ---- places

-- the place of a row, from the top
abbrev pub row_place : ℕ → ℕ
row_place row = 72 + 20 * min row 4000

-- the distance of a column from the manager's lifeline; with fewer columns it is larger
abbrev pub column_place : ℕ → ℕ → ℕ
column_place count column = if nat_le count 3 then 80 * column else if nat_le count 8 then 50 * column else 27 * column

-- the place of the manager's lifeline, from the left
abbrev pub manager_place : ℕ
manager_place = 526

-- the number of these links with lower numbers
abbrev pub lower : List ℕ → ℕ → ℕ
lower links link = count_by (λ other. nat_lt other link) links

-- the place of a link's lifeline among those of these links, from the left
abbrev pub link_place : List ℕ → ℕ → ℕ
link_place links link = manager_place + column_place (length links) (min (lower links link) 255 + 1)

-- the last row up to a line, among the rows of these lines
abbrev pub row_of : List ℕ → ℕ → ℕ
row_of rows line = count_by (λ row. nat_le row line) rows

-- the place for the end of a message or a change of permission: after the last row up to that line
abbrev pub end_place : List ℕ → ℕ → ℕ
end_place rows line = row_place (row_of rows line) + 7

-- ---- messages

-- a message goes from the manager to the client
abbrev pub is_down : Control → Bool
is_down (control.B x) = true
is_down (control.D x) = true
is_down _ = false

-- the distance of a message's bracket from the client's lifeline
abbrev pub bracket_width : Control → ℕ
bracket_width (control.A x) = 5
bracket_width (control.C x) = 8
bracket_width _ = 11

-- the class for the colour: of the channel, or of the beat at fault
abbrev pub colour_class : ℕ → Arrow → List ℕ
colour_class fault m = if m.first == fault then codes "X" else letter (channel_in m.control)

-- the class for dashes, of a message that begins before the window
abbrev pub dash_class : ℕ → Arrow → List ℕ
dash_class first m = if nat_lt m.first first then codes " o" else []

-- the beginning of a message's group, with its classes
unfoldable pub class_text : ℕ → ℕ → Arrow → List ℕ
class_text first fault m = codes "<g class='" ++ colour_class fault m ++ dash_class first m ++ codes "'>\n"

-- the number of the first line, and the words of the message
unfoldable pub number_text : ℕ → ℕ → List ℕ
number_text y line = codes "<text class='n' x='60' y='" ++ decimal (y + 4) ++ codes "'>" ++ decimal line

-- the words of a row
unfoldable pub told_text : ℕ → List ℕ → List ℕ
told_text y words =
    codes "</text><text x='70' y='" ++ decimal (y + 4) ++ codes "'>" ++ escaped words ++ codes "</text>\n"

-- a row: the number of its line, and its words
unfoldable pub row_text : ℕ → ℕ → List ℕ → List ℕ
row_text y line words = number_text y line ++ told_text y words

-- the shaft of the arrow, and a point at its start
unfoldable pub shaft_text : ℕ → ℕ → ℕ → List ℕ
shaft_text from to y = codes "<path d='M" ++ decimal from ++ codes " " ++ decimal y ++ codes "H" ++ decimal to

-- the place of that point
unfoldable pub point_place : ℕ → ℕ → List ℕ
point_place x y = codes "'/><circle cx='" ++ decimal x ++ codes "' cy='" ++ decimal y

-- that point
unfoldable pub point_text : ℕ → ℕ → List ℕ
point_text x y = point_place x y ++ codes "' r='2.5'/>"

-- the tip of the arrow, which points to the left or to the right
abbrev pub strokes : Bool → List ℕ
strokes true = codes "m7 -4l-7 4l7 4"
strokes false = codes "m-7 -4l7 4l-7 4"

-- the tip at the end of the arrow
unfoldable pub tip_text : ℕ → ℕ → ℕ → List ℕ
tip_text from to y =
    codes "<path class='s' d='M" ++ decimal to ++ codes " " ++ decimal y ++ strokes (nat_lt to from) ++ codes "'/>\n"

-- the arrow: shaft, point and tip
unfoldable pub line_text : ℕ → ℕ → ℕ → List ℕ
line_text from to y = shaft_text from to y ++ point_text from y ++ tip_text from to y

-- the arrow of a message, between the client's lifeline at x and the manager's
unfoldable pub across_text : Arrow → ℕ → ℕ → List ℕ
across_text m x y = if is_down m.control then line_text manager_place x y else line_text x manager_place y

-- the bracket down to the last beat; it stays open if beats are missing
unfoldable pub close_text : Arrow → List ℕ
close_text m = if m.complete then codes "h" ++ decimal (bracket_width m.control) else []

-- the side of the bracket
unfoldable pub side_text : ℕ → ℕ → ℕ → List ℕ
side_text x from to = codes "<path d='M" ++ decimal x ++ codes " " ++ decimal from ++ codes "V" ++ decimal to

-- the bracket: its side, and its last stroke if the message is complete
unfoldable pub bracket_text : Arrow → ℕ → ℕ → ℕ → List ℕ
bracket_text m x from to = side_text (x - bracket_width m.control) from to ++ close_text m ++ codes "'/>\n"

-- the bracket of a message with more than one beat
unfoldable pub extent_text : List ℕ → Arrow → ℕ → ℕ → List ℕ
extent_text rows m x y = if nat_lt m.first m.last then bracket_text m x y (end_place rows m.last) else []

-- the drawing of a message: its row, its arrow, its bracket
unfoldable pub arrow_text : Names → List ℕ → List ℕ → ℕ → ℕ → Arrow → List ℕ
arrow_text names rows links first fault m =
    class_text first fault m ++ row_text (row_place (row_of rows m.first)) m.first (words_of names m)
    ++ across_text m (link_place links m.link.0) (row_place (row_of rows m.first))
    ++ extent_text rows m (link_place links m.link.0) (row_place (row_of rows m.first)) ++ codes "</g>\n"

-- all messages, in their order
abbrev pub arrows_text : Names → List ℕ → List ℕ → ℕ → ℕ → List Arrow → List ℕ
arrows_text names rows links first fault arrows = flat_map (arrow_text names rows links first fault) arrows

-- ---- notes

-- the class of a full mark or a hollow one
abbrev pub mark_class : Bool → List ℕ
mark_class true = codes "w"
mark_class false = codes "r"

-- the class and the size of a mark
unfoldable pub spot_class : List ℕ → List ℕ
spot_class class = codes "<rect class='" ++ class ++ codes "' width='6' height='6'"

-- the same, and its place from the left
unfoldable pub spot_side : List ℕ → ℕ → List ℕ
spot_side class x = spot_class class ++ codes " x='" ++ decimal (x - 5)

-- a mark on the lifeline at x
unfoldable pub spot_text : List ℕ → ℕ → ℕ → List ℕ
spot_text class x y = spot_side class x ++ codes "' y='" ++ decimal (y - 3) ++ codes "'/>\n"

-- the drawing of a note: its row, and a mark on the lifeline of its link
unfoldable pub note_text : List ℕ → List ℕ → Note → List ℕ
note_text rows links n =
    row_text (row_place (row_of rows n.line)) n.line n.words.items
    ++ spot_text (mark_class n.full) (link_place links n.link.0) (row_place (row_of rows n.line))

-- all notes, in their order
abbrev pub notes_text : List ℕ → List ℕ → List Note → List ℕ
notes_text rows links notes = flat_map (note_text rows links) notes

-- ---- the verdict

-- a line of text below the messages
unfoldable pub said_text : ℕ → List ℕ → List ℕ
said_text y text =
    codes "<text class='v' x='70' y='" ++ decimal y ++ codes "'>" ++ escaped text ++ codes "</text>\n"

-- the class for red, if a line is at fault
abbrev pub verdict_class : Bool → List ℕ
verdict_class true = codes "X"
verdict_class false = codes "v"

-- the text of the verdict
unfoldable pub verdict_text : ℕ → Bool → List ℕ → List ℕ
verdict_text y broken text =
    codes "<g class='" ++ verdict_class broken ++ codes "'>\n" ++ said_text y text ++ codes "</g>\n"

-- ---- the permissions held

-- a bar of a class beside a lifeline, between two places from above
unfoldable pub bar_class : List ℕ → List ℕ
bar_class class = codes "<rect class='" ++ class ++ codes "'"

-- the class of a bar, and its place beside a lifeline
unfoldable pub bar_side : List ℕ → ℕ → List ℕ
bar_side class x = bar_class class ++ codes " x='" ++ decimal (x + 4)

-- the place and height of a bar
unfoldable pub bar_size : ℕ → ℕ → List ℕ
bar_size from to =
    codes "' y='" ++ decimal from ++ codes "' width='6' height='" ++ decimal (to - from) ++ codes "'/>\n"

-- a bar of a class beside a lifeline, between two places from the top
unfoldable pub bar_of : List ℕ → ℕ → ℕ → ℕ → List ℕ
bar_of class x from to = bar_side class x ++ bar_size from to

-- the bar of a permission, Branch or Trunk; there is none for None
unfoldable pub bar_text : Perm → ℕ → ℕ → ℕ → List ℕ
bar_text perm.None x from to = []
bar_text perm.Branch x from to = bar_of (codes "r") x from to
bar_text perm.Trunk x from to = bar_of (codes "w") x from to

-- the place at which the permission changes; the top if that was before the window
unfoldable pub mark_place : List ℕ → ℕ → Mark → ℕ
mark_place rows first mark = if nat_lt mark.line first then row_place 0 else end_place rows mark.line

-- the bars of a link at x, which holds this permission from a place on, down to the bottom
unfoldable pub bars_text : List ℕ → ℕ → ℕ → ℕ → ℕ → Perm → ℕ → List Mark → List ℕ
bars_text rows first bottom link x held from [] = bar_text held x from bottom
bars_text rows first bottom link x held from (m ∷ marks) =
    if m.link.0 == link
    then bar_text held x from (mark_place rows first m)
    ++ bars_text rows first bottom link x m.held (mark_place rows first m) marks
    else bars_text rows first bottom link x held from marks
