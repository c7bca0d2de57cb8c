-- The drawing of a trace: its messages, and the permissions held of a block.
use Rattle.std.specs.Prelude.{ℕ, Bool, true, false, not, List, [], ◌∷◌, ◌++◌, ◌==◌, ◌&&◌, ◌||◌, ◌+◌, if◌then◌else◌}
use Rattle.std.specs.Prelude.{filter, length, map, nat_le, nat_lt, Option, Some, None}
use Rattle.tl_beat.specs.declared.beat.Beat.{Beat}
use Rattle.tl_beat.specs.declared.beat.Beat.TheVariants as beat
use Rattle.tl_beat.specs.declared.beat.Link.{Link}
use Rattle.tl_beat.specs.declared.control.Control.{Control}
use Rattle.tl_beat.specs.declared.control.Control.TheVariants as control
use Rattle.tl_burst.specs.statement.Messages.{History}
use Rattle.tl_chart.specs.declared.arrow.Arrow.{Arrow}
use Rattle.tl_chart.specs.declared.mark.Mark.{Mark}
use Rattle.tl_chart.specs.declared.window.Window.{Window}
use Rattle.tl_chart.specs.statement.Messages.{continued, fault_from, message_block, message_from}
use Rattle.tl_explain.specs.statement.Evidence.{next_line}
use Rattle.tl_params.specs.declared.perm.Perm.{Perm}
use Rattle.tl_params.specs.declared.perm.Perm.TheVariants as perm
use Rattle.tl_rules.specs.statement.Conformance.{Trace, on_link, same_perm}
use Rattle.tl_rules.specs.statement.History.{begins, ends, is_grant, is_probe, is_probe_ack, is_release}
use Rattle.tl_rules.specs.statement.History.{is_release_ack}

-- ---- the messages still open before the window

-- there are two blocks, and they are the same
abbrev pub same_block : Option ℕ → Option ℕ → Bool
same_block (Some a) (Some b) = a == b
same_block _ _ = false

-- the message needs an answer
abbrev pub wants_answer : Control → Bool
wants_answer (control.A x) = true
wants_answer (control.B x) = is_probe x.opcode
wants_answer (control.C x) = is_release x.opcode
wants_answer (control.D x) = is_grant x.opcode
wants_answer (control.E x) = false

-- a message of this block, completed by the beat, answers the message with these fields and the block `of`
abbrev pub answers : {w : ℕ} → Beat w → Option ℕ → Control → Option ℕ → Bool
answers (beat.D x) block (control.A y) of = not (is_release_ack x.opcode) && (x.source == y.source)
answers (beat.D x) block (control.C y) of = is_release_ack x.opcode && (is_release y.opcode && (x.source == y.source))
answers (beat.E x) block (control.D y) of = is_grant y.opcode && (x.sink == y.sink)
answers (beat.C x) block (control.B y) of = is_probe_ack x.opcode && (is_probe y.opcode && same_block block of)
answers _ block _ of = false

-- The message, marked as answered if a message of this block, completed by this beat, answers it. `last` says that the
-- beat completes a message. An answer may come before the last beat of its request.
abbrev pub noted_by : {w : ℕ} → Link → Bool → Beat w → Option ℕ → Arrow → Arrow
noted_by link last x block m = record m {
  answered = m.answered || ((m.link.0 == link.0) && (last && answers x block m.control m.block));
}

-- the same for the beat x after t
abbrev pub noted : {w : ℕ} → Link × Beat w → Trace w → Arrow → Arrow
noted x t m = noted_by x.0 (ends x.1 (on_link x.0.0 t)) x.1 (message_block x.1 (on_link x.0.0 t)) m

-- beats of the message are missing, or it needs an answer and has none
abbrev pub is_open : Arrow → Bool
is_open m = not m.complete || (wants_answer m.control && not m.answered)

-- ---- the drawing

-- The drawing: the messages, the permissions held and their lines, the number of messages that follow, the last line
-- drawn, and whether drawing has ended.
pub record Drawn : Type 0 where
  pub arrows : List Arrow
  pub marks : List Mark
  pub more : ℕ
  pub end : ℕ
  pub closed : Bool

-- messages of this block are drawn: each, or those of the one block of the window
abbrev pub shows : Option ℕ → Option ℕ → Bool
shows None block = true
shows (Some k) block = same_block (Some k) block

-- a message that is drawn begins with the beat x after t
abbrev pub starts : {w : ℕ} → Window → Link × Beat w → Trace w → Bool
starts win x t = begins x.1 (on_link x.0.0 t) && shows win.block (message_block x.1 (on_link x.0.0 t))

-- drawing has ended: the line is after the window, or its message is one too many
abbrev pub closes : Window → Drawn → ℕ → Bool → Bool
closes win d line begins =
    d.closed || (nat_lt win.last line || (begins && (nat_le win.most (length d.arrows) && nat_le win.first line)))

-- the messages after one more beat
abbrev pub with_beat : {w : ℕ} → Window → Link × Beat w → Trace w → List Arrow → List Arrow
with_beat win x t arrows =
    if begins x.1 (on_link x.0.0 t)
    then (if starts win x t && nat_lt (length arrows) win.most then arrows ++ message_from x t ∷ [] else arrows)
    else map (continued x t) arrows

-- before the window, only the messages that are open
abbrev pub within : {w : ℕ} → Window → Link × Beat w → Trace w → List Arrow → List Arrow
within win x t arrows = if nat_lt (next_line t) win.first then filter is_open (map (noted x t) arrows) else arrows

-- the permission that a link holds of a block: `held`, or `held_under` the link's liberties
abbrev pub Holding : ℕ → Type 0
Holding w = ℕ → History w → Perm

-- the permission that a link holds of the window's block; None if the window has none
abbrev pub holds : {w : ℕ} → Holding w → Option ℕ → Link → Trace w → Perm
holds held None link t = perm.None
holds held (Some k) link t = held k (on_link link.0 t)

-- The permissions and their lines after one more beat, with a new entry if the permission changes. Before the window
-- each link keeps only its last entry.
abbrev pub marks_with : {w : ℕ} → Holding w → Window → Link × Beat w → Trace w → List Mark → List Mark
marks_with held win x t marks =
    if same_perm (holds held win.block x.0 t) (holds held win.block x.0 (x ∷ t)) then marks else
    (if nat_lt (next_line t) win.first then filter (λ m. not (m.link.0 == x.0.0)) marks else marks)
    ++ record { link = x.0; line = next_line t; held = holds held win.block x.0 (x ∷ t) } ∷ []

-- the drawing, ended, with one more message counted if one begins
abbrev pub skipped : Bool → Drawn → Drawn
skipped begins d = record {
  arrows = d.arrows;
  marks = d.marks;
  more = if begins then d.more + 1 else d.more;
  end = d.end;
  closed = true;
}

-- the drawing with the beat x after t drawn
abbrev pub drawn_more : {w : ℕ} → Holding w → Window → Link × Beat w → Trace w → Drawn → Drawn
drawn_more held win x t d = record {
  arrows = within win x t (with_beat win x t d.arrows);
  marks = marks_with held win x t d.marks;
  more = d.more;
  end = next_line t;
  closed = false;
}

-- the drawing after the beat x after t
abbrev pub drawn_next : {w : ℕ} → Holding w → Window → Link × Beat w → Trace w → Drawn → Drawn
drawn_next held win x t d =
    if closes win d (next_line t) (starts win x t) then skipped (starts win x t) d else drawn_more held win x t d

-- The drawing of a trace whose links hold these permissions. Line 1 is the header.
unfoldable pub drawn : {w : ℕ} → Holding w → Window → Trace w → Drawn
drawn held win [] = record { arrows = []; marks = []; more = 0; end = 1; closed = false }
drawn held win (x ∷ t) = drawn_next held win x t (drawn held win t)

-- the beat x after t, which is at fault, if its line is in the window and not too many messages come before it
abbrev pub fault_drawn : {w : ℕ} → Holding w → Window → Link × Beat w → Trace w → Option Arrow
fault_drawn held win x t =
    if closes win (drawn held win t) (next_line t) false || nat_lt (next_line t) win.first then None else
    Some (fault_from x t)
