-- The beats and commits that a search has taken, counted by link and message.
use Rattle.std.specs.Prelude.{◌≡◌, ◌<◌, ◌+◌, ◌*◌, ◌==◌, ℕ, List, length, count_by, slice_index_or}
use Rattle.tl_beat.specs.declared.beat.Beat.{Beat}
use Rattle.tl_beat.specs.declared.beat.Beat.TheVariants as beat
use Rattle.tl_beat.specs.declared.beat.Link.{Link}
use Rattle.tl_beat.specs.statement.Opcode.{a_code, b_code, c_code, d_code}
use Rattle.tl_events.specs.declared.commit.Commit.{Commit}
use Rattle.tl_events.specs.declared.commit.Commit.TheVariants as commit
use Rattle.tl_events.specs.declared.commit.Event.{Event}
use Rattle.tl_events.specs.declared.commit.Event.TheVariants as event
use Rattle.tl_wide.specs.declared.beat.WideBeat.{WideBeat}
use Rattle.tl_wide.specs.declared.beat.WideBeat.TheVariants as wide
use Rattle.tl_wide_events.specs.declared.commit.WideEvent.{WideEvent}
use Rattle.tl_wide_events.specs.declared.commit.WideEvent.TheVariants as wide_event
use Rattle.tl_wide_events.specs.statement.Narrowed.{commit_at}

-- the number of a message: eight for each channel from A to D, by the opcode, and one for GrantAck
abbrev pub message_of : {w : ℕ} → Beat w → ℕ
message_of (beat.A x) = a_code x.opcode
message_of (beat.B x) = 8 + b_code x.opcode
message_of (beat.C x) = 16 + c_code x.opcode
message_of (beat.D x) = 24 + d_code x.opcode
message_of (beat.E x) = 32

-- the same for a wide beat
abbrev pub wide_message_of : {w : ℕ} → WideBeat w → ℕ
wide_message_of (wide.A x) = a_code x.opcode
wide_message_of (wide.B x) = 8 + b_code x.opcode
wide_message_of (wide.C x) = 16 + c_code x.opcode
wide_message_of (wide.D x) = 24 + d_code x.opcode
wide_message_of (wide.E x) = 32

-- the same for a commit: stores, loads, and beginnings of loads, after the messages
abbrev pub commit_message_of : Commit → ℕ
commit_message_of (commit.Store piece value) = 33
commit_message_of (commit.Load piece value) = 34
commit_message_of (commit.Begin piece) = 35

-- the same for an event
abbrev pub event_message_of : {w : ℕ} → Event w → ℕ
event_message_of (event.Beat x) = message_of x
event_message_of (event.Commit x) = commit_message_of x

-- the same for an event of a wide trace: a commit has the number that it has at any other address
abbrev pub wide_event_message_of : {w : ℕ} → WideEvent w → ℕ
wide_event_message_of (wide_event.Beat x) = wide_message_of x
wide_event_message_of (wide_event.Commit x) = commit_message_of (commit_at x 0)

-- the number of the cell in which a beat with this message counts, or such a commit: each link has 36 cells
abbrev pub cell_for : Link → ℕ → ℕ
cell_for link message = 36 * link.0 + message

-- the number of the cell in which a beat counts
abbrev pub cell_of : {w : ℕ} → Link → Beat w → ℕ
cell_of link beat = cell_for link (message_of beat)

-- the number of the cell in which a wide beat counts
abbrev pub wide_cell_of : {w : ℕ} → Link → WideBeat w → ℕ
wide_cell_of link beat = cell_for link (wide_message_of beat)

-- the number of the cell in which an event counts
abbrev pub event_cell_of : {w : ℕ} → Link → Event w → ℕ
event_cell_of link x = cell_for link (event_message_of x)

-- the number of the cell in which an event of a wide trace counts
abbrev pub wide_event_cell_of : {w : ℕ} → Link → WideEvent w → ℕ
wide_event_cell_of link x = cell_for link (wide_event_message_of x)

-- the number of cells, for 256 links
abbrev pub most_cells : ℕ
most_cells = 9216

-- `beats` is the number of beats and commits taken, of which these are the cells, and each of `cells` has the number of
-- those in it
pub record AreCounted (beats : ℕ) (cells taken : List ℕ) : Type 0 where
  pub in_all : beats ≡ length taken
  pub room : length cells ≡ most_cells
  pub each : (i : ℕ) → i < most_cells → slice_index_or cells i 0 ≡ count_by (λ cell. cell == i) taken
