-- The content of a report as JSON. The members of an object are in the order of their names.
use Rattle.std.specs.Prelude.{◌≡◌, ◌+◌, ◌/◌, ◌%◌, ◌==◌, ◌++◌, ◌∷◌, ℕ, Bool, true, false, List, [], Option, Some, None}
use Rattle.std.specs.Prelude.{codes, if◌then◌else◌, map, not, position, take}
use Rattle.hex.specs.Hex.{encode_lower}
use Rattle.serde_json.specs.Data.{Data, array, member, no_members, null, number, object, string, unsigned}
use Rattle.serde_json.specs.View.{items_of}
use Rattle.serde_json.specs.Written.{compact_text}
use Rattle.tl_beat.specs.declared.beat.Beat.{Beat}
use Rattle.tl_beat.specs.declared.beat.Link.{Link}
use Rattle.tl_beat.specs.declared.channel.Channel.{Channel}
use Rattle.tl_beat.specs.statement.Control.{channel_of}
use Rattle.tl_beat.specs.statement.Names.{letter_of}
use Rattle.tl_lines.specs.declared.fault.Fault.{Fault}
use Rattle.tl_lines.specs.declared.fault.Fault.TheVariants.{Header}
use Rattle.tl_lines.specs.statement.Fault.{fault_name}
use Rattle.tl_events.specs.declared.commit.Commit.{Commit}
use Rattle.tl_events.specs.declared.commit.Event.{Event}
use Rattle.tl_events.specs.declared.commit.Event.TheVariants as event
use Rattle.tl_report.specs.declared.findings.Finding.{Finding}
use Rattle.tl_sign_off.specs.declared.account.Account.{Account}
use Rattle.tl_sign_off.specs.declared.input.Input.{Input}
use Rattle.tl_sign_off.specs.statement.Message.{channel_name, commit_letter, commit_name, message_name, name_of}
use Rattle.tl_sign_off.specs.statement.Message.{wide_channel_of, wide_name_of}
use Rattle.tl_sign_off.specs.statement.Sentence.{sentence_of}
use Rattle.tl_wide.specs.declared.beat.WideBeat.{WideBeat}
use Rattle.tl_wide_events.specs.declared.commit.WideEvent.{WideEvent}
use Rattle.tl_wide_events.specs.declared.commit.WideEvent.TheVariants as wide_event
use Rattle.tl_wide_events.specs.statement.Narrowed.{commit_at}

-- a number without sign
abbrev pub natural : ℕ → Data
natural n = number (unsigned n)

-- a line at fault: its number, the name of the rule or fault, and its sentence
abbrev pub fault_data : Finding → Data
fault_data x = object
    (member (codes "line") (natural x.line)
    (member (codes "rule") (string (fault_name x.fault))
    (member (codes "sentence") (string (sentence_of x.fault)) no_members)))

-- the lines at fault
abbrev pub faults_data : List Finding → Data
faults_data found = array (items_of (map fault_data found))

-- the number of beats or commits in a cell, with the link and message of the cell
abbrev pub count_data : ℕ → ℕ → Data
count_data cell n = object
    (member (codes "beats") (natural n)
    (member (codes "channel") (string (channel_name (cell % 36)))
    (member (codes "link") (natural (cell / 36))
    (member (codes "message") (string (message_name (cell % 36))) no_members))))

-- the number of lines of this link that have this letter and a message of this name
abbrev pub count_lettered : Link → List ℕ → List ℕ → ℕ → Data
count_lettered link letter name n = object
    (member (codes "beats") (natural n)
    (member (codes "channel") (string letter)
    (member (codes "link") (natural link.0)
    (member (codes "message") (string name) no_members))))

-- the number of beats of this link and channel whose message has this name
abbrev pub count_named : Link → Channel → List ℕ → ℕ → Data
count_named link channel name n = count_lettered link (letter_of channel ∷ []) name n

-- the number of beats with this beat's link and message
abbrev pub count_of : {w : ℕ} → Link → Beat w → ℕ → Data
count_of link beat n = count_named link (channel_of beat) (name_of beat) n

-- the number of wide beats with this beat's link and message
abbrev pub wide_count_of : {w : ℕ} → Link → WideBeat w → ℕ → Data
wide_count_of link beat n = count_named link (wide_channel_of beat) (wide_name_of beat) n

-- the number of commits of this commit's link and kind
abbrev pub commit_count_of : Link → Commit → ℕ → Data
commit_count_of link x n = count_lettered link (commit_letter x) (commit_name x) n

-- the number of events with this event's link and message
abbrev pub event_count_of : {w : ℕ} → Link → Event w → ℕ → Data
event_count_of link (event.Beat x) n = count_of link x n
event_count_of link (event.Commit x) n = commit_count_of link x n

-- the number of events of a wide trace with this event's link and message, or with its kind
abbrev pub wide_event_count_of : {w : ℕ} → Link → WideEvent w → ℕ → Data
wide_event_count_of link (wide_event.Beat x) n = wide_count_of link x n
wide_event_count_of link (wide_event.Commit x) n = commit_count_of link (commit_at x 0) n

-- the entry for a cell; none for a cell without beats or commits
abbrev pub counted_in : ℕ → ℕ → List Data
counted_in cell n = if n == 0 then [] else count_data cell n ∷ []

-- the entries for these cells, the first of which has this number
unfoldable pub counted_from : ℕ → List ℕ → List Data
counted_from cell [] = []
counted_from cell (n ∷ ns) = counted_in cell n ++ counted_from (cell + 1) ns

-- the entries for all cells
abbrev pub counts_data : List ℕ → Data
counts_data cells = array (items_of (counted_from 0 cells))

-- the fault is that the first line is no header
abbrev pub is_headless : Fault → Bool
is_headless Header = true
is_headless _ = false

-- the first line is a header
abbrev pub has_header : List Finding → Bool
has_header [] = true
has_header (x ∷ found) = not (is_headless x.fault)

-- the bytes before the first LF, if there is one
abbrev pub before : Option ℕ → List ℕ → List ℕ
before None front = front
before (Some i) front = take i front

-- the first line of these bytes
abbrev pub line_in : List ℕ → List ℕ
line_in front = before (position (λ b. b == 10) front) front

-- the header, or null if the first line is none
abbrev pub header_data : List Finding → List ℕ → Data
header_data found front = if has_header found then string (line_in front) else null

-- the input: its number of bytes, its header, and its SHA-256
abbrev pub input_data : List Finding → Input → Data
input_data found input = object
    (member (codes "bytes") (natural input.bytes)
    (member (codes "header") (header_data found input.front.items)
    (member (codes "sha256") (string (encode_lower input.sum)) no_members)))

-- the version of the tool, and the kit that proved it
abbrev pub version_name : List ℕ
version_name = codes "1.0.0"

-- the kit that proved the tool
abbrev pub kit_name : List ℕ
kit_name = codes "Rattle, logic dac8208d650f15bf"

-- the tool that judged the input
abbrev pub tool_data : Data
tool_data = object
    (member (codes "name") (string (codes "tltool"))
    (member (codes "proved_with") (string kit_name)
    (member (codes "version") (string version_name) no_members)))

-- the command: `coherent` judges all links together, `monitor` each by itself
abbrev pub command_name : Bool → List ℕ
command_name false = codes "monitor"
command_name true = codes "coherent"

-- the verdict on the whole input
abbrev pub verdict_name : Bool → List Finding → List ℕ
verdict_name false [] = codes "clean"
verdict_name true [] = codes "coherent"
verdict_name together found = codes "broken"

-- the report of an account, as a JSON value
abbrev pub report_of : Account → Data
report_of a = object
    (member (codes "beats") (natural a.findings.beats)
    (member (codes "command") (string (command_name a.together))
    (member (codes "counts") (counts_data a.findings.cells.items)
    (member (codes "faults") (faults_data a.findings.faults.items)
    (member (codes "input") (input_data a.findings.faults.items a.input)
    (member (codes "tool") tool_data
    (member (codes "verdict") (string (verdict_name a.together a.findings.faults.items)) no_members)))))))

-- the report of an account, as a line of text
abbrev pub json_line : Account → List ℕ
json_line a = compact_text (report_of a) ++ codes "\n"
