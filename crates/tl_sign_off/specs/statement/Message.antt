-- The messages by which beats are counted, and the kinds of commits, by their numbers.
use Rattle.std.specs.Prelude.{◌/◌, ◌%◌, ◌==◌, ℕ, List, [], Option, Some, None, codes, if◌then◌else◌, option_map}
use Rattle.tl_beat.specs.declared.beat.Beat.{Beat}
use Rattle.tl_beat.specs.declared.beat.Beat.TheVariants as beat
use Rattle.tl_beat.specs.declared.channel.Channel.{Channel}
use Rattle.tl_beat.specs.declared.channel.Channel.TheVariants as channel
use Rattle.tl_beat.specs.statement.Names.{a_name, b_name, c_name, d_name}
use Rattle.tl_beat.specs.statement.Opcode.{a_with, b_with, c_with, d_with}
use Rattle.tl_events.specs.declared.commit.Commit.{Commit}
use Rattle.tl_events.specs.declared.commit.Commit.TheVariants as commit
use Rattle.tl_wide.specs.declared.beat.WideBeat.{WideBeat}
use Rattle.tl_wide.specs.declared.beat.WideBeat.TheVariants as wide

-- the name, empty if there is none
abbrev pub name_or_none : Option (List ℕ) → List ℕ
name_or_none None = []
name_or_none (Some name) = name

-- the letter of a kind of commits, and of GrantAck's channel before them
abbrev pub last_letter : ℕ → List ℕ
last_letter n =
    if n == 33 then codes "S" else
    if n == 34 then codes "L" else
    if n == 35 then codes "I" else codes "E"

-- the name of a kind of commits, and of GrantAck before them
abbrev pub last_name : ℕ → List ℕ
last_name n =
    if n == 33 then codes "Store" else
    if n == 34 then codes "Load" else
    if n == 35 then codes "LoadBegin" else codes "GrantAck"

-- the letter of the message's channel, or of the kind of commits
abbrev pub channel_name : ℕ → List ℕ
channel_name n =
    if n / 8 == 0 then codes "A" else
    if n / 8 == 1 then codes "B" else
    if n / 8 == 2 then codes "C" else
    if n / 8 == 3 then codes "D" else last_letter n

-- the message's name, that of the opcode on its channel; or that of the kind of commits
abbrev pub message_name : ℕ → List ℕ
message_name n =
    if n / 8 == 0 then name_or_none (option_map a_name (a_with (n % 8))) else
    if n / 8 == 1 then name_or_none (option_map b_name (b_with (n % 8))) else
    if n / 8 == 2 then name_or_none (option_map c_name (c_with (n % 8))) else
    if n / 8 == 3 then name_or_none (option_map d_name (d_with (n % 8))) else last_name n

-- the name of a beat's message
abbrev pub name_of : {w : ℕ} → Beat w → List ℕ
name_of (beat.A x) = a_name x.opcode
name_of (beat.B x) = b_name x.opcode
name_of (beat.C x) = c_name x.opcode
name_of (beat.D x) = d_name x.opcode
name_of (beat.E x) = codes "GrantAck"

-- the name of a wide beat's message
abbrev pub wide_name_of : {w : ℕ} → WideBeat w → List ℕ
wide_name_of (wide.A x) = a_name x.opcode
wide_name_of (wide.B x) = b_name x.opcode
wide_name_of (wide.C x) = c_name x.opcode
wide_name_of (wide.D x) = d_name x.opcode
wide_name_of (wide.E x) = codes "GrantAck"

-- the channel of a wide beat
abbrev pub wide_channel_of : {w : ℕ} → WideBeat w → Channel
wide_channel_of (wide.A x) = channel.A
wide_channel_of (wide.B x) = channel.B
wide_channel_of (wide.C x) = channel.C
wide_channel_of (wide.D x) = channel.D
wide_channel_of (wide.E x) = channel.E

-- the letter of a commit's line
abbrev pub commit_letter : Commit → List ℕ
commit_letter (commit.Store piece value) = codes "S"
commit_letter (commit.Load piece value) = codes "L"
commit_letter (commit.Begin piece) = codes "I"

-- the name of a commit's kind
abbrev pub commit_name : Commit → List ℕ
commit_name (commit.Store piece value) = codes "Store"
commit_name (commit.Load piece value) = codes "Load"
commit_name (commit.Begin piece) = codes "LoadBegin"
