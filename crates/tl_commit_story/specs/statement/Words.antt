-- The words of an explanation: an event, and the sentence of the fault of its line.
use Rattle.std.specs.Prelude.{◌++◌, ℕ, Bool, true, false, List, [], codes}
use Rattle.std.specs.Fmt.{decimal}
use Rattle.tl_beat.specs.declared.beat.Link.{Link}
use Rattle.tl_beat.specs.declared.fault.LineFault.{LineFault}
use Rattle.tl_beat.specs.declared.fault.LineFault.TheVariants.{F1, F2, F3, F4, F5, F6}
use Rattle.tl_beat.specs.statement.Digits.{digits}
use Rattle.tl_lines.specs.declared.fault.Fault.{Fault}
use Rattle.tl_lines.specs.declared.fault.Fault.TheVariants as fault
use Rattle.tl_commit_words.specs.statement.CommitWords.{commit_words}
use Rattle.tl_reasons.specs.statement.CommitSentences.{commit_rule_line}
use Rattle.tl_events.specs.declared.commit.Commit.{Commit}
use Rattle.tl_events.specs.declared.commit.Event.{Event}
use Rattle.tl_events.specs.declared.commit.Event.TheVariants as event
use Rattle.tl_explain.specs.statement.Sentences.{beat_line, memory_rule_line, rule_line}

-- ---- events

-- the words of a commit, after the number of its line
unfoldable pub commit_text : ℕ → Link → Commit → List ℕ
commit_text n link x =
    codes "  " ++ (decimal n ++ (codes ": link " ++ ((digits 2 link.0 ++ commit_words x) ++ codes "\n")))

-- the words of an event, after the number of its line
abbrev pub event_text : {w : ℕ} → ℕ → Link → Event w → List ℕ
event_text n link (event.Beat x) = beat_line n link x
event_text n link (event.Commit x) = commit_text n link x

-- ---- faults

-- the line of the sentence of a rule; empty for another fault
abbrev pub sentence_of : Fault → List ℕ
sentence_of (fault.Rule rule) = rule_line rule
sentence_of (fault.MemoryRule rule) = memory_rule_line rule
sentence_of (fault.CommitRule rule) = commit_rule_line rule
sentence_of _ = []

-- the fault is a breach of a rule
abbrev pub is_breach : Fault → Bool
is_breach (fault.Rule rule) = true
is_breach (fault.MemoryRule rule) = true
is_breach (fault.CommitRule rule) = true
is_breach _ = false

-- the fault is that of a line that spells no event
abbrev pub is_of_line : Fault → Bool
is_of_line (fault.Line found) = true
is_of_line _ = false

-- the line of the fault of a line that spells no event
abbrev pub line_words : LineFault → List ℕ
line_words F1 = codes
    "  F1: more than 256 bytes, or the last byte isn't LF, or fewer than two fields; or the number of fields isn't the letter's\n"
line_words F2 = codes "  F2: the second field isn't one of the letters A to E, S, L and I\n"
line_words F3 = codes
    "  F3: a field isn't of its form: lower-case digits of the wanted number, 0 or 1, or DATA; or a size over 3 or an address that isn't its multiple, in a line of S, L or I\n"
line_words F4 = codes "  F4: the opcode isn't in use\n"
line_words F5 = codes "  F5: the param is over 7 on A, B and C, or over 3 on D\n"
line_words F6 = codes "  F6: digits where the opcode carries no data, or `-` where it does\n"

-- the words for a fault that is no breach of a rule
abbrev pub other_words : Fault → List ℕ
other_words (fault.Line found) = line_words found
other_words fault.Header = codes "  F7: the first line is no header\n"
other_words _ = []

-- ---- a trace without a fault

-- the questions that its verdict leaves open
abbrev pub limits : Bool → List ℕ
limits true = codes
    "  coherent means that no beat breaks a rule of its own link or of memory, and no event a rule of stores and loads; it says nothing about messages that never come, nor about a link that isn't in the trace\n"
limits false = codes
    "  clean means that no beat breaks a rule of its own link; it says nothing about two links together, nor about the data, nor about stores and loads\n"
