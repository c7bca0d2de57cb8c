-- The sentence of a fault, as `explain` writes it.
use Rattle.std.specs.Prelude.{ℕ, List, ◌++◌, codes}
use Rattle.tl_beat.specs.declared.fault.LineFault.TheVariants.{F1, F2, F3, F4, F5, F6}
use Rattle.tl_params.specs.statement.Names.{rule_name}
use Rattle.tl_params.specs.statement.Names.{memory_rule_name}
use Rattle.tl_events.specs.statement.Names.{commit_rule_name}
use Rattle.tl_explain.specs.statement.Sentences.{in_brackets, memory_sentence, messages_judged, messages_judged_together}
use Rattle.tl_explain.specs.statement.Sentences.{rule_sentence}
use Rattle.tl_lines.specs.declared.fault.Fault.{Fault}
use Rattle.tl_lines.specs.declared.fault.Fault.TheVariants.{Beyond, CommitRule, Event, Header, Line, MemoryRule, Rule}
use Rattle.tl_reasons.specs.statement.CommitSentences.{commit_sentence, events_judged}
use Rattle.tl_lines.specs.statement.Fault.{fault_name}

-- the condition of a fault that is no rule
abbrev pub line_sentence : Fault → List ℕ
line_sentence (Line F1) = codes
    "more than 256 bytes, or the last byte isn't LF, or fewer than two fields; or the number of fields isn't the channel's"
line_sentence (Line F2) = codes "the second field isn't one of the letters A to E"
line_sentence (Line F3) = codes
    "a field isn't of its form: lower-case digits of the wanted number, 0 or 1, or DATA"
line_sentence (Line F4) = codes "the opcode isn't in use"
line_sentence (Line F5) = codes "the param is over 7 on A, B and C, or over 3 on D"
line_sentence (Line F6) = codes "digits where the opcode carries no data, or `-` where it does"
line_sentence Header = codes "the first line is no header"
line_sentence Beyond = codes "more than 2^26 blocks, 256 sources of a link or 256 sinks"
line_sentence _ = codes "the line of a schedule says no event"

-- the name of a fault, the messages that its rule judges, if there are any to name, and its condition
abbrev pub sentence_of : Fault → List ℕ
sentence_of (Rule rule) = rule_name rule ++ in_brackets (messages_judged rule) ++ codes ": " ++ rule_sentence rule
sentence_of (MemoryRule rule) =
    memory_rule_name rule ++ in_brackets (messages_judged_together rule) ++ codes ": " ++ memory_sentence rule
sentence_of (CommitRule rule) =
    commit_rule_name rule ++ codes " (" ++ events_judged rule ++ codes "): " ++ commit_sentence rule
sentence_of (Line fault) = fault_name (Line fault) ++ codes ": " ++ line_sentence (Line fault)
sentence_of Header = fault_name Header ++ codes ": " ++ line_sentence Header
sentence_of Beyond = fault_name Beyond ++ codes ": " ++ line_sentence Beyond
sentence_of (Event fault) = fault_name (Event fault) ++ codes ": " ++ line_sentence (Event fault)
