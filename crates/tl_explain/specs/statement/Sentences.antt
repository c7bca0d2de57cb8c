-- The sentence of each rule, and the first lines of an explanation.
use Rattle.std.specs.Prelude.{ℕ, List, [], ◌++◌, ◌==◌, codes, if◌then◌else◌, length}
use Rattle.std.specs.Fmt.{decimal}
use Rattle.tl_beat.specs.declared.beat.Beat.{Beat}
use Rattle.tl_beat.specs.declared.beat.Link.{Link}
use Rattle.tl_params.specs.declared.perm.Perm.{Perm}
use Rattle.tl_params.specs.declared.perm.Perm.TheVariants as perm
use Rattle.tl_params.specs.declared.rule.Rule.{Rule}
use Rattle.tl_params.specs.declared.rule.Rule.TheVariants.{L1, L2, L3, L4, L5, L6, L7, S1, A1, A2, A3}
use Rattle.tl_params.specs.declared.rule.Rule.TheVariants.{H1, H2, H3, H4, H5, H6, H7, H8, H9, H10, H11, H12, H13}
use Rattle.tl_params.specs.statement.Names.{rule_name}
use Rattle.tl_params.specs.declared.memory_rule.MemoryRule.{MemoryRule}
use Rattle.tl_params.specs.declared.memory_rule.MemoryRule.TheVariants.{M1, M2, M3, M4}
use Rattle.tl_params.specs.statement.Names.{memory_rule_name}
use Rattle.tl_explain.specs.statement.Text.{text_of}

-- the messages that an H rule judges; empty for another rule
abbrev pub messages_judged : Rule → List ℕ
messages_judged H1 = codes "requests on A, Release, ReleaseData"
messages_judged H2 = codes "messages on D"
messages_judged H3 = codes "messages on D"
messages_judged H4 = codes "Acquire"
messages_judged H5 = codes "Acquire"
messages_judged H6 = codes "Grant, GrantData"
messages_judged H7 = codes "Grant, GrantData"
messages_judged H8 = codes "GrantAck"
messages_judged H9 = codes "Probe"
messages_judged H10 = codes "ProbeAck, ProbeAckData"
messages_judged H11 = codes "ProbeAck, ProbeAckData"
messages_judged H12 = codes "ProbeAck, ProbeAckData"
messages_judged H13 = codes "Release, ReleaseData"
messages_judged _ = []

-- the condition under which a rule is broken
abbrev pub rule_sentence : Rule → List ℕ
rule_sentence L1 = codes
    "the beat isn't of the channel named, or the opcode isn't of the level, or the link has no level"
rule_sentence L7 = codes
    "an access forwarded on B (opcodes 0 to 5), or its answer on C (opcodes 0 to 2), at level C: they are decoded, but not allowed"
rule_sentence L2 = codes "param, or source or sink where they are fixed, isn't as the message's table has it"
rule_sentence L3 = codes "the size isn't one of the message's"
rule_sentence L4 = codes "on A, B and C, the address isn't a multiple of the size"
rule_sentence L5 = codes "on A and B, the mask isn't that of address and size"
rule_sentence L6 = codes
    "corrupt without data; denied on another message than AccessAck, AccessAckData, HintAck; denied without corrupt on AccessAckData"
rule_sentence S1 = codes
    "a beat that continues a burst differs from the burst's first beat in opcode, param, size, source, address, sink or denied"
rule_sentence H1 = codes "the source is pending in its kind"
rule_sentence H2 = codes "no complete pending request with that source may be answered so"
rule_sentence H3 = codes "the size isn't the request's"
rule_sentence H4 = codes "an Acquire or a Release of the block is pending"
rule_sentence H5 = codes "NtoB or NtoT and something is held; BtoT and Trunk is held"
rule_sentence H6 = codes
    "the cap isn't toB for NtoB and toT for NtoT and BtoT; or Grant without data answers an AcquireBlock and Branch isn't held; or a Probe of the block is pending"
rule_sentence H7 = codes "the sink is pending"
rule_sentence H8 = codes "no complete Grant with that sink is pending"
rule_sentence H9 = codes "a Probe or a GrantAck of the block is pending"
rule_sentence H10 = codes "no Probe of the block is pending, or ProbeAckData answers ProbePerm"
rule_sentence H11 = codes "a Release of the block is pending"
rule_sentence H12 = codes "the param isn't the report of the Probe's cap and the permission held"
rule_sentence H13 = codes "an Acquire or a Release of the block is pending, or the param's left end isn't the permission held"
rule_sentence A1 = codes "an agent's own rule, which no trace is judged by"
rule_sentence A2 = codes "an agent's own rule, which no trace is judged by"
rule_sentence A3 = codes "an agent's own rule, which no trace is judged by"

-- the messages that a rule between links judges
abbrev pub messages_judged_together : MemoryRule → List ℕ
messages_judged_together M1 = codes "Grant, GrantData"
messages_judged_together M2 = codes "GrantData"
messages_judged_together M3 = codes "AccessAckData"
messages_judged_together M4 = codes "AccessAck, AccessAckData"

-- the condition under which a rule between links is broken
abbrev pub memory_sentence : MemoryRule → List ℕ
memory_sentence M1 = codes
    "the cap is toT and another link holds or is being granted a permission of the block, or toB and another link holds or is being granted Trunk of it"
memory_sentence M2 = codes
    "a byte has a value that neither the data seen before the first beat nor a pending Put or atomic allows"
memory_sentence M3 = codes
    "a requested byte has a value that neither the data seen nor a pending Put or atomic allows in any window of the access"
memory_sentence M4 = codes
    "at every moment since the request was complete some link held a conflicting permission: for a Get Trunk of the block, and no report has shown its bytes; for a Put or an atomic any permission of it"

-- the text in brackets, if there is any
abbrev pub in_brackets : List ℕ → List ℕ
in_brackets text = if length text == 0 then [] else codes " (" ++ text ++ codes ")"

-- the line of a rule: its name, the messages that it judges, and its sentence
unfoldable pub rule_line : Rule → List ℕ
rule_line rule =
    rule_name rule ++ in_brackets (messages_judged rule) ++ codes ": " ++ rule_sentence rule ++ codes "\n"

-- the line of a rule between links
unfoldable pub memory_rule_line : MemoryRule → List ℕ
memory_rule_line rule =
    memory_rule_name rule ++ in_brackets (messages_judged_together rule) ++ codes ": " ++ memory_sentence rule
    ++ codes "\n"

-- the name of a permission
abbrev pub perm_name : Perm → List ℕ
perm_name perm.None = codes "None"
perm_name perm.Branch = codes "Branch"
perm_name perm.Trunk = codes "Trunk"

-- the words of a beat, after the number of its line
unfoldable pub beat_line : {w : ℕ} → ℕ → Link → Beat w → List ℕ
beat_line n link beat = codes "  " ++ decimal n ++ codes ": " ++ text_of link beat
