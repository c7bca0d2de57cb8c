-- The numbers of answers in C.
use Rattle.std.specs.Prelude.{ℕ, ◌≡◌, Result, Ok, Err, ⊤}
use Rattle.tl_params.specs.declared.rule.Rule.{Rule}
use Rattle.tl_params.specs.declared.rule.Rule.TheVariants.{L1, L2, L3, L4, L5, L6, L7, S1, H1, H2, H3, H4, H5, H6, H7}
use Rattle.tl_params.specs.declared.rule.Rule.TheVariants.{H8, H9, H10, H11, H12, H13, A1, A2, A3}
use Rattle.tl_commits.specs.declared.fault.CommitFault.{CommitFault}
use Rattle.tl_commits.specs.declared.fault.CommitFault.TheVariants as commits
use Rattle.tl_commits.specs.declared.rule.CommitBreach.{CommitBreach}
use Rattle.tl_commits.specs.declared.rule.CommitBreach.TheVariants.{OfBeats, OfCommits}
use Rattle.tl_events.specs.declared.rule.CommitRule.{CommitRule}
use Rattle.tl_events.specs.declared.rule.CommitRule.TheVariants.{M5, M6, M7}
use Rattle.tl_monitor.specs.declared.fault.MonitorFault.{MonitorFault}
use Rattle.tl_monitor.specs.declared.fault.MonitorFault.TheVariants.{Levels, Broken, Memory, Closed}
use Rattle.tl_together.specs.declared.breach.Breach.{Breach}
use Rattle.tl_together.specs.declared.breach.Breach.TheVariants.{OfLink, OfMemory}
use Rattle.tl_params.specs.declared.memory_rule.MemoryRule.{MemoryRule}
use Rattle.tl_params.specs.declared.memory_rule.MemoryRule.TheVariants.{M1, M2, M3, M4}
use Rattle.tl_together.specs.declared.fault.JudgeFault.{JudgeFault}
use Rattle.tl_together.specs.declared.fault.JudgeFault.TheVariants as judge
use Rattle.tl_pictures.specs.declared.answer.Answer.{Answer}

-- the numbers of the rules of level, burst, history and agents, in this order
abbrev pub rule_number : Rule → ℕ
rule_number L1 = 1
rule_number L2 = 2
rule_number L3 = 3
rule_number L4 = 4
rule_number L5 = 5
rule_number L6 = 6
rule_number L7 = 7
rule_number S1 = 8
rule_number H1 = 9
rule_number H2 = 10
rule_number H3 = 11
rule_number H4 = 12
rule_number H5 = 13
rule_number H6 = 14
rule_number H7 = 15
rule_number H8 = 16
rule_number H9 = 17
rule_number H10 = 18
rule_number H11 = 19
rule_number H12 = 20
rule_number H13 = 21
rule_number A1 = 22
rule_number A2 = 23
rule_number A3 = 24

-- the numbers of the rules between links, after those
abbrev pub memory_rule_number : MemoryRule → ℕ
memory_rule_number M1 = 25
memory_rule_number M2 = 26
memory_rule_number M3 = 27
memory_rule_number M4 = 28

-- the number of a rule of a link or between links
abbrev pub breach_number : Breach → ℕ
breach_number (OfLink rule) = rule_number rule
breach_number (OfMemory rule) = memory_rule_number rule

-- the numbers of the rules of stores and loads, after those
abbrev pub commit_rule_number : CommitRule → ℕ
commit_rule_number M5 = 29
commit_rule_number M6 = 30
commit_rule_number M7 = 31

-- the number of a rule of beats, or of stores and loads
abbrev pub commit_breach_number : CommitBreach → ℕ
commit_breach_number (OfBeats breach) = breach_number breach
commit_breach_number (OfCommits rule) = commit_rule_number rule

-- the answer with this code, and with no rule
abbrev pub answer : ℕ → Answer
answer code = record { code = code; rule = 0 }

-- done; a beat breaks a rule; bad input; no memory; an earlier beat broke a rule
abbrev pub ok : Answer
ok = answer 0

-- the beat breaks this rule
abbrev pub broken : Rule → Answer
broken rule = record { code = 1; rule = rule_number rule }

-- the beat breaks this rule of its link or between links
abbrev pub breaks : Breach → Answer
breaks breach = record { code = 1; rule = breach_number breach }

-- the event breaks this rule of beats, or of stores and loads
abbrev pub breaks_commits : CommitBreach → Answer
breaks_commits breach = record { code = 1; rule = commit_breach_number breach }

-- an argument is out of range
abbrev pub bad : Answer
bad = answer 2

-- there is no memory
abbrev pub no_memory : Answer
no_memory = answer 3

-- an earlier beat broke a rule
abbrev pub closed : Answer
closed = answer 4

-- there is nothing to answer with
abbrev pub nothing : Answer
nothing = answer 5

-- a beat names a block, a source or a sink for which no number is left
abbrev pub too_many : Answer
too_many = answer 6

-- the answer to a beat that a monitor judged
abbrev pub answer_of : Result ⊤ MonitorFault → Answer
answer_of (Ok u) = ok
answer_of (Err Levels) = bad
answer_of (Err (Broken rule)) = broken rule
answer_of (Err Memory) = no_memory
answer_of (Err Closed) = closed

-- the answer to a beat that a judge of all links judged
abbrev pub judge_answer : Result ⊤ JudgeFault → Answer
judge_answer (Ok u) = ok
judge_answer (Err judge.Levels) = bad
judge_answer (Err (judge.Broken breach)) = breaks breach
judge_answer (Err judge.Memory) = no_memory
judge_answer (Err judge.Closed) = closed

-- the answer to a beat or a commit that a judge of both judged
abbrev pub commit_answer : Result ⊤ CommitFault → Answer
commit_answer (Ok u) = ok
commit_answer (Err commits.Levels) = bad
commit_answer (Err (commits.Broken breach)) = breaks_commits breach
commit_answer (Err commits.Memory) = no_memory

-- bad input, which changes nothing
abbrev pub IsBad : {A : Type 0} → Answer → A → A → Type 0
IsBad answer was now = (answer ≡ bad) × (now ≡ was)
