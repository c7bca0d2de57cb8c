-- The rules by their numbers in answers.
use Rattle.std.specs.Prelude.{ℕ, ◌==◌, List, [], ◌∷◌}
use Rattle.std.specs.List.{find}
use Rattle.std.specs.Prelude.{Option, Some, None}
use Rattle.tl_events.specs.declared.rule.CommitRule.{CommitRule}
use Rattle.tl_events.specs.declared.rule.CommitRule.TheVariants.{M5, M6, M7}
use Rattle.tl_events.specs.statement.Names.{commit_rule_name}
use Rattle.tl_params.specs.declared.rule.Rule.{Rule}
use Rattle.tl_params.specs.declared.rule.Rule.TheVariants.{L1, L2, L3, L4, L5, L6, L7, S1, H1, H2, H3, H4, H5, H6, H7}
use Rattle.tl_params.specs.declared.rule.Rule.TheVariants.{H8, H9, H10, H11, H12, H13, A1, A2, A3}
use Rattle.tl_params.specs.statement.Names.{rule_name}
use Rattle.tl_params.specs.declared.memory_rule.MemoryRule.{MemoryRule}
use Rattle.tl_params.specs.declared.memory_rule.MemoryRule.TheVariants.{M1, M2, M3, M4}
use Rattle.tl_params.specs.statement.Names.{memory_rule_name}
use Rattle.tl_pictures.specs.statement.Answer.{rule_number, memory_rule_number, commit_rule_number}

-- the rules of a link and of agents
abbrev pub rules : List Rule
rules =
    L1 ∷ L2 ∷ L3 ∷ L4 ∷ L5 ∷ L6 ∷ L7 ∷ S1 ∷ H1 ∷ H2 ∷ H3 ∷ H4 ∷ H5 ∷ H6 ∷ H7 ∷ H8 ∷ H9 ∷ H10 ∷ H11 ∷ H12 ∷ H13 ∷ A1 ∷ A2
    ∷ A3 ∷ []

-- the rule with a number
abbrev pub rule_with : ℕ → Option Rule
rule_with n = find (λ rule. rule_number rule == n) rules

-- the rule between links with a number
abbrev pub memory_rule_with : ℕ → Option MemoryRule
memory_rule_with n = find (λ rule. memory_rule_number rule == n) (M1 ∷ M2 ∷ M3 ∷ M4 ∷ [])

-- the rule of stores and loads with a number
abbrev pub commit_rule_with : ℕ → Option CommitRule
commit_rule_with n = find (λ rule. commit_rule_number rule == n) (M5 ∷ M6 ∷ M7 ∷ [])

-- the name of one of them; empty if there is none
abbrev pub name_of : Option Rule → Option MemoryRule → Option CommitRule → List ℕ
name_of (Some rule) memory commits = rule_name rule
name_of None (Some rule) commits = memory_rule_name rule
name_of None None (Some rule) = commit_rule_name rule
name_of None None None = []

-- the name of the rule with a number; empty if no rule has it
abbrev pub name_with : ℕ → List ℕ
name_with n = name_of (rule_with n) (memory_rule_with n) (commit_rule_with n)
