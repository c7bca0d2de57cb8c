-- The names of the rules of stores and loads.
use Rattle.std.specs.Prelude.{ℕ, List, codes}
use Rattle.tl_events.specs.declared.rule.CommitRule.{CommitRule}
use Rattle.tl_events.specs.declared.rule.CommitRule.TheVariants.{M5, M6, M7}

-- the name of a rule
abbrev pub commit_rule_name : CommitRule → List ℕ
commit_rule_name M5 = codes "M5"
commit_rule_name M6 = codes "M6"
commit_rule_name M7 = codes "M7"
