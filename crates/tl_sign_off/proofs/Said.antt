-- The line of a rule is its sentence, and a line feed.
use Rattle.std.proofs.Common.{◌≡◌, ◌++◌, ◌∙◌, ℕ, List, append_assoc, codes, refl, sym}
use Rattle.std.specs.Prelude.{OnOk, Result, Ok, Err}
use Rattle.tl_explain.specs.statement.Sentences.{memory_rule_line, rule_line}
use Rattle.tl_lines.specs.declared.fault.Fault.TheVariants.{CommitRule, MemoryRule, Rule}
use Rattle.tl_reasons.specs.statement.CommitSentences.{commit_rule_line}
use Rattle.tl_events.specs.declared.rule.CommitRule as of_commits
use Rattle.tl_params.specs.declared.rule.Rule as of_link
use Rattle.tl_params.specs.declared.memory_rule.MemoryRule as of_memory
use Rattle.tl_sign_off.specs.statement.Sentence.{sentence_of}

pub rule_said : {A E : Type 0} (r : Result A E) (old new : List ℕ) (rule : of_link.Rule) → OnOk r (new ≡ old ++ rule_line rule)
    → OnOk r (new ≡ old ++ sentence_of (Rule rule) ++ codes "\n")
unfolding rule_line
rule_said (Err e) old new rule is = tt
rule_said (Ok x) old new rule is = is ∙ sym (append_assoc old (sentence_of (Rule rule)) (codes "\n"))

pub memory_rule_said : {A E : Type 0} (r : Result A E) (old new : List ℕ) (rule : of_memory.MemoryRule)
    → OnOk r (new ≡ old ++ memory_rule_line rule) → OnOk r (new ≡ old ++ sentence_of (MemoryRule rule) ++ codes "\n")
unfolding memory_rule_line
memory_rule_said (Err e) old new rule is = tt
memory_rule_said (Ok x) old new rule is = is ∙ sym (append_assoc old (sentence_of (MemoryRule rule)) (codes "\n"))

pub commit_rule_said : {A E : Type 0} (r : Result A E) (old new : List ℕ) (rule : of_commits.CommitRule)
    → OnOk r (new ≡ old ++ commit_rule_line rule) → OnOk r (new ≡ old ++ sentence_of (CommitRule rule) ++ codes "\n")
unfolding commit_rule_line
commit_rule_said (Err e) old new rule is = tt
commit_rule_said (Ok x) old new rule is = is ∙ sym (append_assoc old (sentence_of (CommitRule rule)) (codes "\n"))

pub five_said : (o₁ o₂ o₃ o₄ o₅ a b c d e : List ℕ) → o₁ ≡ a → o₂ ≡ o₁ ++ b → o₃ ≡ o₂ ++ c → o₄ ≡ o₃ ++ d → o₅ ≡ o₄ ++ e
    → o₅ ≡ a ++ b ++ c ++ d ++ e
five_said o₁ o₂ o₃ o₄ o₅ a b c d e first second third fourth fifth = rw (fifth, fourth, third, second, first) refl
