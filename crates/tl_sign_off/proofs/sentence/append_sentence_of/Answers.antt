use Rattle.tl_sign_off.proofs.Said.{commit_rule_said, memory_rule_said, rule_said}
use Rattle.tl_sign_off.proofs.sentence.append_sentence_of.Goals as goal

pub returns-in-Rule : goal.returns-in-Rule
returns-in-Rule c = rw c.in-Rule.is
    (rule_said c.append_sentence.result c.args.out.now.items c.append_sentence.new.out.items c.in-Rule.rule c.append_sentence.ensures)

pub returns-in-MemoryRule : goal.returns-in-MemoryRule
returns-in-MemoryRule c = rw c.in-MemoryRule.is
    (memory_rule_said c.append_memory_sentence.result c.args.out.now.items c.append_memory_sentence.new.out.items
    c.in-MemoryRule.rule c.append_memory_sentence.ensures)

pub returns-in-CommitRule : goal.returns-in-CommitRule
returns-in-CommitRule c = rw c.in-CommitRule.is
    (commit_rule_said c.append_commit_sentence.result c.args.out.now.items c.append_commit_sentence.new.out.items
    c.in-CommitRule.rule c.append_commit_sentence.ensures)
