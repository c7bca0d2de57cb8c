-- The explanation of a rule of memory.
use Rattle.std.specs.Prelude.{◌≡◌}
use Rattle.tl_params.specs.declared.memory_rule.MemoryRule.{MemoryRule}
use Rattle.tl_explain.specs.declared.memory.Explanation.{Explanation}
use Rattle.tl_explain.specs.statement.Sentences.{memory_sentence, messages_judged_together}

-- these are its messages and its sentence
pub record Says (rule : MemoryRule) (said : Explanation) : Type 0 where
  pub messages : said.messages.now ≡ messages_judged_together rule
  pub sentence : said.sentence.now ≡ memory_sentence rule
