use Rattle.tl_commit_words.proofs.Digits.{value-digits}
use Rattle.tl_commit_words.proofs.words.value_digits.Goals as goal

pub returns-clause-count : goal.returns-clause-count
returns-clause-count c = (value-digits c.args.size c.requires).0

pub returns-clause-few : goal.returns-clause-few
returns-clause-few c = (value-digits c.args.size c.requires).1
