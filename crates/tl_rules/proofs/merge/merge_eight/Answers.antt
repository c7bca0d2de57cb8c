use Rattle.std.proofs.Common.{arith}
use Rattle.std.proofs.lemmas.Nat.{pow_pos}
use Rattle.tl_rules.proofs.Merges.{chosen-is}
use Rattle.tl_rules.proofs.merge.merge_eight.Goals as goal

pub returns : goal.returns
returns c = chosen-is c.args.mask 0 8 c.args.old.now c.args.new.now pow_pos (omega arith) (omega arith)
