use Rattle.std.proofs.Common.{rules}
use Rattle.tl_bytes.proofs.Whole.{whole-mask}
use Rattle.tl_bytes.proofs.write.Write.is_whole.Goals as goal

pub returns-then-self-eq0 : goal.returns-then-self-eq0
returns-then-self-eq0 c = λ e p lt. whole-mask c.args.self.now p (search rules) (search (rules, e)) lt
