use Rattle.std.proofs.Common.{arith, ◌∙◌}
use Rattle.tl_allowed.specs.statement.Allowed.{would_allow}
use Rattle.tl_allowed.proofs.Wider.{filter-all}
use Rattle.tl_allowed.proofs.allowances.Allowances.allowing.Goals as goal

pub returns : goal.returns
returns g c = λ levels l t known.
    c.loop-wider.invariant levels l t known
    ∙ filter-all (would_allow l levels (c.args.link, c.args.beat.now) t) c.args.self.now.wider.items c.loop-wider.wider-index
    (omega arith) known.1.liberties_are
