use Rattle.std.proofs.Common.{refl, rules}
use Rattle.tl_wide.proofs.Naming.{without-newest}
use Rattle.tl_wide.proofs.numbers.Numbers.take_back.Goals as goal

pub returns : goal.returns
returns c = λ names knows fresh no_zero is.
    without-newest c.args.self.now _ names c.args.name knows fresh no_zero refl is (search rules)
    c.remove.ensures
