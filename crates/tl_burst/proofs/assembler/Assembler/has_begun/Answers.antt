use Rattle.tl_burst.proofs.Begun.{has-begun}
use Rattle.tl_burst.proofs.assembler.Assembler.has_begun.Goals as goal

pub returns : goal.returns
returns g c = has-begun c.self.inside.message c.args.self.now c.self.inside.taken c.self.view_is
