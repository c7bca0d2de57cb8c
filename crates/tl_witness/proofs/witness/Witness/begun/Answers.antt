use Rattle.std.proofs.Common.{None, Some, sym}
use Rattle.tl_witness.proofs.Witnesses.{opening-at}
use Rattle.tl_witness.proofs.witness.Witness.begun.Goals as goal

pub returns-in-None : goal.returns-in-None
returns-in-None c = λ w n block given t k lt coming.
    opening-at c.in_ok-recorder.field-0.now c.args.link n block given t c.args.self.now None (c.in-None.ensures) k
    (sym c.in_ok-recorder.ensures) coming

pub returns-in-Some : goal.returns-in-Some
returns-in-Some c = λ w n block given t k lt coming.
    opening-at c.in_ok-recorder.field-0.now c.args.link n block given t c.args.self.now (Some c.in-Some.begun)
    (c.in-Some.ensures) k (sym c.in_ok-recorder.ensures) coming
