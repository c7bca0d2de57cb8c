use Rattle.std.proofs.Common.{refl, sym}
use Rattle.tl_memory.proofs.messages.Kept.{item-there}
use Rattle.tl_witness.proofs.Witnesses.{said-is, since-is}
use Rattle.tl_witness.proofs.witness.Witness.held.Goals as goal

pub returns-in-None-clause-said : goal.returns-in-None-clause-said
returns-in-None-clause-said c = λ w n block t k lt. absurd
    (item-there c.args.self.now.recorders.items c.args.link n k.count_is lt c.in-None.ensures)

pub returns-in-None-clause-since : goal.returns-in-None-clause-since
returns-in-None-clause-since c = λ w n block t k lt. absurd
    (item-there c.args.self.now.recorders.items c.args.link n k.count_is lt c.in-None.ensures)

pub returns-in-Some-clause-said : goal.returns-in-Some-clause-said
returns-in-Some-clause-said c = λ w n block t k lt.
    said-is c.in-Some.recorder.now c.in-Some.recorder.now.held c.args.link block t refl
    (k.each c.args.link c.in-Some.recorder.now (sym c.in-Some.ensures))

pub returns-in-Some-clause-since : goal.returns-in-Some-clause-since
returns-in-Some-clause-since c = λ w n block t k lt.
    since-is c.in-Some.recorder.now c.in-Some.recorder.now.held c.args.link block t refl
    (k.each c.args.link c.in-Some.recorder.now (sym c.in-Some.ensures))
