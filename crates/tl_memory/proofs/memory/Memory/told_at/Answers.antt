use Rattle.std.proofs.Common.{ap, refl, ◌∙◌, None, Some}
use Rattle.tl_memory.{specs.code.Lines.told_by, proofs.messages.Kept.told-exact}
use Rattle.tl_memory.proofs.memory.Memory.told_at.Goals as goal

pub returns-in-None-clause-kept : goal.returns-in-None-clause-kept
returns-in-None-clause-kept g c = ap (λ o. told_by o c.args.place c.args.byte) c.in-None.ensures

pub returns-in-Some-clause-kept : goal.returns-in-Some-clause-kept
returns-in-Some-clause-kept g c =
    c.told_at.ensures ∙ ap (λ o. told_by o c.args.place c.args.byte) c.in-Some.ensures

pub returns-in-None-clause-told : goal.returns-in-None-clause-told
returns-in-None-clause-told g c =
    told-exact c.args.self.now None c.args.block c.args.place c.args.byte None c.in-None.ensures refl

pub returns-in-Some-clause-told : goal.returns-in-Some-clause-told
returns-in-Some-clause-told g c =
    told-exact c.args.self.now (Some c.in-Some.state.now) c.args.block c.args.place c.args.byte c.told_at.result
    c.in-Some.ensures c.told_at.ensures
