use Rattle.std.proofs.Common.{sym, ◌∙◌, None, Some}
use Rattle.tl_manager.proofs.judging.Judging.{busy-free}
use Rattle.tl_manager.proofs.manager.state.ManagerState.is_busy.Goals as goal

pub returns-in-None : goal.returns-in-None
returns-in-None g c =
    λ config e k. busy-free g.D.Directory.perm_of c.args.self.now config e c.args.block c.serving.result None k
    (sym c.is_some.ensures ∙ c.if-is_some.false) c.serving.ensures.none c.in-None.ensures.free c.in-None.ensures.none

pub returns-in-Some : goal.returns-in-Some
returns-in-Some g c =
    λ config e k. busy-free g.D.Directory.perm_of c.args.self.now config e c.args.block c.serving.result
    (Some c.in-Some.field-0) k
    (sym c.is_some.ensures ∙ c.if-is_some.false) c.serving.ensures.none c.in-Some.ensures.free c.in-Some.ensures.none
