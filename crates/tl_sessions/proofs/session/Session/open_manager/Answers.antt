use Rattle.std.proofs.Common.{sym, ◌∙◌}
use Rattle.tl_sessions.proofs.Openings.{opened-alone}
use Rattle.tl_sessions.specs.statement.Opened.{answer_in, ok_of}
use Rattle.tl_sessions.proofs.session.Session.open_manager.Goals as goal

pub returns : goal.returns
returns c = record {
  told = opened-alone c.args.links.now c.args.blocks c.args.trackers c.args.width c.args.profile (ok_of c.manager_of.result)
      (answer_in c.manager_of.result) (sym c.may_open_manager.ensures ∙ c.if-not-may_open_manager.false)
      (rw c.none.ensures at c.manager_of.ensures.told);
}
