use Rattle.std.proofs.lemmas.Result.{err_from_is_err_and}
use Rattle.tl_sessions.proofs.Refused.{manager-refused}
use Rattle.tl_sessions.proofs.session.Session.manager_of.Goals as goal

pub returns-in_err-make_manager-in-4 : goal.returns-in_err-make_manager-in-4
returns-in_err-make_manager-in-4 c =
    let p = err_from_is_err_and c.from_residual.result c.from_residual.ensures.1 in
    rw (p.1, p.2) (record {
      told = manager-refused 4 c.args.links.now c.args.blocks c.args.trackers c.args.width c.args.profile c.args.terms
          c.in_err-make_manager-in-4.field-0.0 c.in_err-make_manager-in-4.ensures c.requires.fits;
    })

pub returns-in_err-make_manager-in-8 : goal.returns-in_err-make_manager-in-8
returns-in_err-make_manager-in-8 c =
    let p = err_from_is_err_and c.from_residual-in_err-make_manager-in-8.result c.from_residual-in_err-make_manager-in-8.ensures.1 in
    rw (p.1, p.2) (record {
      told = manager-refused 8 c.args.links.now c.args.blocks c.args.trackers c.args.width c.args.profile c.args.terms
          c.in_err-make_manager-in-8.field-0.0 c.in_err-make_manager-in-8.ensures c.requires.fits;
    })

pub returns-in_err-make_manager-in-16 : goal.returns-in_err-make_manager-in-16
returns-in_err-make_manager-in-16 c =
    let p = err_from_is_err_and c.from_residual-in_err-make_manager-in-16.result c.from_residual-in_err-make_manager-in-16.ensures.1 in
    rw (p.1, p.2) (record {
      told = manager-refused 16 c.args.links.now c.args.blocks c.args.trackers c.args.width c.args.profile c.args.terms
          c.in_err-make_manager-in-16.field-0.0 c.in_err-make_manager-in-16.ensures c.requires.fits;
    })
