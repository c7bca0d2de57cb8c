use Rattle.std.proofs.Common.{subst, sym}
use Rattle.std.specs.Prelude.{Option}
use Rattle.tl_beat.specs.declared.fault.LineFault.{LineFault}
use Rattle.tl_wide_events.proofs.CommitFaults.{or_wrong_field, same-fault}
use Rattle.tl_wide_events.specs.code.Halves.{IsFaultUnless}
use Rattle.tl_wide_events.specs.statement.WideCommitLine.{wide_commit_fault}
use Rattle.tl_wide_events.proofs.read.fault_of.Goals as goal

pub returns-in-Ok : goal.returns-in-Ok
returns-in-Ok c =
    subst (λ (o : Option LineFault). IsFaultUnless (wide_commit_fault c.args.line.now) (or_wrong_field o))
    (sym c.in-Ok.ensures.fault) (same-fault c.args.line.now)

pub returns-in-Err : goal.returns-in-Err
returns-in-Err c =
    subst (λ (o : Option LineFault). IsFaultUnless (wide_commit_fault c.args.line.now) (or_wrong_field o))
    (sym c.in-Err.ensures.fault) (same-fault c.args.line.now)
