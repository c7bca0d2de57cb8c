use Rattle.std.proofs.Common.{sym}
use Rattle.tl_wide_events.proofs.CommitFaults.{none-read, read-none, read-same, unfaulted}
use Rattle.tl_wide_events.proofs.read.read_wide_commit.Goals as goal

pub returns-in-Some-clause-every_spelling : goal.returns-in-Some-clause-every_spelling
returns-in-Some-clause-every_spelling c = λ link x s.
    read-same c.read_halves.result c.in-Some.read (link, x) c.in-Some.is (c.read_halves.ensures.every_spelling link x s)

pub returns-in-Some-clause-fault : goal.returns-in-Some-clause-fault
returns-in-Some-clause-fault c = sym (unfaulted c.args.line.now c.in-Some.read.0 c.in-Some.read.1 c.in-Some.ensures.spelled)

pub returns-in-None-clause-every_spelling : goal.returns-in-None-clause-every_spelling
returns-in-None-clause-every_spelling c = λ link x s.
    none-read c.read_halves.result (link, x) c.in-None.is (c.read_halves.ensures.every_spelling link x s)

pub returns-in-None-clause-fault : goal.returns-in-None-clause-fault
returns-in-None-clause-fault c =
    read-none c.args.line.now c.read_halves.result c.fault_of.result c.in-None.is c.read_halves.ensures.every_spelling
    c.fault_of.ensures
