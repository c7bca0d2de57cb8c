use Rattle.tl_monitor.proofs.AtProfile.{new-of}
use Rattle.tl_monitor.proofs.monitor.Monitor.new.Goals as goal

pub returns : goal.returns
returns g c = new-of c.args.levels.now c.args.profile c.with_liberties.result
    (rw c.of.ensures at c.with_liberties.ensures)
