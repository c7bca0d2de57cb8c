use Rattle.std.proofs.Common.{sym}
use Rattle.tl_schedule.proofs.Stored.{noted-none, noted-one}
use Rattle.tl_schedule.proofs.whole.WholeStores.note.Goals as goal

pub returns-in-None : goal.returns-in-None
returns-in-None g c = λ log knows. noted-none c.args.self.now c.args.event.now c.args.outcome.now log
    (sym c.in-None.ensures) knows

pub returns-in-Some : goal.returns-in-Some
returns-in-Some g c = noted-one c.args.self.now c.replace.new.self c.args.event.now c.args.outcome.now c.in-Some.begun
    c.replace.result (sym c.in-Some.ensures) c.replace.ensures
