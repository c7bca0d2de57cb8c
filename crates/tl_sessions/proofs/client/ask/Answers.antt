use Rattle.std.proofs.Common.{refl}
use Rattle.std.specs.Prelude.{Ok, Err}
use Rattle.tl_sessions.proofs.Called.{asked_as}
use Rattle.tl_sessions.proofs.client.ask.Goals as goal

pub returns-in-Err : goal.returns-in-Err
returns-in-Err g c =
    asked_as c.args.port.now c.ask.new.self c.args.operation.now c.in-Some.operation c.args.outcome.now
    c.args.outcome.now _
    c.in-Some.ensures (Err tt, record { asks = c.in-Err.ensures; answers = refl; outcome_is = refl })

pub returns-in-Ok : goal.returns-in-Ok
returns-in-Ok g c =
    asked_as c.args.port.now c.ask.new.self c.args.operation.now c.in-Some.operation c.args.outcome.now c.of.result _
    c.in-Some.ensures (Ok c.in-Ok.reply, record { asks = c.in-Ok.ensures; answers = refl; outcome_is = c.of.ensures })
