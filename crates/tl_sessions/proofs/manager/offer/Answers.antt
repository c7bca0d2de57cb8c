use Rattle.std.proofs.Common.{refl}
use Rattle.std.specs.Prelude.{Ok, Err}
use Rattle.tl_sessions.proofs.Called.{admitted_as}
use Rattle.tl_sessions.proofs.manager.offer.Goals as goal

pub returns-in-Err : goal.returns-in-Err
returns-in-Err g c =
    admitted_as c.args.port.now c.offer.new.self c.args.link c.args.picture.now c.in-Some.link c.in-Some-beat.beat
    c.args.taken.now c.args.taken.now _ c.in-Some.ensures c.in-Some-beat.ensures
    (Err tt, record { admits = c.in-Err.ensures; answers = refl; taken_is = refl })

pub returns-in-Ok-Err : goal.returns-in-Ok-Err
returns-in-Ok-Err g c =
    admitted_as c.args.port.now c.offer.new.self c.args.link c.args.picture.now c.in-Some.link c.in-Some-beat.beat
    c.args.taken.now c.args.taken.now c.broken.result c.in-Some.ensures c.in-Some-beat.ensures (
      Ok (Err c.in-Ok-Err.rule),
      record { admits = rw (c.channel.ensures, c.in-Ok-Err.field-0-is) at c.in-Ok-Err.ensures; answers = c.broken.ensures; taken_is = refl },
    )

pub returns-in-Ok-Ok : goal.returns-in-Ok-Ok
returns-in-Ok-Ok g c =
    admitted_as c.args.port.now c.offer.new.self c.args.link c.args.picture.now c.in-Some.link c.in-Some-beat.beat
    c.args.taken.now c.number_of.result _ c.in-Some.ensures c.in-Some-beat.ensures (
      Ok (Ok c.in-Ok-Ok.admission),
      record { admits = rw (c.channel.ensures, c.in-Ok-Ok.field-0-is) at c.in-Ok-Ok.ensures; answers = refl; taken_is = c.number_of.ensures },
    )
