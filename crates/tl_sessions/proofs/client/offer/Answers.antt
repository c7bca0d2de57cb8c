use Rattle.std.proofs.Common.{refl, rules}
use Rattle.std.specs.Prelude.{Ok, Err}
use Rattle.tl_sessions.proofs.Called.{offered_as}
use Rattle.tl_sessions.proofs.client.offer.Goals as goal

pub returns-in-Err : goal.returns-in-Err
returns-in-Err g c =
    offered_as c.args.port.now c.offer.new.self c.args.picture.now c.in-Some.beat c.args.reception.now
    c.args.reception.now _
    c.in-Some.ensures (Err tt, record { offers = c.in-Err.ensures; answers = refl; reception_is = refl })

pub returns-in-Ok-Err : goal.returns-in-Ok-Err
returns-in-Ok-Err g c =
    offered_as c.args.port.now c.offer.new.self c.args.picture.now c.in-Some.beat c.args.reception.now
    c.args.reception.now c.broken.result
    c.in-Some.ensures (
      Ok (Err c.in-Ok-Err.rule),
      record {
        offers = search (rules, c.in-Ok-Err.ensures);
        answers =
            c.broken.ensures;
        reception_is = refl;
      },
    )

pub returns-in-Ok-Ok : goal.returns-in-Ok-Ok
returns-in-Ok-Ok g c =
    offered_as c.args.port.now c.offer.new.self c.args.picture.now c.in-Some.beat c.args.reception.now
    c.of.result _
    c.in-Some.ensures (
      Ok (Ok c.in-Ok-Ok.verdict),
      record {
        offers = search (rules, c.in-Ok-Ok.ensures);
        answers = refl;
        reception_is =
            c.of.ensures;
      },
    )
