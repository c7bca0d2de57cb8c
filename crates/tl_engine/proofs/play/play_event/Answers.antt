use Rattle.std.proofs.Common.{rules}
use Rattle.tl_coherence.specs.statement.Log.{system_after}
use Rattle.tl_world.specs.statement.World.{IsWorld}
use Rattle.tl_schedule.proofs.DonePieces.{has-piece}
use Rattle.tl_engine.proofs.Writable.{writable}
use Rattle.tl_engine.proofs.Played.{happened}
use Rattle.tl_engine.proofs.play.play_event.Goals as goal

pub append_event-requires : goal.append_event-requires
unfolding IsWorld
append_event-requires g c =
    let (config, log, reached) = c.step-outcome.ensures.world in
    let line = writable config log c.args.event c.step-outcome.result
    (c.step-outcome.ensures.reached config log reached).given in
    let piece = has-piece config c.args.event (system_after config log) c.step-outcome.result
    (c.step-outcome.ensures.outcome config log reached) in
    search (rules, line, piece)

pub returns : goal.returns
returns g c = happened c.args.form c.args.player.now
    (record { world = c.step-outcome.new.self; stores = c.append_event.new.stores }) c.args.event
    c.step-outcome.result c.args.out.now.items
    c.append_event.new.out.items c.append_event.result c.append_event.ensures c.step-outcome.ensures.outcome
    c.step-outcome.ensures.reached
