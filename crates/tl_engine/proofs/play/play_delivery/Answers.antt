use Rattle.std.proofs.Common.{rules}
use Rattle.tl_coherence.specs.declared.event.Event.TheVariants.{Deliver}
use Rattle.tl_coherence.specs.statement.Log.{system_after}
use Rattle.tl_world.specs.statement.World.{IsWorld}
use Rattle.tl_schedule.proofs.DonePieces.{has-piece}
use Rattle.tl_engine.proofs.Writable.{writable}
use Rattle.tl_engine.proofs.Played.{happened}
use Rattle.tl_engine.proofs.play.play_delivery.Goals as goal

pub append_event-requires : goal.append_event-requires
unfolding IsWorld
append_event-requires g c =
    let (config, log, reached) = c.deliver.ensures.world in
    let line = writable config log (Deliver c.args.link c.args.channel) c.deliver.new.outcome
    (c.deliver.ensures.reached config log reached).given in
    let piece = has-piece config (Deliver c.args.link c.args.channel) (system_after config log) c.deliver.new.outcome
    (c.deliver.ensures.outcome config log reached) in
    search (rules, line, piece)

pub returns : goal.returns
returns g c = happened c.args.form c.args.player.now
    (record { world = c.deliver.new.self; stores = c.append_event.new.stores }) (Deliver c.args.link c.args.channel)
    c.deliver.new.outcome c.args.out.now.items c.append_event.new.out.items c.append_event.result
    c.append_event.ensures c.deliver.ensures.outcome c.deliver.ensures.reached
