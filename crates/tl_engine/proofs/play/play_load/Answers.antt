use Rattle.std.proofs.Common.{refl, rules}
use Rattle.tl_client.specs.declared.operation.Op.TheVariants.{Load}
use Rattle.tl_coherence.specs.declared.event.Event.TheVariants.{Ask}
use Rattle.tl_coherence.specs.statement.Log.{system_after}
use Rattle.tl_command.specs.declared.command.RunForm.TheVariants.{Outcomes, Trace, TraceWithCommits}
use Rattle.tl_world.specs.statement.Answered.{answered}
use Rattle.tl_world.specs.statement.World.{IsWorld}
use Rattle.tl_engine.proofs.Answered.{asked-traced, asked-writes}
use Rattle.tl_schedule.proofs.DonePieces.{has-piece}
use Rattle.tl_engine.proofs.Played.{happened, happens}
use Rattle.tl_engine.proofs.play.play_load.Goals as goal

pub append_stored-requires : goal.append_stored-requires
unfolding IsWorld
append_stored-requires g c =
    let (config, log, reached) = c.ask_load-answer.ensures.world in
    let piece = has-piece {w = g.row.W} config (Ask c.args.client (Load c.args.address c.args.size)) (system_after config log)
    (answered c.ask_load-answer.result) (c.ask_load-answer.ensures.outcome config log reached) in
    search (rules, piece)

pub returns-in-Outcomes : goal.returns-in-Outcomes
returns-in-Outcomes g c = rw c.in-Outcomes.is (happened Outcomes c.args.player.now (record { world = c.ask_load-answer.new.self; stores = c.args.player.now.stores })
    (Ask c.args.client (Load c.args.address c.args.size)) (answered c.ask_load-answer.result) c.args.out.now.items
    c.append_answer.new.out.items c.append_answer.result
    (asked-writes {w = g.row.W} Outcomes c.args.player.now.stores c.args.client (Load c.args.address c.args.size)
    c.ask_load-answer.result c.args.out.now.items c.append_answer.new.out.items c.append_answer.result refl c.append_answer.ensures)
    c.ask_load-answer.ensures.outcome c.ask_load-answer.ensures.reached)

pub returns-in-Trace : goal.returns-in-Trace
returns-in-Trace g c = rw c.in-Trace.is (happens Trace c.args.player.now (record { world = c.ask_load-answer.new.self; stores = c.args.player.now.stores })
    (Ask c.args.client (Load c.args.address c.args.size)) (answered c.ask_load-answer.result) c.args.out.now.items
    c.args.out.now.items
    (asked-traced {w = g.row.W} c.args.player.now.stores c.args.client (Load c.args.address c.args.size)
    c.ask_load-answer.result c.args.out.now.items)
    c.ask_load-answer.ensures.outcome c.ask_load-answer.ensures.reached)

pub returns-in-TraceWithCommits : goal.returns-in-TraceWithCommits
returns-in-TraceWithCommits g c = rw c.in-TraceWithCommits.is (happened TraceWithCommits c.args.player.now (record { world = c.ask_load-answer.new.self; stores = c.args.player.now.stores })
    (Ask c.args.client (Load c.args.address c.args.size)) (answered c.ask_load-answer.result) c.args.out.now.items
    c.append_stored.new.out.items c.append_stored.result
    (asked-writes {w = g.row.W} TraceWithCommits c.args.player.now.stores c.args.client (Load c.args.address c.args.size)
    c.ask_load-answer.result c.args.out.now.items c.append_stored.new.out.items c.append_stored.result refl c.append_stored.ensures)
    c.ask_load-answer.ensures.outcome c.ask_load-answer.ensures.reached)
