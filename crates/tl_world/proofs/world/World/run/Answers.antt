use Rattle.std.proofs.Common.{rules, refl, ◌≡◌, ◌∙◌, ◌<◌, sym, length, take, arith}
use Rattle.std.proofs.lemmas.List.{take_all, length-set}
use Rattle.tl_coherence.specs.statement.Log.{logged}
use Rattle.tl_world.proofs.Happened.{logged-next}
use Rattle.tl_world.proofs.world.World.run.Goals as goal

pub loop-i-init : goal.loop-i-init
unfolding logged
loop-i-init g c = record { number = refl; reached = λ config log r. r }

pub returns-clause-reached : goal.returns-clause-reached
returns-clause-reached g c = λ config log r.
    let all_events : take c.loop-i.i c.args.events.now ≡ c.args.events.now =
    take_all c.loop-i.i c.args.events.now (omega arith) in
    let all_outcomes : take c.loop-i.i c.loop-i.outcomes ≡ c.loop-i.outcomes =
    take_all c.loop-i.i c.loop-i.outcomes (let n = c.loop-i.invariant.number in omega (arith, n)) in
    rw (all_events, all_outcomes) at (c.loop-i.invariant.reached config log r)

pub loop-i-preserved : goal.loop-i-preserved
loop-i-preserved g c = record {
  number = rw c.set_outcome.ensures (length-set c.loop-i.outcomes c.loop-i.i c.step.result ∙ c.loop-i.invariant.number);
  reached = λ config log r.
      let inside : c.loop-i.i < length c.args.events.now = c.loop-i-test.true in
      let same : length c.args.events.now ≡ length c.loop-i.outcomes = c.requires ∙ sym c.loop-i.invariant.number in
      rw (
        c.set_outcome.ensures,
        logged-next c.args.events.now c.loop-i.outcomes c.loop-i.i c.index-events-i.result
            c.index-events-i.result c.step.result log inside same (search rules),
      )
      (c.step.ensures.reached config _ (c.loop-i.invariant.reached config log r));
}
