use Rattle.std.proofs.Common.{rules, ◌≡◌, Some, sym, arith}
use Rattle.tl_coherence.specs.statement.Log.{system_after}
use Rattle.tl_coherence.specs.statement.Movable.{next_delivery, drained}
use Rattle.tl_world.proofs.Drained.{drained-more, drained-so, drained-all}
use Rattle.tl_world.proofs.world.World.drain.Goals as goal

pub loop-count-init : goal.loop-count-init
unfolding drained
loop-count-init g c = record { reached = λ config log r. r; number = λ config log r. omega arith }

pub loop-count-preserved : goal.loop-count-preserved
loop-count-preserved g c = record {
  reached = λ config log r.
      let so_far = c.loop-count.invariant.reached config log r in
      let next : Some (c.in-Some.link, c.in-Some.channel) ≡ next_delivery config
      (system_after config (drained config c.loop-count.count log)) =
      search (rules, c.in-Some.ensures.next config (drained config c.loop-count.count log) so_far) in
      rw (drained-more config c.loop-count.count log c.in-Some.link c.in-Some.channel c.deliver.new.outcome next
      (c.deliver.ensures.outcome config _ so_far)) (c.deliver.ensures.reached config _ so_far);
  number = λ config log r.
      let so_far = c.loop-count.invariant.reached config log r in
      let next : Some (c.in-Some.link, c.in-Some.channel) ≡ next_delivery config
      (system_after config (drained config c.loop-count.count log)) =
      search (rules, c.in-Some.ensures.next config (drained config c.loop-count.count log) so_far) in
      let before = c.loop-count.invariant.number config log r in
      rw (drained-more config c.loop-count.count log c.in-Some.link c.in-Some.channel c.deliver.new.outcome next
      (c.deliver.ensures.outcome config _ so_far)) (omega (arith, before));
}

pub returns-in-None-clause-drained : goal.returns-in-None-clause-drained
returns-in-None-clause-drained g c = λ config log r.
    let so_far = c.loop-count.invariant.reached config log r in
    let load = c.load-load.ensures.load config log r in
    drained-so config c.loop-count.count log so_far.given (c.loop-count.invariant.number config log r)
    (omega (arith, load)) (sym (c.in-None.ensures.next config _ so_far))

pub returns-clause-reached : goal.returns-clause-reached
returns-clause-reached g c = λ config log r. let all : c.loop-count.count ≡ c.load-load.result = omega arith in
    rw all at (c.loop-count.invariant.reached config log r)

pub returns-clause-drained : goal.returns-clause-drained
returns-clause-drained g c = λ config log r.
    let all : c.loop-count.count ≡ c.load-load.result = omega arith in
    let so_far = rw all at (c.loop-count.invariant.reached config log r) in
    drained-all config c.load-load.result log r.given so_far.given
    (rw all at (c.loop-count.invariant.number config log r)) (c.load-load.ensures.load config log r)
