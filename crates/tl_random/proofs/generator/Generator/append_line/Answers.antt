use Rattle.std.proofs.Common.{refl, rules, subst, sym}
use Rattle.tl_engine.specs.statement.PlayableWorld.{Contained}
use Rattle.tl_random.proofs.Played.{Tries, drain-played, event-played, none-tried, not-taken, one-tried}
use Rattle.tl_random.proofs.Schedules.{grows_drain, grows_event}
use Rattle.tl_random.proofs.generator.Generator.append_line.Goals as goal
use Rattle.tl_random.proofs.generator.Generator.append_line.Goals.{in-Some+else-takes, in_default}

pub loop-init : goal.loop-init
loop-init g c = record { out_is = refl; tries = λ config. none-tried config c.args.self.now.world }

pub loop-preserved : goal.loop-preserved
loop-preserved g c = elim c.match-event_in.branch [
  | in-Some+else-takes w ↦ record {
    out_is = c.loop.invariant.out_is;
    tries = rw w.self-is (λ config. one-tried config c.args.self.now.world c.draw_line.new.self.world
        w.step-outcome.new.self w.in-Some.event w.step-outcome.result
        (not-taken w.step-outcome.result _ _ (rw w.if-takes.false at w.takes.ensures))
        (w.step-outcome.ensures.reached config)
        (subst (λ (world : Contained g.row.W). Tries config c.args.self.now.world world) (sym c.in_ok-draw_line.ensures.world)
        (c.loop.invariant.tries config)));
  }
  | in_default w ↦ record {
    out_is = c.loop.invariant.out_is;
    tries = rw w.self-is (λ config.
        subst (λ (world : Contained g.row.W). Tries config c.args.self.now.world world) (sym c.in_ok-draw_line.ensures.world)
        (c.loop.invariant.tries config));
  }
]

pub returns-then-is_one_in-clause-line : goal.returns-then-is_one_in-clause-line
returns-then-is_one_in-clause-line g c =
    grows_drain g.row.W c.args.options.now.config _ _ _ _ refl c.append_drain.ensures.line

pub returns-then-is_one_in-clause-played : goal.returns-then-is_one_in-clause-played
returns-then-is_one_in-clause-played g c =
    drain-played c.args.self.now.world c.args.self.now.world c.append_drain.new.self.world _ _ _ _ refl
    c.append_drain.ensures.line c.append_drain.ensures.drained (λ config. none-tried config c.args.self.now.world)

pub returns-clause-line : goal.returns-clause-line
returns-clause-line g c =
    grows_drain g.row.W c.args.options.now.config _ _ _ _ c.loop.invariant.out_is c.append_drain-2.ensures.line

pub returns-clause-played : goal.returns-clause-played
returns-clause-played g c =
    drain-played c.args.self.now.world c.loop.self.world c.append_drain-2.new.self.world _ _ _ _
    c.loop.invariant.out_is c.append_drain-2.ensures.line c.append_drain-2.ensures.drained c.loop.invariant.tries

pub returns-then-takes-clause-line : goal.returns-then-takes-clause-line
returns-then-takes-clause-line g c =
    grows_event c.args.options.now.config _ _ _ _ _ c.in-Some.event _ c.loop.invariant.out_is
    c.extend_from_slice.ensures.items c.in-Some.ensures.spelled c.in-Some.ensures.of_world (search rules)

pub returns-then-takes-clause-played : goal.returns-then-takes-clause-played
returns-then-takes-clause-played g c =
    event-played c.args.self.now.world c.draw_line.new.self.world c.step-outcome.new.self _ _ _ _ _ c.in-Some.event
    c.step-outcome.result c.extend_from_slice.result c.loop.invariant.out_is c.extend_from_slice.ensures.items
    c.in-Some.ensures.spelled (search rules) c.step-outcome.ensures.reached
    (λ config. subst (λ (world : Contained g.row.W). Tries config c.args.self.now.world world)
    (sym c.in_ok-draw_line.ensures.world) (c.loop.invariant.tries config))
