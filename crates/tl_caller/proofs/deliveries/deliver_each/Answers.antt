use Rattle.std.proofs.Common.{refl, sym, ◌∙◌, ◌+◌, ◌∷◌, [], arith}
use Rattle.tl_world.specs.statement.World.{IsWorld}
use Rattle.tl_caller.proofs.Bounds.{behind-more, behind-none, nothing-behind}
use Rattle.tl_caller.proofs.Promises.{bounded}
use Rattle.tl_caller.proofs.deliveries.deliver_each.Goals as goal
use Rattle.tl_caller.proofs.deliveries.deliver_each.Goals.{then-moves, else-moves}

pub loop-link-init : goal.loop-link-init
loop-link-init g c = λ config log r. ([], log, r, nothing-behind log, refl)

pub overflow_add-moved : goal.overflow_add-moved
unfolding IsWorld
overflow_add-moved g c =
    let (config, log, r) = c.load-load.ensures.world in
    let (more, whole, after, is, many) = c.loop-link.invariant config log r in
    let (o, moves, next) = c.moves.ensures config whole after in
    let bound = bounded g.A.Agent.represents g.A.Agent.terms g.D.Directory.perm_of config _ _ (_ ∷ more) log _
    (c.loop-link.moved + 1) c.load-load.result r next
    (behind-more _ _ whole more log c.loop-link.moved (c.loop-link.moved + 1) (sym moves ∙ c.if-moves.true) is refl
    refl) (c.load-load.ensures.load config log r) in
    omega (arith, bound, c.load-load.type_inv)

pub loop-link-preserved : goal.loop-link-preserved
loop-link-preserved g c = λ config log r.
    let (more, whole, after, is, many) = c.loop-link.invariant config log r in
    let (o, moves, next) = c.moves.ensures config whole after in
    elim c.if-moves.branch [
      | then-moves w ↦ (
        _ ∷ more,
        _ ∷ whole,
        next,
        behind-more _ _ whole more log c.loop-link.moved _ (sym moves ∙ w.if-moves.true) is refl w.moved-is,
        omega (arith, many),
      )
      | else-moves w ↦ (
        _ ∷ more,
        _ ∷ whole,
        next,
        behind-none _ _ whole more log c.loop-link.moved _ (sym moves ∙ w.if-moves.false) is refl w.moved-is,
        omega (arith, many),
      )
    ]

pub returns-clause-moved : goal.returns-clause-moved
returns-clause-moved g c = λ config log r.
    let (more, whole, after, is, many) = c.loop-link.invariant config log r in
    (more, rw is.whole_is at after, omega (arith, many, c.loop-link-test.false), is.moved_is)

pub returns-clause-bound : goal.returns-clause-bound
unfolding IsWorld
returns-clause-bound g c =
    let (config, log, r) = c.load-load.ensures.world in
    let (more, whole, after, is, many) = c.loop-link.invariant config log r in
    bounded g.A.Agent.represents g.A.Agent.terms g.D.Directory.perm_of config _ _ more log whole c.loop-link.moved
    c.load-load.result r after is (c.load-load.ensures.load config log r)
