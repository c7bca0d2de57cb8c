use Rattle.std.proofs.Common.{◌≡◌, refl, arith}
use Rattle.tl_params.specs.declared.perm.Perm.TheVariants as perm
use Rattle.tl_rules.specs.statement.Windows.{leaves}
use Rattle.tl_together.proofs.Answered.{free_all, free_more, free_none}
use Rattle.tl_together.proofs.free.freedom_of.Goals as goal

pub loop-n-init : goal.loop-n-init
loop-n-init g c = λ levels may t k e. (
  free_none perm.Branch c.args.block t,
  free_none perm.Trunk c.args.block t,
  refl,
)

pub loop-n-preserved : goal.loop-n-preserved
loop-n-preserved g c = λ levels may t k e.
    let before = c.loop-n.invariant levels may t k e in
    let held = c.held_under-held.ensures levels may t _ k.knows in (
      free_more _ levels may c.loop-n.n _ perm.Branch c.held_under-held.result c.args.block t c.loop-n.free.reading
          (leaves perm.Branch c.held_under-held.result) c.beside-free.result.reading k refl
          (omega (arith, e, c.loop-n-test.true)) held before.0 refl c.beside-free.ensures.reading,
      free_more _ levels may c.loop-n.n _ perm.Trunk c.held_under-held.result c.args.block t c.loop-n.free.writing
          (leaves perm.Trunk c.held_under-held.result) c.beside-free.result.writing k refl
          (omega (arith, e, c.loop-n-test.true)) held before.1 refl c.beside-free.ensures.writing,
      c.beside-free.ensures.shown,
    )

pub returns : goal.returns
returns g c = λ levels may t k e.
    let done : c.loop-n.n ≡ c.args.links = omega (arith, c.loop-n-test.false) in
    let all = c.loop-n.invariant levels may t k e in
    let both = free_all c.loop-n.n c.args.links c.args.block t c.loop-n.free.reading c.loop-n.free.writing done
    (all.0, all.1) in
    (both.0, both.1, all.2)
