use Rattle.std.proofs.Common.{◌∷◌, ◌<◌, length, arith, false, refl, rules, ◌∙◌}
use Rattle.std.proofs.lemmas.Result.{err_from_is_err_and}
use Rattle.tl_params.specs.statement.Liberties.{with_liberty}
use Rattle.tl_allowed.proofs.Wider.{all-taken, next-knows, one-taken, refused-memory, unbroken-with}
use Rattle.tl_allowed.proofs.allowances.Allowances.take.Goals as goal

pub returns-in_err-try_push-clause-refused : goal.returns-in_err-try_push-clause-refused
returns-in_err-try_push-clause-refused g c =
    let wider = c.index_mut-wider.result.now in
    let p = err_from_is_err_and c.from_residual.result c.from_residual.ensures.1 in
    rw (p.1, p.2) (λ levels l t known e.
    refused-memory levels (with_liberty wider.liberty l) t (c.args.link, c.args.beat.now) c.in_err-try_push.field-0.0
    (unbroken-with l wider.liberty levels t (c.args.link, c.args.beat.now) e)
    (c.in_err-try_push.ensures.answer_under levels (with_liberty wider.liberty l) t false
    (next-knows c.loop-n.self.wider.items wider c.loop-n.n levels l ((c.args.link, c.args.beat.now) ∷ t) t
    (c.loop-n.invariant.known levels l t known) (omega (arith, c.loop-n.invariant.size)) c.index_mut-wider.ensures.value)))

pub loop-n-preserved : goal.loop-n-preserved
loop-n-preserved g c =
    let wider = c.index_mut-wider.result.now in
    record {
      size = search rules;
      liberties = c.loop-n.invariant.liberties;
      known = λ levels lib t known.
          let before = c.loop-n.invariant.known levels lib t known in
          let lt : c.loop-n.n < length c.loop-n.self.wider.items = omega (arith, c.loop-n.invariant.size) in
          one-taken c.loop-n.self.wider.items wider _ c.loop-n.n levels lib ((c.args.link, c.args.beat.now) ∷ t) t before
          lt c.index_mut-wider.ensures.value refl
          (c.in_ok-try_push.ensures.knows_under levels (with_liberty wider.liberty lib) t false
          (next-knows c.loop-n.self.wider.items wider c.loop-n.n levels lib ((c.args.link, c.args.beat.now) ∷ t) t before lt
          c.index_mut-wider.ensures.value));
    }

pub returns-clause-taken : goal.returns-clause-taken
returns-clause-taken g c = λ levels l t known. (
  c.loop-n.invariant.liberties ∙ known.0,
  all-taken c.loop-n.self.wider.items c.loop-n.n levels l ((c.args.link, c.args.beat.now) ∷ t) t
      (c.loop-n.invariant.known levels l t known) (omega (arith, c.loop-n.invariant.size)),
)
