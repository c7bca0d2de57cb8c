use Rattle.std.proofs.Common.{◌++◌, refl}
use Rattle.std.proofs.lemmas.Result.{err_from_is_err_and}
use Rattle.tl_wide_event_story.proofs.explain.explain_wide_events.Goals as goal

pub returns-clause-ok : goal.returns-clause-ok
returns-clause-ok g c = (
  c.examine.new.verdict.items ++ c.reasons.new.out.items,
  record {
    verdict = c.examine.new.verdict.items;
    reasons = c.reasons.new.out.items;
    reached = c.in_ok-found.ensures.ok;
    explained = rw c.deref.ensures.value at c.in_ok-reasons.ensures.ok;
    said = refl;
  },
  rw (c.deref-2.ensures.value, c.deref-3.ensures.value) at c.in_ok-write_both.ensures.ok,
)

pub returns-in_err-write_both-clause-fault : goal.returns-in_err-write_both-clause-fault
returns-in_err-write_both-clause-fault g c =
    let p = err_from_is_err_and c.from_residual-in_err-write_both.result c.from_residual-in_err-write_both.ensures.1 in
    rw (p.1, p.2, c.in_err-write_both.ensures.fault) (
      c.examine.new.verdict.items ++ c.reasons.new.out.items,
      c.in_ok-found.status,
      record {
        verdict = c.examine.new.verdict.items;
        reasons = c.reasons.new.out.items;
        reached = c.in_ok-found.ensures.ok;
        explained = rw c.deref.ensures.value at c.in_ok-reasons.ensures.ok;
        said = refl;
      },
      rw (c.deref-2.ensures.value, c.deref-3.ensures.value) at c.in_err-write_both.ensures.err,
    )
