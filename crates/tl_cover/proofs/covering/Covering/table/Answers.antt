use Rattle.std.proofs.Common.{length, ◌∙◌}
use Rattle.tl_cover.proofs.Links.{past_at}
use Rattle.tl_cover.proofs.covering.Covering.table.Goals as goal

pub returns-in-Some-clause-counted : goal.returns-in-Some-clause-counted
returns-in-Some-clause-counted g c = λ levels l t closed covers within.
    let place = c.in-Some.ensures.lookup in
    let known = past_at l (length levels) c.args.self.now.pasts.items c.from.result c.in-Some.past.now c.args.link t
    c.from.ensures (rw c.deref.ensures.value at place.3.0) (rw c.deref.ensures.value at place.1)
    covers.follows.pasts_are in
    c.deref-in-Some.ensures.value ∙ known.rows_are
