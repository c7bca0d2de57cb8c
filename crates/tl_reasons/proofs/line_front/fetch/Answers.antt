use Rattle.std.proofs.Common.{◌++◌, take}
use Rattle.std.proofs.lemmas.List.{append-nil}
use Rattle.std.proofs.KnownBytes.{Consumes-trans}
use Rattle.tl_reasons.proofs.Reaching.{has-come}
use Rattle.tl_reasons.proofs.line_front.fetch.Goals as goal

pub returns-then-count-eq0-clause-ok : goal.returns-then-count-eq0-clause-ok
returns-then-count-eq0-clause-ok g c =
    let known = c.loop.invariant.read in (
      known.0,
      rw (append-nil known.0) at (Consumes-trans _ _ _ _ _ known.1 (rw c.if-count-eq0.true at c.in_ok-count.ensures.ok)),
      has-come c.args.good _ _ known.0 _ known.2,
    )

pub returns-then-line-clause-ok : goal.returns-then-line-clause-ok
returns-then-line-clause-ok g c =
    let known = c.loop.invariant.read in (
      known.0 ++ take c.in_ok-count.count c.next_piece.new.chunk.items,
      Consumes-trans _ _ _ _ _ known.1 c.in_ok-count.ensures.ok,
      has-come c.args.good _ _ _ _ (rw c.deref.ensures.value at c.in_ok-take_all.ensures c.args.good known.0 known.2),
    )
