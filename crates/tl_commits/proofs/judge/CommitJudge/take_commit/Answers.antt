use Rattle.std.proofs.Common.{◌≡◌, true, rules, slice_get, sym, ◌∙◌}
use Rattle.tl_commits.specs.statement.Breaches.{has_cache}
use Rattle.tl_commits.proofs.CommitsJudged.{cache-below}
use Rattle.tl_commits.proofs.judge.CommitJudge.take_commit.Goals as goal

pub returns-in-Store-clause-answer : goal.returns-in-Store-clause-answer
returns-in-Store-clause-answer g c = λ levels complete l e k is.
    let cache : has_cache (slice_get levels c.args.link.0) ≡ true =
    rw (← k.levels_are) (sym c.has_cache.ensures ∙ search rules) in
    rw (c.in-Store.is, cache)
    (c.take_store.ensures.answer levels complete l e k (cache-below levels c.args.link.0 cache))

pub returns-in-Store-clause-knows : goal.returns-in-Store-clause-knows
returns-in-Store-clause-knows g c = λ levels complete l e k is.
    let cache : has_cache (slice_get levels c.args.link.0) ≡ true =
    rw (← k.levels_are) (sym c.has_cache.ensures ∙ search rules) in
    rw c.in-Store.is (c.take_store.ensures.knows levels complete l e k (cache-below levels c.args.link.0 cache)
    (rw c.in-Store.is at is).0)

pub returns-in-Load-clause-answer : goal.returns-in-Load-clause-answer
returns-in-Load-clause-answer g c = λ levels complete l e k is.
    let cache : has_cache (slice_get levels c.args.link.0) ≡ true =
    rw (← k.levels_are) (sym c.has_cache.ensures ∙ search rules) in
    rw (c.in-Load.is, cache)
    (c.take_load.ensures.answer levels complete l e k (cache-below levels c.args.link.0 cache) (rw c.in-Load.is at is).0)

pub returns-in-Load-clause-knows : goal.returns-in-Load-clause-knows
returns-in-Load-clause-knows g c = λ levels complete l e k is.
    let cache : has_cache (slice_get levels c.args.link.0) ≡ true =
    rw (← k.levels_are) (sym c.has_cache.ensures ∙ search rules) in
    rw c.in-Load.is (c.take_load.ensures.knows levels complete l e k (cache-below levels c.args.link.0 cache)
    (rw c.in-Load.is at is).0)

pub returns-in-Begin-clause-knows : goal.returns-in-Begin-clause-knows
returns-in-Begin-clause-knows g c = λ levels complete l e k is.
    let cache : has_cache (slice_get levels c.args.link.0) ≡ true =
    rw (← k.levels_are) (sym c.has_cache.ensures ∙ search rules) in
    rw c.in-Begin.is (c.take_begin.ensures.knows levels complete l e k (cache-below levels c.args.link.0 cache)
    (rw c.in-Begin.is at is))
