use Rattle.tltool.proofs.cover.try_over.Goals as goal

pub returns-clause-tried : goal.returns-clause-tried
returns-clause-tried g c =
    (c.in-Ok.tried, rw c.none.ensures at c.in-Ok.ensures.ok, c.in-Ok-push.ensures.items)
