use Rattle.std.proofs.Common.{refl, sym, length, ◌∙◌}
use Rattle.tl_commits.proofs.giving_up.keeps_stores.Goals as goal

pub returns-in-None : goal.returns-in-None
returns-in-None g c = λ levels l complete e j lt k all.
    rw (sym (c.takes_trunk.ensures levels l e j lt) ∙ c.in-None.is) refl

pub returns-in-Some : goal.returns-in-Some
returns-in-Some g c = λ levels l complete e j lt k all.
    rw (sym (c.takes_trunk.ensures levels l e j lt) ∙ c.in-Some.is)
    (c.either.ensures ∙ rw (all, c.is_clean.ensures g.row.W complete (length levels) e k) refl)
