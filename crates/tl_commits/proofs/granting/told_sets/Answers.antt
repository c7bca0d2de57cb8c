use Rattle.std.proofs.Common.{◌≡◌, ◌+◌, ◌||◌, ap, arith, sym, ◌∙◌}
use Rattle.std.proofs.lemmas.List.{get_or-replicate}
use Rattle.tl_bytes.specs.statement.Bytes.{told_as}
use Rattle.tl_bytes.specs.statement.Known.{tellings_at}
use Rattle.tl_memory.specs.code.ByteSet.{has, nothing}
use Rattle.tl_commits.specs.code.Granting as code
use Rattle.tl_commits.proofs.granting.told_sets.Goals as goal

pub returns-in-None : goal.returns-in-None
returns-in-None c = λ place v lt small.
    c.all_sets.ensures place v lt small ∙ ap (λ o. code.told_or_any o place v) (sym c.in-None.is)

pub returns-in-Some : goal.returns-in-Some
returns-in-Some c = λ place v lt small.
    let told = c.in-Some.told.items in
    let at : 0 + place ≡ place = omega arith in
    rw c.as_slice.ensures.value at (c.with_told.ensures place v lt small)
    ∙ ap (λ b. b || told_as v (tellings_at (0 + place) told))
    (ap (λ s. has s v) (get_or-replicate 64 place c.none.result nothing lt) ∙ c.none.ensures v small)
    ∙ ap (λ i. told_as v (tellings_at i told)) at
    ∙ ap (λ o. code.told_or_any o place v) (sym c.in-Some.is)
