use Rattle.std.proofs.Common.{◌≡◌, Some, slice_get, sym, ap, ◌∙◌}
use Rattle.std.proofs.lemmas.Option.{slice_get-get_or}
use Rattle.tl_bytes.specs.declared.telling.Telling.{Telling}
use Rattle.tl_bytes.specs.statement.Bytes.{could_be}
use Rattle.tl_commits.proofs.AnyTold.{any-there}
use Rattle.tl_commits.proofs.tellings.allows.Goals as goal

pub returns-in-Some : goal.returns-in-Some
returns-in-Some c =
    let told = c.args.told.now in
    let there = c.in-Some.there.now in
    let at : slice_get told c.from.result ≡ Some there =
    slice_get-get_or told c.from.result there c.in-Some.ensures.lookup.3.0 ∙ ap Some (sym c.in-Some.ensures.lookup.1) in
    sym (any-there (λ (e : Telling). could_be c.args.byte e.value) c.args.place told c.from.result there at
    c.if-there-place.true (sym c.could_be.ensures ∙ c.if-could_be.true))
