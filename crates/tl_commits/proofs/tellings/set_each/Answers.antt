use Rattle.std.proofs.Common.{◌<◌, ◌&&◌, arith, ap, ◌∙◌, get_or}
use Rattle.std.specs.Prelude.{if◌then◌else◌}
use Rattle.std.proofs.lemmas.Bool.{lt-ltb}
use Rattle.tl_commits.specs.code.Tellings.{is_in, no_told, written_there}
use Rattle.tl_commits.proofs.TellingLists.{plain-set}
use Rattle.tl_commits.proofs.tellings.set_each.Goals as goal

pub returns : goal.returns
returns c = λ is p lt.
    let old = c.args.told.now.items in
    let places = c.args.places.now in
    let write = c.args.write.now in
    let moment = c.args.moment in
    plain-set old c.loop-place.told.items places write moment p is c.loop-place.invariant.0
    (λ q less.
    let done : q < c.loop-place.place = omega (arith, less, c.loop-place-test.false) in
    c.loop-place.invariant.1 q (omega (arith, less, is.0))
    ∙ ap (λ b. if b && is_in places q then written_there write moment q else get_or old q no_told) (lt-ltb q c.loop-place.place done)) lt
