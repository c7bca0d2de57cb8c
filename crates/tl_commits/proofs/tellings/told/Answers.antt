use Rattle.std.proofs.Common.{ap, refl, ◌∷◌, [], ◌∙◌}
use Rattle.tl_bytes.proofs.Whole.{whole-mask}
use Rattle.tl_commits.proofs.TellingLists.{told-at, whole}
use Rattle.tl_commits.proofs.tellings.told.Goals as goal

pub returns : goal.returns
returns c = λ p lt. told-at (whole c.args.values.now) c.args.moment p c.append_written.new.told.items
    (rw c.new-told.ensures.items at c.in_ok-append_written.ensures) lt
    ∙ ap (λ v. record { value = v; moment = c.args.moment } ∷ [])
    (whole-mask (whole c.args.values.now) p refl refl lt).1
