use Rattle.std.proofs.Common.{◌∙◌, sym}
use Rattle.tl_evidence.proofs.Setting.{one-at}
use Rattle.tl_evidence.proofs.set_lines.is_at.Goals as goal

pub returns-in-Some : goal.returns-in-Some
returns-in-Some c = λ on.
    one-at c.args.told.telling c.args.told.place c.args.before.now c.args.at c.in-Some.there
    (sym c.told_at.ensures ∙ c.in-Some.is) (sym c.is_same.ensures ∙ on)
