use Rattle.std.proofs.Common.{◌≡◌, ◌∙◌, rules}
use Rattle.tl_beat.specs.code.FromLeft.{placed}
use Rattle.tl_beat.proofs.Placed.{placed-read}
use Rattle.tl_beat.proofs.WellSpelled.{body-a, body-b}
use Rattle.tl_beat.proofs.MaskedLines.{masked-a, masked-b}
use Rattle.tl_beat.proofs.read.whole.place_masked.Goals as goal

pub returns-in-65 : goal.returns-in-65
returns-in-65 g c = λ body m.
    let letter : c.args.letter ≡ 65 = search rules in
    placed-read c.place_a.result _ c.place_a.new.beat _ _ (search rules)
    (body-a body (placed c.place_a.result c.place_a.new.beat) (m.named ∙ letter) m.spaced
    (c.place_a.ensures.read ∙ masked-a body _ _ _ _ _ _ m)) c.place_a.ensures.unchanged

pub returns-in-66 : goal.returns-in-66
returns-in-66 g c = λ body m.
    let letter : c.args.letter ≡ 66 = search rules in
    placed-read c.place_b.result _ c.place_b.new.beat _ _ (search rules)
    (body-b body (placed c.place_b.result c.place_b.new.beat) (m.named ∙ letter) m.spaced
    (c.place_b.ensures.read ∙ masked-b body _ _ _ _ _ _ m)) c.place_b.ensures.unchanged
