use Rattle.std.proofs.Common.{refl, subst, sym, ◌∙◌}
use Rattle.std.proofs.lemmas.Bool.{eq-eqb}
use Rattle.tl_cover.specs.code.Past.{AreApart}
use Rattle.tl_cover.proofs.Apart.{apart_with}
use Rattle.tl_cover.proofs.Lists.{found-with}
use Rattle.tl_cover.proofs.asked.ask.Goals as goal

pub returns-clause-found : goal.returns-clause-found
returns-clause-found c = λ k. found-with k c.args.asked c.args.all.now.items c.answer.new.all.items
    c.push.new.self.items c.answer.ensures.found c.in_ok-push.ensures.items

pub returns-clause-apart : goal.returns-clause-apart
returns-clause-apart c = λ apart. subst AreApart (sym c.in_ok-push.ensures.items)
    (apart_with c.args.asked c.answer.new.all.items c.requires
    (c.answer.ensures.found c.args.asked.block ∙ rw (eq-eqb c.args.asked.block c.args.asked.block refl) refl)
    (c.answer.ensures.apart apart))
