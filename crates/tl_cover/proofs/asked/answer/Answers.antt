use Rattle.std.proofs.Common.{ap, ◌∙◌, rules, subst, sym}
use Rattle.std.proofs.lemmas.Fn.{filter_same}
use Rattle.tl_cover.specs.code.Past.{AreApart, found}
use Rattle.tl_cover.proofs.Apart.{apart_without}
use Rattle.tl_cover.proofs.Lists.{found-without}
use Rattle.tl_cover.proofs.asked.answer.Goals as goal

pub returns-clause-found : goal.returns-clause-found
returns-clause-found c = λ k. ap (found k) (filter_same _ _ _ (λ x b f' h. search rules) _ _ c.retain.ensures.filtered)
    ∙ found-without k c.args.block _

pub returns-clause-apart : goal.returns-clause-apart
returns-clause-apart c = λ apart. subst AreApart
    (sym (filter_same _ _ _ (λ x b f' h. search rules) _ _ c.retain.ensures.filtered))
    (apart_without c.args.block c.args.all.now.items apart)
