use Rattle.std.proofs.Common.{◌≡◌, [], refl, rules, subst, sym}
use Rattle.tl_wide.specs.declared.narrow.Narrower.{Narrower}
use Rattle.tl_wide.specs.statement.Narrowing.{Follows}
use Rattle.tl_sessions.proofs.wide.WideJudge.of.Goals as goal

pub returns : goal.returns
returns g c =
    let value_is : c.in-Ok.narrower.value ≡ c.new.result = search rules in
    (refl, refl, refl, λ w. subst (λ (n : Narrower). Follows {w = w} n []) (sym value_is) (c.new.ensures w))
