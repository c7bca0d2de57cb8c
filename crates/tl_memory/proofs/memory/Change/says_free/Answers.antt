use Rattle.std.proofs.Common.{ap, sym, ◌∙◌}
use Rattle.std.specs.Prelude.{Some}
use Rattle.tl_memory.proofs.memory.Change.says_free.Goals as goal

pub returns-in_default : goal.returns-in_default
returns-in_default g c = λ n t k yes. absurd cc

pub returns-then-own-block : goal.returns-then-own-block
returns-then-own-block g c = λ n t k yes. absurd cc

pub returns : goal.returns
returns g c = λ n t k yes.
    let is = c.in-Some.is ∙ ap Some c.if-own-block.false in
    sym (c.freedom.ensures n c.args.block t k is c.args.given) ∙ sym c.is_free_for.ensures ∙ yes
