use Rattle.std.proofs.Common.{refl, sym, ◌∙◌}
use Rattle.tl_rules.proofs.Open.{never}
use Rattle.tl_partner.proofs.lenient.Lenient.is_drop.Goals as goal
use Rattle.tl_partner.proofs.lenient.Lenient.is_drop.Goals.{then-self, else-self}

pub returns-else-says_none : goal.returns-else-says_none
returns-else-says_none g c = λ config e k. elim c.if-self.branch [
  | then-self w ↦ c.if-says_none.false
      ∙ sym (rw (sym w.says_none.ensures ∙ sym w.value-is ∙ c.if-says_none.false) (never c.args.self.now.terms.drops))
  | else-self w ↦ c.if-says_none.false ∙ sym (rw w.if-self.false refl)
]
