use Rattle.std.proofs.Common.{refl, sym, ◌∙◌}
use Rattle.tl_partner.proofs.Same.{plain-zero}
use Rattle.tl_partner.proofs.terms.Terms.plain.Goals as goal

pub returns-in-C : goal.returns-in-C
returns-in-C g c = rw c.in-C.is (plain-zero c.args.self.now c.in-C.x _ c.if-self.true
    (sym c.is_probe_ack.ensures ∙ c.if-is_probe_ack.true) refl refl refl refl refl refl refl)
