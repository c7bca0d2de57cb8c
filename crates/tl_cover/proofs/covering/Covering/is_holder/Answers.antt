use Rattle.std.proofs.Common.{◌≡◌, false, refl, ap, ◌∙◌}
use Rattle.std.specs.Prelude.{◌==◌}
use Rattle.std.proofs.lemmas.Bool.{ne_eqb}
use Rattle.tl_params.specs.declared.perm.Perm.{Perm}
use Rattle.tl_rules.specs.statement.Conformance.{same_perm}
use Rattle.tl_monitor.proofs.Within.{held_within}
use Rattle.tl_cover.proofs.covering.Covering.is_holder.Goals as goal

pub returns-then-m-link : goal.returns-then-m-link
returns-then-m-link g c = λ levels l t closed covers within.
    let other : (c.args.m == c.args.link.0) ≡ false = ne_eqb c.args.m c.args.link.0 c.if-m-link.true in
    c.is_same.ensures
    ∙ ap (λ (p : Perm). same_perm p c.args.held)
    (c.held_under.ensures levels l t closed covers.knows
    ∙ held_within levels (record { 0 = c.args.m }) within l c.args.block t)
    ∙ rw other refl
