use Rattle.std.proofs.Common.{◌≡◌, ap, refl, ◌∙◌, length}
use Rattle.std.specs.Prelude.{unwrap_or}
use Rattle.std.proofs.lemmas.Bool.{lt-ltb}
use Rattle.tl_monitor.specs.statement.Granting.{coming}
use Rattle.tl_params.specs.declared.perm.Perm.TheVariants as perm
use Rattle.tl_rules.specs.statement.Conformance.{on_link}
use Rattle.tl_together.proofs.free.coming.Goals as goal

pub returns : goal.returns
returns g c = λ levels may t k lt.
    let here : c.coming.result ≡ coming c.args.block (on_link c.args.link.0 t) =
    c.coming.ensures.under levels may t _ k.knows ∙ rw (lt-ltb c.args.link.0 (length levels) lt) refl in
    c.unwrap_or.ensures ∙ ap (λ o. unwrap_or o perm.None) here
