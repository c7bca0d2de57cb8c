use Rattle.std.proofs.Common.{rules, ap, ◌∙◌, ◌≡◌, ◌/◌, true, length}
use Rattle.std.proofs.lemmas.Bool.{lt-ltb}
use Rattle.tl_bytes.specs.statement.Shown.{tells_bytes}
use Rattle.tl_params.specs.declared.perm.Perm.{Perm}
use Rattle.tl_rules.specs.code.Open.{open_probe}
use Rattle.tl_rules.specs.statement.Conformance.{on_link, same_perm}
use Rattle.tl_rules.specs.statement.History.{reported}
use Rattle.tl_together.proofs.shown.shows_bytes.Goals as goal

pub returns : goal.returns
returns g c = λ levels may t k lt.
    let x = c.args.x.now in
    let past = on_link c.args.link.0 t in
    let trunk : same_perm (reported x.param) Perm.Trunk ≡ true = search rules in
    let probe : c.probe.result ≡ open_probe (x.address / 64) past =
    c.probe.ensures.under levels may t _ k.knows
    ∙ rw (lt-ltb c.args.link.0 (length levels) lt) (ap (λ b. open_probe b past) c.block_at.ensures) in
    rw trunk (c.tells_bytes.ensures ∙ ap (tells_bytes x.opcode) probe)
