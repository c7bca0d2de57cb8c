use Rattle.std.proofs.Common.{ap, refl, ◌∙◌, length}
use Rattle.std.specs.Prelude.{unwrap_or}
use Rattle.std.proofs.lemmas.Bool.{lt-ltb}
use Rattle.tl_bytes.specs.statement.Free.{may_hold}
use Rattle.tl_monitor.specs.statement.Granting.{coming}
use Rattle.tl_rules.specs.statement.Conformance.{on_link}
use Rattle.tl_rules.specs.statement.Windows.{leaves}
use Rattle.tl_together.proofs.{Beside.coming_leaves, Following.held_most}
use Rattle.tl_together.proofs.free.granted.Goals as goal

pub returns-then-free : goal.returns-then-free
returns-then-free g c = λ levels may t given k lt free.
    let past = on_link c.args.link.0 t in
    ap (leaves given) (c.coming.ensures levels may t k lt)
    ∙ coming_leaves given (coming c.args.block past) (may_hold c.args.block past) (free c.if-free.true)

pub returns : goal.returns
returns g c = λ levels may t given k lt free.
    ap (leaves given) (c.granted_under.ensures levels may t _ k.knows
    ∙ rw (lt-ltb c.args.link.0 (length levels) lt) refl
    ∙ ap (unwrap_or (coming c.args.block (on_link c.args.link.0 t)))
    (held_most _ levels may c.args.link.0 c.args.block t k lt))
