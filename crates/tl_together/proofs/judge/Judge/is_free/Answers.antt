use Rattle.std.proofs.Common.{ap, refl, ◌∙◌}
use Rattle.tl_bytes.specs.statement.Free.{is_free}
use Rattle.tl_together.proofs.judge.Judge.is_free.Goals as goal

pub returns : goal.returns
returns g c = λ levels may t k.
    let knows = k.open_knows refl in
    c.is_free.ensures levels may t knows.monitor_is knows.links_are
    ∙ ap (λ n. is_free n c.args.given c.args.block t) knows.links_are
