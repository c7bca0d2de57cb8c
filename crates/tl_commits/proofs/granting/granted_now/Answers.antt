use Rattle.std.proofs.Common.{ap, length, ◌∙◌}
use Rattle.std.specs.Prelude.{option_map}
use Rattle.tl_commits.specs.code.ValueTable.{values_in}
use Rattle.tl_commits.specs.declared.block_values.BlockValues.{BlockValues}
use Rattle.tl_commits.specs.statement.Events.{beats_of}
use Rattle.tl_commits.proofs.Granted.{granted-now}
use Rattle.tl_commits.proofs.granting.granted_now.Goals as goal

pub returns : goal.returns
returns g c = λ levels l complete e j table.
    granted-now (record { told = c.in_ok-told.told; writes = c.in_ok-writes.writes }) (values_in c.args.table.now c.args.block) complete (length levels) c.args.block e
    (c.in_ok-told.ensures ∙ ap (option_map (λ (v : BlockValues). v.seen.items)) c.get.ensures) (table c.args.block)
    (c.in_ok-writes.ensures levels l (beats_of e) j)
