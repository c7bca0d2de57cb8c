use Rattle.std.proofs.Common.{◌≡◌, ◌++◌, OnOk, List, ℕ, subst}
use Rattle.tl_tables.proofs.Layouts.{permissions_so, runs_so}
use Rattle.tl_tables.proofs.rows.append_rows.Goals as goal

pub returns-in-Permissions : goal.returns-in-Permissions
returns-in-Permissions c = rw c.in-Permissions.is (subst
    (λ (rows : List ℕ). OnOk c.append_grid.result (c.append_grid.new.out.items ≡ c.args.out.now.items ++ rows))
    (permissions_so c.args.width c.args.counts.now) c.append_grid.ensures)

pub returns-in_default : goal.returns-in_default
returns-in_default c = subst
    (λ (rows : List ℕ). OnOk c.append_runs.result (c.append_runs.new.out.items ≡ c.args.out.now.items ++ rows))
    (runs_so c.args.width c.args.counts.now c.args.table c.in_default.not-Permissions) c.append_runs.ensures
