use Rattle.std.proofs.Common.{◌≡◌, ◌++◌, OnOk, Bool, subst}
use Rattle.tl_tried.proofs.Telling.{several_so}
use Rattle.tl_tried.specs.statement.Told.{told_json}
use Rattle.tl_tried.proofs.tell.append_told.Goals as goal

pub returns-in-Json : goal.returns-in-Json
returns-in-Json c = rw c.in-Json.is (subst
    (λ (several : Bool). OnOk c.append_json.result (c.append_json.new.out.items
    ≡ c.args.out.now.items ++ told_json several c.args.all.now c.args.sums.now c.args.cells.now))
    (several_so c.is_empty.result c.args.names.now c.is_empty.ensures) c.append_json.ensures)
