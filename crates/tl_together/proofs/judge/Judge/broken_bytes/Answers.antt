use Rattle.std.proofs.Common.{◌≡◌, true, false, refl, sym, ap, ◌∙◌, length}
use Rattle.std.specs.Prelude.{Some}
use Rattle.tl_beat.specs.declared.beat.Beat.{Beat}
use Rattle.tl_bytes.specs.statement.Bytes.{is_true}
use Rattle.tl_together.proofs.Following.{followed, one_more}
use Rattle.tl_together.proofs.judge.Judge.broken_bytes.Goals as goal

pub returns-then-is_true : goal.returns-then-is_true
returns-then-is_true g c = λ levels may t k fine change.
    let x = c.args.x.now in
    let yes : is_true x.opcode (length levels) c.args.link.0 x t ≡ true =
    sym (c.is_true.ensures levels t k.memory_is (followed _ levels may t k.monitor_is)
    (one_more _ levels may (c.args.link, Beat.D x) t k.monitor_is fine) change) ∙ c.if-is_true.true in
    rw yes refl

pub returns-else-is_true : goal.returns-else-is_true
returns-else-is_true g c = λ levels may t k fine change.
    let x = c.args.x.now in
    let no : is_true x.opcode (length levels) c.args.link.0 x t ≡ false =
    sym (c.is_true.ensures levels t k.memory_is (followed _ levels may t k.monitor_is)
    (one_more _ levels may (c.args.link, Beat.D x) t k.monitor_is fine) change) ∙ c.if-is_true.false in
    rw no (ap Some c.rule_of_bytes.ensures)
