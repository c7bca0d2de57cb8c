use Rattle.std.proofs.Common.{sym, ◌∙◌, ◌≡◌, true, false}
use Rattle.std.specs.Prelude.{find, is_some}
use Rattle.tl_rules.specs.statement.Admission.{is_spoiled}
use Rattle.tl_memory.proofs.writer.values_brought.Goals as goal

pub returns-then-brought : goal.returns-then-brought
returns-then-brought c = λ w burst k place lt.
    let spoiled : is_some (find is_spoiled burst) ≡ true = sym k.spoiled_is ∙ c.if-brought.true in
    rw spoiled (c.none.ensures place)

pub returns : goal.returns
returns c = λ w burst k place lt.
    let sound : is_some (find is_spoiled burst) ≡ false = sym k.spoiled_is ∙ c.if-brought.false in
    rw sound (c.bytes.ensures w burst k.bytes_are place lt)
