use Rattle.std.proofs.Common.{ap, sym, ◌∙◌, ◌≡◌, ◌||◌, true, false}
use Rattle.std.specs.Prelude.{find, is_some, Some}
use Rattle.tl_rules.specs.statement.Admission.{is_spoiled}
use Rattle.tl_memory.proofs.values.Writing.{both_false, sound_value, spoiled_value}
use Rattle.tl_memory.proofs.writer.values_written.Goals as goal

pub returns-then-either : goal.returns-then-either
returns-then-either g c = λ access burst k other m lawful place lt written.
    let spoiled : (access.spoiled || is_some (find is_spoiled burst)) ≡ true =
    ap (λ b. b || is_some (find is_spoiled burst)) (sym k.spoiled_is)
    ∙ ap (λ b. c.args.asked.now.spoiled || b) (sym m.spoiled_is) ∙ sym c.either.ensures ∙ c.if-either.true in
    c.none.ensures place ∙ sym (spoiled_value _ _ spoiled)

pub returns : goal.returns
returns g c = λ access burst k other m lawful place lt written.
    let sound : (access.spoiled || is_some (find is_spoiled burst)) ≡ false =
    ap (λ b. b || is_some (find is_spoiled burst)) (sym k.spoiled_is)
    ∙ ap (λ b. c.args.asked.now.spoiled || b) (sym m.spoiled_is) ∙ sym c.either.ensures ∙ c.if-either.false in
    c.all.ensures place lt
    ∙ ap Some (c.performed.ensures access burst k other (c.bytes.ensures g.row.W burst m.bytes_are)
    (both_false access.spoiled _ sound) lawful.0 lawful.1 place lt written)
    ∙ sym (sound_value _ _ sound)
