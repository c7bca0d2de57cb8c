use Rattle.std.proofs.Common.{◌≡◌, refl, sym, ap, ◌∙◌, length}
use Rattle.std.proofs.lemmas.Bool.{lt-ltb}
use Rattle.std.proofs.lemmas.Option.{same_Some}
use Rattle.tl_bytes.specs.statement.Free.{may_hold}
use Rattle.tl_rules.specs.statement.Conformance.{on_link}
use Rattle.tl_together.proofs.{Beside.left_whole, Following.held_most}
use Rattle.tl_together.proofs.free.left_by_others.Goals as goal

pub returns-in-Some : goal.returns-in-Some
returns-in-Some g c = λ levels may t k lt known other held.
    let link = c.args.link in
    let block = c.in-Some.block in
    let same = same_Some block other (sym c.in-Some.is ∙ held) in
    let holds : c.held_under.result ≡ may_hold block (on_link link.0 t) =
    c.held_under.ensures levels may t _ k.knows ∙ rw (lt-ltb link.0 (length levels) lt) refl
    ∙ held_most _ levels may link.0 block t k lt in
    let none = left_whole c.held_under.result (sym c.leaves.ensures ∙ c.if-leaves.true) in (
      ap (λ b. may_hold b (on_link link.0 t)) (sym same) ∙ sym holds ∙ none,
      known other held,
    )
