use Rattle.std.proofs.Common.{refl, rules, sym, true, false, ◌≡◌, ap, ap₂, ◌∙◌, ◌||◌}
use Rattle.std.specs.Prelude.{not}
use Rattle.tl_beat.specs.declared.channel.Channel.{Channel}
use Rattle.tl_burst.specs.statement.Messages.{unfinished}
use Rattle.tl_memory.{specs.code.Passing.acquires_from_none}
use Rattle.std.specs.Prelude.{is_none, is_some}
use Rattle.tl_memory.proofs.messages.EarlyMessages.{grants-with, none-some}
use Rattle.tl_memory.proofs.states.PassedBy.{none-before}
use Rattle.tl_memory.proofs.passing.passes_by.Goals as goal

pub returns-then-acquires_from_none : goal.returns-then-acquires_from_none
returns-then-acquires_from_none g c = λ t k few.
    let is = c.in-A.is in
    let yes : acquires_from_none c.in-A.y ≡ true = sym c.acquires_from_none.ensures ∙ c.if-acquires_from_none.true in
    rw (is, yes) refl

pub returns-else-acquires_from_none : goal.returns-else-acquires_from_none
returns-else-acquires_from_none g c = λ t k few.
    let is = c.in-A.is in
    let no : acquires_from_none c.in-A.y ≡ false = sym c.acquires_from_none.ensures ∙ c.if-acquires_from_none.false in
    rw (is, no) (ap not (c.asks.ensures t k.a_is (rw is at few)))

pub returns-in-C : goal.returns-in-C
returns-in-C g c = λ t k few.
    let is = c.in-C.is in
    let last = c.completes.ensures (unfinished Channel.C t) k.c_is (rw is at few) in
    rw is (ap not (rw is at last))

pub returns-in-D : goal.returns-in-D
returns-in-D g c = λ t k few.
    let is = c.in-D.is in
    let burst = unfinished Channel.D t in
    let last = c.completes-in-D.ensures burst k.d_is (rw is at few) in
    let first = none-before c.count.result burst (c.count.ensures g.row.W burst k.d_is.bytes_are) in
    rw is (ap not (c.either.ensures ∙ ap₂ (λ a b. a || b)
    (c.either-bounds.ensures ∙ ap₂ (λ a b. a || b) first (rw is at last)) c.is_answer.ensures))

pub returns-in-E : goal.returns-in-E
returns-in-E g c = λ t k few.
    let is = c.in-E.is in
    let none : c.is_none.result ≡ is_none c.grants_with.result = search rules in
    rw is (none ∙ none-some c.grants_with.result ∙ ap not (ap is_some c.grants_with.ensures
    ∙ grants-with c.args.messages.now.granting c.in-E.y.sink t k.granting_is))

pub returns-in-B : goal.returns-in-B
returns-in-B g c = λ t k few. let is = c.in-B.is in rw is refl
