use Rattle.std.proofs.Common.{refl, rules, sym, ap, ◌∙◌, ◌≡◌, true, false}
use Rattle.tl_beat.specs.declared.channel.Channel.{Channel}
use Rattle.tl_burst.specs.statement.Messages.{unfinished}
use Rattle.tl_rules.specs.statement.History.{is_grant, is_release_ack}
use Rattle.std.specs.Prelude.{is_some}
use Rattle.tl_memory.proofs.messages.EarlyMessages.{grants-with, releases-with}
use Rattle.tl_memory.proofs.passing.changes_held.Goals as goal

pub returns-in-A : goal.returns-in-A
returns-in-A g c = λ t k few.
    let is = c.in-A.is in
    rw is c.acquires_from_none.ensures

pub returns-in-C : goal.returns-in-C
returns-in-C g c = λ t k few.
    let is = c.in-C.is in
    let last = c.completes.ensures (unfinished Channel.C t) k.c_is (rw is at few) in
    rw is (rw is at last)

pub returns-then-is_release_ack : goal.returns-then-is_release_ack
returns-then-is_release_ack g c = λ t k few.
    let is = c.in-D.is in
    let yes : c.is_release_ack.result ≡ true = search rules in
    let ack : is_release_ack c.in-D.y.opcode ≡ true = sym c.is_release_ack.ensures ∙ yes in
    rw (is, ack) (c.is_some.ensures ∙ ap is_some c.releases_with.ensures
    ∙ releases-with c.args.messages.now.releasing c.in-D.y.source t k.releasing_is)

pub returns-then-not-is_grant : goal.returns-then-not-is_grant
returns-then-not-is_grant g c = λ t k few.
    let is = c.in-D.is in
    let no : c.is_grant.result ≡ false = search rules in
    let other : is_grant c.in-D.y.opcode ≡ false = sym c.is_grant.ensures ∙ no in
    let unanswered : c.is_release_ack.result ≡ false = search rules in
    let late : is_release_ack c.in-D.y.opcode ≡ false = sym c.is_release_ack.ensures ∙ unanswered in
    rw (is, late, other) refl

pub returns-else-not-is_grant : goal.returns-else-not-is_grant
returns-else-not-is_grant g c = λ t k few.
    let is = c.in-D.is in
    let yes : c.is_grant.result ≡ true = search rules in
    let grant : is_grant c.in-D.y.opcode ≡ true = sym c.is_grant.ensures ∙ yes in
    let unanswered : c.is_release_ack.result ≡ false = search rules in
    let late : is_release_ack c.in-D.y.opcode ≡ false = sym c.is_release_ack.ensures ∙ unanswered in
    let last = c.completes-in-D.ensures (unfinished Channel.D t) k.d_is (rw is at few) in
    rw (is, late, grant) (rw is at last)

pub returns-in-E : goal.returns-in-E
returns-in-E g c = λ t k few.
    let is = c.in-E.is in
    rw is (c.is_some-in-E.ensures ∙ ap is_some c.grants_with.ensures
    ∙ grants-with c.args.messages.now.granting c.in-E.y.sink t k.granting_is)

pub returns-in-B : goal.returns-in-B
returns-in-B g c = λ t k few. let is = c.in-B.is in rw is refl
