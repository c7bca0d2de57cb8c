use Rattle.std.proofs.Common.{◌≡◌, ◌∙◌, false, rules, sym, true}
use Rattle.std.proofs.lemmas.Result.{IfOk-weaker}
use Rattle.tl_beat.specs.statement.Opcode.{c_carries_data}
use Rattle.tl_evidence.proofs.copy_record.CopyRecord.tell_beat.Goals as goal

pub returns-in-A : goal.returns-in-A
returns-in-A g c = IfOk-weaker c.tell_lost_of.result _ _
    (λ told says. λ on may levels complete e k came.
    rw c.in-A.is (rw c.block_at.ensures at (says on may levels complete e k)))
    c.tell_lost_of.ensures

pub returns-in-C : goal.returns-in-C
returns-in-C g c = IfOk-weaker c.tell_given.result _ _
    (λ told says. λ on may levels complete e k came.
    let carries : c_carries_data c.in-C.x.opcode ≡ true = sym c.carries_data.ensures ∙ c.if-carries_data.true in
    rw (c.in-C.is, carries) (says on may levels complete e k came))
    c.tell_given.ensures

pub returns-in-C-2 : goal.returns-in-C-2
returns-in-C-2 g c = IfOk-weaker c.tell_lost_of-in-C-2.result _ _
    (λ told says. λ on may levels complete e k came.
    let bare : c_carries_data c.in-C-2.x.opcode ≡ false = search rules in
    rw (c.in-C-2.is, bare) (rw c.block_at-in-C-2.ensures at (says on may levels complete e k)))
    c.tell_lost_of-in-C-2.ensures
