use Rattle.std.proofs.Common.{length, refl, subst, sym}
use Rattle.std.proofs.lemmas.Result.{IfOk-weaker}
use Rattle.tl_beat.specs.declared.beat.Beat.{Beat}
use Rattle.tl_beat.specs.declared.opcode.OpD.{OpD}
use Rattle.tl_commits.specs.statement.Events.{beats_of}
use Rattle.tl_rules.specs.statement.Liberties.{broken_on_link_under}
use Rattle.tl_evidence.specs.code.Responding.{AreOf}
use Rattle.tl_evidence.proofs.ResponseTexts.{copy-asked, rules-kept, some-of}
use Rattle.tl_evidence.proofs.copy_record.CopyRecord.response_bytes.Goals as goal

pub returns-in_err-keeps_rules-clause-knows : goal.returns-in_err-keeps_rules-clause-knows
returns-in_err-keeps_rules-clause-knows g c = λ may levels complete e k.
    copy-asked c.args.self.now _ may levels complete e k (c.keeps_rules.ensures.knows levels complete may e k.judge_is)
    refl refl refl refl

pub returns-then-not-branch-clause-knows : goal.returns-then-not-branch-clause-knows
returns-then-not-branch-clause-knows g c = λ may levels complete e k.
    copy-asked c.args.self.now _ may levels complete e k (c.keeps_rules.ensures.knows levels complete may e k.judge_is)
    refl refl refl refl

pub returns-in-GrantData-clause-knows : goal.returns-in-GrantData-clause-knows
returns-in-GrantData-clause-knows g c = λ may levels complete e k.
    copy-asked c.args.self.now _ may levels complete e k (c.granted.ensures.knows levels complete may e
    (c.keeps_rules.ensures.knows levels complete may e k.judge_is)) refl refl refl refl

pub returns-in-GrantData-clause-bytes : goal.returns-in-GrantData-clause-bytes
returns-in-GrantData-clause-bytes g c = IfOk-weaker c.granted.result _ _
    (λ bytes says. some-of _ bytes (λ b is. λ may levels complete e k.
    let fine = rules-kept
    (broken_on_link_under may levels (c.args.self.now.link, Beat.D c.args.x.now) (beats_of e)) c.in_ok-keeps_rules.field-0
    (c.in_ok-keeps_rules.ensures.keeps levels complete may e k.judge_is) c.if-not-branch.false in
    subst (λ (o : OpD). AreOf b o complete (length levels) c.args.self.now.link.0 c.args.x.now e) (sym c.in-GrantData.is)
    (rw is at (says levels complete may e (c.keeps_rules.ensures.knows levels complete may e k.judge_is) fine
    c.in-GrantData.is))))
    c.granted.ensures.granted

pub returns-in-AccessAckData-clause-knows : goal.returns-in-AccessAckData-clause-knows
returns-in-AccessAckData-clause-knows g c = λ may levels complete e k.
    copy-asked c.args.self.now _ may levels complete e k (c.keeps_rules.ensures.knows levels complete may e k.judge_is)
    refl refl refl refl

pub returns-in-AccessAckData-clause-bytes : goal.returns-in-AccessAckData-clause-bytes
returns-in-AccessAckData-clause-bytes g c = some-of _ c.answered.result (λ b is. λ may levels complete e k.
    let fine = rules-kept
    (broken_on_link_under may levels (c.args.self.now.link, Beat.D c.args.x.now) (beats_of e)) c.in_ok-keeps_rules.field-0
    (c.in_ok-keeps_rules.ensures.keeps levels complete may e k.judge_is) c.if-not-branch.false in
    subst (λ (o : OpD). AreOf b o complete (length levels) c.args.self.now.link.0 c.args.x.now e) (sym c.in-AccessAckData.is)
    (rw is at (c.answered.ensures levels complete may e (c.keeps_rules.ensures.knows levels complete may e k.judge_is) fine
    c.in-AccessAckData.is)))

pub returns-in_default : goal.returns-in_default
returns-in_default g c = record {
  link = refl;
  knows = λ may levels complete e k.
      copy-asked c.args.self.now _ may levels complete e k (c.keeps_rules.ensures.knows levels complete may e k.judge_is)
      refl refl refl refl;
  bytes = tt;
}
