use Rattle.std.proofs.Common.{◌≡◌, rules}
use Rattle.std.proofs.lemmas.Result.{IfOk-weaker}
use Rattle.tl_commits.specs.code.Responding.{AreBytes}
use Rattle.tl_evidence.proofs.copy_record.CopyRecord.tell_bytes_of.Goals as goal

pub returns : goal.returns
returns g c = IfOk-weaker c.tell_bytes.result _ _
    (λ told says. λ on from test are may levels complete e k.
    let b = c.args.bytes.now in
    let here : b.block ≡ c.args.self.now.block = search rules in
    says on from test (record {
      from_is = rw (← here) are.from_is;
      inside = are.inside;
      sets_are = λ place v lt small. rw (← here) (are.sets_are place v lt small);
    }) may levels complete e k)
    c.tell_bytes.ensures
