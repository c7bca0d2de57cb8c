use Rattle.std.proofs.Common.{length}
use Rattle.std.proofs.lemmas.Result.{IfOk-weaker}
use Rattle.tl_evidence.proofs.ResponseTexts.{response-told}
use Rattle.tl_evidence.proofs.copy_record.CopyRecord.tell_response.Goals as goal

pub returns-in-Some-lanes-clause-tells : goal.returns-in-Some-lanes-clause-tells
returns-in-Some-lanes-clause-tells g c = IfOk-weaker c.tell_bytes_of.result _ _
    (λ told says. λ on may levels complete e k.
    let are = rw c.in-Some.is at c.in_ok-bytes.ensures.bytes in
    response-told (g.X.Places.names c.args.places.now) c.in-Some.bytes complete (length levels) c.args.self.now.link.0 c.args.x.now e c.in-Some-lanes.lanes
    c.args.out.now.items c.tell_bytes_of.new.out.items c.in-Some-lanes.is
    (λ from test it. rw c.response_bytes.ensures.link at (says on from test it may levels complete e
    (c.response_bytes.ensures.knows may levels complete e k)))
    c.args.x.now.opcode (are may levels complete e k))
    c.tell_bytes_of.ensures
