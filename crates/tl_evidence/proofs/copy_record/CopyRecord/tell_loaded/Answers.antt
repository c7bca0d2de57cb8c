use Rattle.std.proofs.Common.{◌≡◌, ◌/◌, ◌++◌, ◌∙◌, ap, length, rules}
use Rattle.tl_evidence.proofs.CopyTexts.{loaded-by}
use Rattle.tl_evidence.proofs.copy_record.CopyRecord.tell_loaded.Goals as goal

pub returns : goal.returns
returns g c = λ on may levels complete e k.
    let r = c.args.self.now in
    let here : c.args.piece.address / 64 ≡ r.block = search rules in
    let long : length c.loaded-sets.result ≡ 8 = search rules in
    rw c.from.ensures at c.in_ok-tell_lanes.ensures
    ∙ ap (λ text. c.args.out.now.items ++ text) (loaded-by (g.X.Places.names c.args.places.now) r may levels complete e k c.args.piece c.args.value
    c.in-Some.first c.in-Some.count c.possible.result.block c.loaded-sets.result c.to_le_bytes-bytes.result
    c.possible.result.set.now c.possible.ensures.block c.possible.ensures.set here c.in-Some.ensures
    c.to_le_bytes-bytes.ensures long
    (c.loaded-sets.ensures levels complete may e k.judge_is k.there c.in-Some.ensures.valid))
