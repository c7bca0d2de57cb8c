use Rattle.std.proofs.Common.{◌+◌, ◌*◌, ◌++◌, ◌∙◌, ap, arith, length}
use Rattle.std.proofs.lemmas.Result.{on_ok_weaker}
use Rattle.tl_evidence.proofs.CopyTexts.{counted-first}
use Rattle.tl_evidence.proofs.copy_record.CopyRecord.append_counted.Goals as goal

pub returns : goal.returns
returns g c = on_ok_weaker c.append_lost.result
    (λ says. λ may levels complete e k.
    says may levels complete e k
    ∙ ap (λ text. c.args.out.now.items ++ text) (counted-first (g.X.Places.names c.args.places.now) complete (length levels) c.args.self.now.link.0 e
    c.args.count (64 * c.args.self.now.block + c.args.place) (omega (arith, c.if-count-ge-TOLD.false))))
    c.append_lost.ensures
