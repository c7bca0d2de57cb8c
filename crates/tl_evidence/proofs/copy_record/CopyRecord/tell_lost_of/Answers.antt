use Rattle.std.proofs.Common.{◌≡◌, ◌++◌, ◌∙◌, ap, length, rules}
use Rattle.tl_evidence.specs.statement.CopyLines.{lost_lines}
use Rattle.tl_evidence.proofs.copy_record.CopyRecord.tell_lost_of.Goals as goal

pub returns : goal.returns
returns g c = λ on may levels complete e k.
    let same : c.args.self.now.block ≡ c.args.block = search rules in
    c.in_ok-tell_lost.ensures may levels complete e k
    ∙ ap (λ b. c.args.out.now.items ++ lost_lines (g.X.Places.names c.args.places.now) complete (length levels) c.args.self.now.link.0 b e) same
