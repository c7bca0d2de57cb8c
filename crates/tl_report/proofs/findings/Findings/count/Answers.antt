use Rattle.std.proofs.Common.{◌≡◌, ◌<◌, ◌+◌, ◌∙◌, ℕ, ap, length, rules}
use Rattle.std.proofs.lemmas.Grind.{get_or_default_zero}
use Rattle.tl_report.proofs.Counted.{one_more}
use Rattle.tl_report.proofs.findings.Findings.count.Goals as goal

pub returns-clause-counts : goal.returns-clause-counts
returns-clause-counts c = λ taken is.
    let within : c.args.cell < length c.args.self.now.cells.items = search rules in
    let held = c.index.ensures ∙ get_or_default_zero c.args.self.now.cells.items c.args.cell c.index.result.now within in
    let next : c.in_ok-number.number ≡ c.index.result.now + 1 = search rules in
    one_more c.args.self.now.beats c.in_ok-beats.beats c.in_ok-number.number c.args.cell c.args.self.now.cells.items taken within
    (search rules) (next ∙ ap (λ (n : ℕ). n + 1) held) is
