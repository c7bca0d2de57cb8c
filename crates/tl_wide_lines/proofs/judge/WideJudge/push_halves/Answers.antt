use Rattle.std.proofs.Common.{◌≡◌, false, inl, inr, refl, rules, true}
use Rattle.std.proofs.lemmas.Result.{IfOk-weaker}
use Rattle.tl_wide.specs.statement.Pieces.{left_of}
use Rattle.tl_wide_lines.proofs.PartsJudged.{one-judged}
use Rattle.tl_wide_lines.specs.code.ShortLine.{widened}
use Rattle.tl_wide_lines.proofs.judge.WideJudge.push_halves.Goals as goal

pub returns-else-branch : goal.returns-else-branch
returns-else-branch g c =
    let same : c.in_ok-number_halves.field-0 ≡ false = search rules in
    let h = rw same at c.in_ok-number_halves.ensures in
    inr (refl, refl, h)

pub returns-then-branch : goal.returns-then-branch
returns-then-branch g c =
    let same : c.in_ok-number_halves.field-0 ≡ true = search rules in
    let h = rw same at c.in_ok-number_halves.ensures in
    IfOk-weaker c.push.result _ _ (λ answer judged. inl (
      h.0,
      one-judged c.args.self.now.judge c.push.new.self c.args.link c.number_halves.new.beat
          (left_of {p = g.row.P} (widened c.args.beat.now c.args.high) h.0) answer h.1 judged,
      h.2,
    )) c.push.ensures
