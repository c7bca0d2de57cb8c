use Rattle.std.proofs.Common.{length, sym, ◌∙◌}
use Rattle.std.proofs.lemmas.Result.{on_ok_weaker}
use Rattle.tl_commits.proofs.PieceValues.{table-unsaid}
use Rattle.tl_commits.proofs.judge.CommitJudge.load_values.Goals as goal

pub returns-then-not-says_piece-clause-loaded : goal.returns-then-not-says_piece-clause-loaded
returns-then-not-says_piece-clause-loaded g c = λ levels complete l e k lt is.
    table-unsaid complete (length levels) c.args.link c.args.piece c.args.value e c.args.self.now.values
    (sym (c.says_piece.ensures levels complete l e k lt) ∙ c.if-not-says_piece.true) is k.values_are

pub returns-clause-loaded : goal.returns-clause-loaded
returns-clause-loaded g c = on_ok_weaker c.load_piece.result (λ h levels complete l e k lt is.
    h levels l complete e k.judge_is lt is (sym (c.says_piece.ensures levels complete l e k lt) ∙ c.if-not-says_piece.false)
    k.values_are) c.load_piece.ensures.loaded
