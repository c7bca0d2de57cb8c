use Rattle.std.proofs.Common.{rules}
use Rattle.tl_pictures.proofs.Commits.{piece-valid, value-valid}
use Rattle.tl_pictures.proofs.commit.CommitPicture.wide_commit.Goals as goal

pub returns-in-0-clause-valid : goal.returns-in-0-clause-valid
returns-in-0-clause-valid c = (
  piece-valid c.args.self.now.size c.args.self.now.address (search rules) c.is_piece.ensures.range,
  value-valid c.args.self.now.value c.args.self.now.size (search rules),
)

pub returns-in-1-clause-valid : goal.returns-in-1-clause-valid
returns-in-1-clause-valid c = (
  piece-valid c.args.self.now.size c.args.self.now.address (search rules) c.is_piece.ensures.range,
  value-valid c.args.self.now.value c.args.self.now.size (search rules),
)

pub returns-in-2-clause-valid : goal.returns-in-2-clause-valid
returns-in-2-clause-valid c = piece-valid c.args.self.now.size c.args.self.now.address (search rules) c.is_piece.ensures.range
