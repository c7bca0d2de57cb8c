use Rattle.std.proofs.Common.{arith, rules}
use Rattle.tl_commit_story.proofs.LinksFollowed.{links-fresh}
use Rattle.tl_commit_story.proofs.links_record.LinksRecord.new.Goals as goal

pub returns-in-Ok-new : goal.returns-in-Ok-new
returns-in-Ok-new g c =
    let judged = c.in-Ok.ensures in
    links-fresh (record {
      block = c.args.block;
      judge = c.in-Ok.judge;
      witness = c.in-Ok-new.witness;
      lines = c.new-in-Ok-new.result;
    }) c.args.may c.args.levels.now _ judged.1 (c.in-Ok-new.ensures g.row.W (search rules))
    (omega (arith, judged.0.0, judged.0.1)) c.new-in-Ok-new.ensures.last c.new-in-Ok-new.ensures.commits
