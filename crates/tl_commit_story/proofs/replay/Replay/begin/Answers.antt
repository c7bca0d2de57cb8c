use Rattle.std.proofs.Common.{rules}
use Rattle.tl_commit_lines.specs.statement.MarkedHeader.{links_in}
use Rattle.tl_commit_story.proofs.replay.Replay.begin.Goals as goal

pub returns-in-Some-follower : goal.returns-in-Some-follower
returns-in-Some-follower g c = record {
  width = c.in-Some.header.width;
  may = c.in-Some.header.may;
  links = links_in c.in-Some.header;
  of_width = search rules;
  named = c.in-Some.ensures;
  known = search rules;
}
