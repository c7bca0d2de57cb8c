use Rattle.std.proofs.Common.{◌≡◌, false, rules}
use Rattle.tl_commit_lines.specs.statement.MarkedHeader.{levels_of, links_in}
use Rattle.tl_commit_lines.proofs.Pushed.{begun}
use Rattle.tl_commit_lines.proofs.judge.EventJudge.new.Goals as goal

pub returns-then-not-together : goal.returns-then-not-together
returns-then-not-together g c =
    let alone : c.args.together ≡ false = search rules in
    let is : c.as_slice-then-not-together.result.now ≡ levels_of (links_in c.args.header.now) = search rules in
    rw alone (begun c.in-Ok.monitor _ (links_in c.args.header.now) c.args.header.now.may is c.in-Ok.ensures.1)
