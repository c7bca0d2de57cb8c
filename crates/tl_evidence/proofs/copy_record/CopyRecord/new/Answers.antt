use Rattle.std.proofs.Common.{◌≡◌, ◌<◌, ◌∙◌, [], length, refl, rules, sym, true}
use Rattle.std.proofs.lemmas.Bool.{ltb-true}
use Rattle.tl_commits.specs.statement.Completeness.{Completeness}
use Rattle.tl_commits.specs.statement.Knows.{KnowsCommits}
use Rattle.tl_evidence.proofs.copy_record.CopyRecord.new.Goals as goal

pub returns-in-Ok : goal.returns-in-Ok
returns-in-Ok g c =
    let complete : Completeness = record { stores = c.args.complete.now; zero = c.args.zero } in
    let known : KnowsCommits {w = g.row.W} c.in-Some.judge c.args.levels.now complete c.args.may [] =
    search rules in
    let has : c.has_link.result ≡ true = search rules in
    let there : c.args.link.0 < length c.args.levels.now =
    ltb-true c.args.link.0 (length c.args.levels.now)
    (sym (c.has_link.ensures c.args.levels.now complete c.args.may [] known) ∙ has) in
    let sets = c.in-Ok.ensures c.args.may c.args.levels.now complete known there in
    (record { judge_is = known; there = there; copy_is = sets.0; memory_is = sets.1 }, refl, refl)
