use Rattle.std.proofs.Common.{ap, ◌∙◌, ◌||◌}
use Rattle.tl_bytes.specs.code.Tellings.{is_written}
use Rattle.tl_commits.proofs.TellingLists.{anywhere-at, none-in, within-at}
use Rattle.tl_commits.proofs.tellings.written.Goals as goal
use Rattle.tl_commits.proofs.tellings.written.Goals.{in-Within, in-Anywhere}

pub returns : goal.returns
returns c = λ p lt.
    let write = c.args.write.now in
    let places = c.with_written-places.ensures p lt ∙ ap (λ b. b || is_written write p) (none-in p lt) in
    let mid = rw c.new-told.ensures.items at c.in_ok-append_written.ensures in
    elim c.match-standing.branch [
      | in-Within w ↦ rw w.in-Within.is (within-at write c.args.moment w.in-Within.began p
          c.with_written-places.result c.append_written.new.told.items c.keep.new.told.items c.args.before.now
          mid (rw w.since-is at c.in_ok-keep.ensures) lt places)
      | in-Anywhere w ↦ rw w.in-Anywhere.is (anywhere-at write c.args.moment p
          c.with_written-places.result c.append_written.new.told.items c.keep.new.told.items c.args.before.now
          mid (rw w.since-is at c.in_ok-keep.ensures) lt places)
    ]
