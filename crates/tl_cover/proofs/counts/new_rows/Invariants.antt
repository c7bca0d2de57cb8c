use Rattle.std.proofs.Common.{◌≡◌, take}
use Rattle.std.specs.Prelude.{map}
use Rattle.tl_cover.specs.code.Covering.{unseen}
use Rattle.tl_cover.proofs.counts.new_rows.Given as goal

abbrev pub invariant-loop-situation : goal.invariant-loop-situation
invariant-loop-situation l = l.rows.items ≡ map unseen (take l.situation-index l.all)
