use Rattle.std.proofs.Common.{◌≡◌, drop, find}
use Rattle.tl_commits.specs.code.Reading.{is_of}
use Rattle.tl_commits.proofs.readings.find.Given as goal

abbrev pub invariant-loop-reading : goal.invariant-loop-reading
invariant-loop-reading l =
    find (is_of l.link.0 l.source) (drop l.reading-index l.readings) ≡ find (is_of l.link.0 l.source) l.readings
