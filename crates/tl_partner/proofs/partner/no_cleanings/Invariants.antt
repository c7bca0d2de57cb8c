use Rattle.std.proofs.Common.{◌≡◌, [], replicate}
use Rattle.tl_partner.proofs.partner.no_cleanings.Given as goal

abbrev pub invariant-loop : goal.invariant-loop
invariant-loop g l = l.cleanings.items ≡ replicate l.counter []
