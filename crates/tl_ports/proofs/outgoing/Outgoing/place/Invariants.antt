use Rattle.std.proofs.Common.{◌≡◌, [], take}
use Rattle.std.specs.Prelude.{filter}
use Rattle.tl_ports.specs.statement.Waiting.{is_on_link}
use Rattle.tl_ports.proofs.outgoing.Outgoing.place.Given as goal

abbrev pub invariant-loop-i : goal.invariant-loop-i
invariant-loop-i g l = filter (λ x. is_on_link l.link.0 l.channel x) (take l.i l.self.beats.items) ≡ []
