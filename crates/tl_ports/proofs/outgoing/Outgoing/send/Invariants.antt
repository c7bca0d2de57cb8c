use Rattle.std.proofs.Common.{◌≡◌, ◌≤◌, ◌+◌, ◌++◌, map}
use Rattle.std.specs.Vec.{vec_len, vec_capacity}
use Rattle.tl_rules.specs.statement.Legality.{beats_from}
use Rattle.tl_ports.proofs.outgoing.Outgoing.send.Given as goal

abbrev pub invariant-loop-i : goal.invariant-loop-i
invariant-loop-i g l = record {
  items : l.self.beats.items ≡ l.fn.self.beats.items ++ map (λ b. (l.fn.link, b)) (beats_from l.message 0 l.i);
  len : vec_len l.self.beats ≡ vec_len l.fn.self.beats + l.i;
  capacity : vec_capacity l.fn.self.beats ≤ vec_capacity l.self.beats;
}
