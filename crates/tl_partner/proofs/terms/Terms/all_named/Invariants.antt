use Rattle.std.proofs.Common.{◌≡◌, ◌≤◌, length, take}
use Rattle.tl_partner.specs.statement.Naming.{all_named}
use Rattle.tl_partner.proofs.terms.Terms.all_named.Given as goal

abbrev pub invariant-loop-i : goal.invariant-loop-i
invariant-loop-i g l = record {
  few : length l.named.items ≤ l.i;
  same : l.named.items ≡ all_named l.self (take l.i l.handed.items);
}
