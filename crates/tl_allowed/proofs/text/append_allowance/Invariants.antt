use Rattle.std.proofs.Common.{◌≡◌, ◌++◌, take}
use Rattle.tl_allowed.specs.code.Words.{link_before, said_from}
use Rattle.tl_allowed.proofs.text.append_allowance.Given as goal

abbrev pub invariant-loop-liberty : goal.invariant-loop-liberty
invariant-loop-liberty l = record {
  said : l.out.items ≡ l.fn.out.items ++ said_from 0 (take l.liberty-index l.liberties);
  next : l.before ≡ link_before l.liberty-index;
}
