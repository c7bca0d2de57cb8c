use Rattle.std.proofs.Common.{◌≡◌, ◌++◌, ℕ}
use Rattle.tl_rules.specs.statement.Conformance.{Trace}
use Rattle.tl_witness.specs.code.Witness.{KnowsWitness}
use Rattle.tl_witness.specs.statement.Grounds.{holders_text}
use Rattle.tl_witness.proofs.witness.Witness.tell_holders.Given as goal

abbrev pub invariant-loop-link : goal.invariant-loop-link
invariant-loop-link g l = (w n block : ℕ) (t : Trace w) → KnowsWitness l.self n block t
    → l.out.items ≡ l.initial.out.items ++ holders_text (g.X.Places.names l.places) l.link l.given block t
