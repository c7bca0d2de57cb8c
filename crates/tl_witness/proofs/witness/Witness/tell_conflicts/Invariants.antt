use Rattle.std.proofs.Common.{◌≡◌, ◌++◌, ℕ, List, length, false}
use Rattle.tl_params.specs.declared.level.Level.{Level}
use Rattle.tl_params.specs.declared.liberties.Liberties.{Liberties}
use Rattle.tl_rules.specs.statement.Conformance.{Trace}
use Rattle.tl_together.specs.statement.Knows.{Knows}
use Rattle.tl_witness.specs.code.Witness.{KnowsWitness}
use Rattle.tl_witness.specs.statement.Grounds.{conflicts_text}
use Rattle.tl_witness.proofs.witness.Witness.tell_conflicts.Given as goal

abbrev pub invariant-loop-link : goal.invariant-loop-link
invariant-loop-link g l = (levels : List Level) (may : Liberties) (block : ℕ) (t : Trace _)
    → Knows l.judge levels may t false
    → KnowsWitness l.self (length levels) block t
    → l.out.items ≡ l.initial.out.items ++ conflicts_text (g.X.Places.names l.places) l.link l.own l.given block t
