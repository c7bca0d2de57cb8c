use Rattle.std.proofs.Common.{◌≡◌, List, length, true}
use Rattle.tl_params.specs.declared.level.Level.{Level}
use Rattle.tl_params.specs.declared.liberties.Liberties.{Liberties}
use Rattle.tl_rules.specs.statement.Conformance.{Trace}
use Rattle.tl_bytes.specs.statement.Free.{is_free}
use Rattle.tl_together.specs.code.Following.{Follows}
use Rattle.tl_together.specs.statement.Coherence.{is_grantable}
use Rattle.tl_together.proofs.free.is_grantable.Given as goal

abbrev pub invariant-loop-n : goal.invariant-loop-n
invariant-loop-n g l = (levels : List Level) (may : Liberties) (t : Trace _) → Follows l.monitor levels may t
    → l.links ≡ length levels → (l.known_free ≡ true → is_free l.links l.given l.block t ≡ true)
    → l.free ≡ is_grantable l.n l.link l.given l.block t
