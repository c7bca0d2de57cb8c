use Rattle.std.proofs.Common.{◌≡◌, List, length}
use Rattle.tl_params.specs.declared.level.Level.{Level}
use Rattle.tl_params.specs.declared.perm.Perm.TheVariants as perm
use Rattle.tl_params.specs.declared.liberties.Liberties.{Liberties}
use Rattle.tl_rules.specs.statement.Conformance.{Trace}
use Rattle.tl_bytes.specs.statement.Free.{is_free}
use Rattle.tl_together.specs.code.Following.{Follows}
use Rattle.tl_together.proofs.free.freedom_of.Given as goal

abbrev pub invariant-loop-n : goal.invariant-loop-n
invariant-loop-n g l = (levels : List Level) (may : Liberties) (t : Trace _) → Follows l.monitor levels may t
    → l.links ≡ length levels
    → (l.free.reading ≡ is_free l.n perm.Branch l.block t)
    × (l.free.writing ≡ is_free l.n perm.Trunk l.block t)
    × (l.free.shown ≡ l.shown)
