use Rattle.std.proofs.Common.{◌≡◌, List, ◌∷◌, length}
use Rattle.tl_params.specs.declared.level.Level.{Level}
use Rattle.tl_params.specs.declared.liberties.Liberties.{Liberties}
use Rattle.tl_rules.specs.statement.Conformance.{Trace}
use Rattle.tl_allowed.specs.code.Known.{Knows, KnowsBoth}
use Rattle.tl_allowed.proofs.allowances.Allowances.take.Given as goal

abbrev pub invariant-loop-n : goal.invariant-loop-n
invariant-loop-n g l = record {
  size : l.n-end ≡ length l.self.wider.items;
  liberties : l.self.liberties ≡ l.fn.self.liberties;
  known : (levels : List Level) (lib : Liberties) (t : Trace g.row.W) → Knows l.fn.self levels lib t
      → KnowsBoth l.self.wider.items l.n levels lib ((l.link, l.beat) ∷ t) t;
}
