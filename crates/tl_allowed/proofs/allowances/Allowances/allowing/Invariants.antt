use Rattle.std.proofs.Common.{◌≡◌, List, take}
use Rattle.std.specs.List.{filter}
use Rattle.tl_params.specs.declared.level.Level.{Level}
use Rattle.tl_params.specs.declared.liberties.Liberties.{Liberties}
use Rattle.tl_rules.specs.statement.Conformance.{Trace}
use Rattle.tl_allowed.specs.code.Known.{Knows, liberties_in}
use Rattle.tl_allowed.specs.statement.Allowed.{would_allow}
use Rattle.tl_allowed.proofs.allowances.Allowances.allowing.Given as goal

abbrev pub invariant-loop-wider : goal.invariant-loop-wider
invariant-loop-wider g l = (levels : List Level) (lib : Liberties) (t : Trace g.row.W) → Knows l.self levels lib t
    → l.allowing.items ≡ filter (would_allow lib levels (l.link, l.beat) t) (liberties_in (take l.wider-index l.self.wider.items))
