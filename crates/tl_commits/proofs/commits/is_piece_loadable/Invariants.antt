use Rattle.std.proofs.Common.{◌≡◌, ◌<◌, ◌+◌, List, false, length}
use Rattle.tl_params.specs.declared.level.Level.{Level}
use Rattle.tl_params.specs.declared.liberties.Liberties.{Liberties}
use Rattle.tl_rules.specs.statement.Legality.{each_below}
use Rattle.tl_together.specs.statement.Knows.{Knows}
use Rattle.tl_commits.specs.statement.Commits.{is_loadable}
use Rattle.tl_commits.specs.statement.Events.{Events, beats_of}
use Rattle.tl_commits.proofs.commits.is_piece_loadable.Given as goal

abbrev pub invariant-loop-i : goal.invariant-loop-i
invariant-loop-i g l = (levels : List Level) (lib : Liberties) (e : Events _)
    → Knows l.judge levels lib (beats_of e) false
    → l.link.0 < length levels
    → l.all ≡ each_below l.i (λ i. is_loadable l.link.0 (l.piece.address + i) e)
