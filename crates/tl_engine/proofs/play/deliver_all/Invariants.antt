use Rattle.tl_params.specs.declared.config.Config.{Config}
use Rattle.tl_coherence.specs.statement.Log.{Log}
use Rattle.tl_engine.specs.code.Playing.{HasPlayed}
use Rattle.tl_engine.proofs.Played.{Delivered}
use Rattle.tl_engine.proofs.play.deliver_all.Given as goal

abbrev pub invariant-loop-count : goal.invariant-loop-count
invariant-loop-count g l = (config : Config) (log : Log g.row.W) → HasPlayed l.form config l.initial.player log
    → Delivered l.form config log l.player l.initial.out.items l.out.items l.count
