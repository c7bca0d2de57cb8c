-- A run goes on from one that is a run.
use Rattle.std.proofs.Common.{ℕ, Bool, true, false, List, [], ◌∷◌, Some, None}
use Rattle.std.specs.Prelude.{if◌then◌else◌, Option}
use Rattle.tl_rules.specs.statement.Effect.{Memory}
use Rattle.tl_coherence.specs.statement.Machine.{Machine, Open, Requests}
use Rattle.tl_one_memory.specs.statement.Run.{Performs, Run, everywhere}
unfoldable use Rattle.tl_one_memory.specs.statement.Run.{IsRun}
use Rattle.tl_true_bytes.specs.code.Beside.{after_access, is_accessing, left_after, performed_all}

-- before accesses were performed it was one
pub run-before : {w : ℕ} (n : ℕ) (first : Memory) (l : List (ℕ × ℕ)) (m : Machine w) (run : Run w)
    → IsRun n first (performed_all l m run) → IsRun n first run
unfolding IsRun
run-before n first [] m run is = is
run-before {w} n first (x ∷ l) m run is = go (m.opened x.0 Requests x.1) (run-before n first l m _ is)
  where
    go : (o : Option (Open w)) → IsRun n first (after_access x.0 x.1 o m.memory run) → IsRun n first run
    go None is' = is'
    go (Some o) is' = by (is_accessing o.asked) is'
      where
        by : (b : Bool) → IsRun n first (if b then Performs x.0 x.1 everywhere (left_after o.asked m.memory) ∷ run
            else run) → IsRun n first run
        by true i = i.1
        by false i = i
