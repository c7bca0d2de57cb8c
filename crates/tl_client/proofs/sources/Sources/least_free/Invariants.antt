use Rattle.std.proofs.Common.{◌≡◌, ◌-◌, is_some}
use Rattle.tl_client.specs.statement.Ask.{least_free}
use Rattle.tl_client.specs.code.Sources.{open_at}
use Rattle.tl_client.proofs.sources.Sources.least_free.Given as goal

abbrev pub invariant-loop-source : goal.invariant-loop-source
invariant-loop-source g l = least_free (λ s. is_some (open_at l.self s)) 0 l.sources ≡ least_free
    (λ s. is_some (open_at l.self s)) l.source (l.sources - l.source)
