-- One memory, coherent copies, and nothing that gets stuck.
use Rattle.std.proofs.Common.{ℕ, arith}
use Rattle.tl_coherence.proofs
use Rattle.tl_coherence.specs.statement.Headline.{Headline, OneMemory}
use proofs.links.FromInvariant.{coherent, unrefused}
use proofs.theorem.Continuing.{continues, run}
use proofs.outstanding.Progress.{counted, moving}

pub one_memory : {w : ℕ} → OneMemory w
one_memory = λ config log given. (
  run config log given.width given.typed given.is_log,
  λ x typed logged. continues config log x given.width given.typed logged,
)

pub headline : {w : ℕ} → Headline w
headline = λ config log given.
    let are = counted config log given.width given.typed given.is_log in
    record {
      run = run config log given.width given.typed given.is_log;
      continues = λ x typed logged. continues config log x given.width given.typed logged;
      coherent = coherent _ log given;
      unrefused = unrefused given;
      moving = moving _ log given;
      balanced = record {
        requests = let same = are.requests_are in omega (arith, same);
        releases = let same = are.releases_are in omega (arith, same);
      };
    }
