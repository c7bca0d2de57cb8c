-- All that holds of a manager and its clients.
use Rattle.std.proofs.Common.{ℕ}
use Rattle.tl_coherence.proofs
use Rattle.tl_coherence.specs.statement.Theorem.{Theorem}
use proofs.theorem.{LoneAcquireEnds.alone, LoneAcquireEnds.alone_whole, Soundness.headline}
use proofs.flow.{Flows.flows, FlowTraces.faultless}
use proofs.bound.Settling.{bound, drain}
use proofs.links.FromInvariant.{at_most_recorded, carries, channels, grants, stalls}

pub whole : (w : ℕ) → Theorem w
whole w = record {
  headline = λ config log given. headline config log given;
  carries = λ config log given link ch. carries given link ch;
  flows = λ config log given link l level. flows given link l level;
  faultless = λ config log given. faultless config log given;
  channels = λ config log given link ch. channels _ log given link ch;
  recorded = λ config log given link block. at_most_recorded given link block;
  stalls = λ config log given link ch client. stalls given link ch client;
  bound = λ config more log given deliveries. bound more log given deliveries;
  drain = λ config log given. drain _ log given;
  grants = λ config log link ch x source p op given asked. grants _ log link ch x source p op given asked;
  alone = λ config log client block source n grow none given drains. alone config log client block source n grow none
      given drains;
  alone_whole = λ config log client block source n bytes none given drains. alone_whole config log client block source n
      bytes none given drains;
}
